use Rattle.symmetric_matrix.specs.Symmetric.{entry}
use Rattle.unimodular_cone.proofs.ShownAt.{root_fits}
use Rattle.serial_search.proofs.plain.least_of_all.Goals as goal

pub settle_least-requires-clause-fits : goal.settle_least-requires-clause-fits
settle_least-requires-clause-fits c =
    root_fits c.args.q.now.size (entry c.args.q.now) c.in-Ok.ensures.made.root c.in-Ok.ensures.made.is_root c.in-Ok.ensures.made.fits
