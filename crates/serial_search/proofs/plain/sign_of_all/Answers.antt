use Rattle.symmetric_matrix.specs.Symmetric.{entry}
use Rattle.unimodular_cone.proofs.ShownAt.{root_fits}
use Rattle.serial_search.proofs.plain.sign_of_all.Goals as goal

pub settle_sign-requires-clause-fits : goal.settle_sign-requires-clause-fits
settle_sign-requires-clause-fits c =
    root_fits c.args.q.now.size (entry c.args.q.now) c.in-Ok.ensures.made.root c.in-Ok.ensures.made.is_root c.in-Ok.ensures.made.fits
