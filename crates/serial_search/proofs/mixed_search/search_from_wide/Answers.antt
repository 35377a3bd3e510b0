use Rattle.symmetric_matrix.specs.Symmetric.{entry}
use Rattle.unimodular_cone.proofs.ShownAt.{root_fits}
use Rattle.serial_search.proofs.Holds.{anyway}
use Rattle.serial_search.proofs.mixed_search.search_from_wide.Goals as goal

pub returns-clause-fits : goal.returns-clause-fits
returns-clause-fits c = anyway _ c.search_mixed.result
    (root_fits c.args.q.now.size (entry c.args.q.now) c.in-Ok.ensures.made.root c.in-Ok.ensures.made.is_root c.in-Ok.ensures.made.fits)
