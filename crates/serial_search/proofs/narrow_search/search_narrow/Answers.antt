use Rattle.symmetric_matrix.specs.Symmetric.{entry}
use Rattle.unimodular_cone.proofs.ShownAt.{root_fits}
use Rattle.serial_search.proofs.Holds.{anyway}
use Rattle.serial_search.proofs.narrow_search.search_narrow.Goals as goal

pub returns-in-Some-clause-fits : goal.returns-in-Some-clause-fits
returns-in-Some-clause-fits c =
    anyway _ c.search_from.result (root_fits c.args.q.now.size (entry c.args.q.now) c.in-Some.root c.in-Some.ensures.made c.in-Some.ensures.fits)
