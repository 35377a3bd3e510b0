use Rattle.exact_lp.proofs.Laws.{tables_have_coordinates}
use Rattle.exact_lp.proofs.law.tables_have_coordinates.Goals as goal

pub returns : goal.returns
returns c = tables_have_coordinates
