use Rattle.exact_lp.proofs.Weighing.{IsFirstAboveFrom}
use Rattle.exact_lp.proofs.ends.first_above.Given as goal

abbrev pub invariant-loop-column : goal.invariant-loop-column
invariant-loop-column l = IsFirstAboveFrom l.tableau l.row l.columns l.column-index
