use Rattle.exact_lp.proofs.Choices.{IsBestSoFar}
use Rattle.exact_lp.proofs.rule.leaving_row.Given as goal

abbrev pub invariant-loop-row : goal.invariant-loop-row
invariant-loop-row l = IsBestSoFar l.tableau l.vectors l.entering l.columns l.best l.row
