use Rattle.exact_lp.proofs.Choices.{IsLeastSoFar}
use Rattle.exact_lp.proofs.rule.least_row.Given as goal

abbrev pub invariant-loop-row : goal.invariant-loop-row
invariant-loop-row l = IsLeastSoFar l.tableau l.vectors l.best l.row
