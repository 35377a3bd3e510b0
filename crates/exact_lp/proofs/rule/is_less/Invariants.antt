use Rattle.exact_lp.proofs.Choices.{IsComparing}
use Rattle.exact_lp.proofs.rule.is_less.Given as goal

abbrev pub invariant-loop-column : goal.invariant-loop-column
invariant-loop-column l = IsComparing l.tableau l.fn.entering l.best l.row l.columns l.column-index
