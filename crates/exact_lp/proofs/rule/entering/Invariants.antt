use Rattle.std.proofs.Common.{◌+◌}
use Rattle.exact_linear.proofs.Seeking.{IsSeeking}
use Rattle.exact_linear.specs.Tables.{rows_of}
use Rattle.exact_lp.specs.Rule.{entering, goes_down}
use Rattle.exact_lp.proofs.rule.entering.Given as goal

abbrev pub invariant-loop-column : goal.invariant-loop-column
invariant-loop-column l = IsSeeking (entering l.tableau l.fn.vectors) (goes_down l.tableau l.fn.vectors) l.column (rows_of l.tableau + l.fn.vectors)
