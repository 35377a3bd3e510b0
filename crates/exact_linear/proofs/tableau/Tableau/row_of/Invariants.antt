use Rattle.std.proofs.Common.{◌-◌}
use Rattle.exact_linear.specs.Tables.{rows_of, row_of, holds}
use Rattle.exact_linear.proofs.Seeking.{IsSeeking}
use Rattle.exact_linear.proofs.tableau.Tableau.row_of.Given as goal

abbrev pub invariant-loop-row : goal.invariant-loop-row
invariant-loop-row l = IsSeeking (row_of l.self (l.column - 1)) (holds l.self (l.column - 1)) l.row (rows_of l.self)
