use Rattle.std.proofs.Common.{◌+◌}
use Rattle.exact_linear.proofs.Seeking.{IsGathered}
use Rattle.exact_linear.specs.Tables.{rows_of, is_basic}
use Rattle.exact_lp.specs.Rule.{first_columns}
use Rattle.exact_lp.proofs.rule.first_columns.Given as goal

abbrev pub invariant-loop-column : goal.invariant-loop-column
invariant-loop-column l = IsGathered (first_columns l.tableau l.vectors) l.columns.items (is_basic l.tableau) l.column (rows_of l.tableau + l.vectors)
