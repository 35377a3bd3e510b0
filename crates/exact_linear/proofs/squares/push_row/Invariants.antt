use Rattle.std.proofs.Common.{◌≡◌, ◌++◌}
use Rattle.exact_linear.proofs.SquareLists.{row_until}
use Rattle.exact_linear.proofs.squares.push_row.Given as goal

abbrev pub invariant-loop-column : goal.invariant-loop-column
invariant-loop-column l = l.lower.items ≡ l.fn.lower.items ++ row_until l.x l.row l.column
