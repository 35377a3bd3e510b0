use Rattle.std.proofs.Common.{◌≡◌, ◌++◌}
use Rattle.symmetric_matrix.proofs.FirstMatrix.{row_front}
use Rattle.symmetric_matrix.proofs.start.push_first_row.Given as goal

abbrev pub invariant-loop-column : goal.invariant-loop-column
invariant-loop-column l = l.lower.items ≡ l.initial.lower.items ++ row_front l.n l.row l.column
