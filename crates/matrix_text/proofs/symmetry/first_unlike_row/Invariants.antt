use Rattle.std.proofs.Common.{◌≡◌, ◌-◌, find}
use Rattle.std.specs.List.{range_with_len}
use Rattle.text_lines.specs.Square.{first_unlike}
use Rattle.matrix_text.specs.Matrix.{none, same_number}
use Rattle.matrix_text.specs.Rows.{table_entries}
use Rattle.matrix_text.proofs.Symmetries.{is_unlike}
use Rattle.matrix_text.proofs.symmetry.first_unlike_row.Given as goal

abbrev pub invariant-loop-row : goal.invariant-loop-row
invariant-loop-row l = find (is_unlike l.table) (range_with_len l.row (l.table.size - l.row)) ≡ first_unlike same_number none (table_entries l.table)
