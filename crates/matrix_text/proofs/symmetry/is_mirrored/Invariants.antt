use Rattle.std.proofs.Common.{◌≡◌, ◌-◌}
use Rattle.std.specs.List.{list_all, range_with_len}
use Rattle.text_lines.specs.Square.{mirrors}
use Rattle.matrix_text.specs.Matrix.{none, same_number}
use Rattle.matrix_text.specs.Rows.{table_entries}
use Rattle.matrix_text.proofs.Symmetries.{is_like}
use Rattle.matrix_text.proofs.symmetry.is_mirrored.Given as goal

abbrev pub invariant-loop-column : goal.invariant-loop-column
invariant-loop-column l = list_all (is_like l.table l.row) (range_with_len l.column (l.row - l.column)) ≡ mirrors same_number none (table_entries l.table) l.row
