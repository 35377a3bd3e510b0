use Rattle.std.proofs.Common.{◌≡◌, take}
use Rattle.text_lines.specs.Square.{lower_of}
use Rattle.matrix_text.specs.Rows.{table_entries}
use Rattle.matrix_text.proofs.symmetry.lower_triangle.Given as goal

abbrev pub invariant-loop-row : goal.invariant-loop-row
invariant-loop-row l = l.lower.items ≡ lower_of (take l.row (table_entries l.table))
