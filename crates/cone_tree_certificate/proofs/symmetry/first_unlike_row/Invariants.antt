use Rattle.std.proofs.Common.{pos, ◌≡◌, ◌-◌, find}
use Rattle.std.specs.List.{range_with_len}
use Rattle.text_lines.specs.Square.{first_unlike}
use Rattle.std.specs.Ordering.{int_eq}
use Rattle.cone_tree_certificate.specs.Rows.{w_entries}
use Rattle.cone_tree_certificate.proofs.Symmetries.{is_unlike}
use Rattle.cone_tree_certificate.proofs.symmetry.first_unlike_row.Given as goal

abbrev pub invariant-loop-row : goal.invariant-loop-row
invariant-loop-row l = find (is_unlike l.table) (range_with_len l.row (l.table.size - l.row)) ≡ first_unlike int_eq (pos 0) (w_entries l.table)
