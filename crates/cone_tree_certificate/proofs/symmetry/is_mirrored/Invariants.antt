use Rattle.std.proofs.Common.{pos, ◌≡◌, ◌-◌}
use Rattle.std.specs.List.{list_all, range_with_len}
use Rattle.text_lines.specs.Square.{mirrors}
use Rattle.std.specs.Ordering.{int_eq}
use Rattle.cone_tree_certificate.specs.Rows.{w_entries}
use Rattle.cone_tree_certificate.proofs.Symmetries.{is_like}
use Rattle.cone_tree_certificate.proofs.symmetry.is_mirrored.Given as goal

abbrev pub invariant-loop-column : goal.invariant-loop-column
invariant-loop-column l = list_all (is_like l.table l.row) (range_with_len l.column (l.row - l.column)) ≡ mirrors int_eq (pos 0) (w_entries l.table) l.row
