use Rattle.std.specs.List.{flat_map, range_with_len}
use Rattle.text_lines.proofs.Written.{IsWriting}
use Rattle.cone_tree_certificate.proofs.WrittenLines.{row_line}
use Rattle.cone_tree_certificate.proofs.writing.push_rows.Given as goal

abbrev pub invariant-loop-row : goal.invariant-loop-row
invariant-loop-row l = IsWriting l.fn.into.items l.into.items (flat_map (row_line l.w) (range_with_len 0 l.row))
