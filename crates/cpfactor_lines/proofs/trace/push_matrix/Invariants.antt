use Rattle.std.proofs.Common.{◌≡◌, ◌++◌}
use Rattle.std.specs.List.{flat_map, range_with_len}
use Rattle.cpfactor_lines.proofs.Comments.{row_comment}
use Rattle.cpfactor_lines.proofs.trace.push_matrix.Given as goal

abbrev pub invariant-loop-row : goal.invariant-loop-row
invariant-loop-row l = l.into.items ≡ l.fn.into.items ++ flat_map (row_comment l.matrix) (range_with_len 0 l.row)
