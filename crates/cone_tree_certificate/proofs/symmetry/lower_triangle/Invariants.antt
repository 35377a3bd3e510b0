use Rattle.std.proofs.Common.{◌≡◌, take}
use Rattle.text_lines.specs.Square.{lower_of}
use Rattle.cone_tree_certificate.specs.Rows.{w_entries}
use Rattle.cone_tree_certificate.proofs.symmetry.lower_triangle.Given as goal

abbrev pub invariant-loop-row : goal.invariant-loop-row
invariant-loop-row l = l.lower.items ≡ lower_of (take l.row (w_entries l.table))
