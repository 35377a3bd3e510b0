use Rattle.std.proofs.Common.{◌≡◌, ◌++◌, [], take, slice_index_or}
use Rattle.cone_tree_certificate.specs.Rows.{w_entries}
use Rattle.cone_tree_certificate.proofs.symmetry.push_front.Given as goal

abbrev pub invariant-loop-column : goal.invariant-loop-column
invariant-loop-column l = l.lower.items ≡ l.fn.lower.items ++ take l.column (slice_index_or (w_entries l.table) l.row [])
