use Rattle.std.proofs.Common.{◌≡◌, ◌++◌, [], take, slice_index_or}
use Rattle.matrix_text.specs.Rows.{table_entries}
use Rattle.matrix_text.proofs.symmetry.push_front.Given as goal

abbrev pub invariant-loop-column : goal.invariant-loop-column
invariant-loop-column l = l.lower.items ≡ l.fn.lower.items ++ take l.column (slice_index_or (table_entries l.table) l.row [])
