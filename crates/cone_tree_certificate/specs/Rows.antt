-- The rows of W that were read, as the definitions see them.
--
--     seen_row size row        a row's line, and of its entries the first size
--     seen_rows size rows      the rows
--     table_rows_of table      the rows of a table, of which the first size count
--     w_entries table          their entries alone
--     line_of_seen rows i       the line of row i, from 0
--     AreNarrow table          the magnitude of each entry is at most 2^127 - 1
use Rattle.std.specs.Prelude.{ℕ, List, [], take, map, ℤ, slice_index_or}
use Rattle.std.specs.List.{AllByRecursion}
use Rattle.symmetric_matrix.specs.Symmetric.{FitsInt}
use Rattle.cone_tree_certificate.specs.declared.table.SignedRow.{SignedRow}
use Rattle.cone_tree_certificate.specs.declared.table.SignedTable.{SignedTable}
use Rattle.cone_tree_certificate.specs.ProofText.{NumberedRow}

abbrev pub seen_row : ℕ → SignedRow → NumberedRow
seen_row size row = record { line = row.line; entries = take size row.entries }

abbrev pub seen_rows : ℕ → List SignedRow → List NumberedRow
seen_rows size rows = map (seen_row size) rows

abbrev pub table_rows_of : SignedTable → List NumberedRow
table_rows_of table = seen_rows table.size (take table.size table.rows)

unfoldable pub w_entries : SignedTable → List (List ℤ)
w_entries table = map (λ row. take table.size row.entries) (take table.size table.rows)

abbrev pub line_of_seen : List NumberedRow → ℕ → ℕ
line_of_seen rows i = (slice_index_or rows i (record { line = 0; entries = [] })).line

abbrev pub AreNarrow : SignedTable → Type 0
AreNarrow table = AllByRecursion (AllByRecursion FitsInt) (w_entries table)
