-- The columns of a tableau over the units, and what its entries are.
--
--     place_in a b             where the entry at (a,b) and (b,a) stands in a lower triangle
--     no_matrix                the matrix of no rows
--     width_of n given         how many columns there are: the units, the given matrices and one
--     start_cell units given k j   the coordinate of column j at the unit k: columns are the units, then the given
--                              matrices, then one that is zero
--     columns_of n given       these columns as matrices of n rows
--     start_table n given      the table over the units
--     with_ones rows width xs  the entries xs of so many rows, with 1 in each row of the last column
--     with_sum t               the table t with 1 in each row of its last column
--     with_sum_of A t          the columns A with the sum of t's basic columns as the last
--     HasCoordinates A t       the basic columns of t are a basis of the columns A, and the entry at row i, column j
--                              is the coordinate of column j at the basic column of row i
--     IsLastFree t             the last column is basic in no row
--
-- A unit is the symmetric matrix with 1 at (a,b) and (b,a), in the order of a lower triangle. Rows, columns and places count
-- from 0.
use Rattle.std.specs.Prelude.{ℕ, ◌+◌, ◌*◌, ◌-◌, ◌<◌, ◌≡◌, ◌≢◌, pos, Bool, List, [], length, if◌then◌else◌, nat_lt, nat_eq, slice_index_or}
use Rattle.std.specs.List.{range_with_len}
use Rattle.exact_forms.specs.Rational.{Rational, whole}
use Rattle.exact_forms.specs.Sums.{sum_ℚ}
use Rattle.exact_forms.specs.Triangles.{triangle}
use Rattle.exact_forms.specs.Coordinates.{Columns, IsBasis, IsShown}
use Rattle.symmetric_matrix.specs.Symmetric.{Symmetric}
use Rattle.exact_linear.specs.Tables.{Table, rows_of, entry_of, table_entry, basic_at, cells}

unfoldable pub place_in : ℕ → ℕ → ℕ
place_in a b = if nat_lt a b then triangle b + a else triangle a + b

abbrev pub no_matrix : Symmetric
no_matrix = record { size = 0; lower = [] }

unfoldable pub start_cell : ℕ → List Symmetric → ℕ → ℕ → Rational
start_cell units given k j =
    if nat_lt j units then (if nat_eq k j then whole (pos 1) else whole (pos 0)) else whole
    (slice_index_or (slice_index_or given (j - units) no_matrix).lower k (pos 0))

abbrev pub width_of : ℕ → List Symmetric → ℕ
width_of n given = triangle n + length given + 1

abbrev pub columns_of : ℕ → List Symmetric → Columns
columns_of n given =
    record { size = n; count = width_of n given; entry = λ j a b. start_cell (triangle n) given (place_in a b) j }

abbrev pub start_table : ℕ → List Symmetric → Table
start_table n given = record {
  width = width_of n given;
  entries = cells (triangle n) (width_of n given) (start_cell (triangle n) given);
  basic = range_with_len 0 (triangle n);
}

abbrev pub with_ones : ℕ → ℕ → List Rational → List Rational
with_ones rows width xs =
    cells rows width (λ i j. if nat_eq (j + 1) width then whole (pos 1) else entry_of xs (i * width + j))

abbrev pub with_sum : Table → Table
with_sum t = record { width = t.width; entries = with_ones (rows_of t) t.width t.entries; basic = t.basic }

abbrev pub with_sum_of : Columns → Table → Columns
with_sum_of A t = record {
  size = A.size;
  count = A.count;
  entry = λ j a b. if nat_eq (j + 1) A.count then sum_ℚ (rows_of t) (λ i. A.entry (basic_at t i) a b) else A.entry j a
      b;
}

pub record HasCoordinates (A : Columns) (t : Table) : Type 0 where
  pub basis : ℕ → Bool
  pub coord : ℕ → ℕ → Rational
  pub width : A.count ≡ t.width
  pub is_basis : IsBasis A basis coord
  pub shown : IsShown A basis coord (rows_of t) (table_entry t) (basic_at t)

pub record IsLastFree (t : Table) : Type 0 where
  pub free : (i : ℕ) → i < rows_of t → basic_at t i + 1 ≢ t.width
