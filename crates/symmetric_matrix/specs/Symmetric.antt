-- A symmetric matrix of whole numbers, as contracts see it.
--
--     FitsInt z               the magnitude of z is at most 2^127 - 1
--     IsLower n lower         the entries of a lower triangle of n rows, row by row, each of which fits
--     Symmetric               a matrix: the number of rows, and the lower triangle
--     entry q i j             the entry at row i, column j, counted from 0
--     IsSymmetricMatrix q     1 to 8 rows, and a lower triangle of so many rows
use Rattle.std.specs.Prelude.{◌≡◌, ℕ, ◌<◌, ◌≤◌, ◌^◌, ◌-◌, ℤ, pos, nat_abs, List, length, slice_index_or}
use Rattle.exact_forms.specs.Triangles.{triangle, entry_in}

abbrev pub FitsInt : ℤ → Type 0
FitsInt z = nat_abs z ≤ 2 ^ 127 - 1

pub record IsLower (n : ℕ) (lower : List ℤ) : Type 0 where
  pub entries : length lower ≡ triangle n
  pub fits : (k : ℕ) → k < length lower → FitsInt (slice_index_or lower k (pos 0))

pub record Symmetric : Type 0 where
  pub size : ℕ
  pub lower : List ℤ

unfoldable pub entry : Symmetric → ℕ → ℕ → ℤ
entry q i j = entry_in (pos 0) q.lower i j

pub record IsSymmetricMatrix (q : Symmetric) : Type 0 where
  pub positive : 1 ≤ q.size
  pub small : q.size ≤ 8
  pub triangle : IsLower q.size q.lower
