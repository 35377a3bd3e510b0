-- A symmetric matrix of rational numbers, as contracts see it. Rows and columns count from 0.
--
--     RationalMatrix          the number of rows, and the lower triangle, row by row
--     rational_entry a i j    the entry at row i, column j, in either triangle
--     IsRationalMatrix a      1 to 8 rows, and a lower triangle of so many rows
use Rattle.std.specs.Prelude.{◌≡◌, ℕ, ◌≤◌, pos, List, length}
use Rattle.exact_forms.specs.Rational.{Rational, whole}
use Rattle.exact_forms.specs.Triangles.{triangle, entry_in}

pub record RationalMatrix : Type 0 where
  pub size : ℕ
  pub lower : List Rational

unfoldable pub rational_entry : RationalMatrix → ℕ → ℕ → Rational
rational_entry a i j = entry_in (whole (pos 0)) a.lower i j

pub record IsRationalMatrix (a : RationalMatrix) : Type 0 where
  pub positive : 1 ≤ a.size
  pub small : a.size ≤ 8
  pub triangle : length a.lower ≡ triangle a.size
