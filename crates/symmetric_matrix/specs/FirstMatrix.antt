-- The matrix that a walk over perfect matrices begins with, and its copositive minimum.
--
--     first_minimum n        1 for one row, else 2
--     first_entry n c        at a place of the lower triangle: first_minimum n on the diagonal, -1 beside it, and else 0
--     first_matrix n         the matrix of n rows with these entries
--     FirstMinimum           for n of at least 1 it has the copositive minimum first_minimum n, and exactly the start vectors are
--                            its minimal vectors
--     StartVectorsArePerfect only the zero matrix has the value zero at each of the start vectors
use Rattle.std.specs.Prelude.{ℕ, ◌+◌, ◌≤◌, nat_eq, if◌then◌else◌, ℤ, pos, negsuc, map}
use Rattle.exact_forms.specs.Copositive.{IsMinimum, IsPerfect}
use Rattle.symmetric_matrix.specs.Symmetric.{Symmetric, entry}
use Rattle.symmetric_matrix.specs.Recipes.{Place, triangle_places}
use Rattle.symmetric_matrix.specs.StartVectors.{start_list}

abbrev pub first_minimum : ℕ → ℤ
first_minimum n = if nat_eq n 1 then pos 1 else pos 2

abbrev pub first_entry : ℕ → Place → ℤ
first_entry n c =
    if nat_eq c.row c.column then first_minimum n else (if nat_eq c.row (c.column + 1) then negsuc 0 else pos 0)

unfoldable pub first_matrix : ℕ → Symmetric
first_matrix n = record { size = n; lower = map (first_entry n) (triangle_places n) }

abbrev pub FirstMinimum : Type 0
FirstMinimum = (n : ℕ) → 1 ≤ n → IsMinimum n (entry (first_matrix n)) (first_minimum n) (start_list n)

abbrev pub StartVectorsArePerfect : Type 0
StartVectorsArePerfect = (n : ℕ) → IsPerfect n (start_list n)
