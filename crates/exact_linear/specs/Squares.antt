-- The matrices of a list of vectors, and lists of their indices.
--
--     square_row x i, square_rows x n    row i of the lower triangle of x·xᵗ, and the first n rows one after the other
--     square x              the matrix x·xᵗ
--     squares vectors       the matrices of the vectors, in their order
--     vector_at vectors k   vector k of the list
--     named vectors names   the vectors with these indices
--     name_at names i       number i of a list of indices
--
-- Rows, columns and indices count from 0.
use Rattle.std.specs.Prelude.{ℕ, zero, suc, ◌+◌, ℤ, ◌*ℤ◌, List, [], ◌++◌, map, length, slice_index_or}
use Rattle.std.specs.List.{range_with_len}
use Rattle.exact_forms.specs.Vectors.{coordinate}
use Rattle.symmetric_matrix.specs.Symmetric.{Symmetric}

-- row i of the lower triangle
abbrev pub square_row : List ℕ → ℕ → List ℤ
square_row x i = map (λ j. coordinate x i *ℤ coordinate x j) (range_with_len 0 (i + 1))

-- the first n rows
unfoldable pub square_rows : List ℕ → ℕ → List ℤ
square_rows x zero = []
square_rows x (suc n) = square_rows x n ++ square_row x n

abbrev pub square : List ℕ → Symmetric
square x = record { size = length x; lower = square_rows x (length x) }

unfoldable pub squares : List (List ℕ) → List Symmetric
squares vectors = map (λ k. square (slice_index_or vectors k [])) (range_with_len 0 (length vectors))

abbrev pub vector_at : List (List ℕ) → ℕ → List ℕ
vector_at vectors k = slice_index_or vectors k []

abbrev pub named : List (List ℕ) → List ℕ → List (List ℕ)
named vectors names = map (vector_at vectors) names

abbrev pub name_at : List ℕ → ℕ → ℕ
name_at names i = slice_index_or names i 0
