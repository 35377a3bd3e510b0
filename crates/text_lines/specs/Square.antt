-- The rows of a square matrix, and its lower triangle. Rows and columns count from 0; the entries are of any type.
--
--     entry_at none rows i j        the entry at row i and column j; none where there is none
--     lower_from n rows             the first n entries of the first row, and of each further row one more
--     lower_of rows                 the entries up to the diagonal, row by row
--     full none n lower             the n rows of the symmetric matrix with this lower triangle
--     mirrors same none rows i      row i is as column i, left of the diagonal
--     first_unlike same none rows   the first row that is not
use Rattle.std.specs.Prelude.{ℕ, ◌+◌, Bool, not, List, [], ◌∷◌, ◌++◌, length, take, map, Option, slice_index_or, find}
use Rattle.std.specs.List.{list_all, range_with_len}
use Rattle.exact_forms.specs.Triangles.{entry_in}

unfoldable pub entry_at : {A : Type 0} → A → List (List A) → ℕ → ℕ → A
entry_at none rows i j = slice_index_or (slice_index_or rows i []) j none

unfoldable pub lower_from : {A : Type 0} → ℕ → List (List A) → List A
lower_from n [] = []
lower_from n (row ∷ rows) = take n row ++ lower_from (n + 1) rows

abbrev pub lower_of : {A : Type 0} → List (List A) → List A
lower_of rows = lower_from 1 rows

unfoldable pub full : {A : Type 0} → A → ℕ → List A → List (List A)
full none n lower = map (λ i. map (λ j. entry_in none lower i j) (range_with_len 0 n)) (range_with_len 0 n)

unfoldable pub mirrors : {A : Type 0} → (A → A → Bool) → A → List (List A) → ℕ → Bool
mirrors same none rows i = list_all (λ j. same (entry_at none rows i j) (entry_at none rows j i)) (range_with_len 0 i)

unfoldable pub first_unlike : {A : Type 0} → (A → A → Bool) → A → List (List A) → Option ℕ
first_unlike same none rows = find (λ i. not (mirrors same none rows i)) (range_with_len 0 (length rows))
