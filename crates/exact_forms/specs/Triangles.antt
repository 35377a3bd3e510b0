-- A symmetric matrix by its lower triangle, row by row: (0,0), (1,0), (1,1), (2,0) and so on.
--
--     triangle n              how many entries stand before row n: 0, 1, 3, 6 and so on
--     entry_in none xs i j    the entry at row i, column j, in either triangle; none past the list's end
--
-- Rows and columns count from 0. The entries are of any type.
use Rattle.std.specs.Prelude.{ℕ, zero, suc, ◌+◌, List, if◌then◌else◌, nat_lt, slice_index_or}

unfoldable pub triangle : ℕ → ℕ
triangle zero = 0
triangle (suc n) = triangle n + suc n

unfoldable pub entry_in : {A : Type 0} → A → List A → ℕ → ℕ → A
entry_in none xs i j =
    if nat_lt i j then slice_index_or xs (triangle j + i) none else slice_index_or xs (triangle i + j) none
