-- The operations of an exchange, each with its place, in their order; and the table after it.
--
--     entry_is_owed            the result of this operation does not fit
--     placed i j part x y op   the operation, told with its place and the two fractions that it is part of
--     divide_entry i j x p, multiply_entry i j x y, subtract_entry i j x y     those of x / p, x * y and x - y at row i, column j
--     clear_entry i j x f y    those of x - f * y there
--     divide_ops i j p xs      those of the row of the exchange from column j on: each of xs is divided by p
--     divided_row p xs         the new row
--     cell_ops, new_cell       those of one new entry, and the new entry: that of the new row, or x - f * y in another row
--     next_row w i j, next_column w i j    the place after row i, column j, row by row
--     rest_ops, rest_cells     those of all entries from one on, and the new entries
--     table_row w old r        row r of the entries
--     pivot_row w old r c      the new row r
--     table_ops, table_cells   the operations and the entries of the exchange at row r and column c, from the entries alone
--     exchange_ops t r c       all operations of the exchange at row r and column c
--     exchanged t r c          the table after it
--     is_zero x                x is 0
--     takes t c i              row i holds a unit and has an entry in column c that is not zero
--     first_row t c            the first such row
--     brought_in t c, bring_ops t c    the table after the exchange in that row, if there is one, and its operations
--     first_bases t k, first_ops t k   the same for the first k columns after the units, one after the other
--     IsLaidOut                a table of so many rows, and the row beside it
--
-- Rows and columns of tables count from 0. An operation shows its place as it is told, from 1.
use Rattle.std.specs.Prelude.{ℕ, zero, suc, ◌+◌, ◌*◌, pos, Bool, List, [], ◌∷◌, ◌++◌, map, length, Option, Some, None, not, ◌&&◌, if◌then◌else◌, nat_eq, nat_lt, slice_range, slice_set, slice_index_or, ◌<◌, ◌≡◌, ◌≤◌, negsuc, false}
use Rattle.exact_forms.specs.Rational.{Rational, ◌*ℚ◌, ◌-ℚ◌, ◌/ℚ◌}
use Rattle.fraction128.specs.Recipes.{div_ops, mul_ops, sub_ops}
use Rattle.symmetric_matrix.specs.declared.operation.IntOp.{IntOp}
use Rattle.symmetric_matrix.specs.Operations.{is_owed}
use Rattle.exact_linear.specs.declared.entry.EntryOp.{EntryOp}
use Rattle.exact_linear.specs.declared.entry.EntryPart.{EntryPart}
use Rattle.exact_linear.specs.declared.entry.EntryPart.TheVariants.{Divide, Multiply, Subtract}
use Rattle.exact_linear.specs.Tables.{Table, rows_of, entry_of, table_entry, basic_at, first_place}

abbrev pub entry_is_owed : EntryOp → Bool
entry_is_owed e = is_owed e.op

abbrev pub placed : ℕ → ℕ → EntryPart → Rational → Rational → IntOp → EntryOp
placed i j part x y op = record { row = i + 1; column = j + 1; part = part; left = x; right = y; op = op }

unfoldable pub divide_entry : ℕ → ℕ → Rational → Rational → List EntryOp
divide_entry i j x p = map (placed i j Divide x p) (div_ops x p)

unfoldable pub multiply_entry : ℕ → ℕ → Rational → Rational → List EntryOp
multiply_entry i j x y = map (placed i j Multiply x y) (mul_ops x y)

unfoldable pub subtract_entry : ℕ → ℕ → Rational → Rational → List EntryOp
subtract_entry i j x y = map (placed i j Subtract x y) (sub_ops x y)

unfoldable pub clear_entry : ℕ → ℕ → Rational → Rational → Rational → List EntryOp
clear_entry i j x f y = multiply_entry i j f y ++ subtract_entry i j x (f *ℚ y)

unfoldable pub divide_ops : ℕ → ℕ → Rational → List Rational → List EntryOp
divide_ops i j p [] = []
divide_ops i j p (x ∷ xs) = divide_entry i j x p ++ divide_ops i (j + 1) p xs

unfoldable pub divided_row : Rational → List Rational → List Rational
divided_row p [] = []
divided_row p (x ∷ xs) = (x /ℚ p) ∷ divided_row p xs

-- at row i, column j, which holds x; f stands in its row in the column of the exchange, y in its column in the new row r
unfoldable pub cell_ops : ℕ → ℕ → ℕ → Rational → Rational → Rational → List EntryOp
cell_ops r i j x f y = if nat_eq i r then [] else clear_entry i j x f y

unfoldable pub new_cell : ℕ → ℕ → Rational → Rational → Rational → Rational
new_cell r i x f y = if nat_eq i r then y else x -ℚ f *ℚ y

-- the place after row i, column j, in rows of w entries
abbrev pub next_row : ℕ → ℕ → ℕ → ℕ
next_row w i j = if nat_lt (j + 1) w then i else i + 1

abbrev pub next_column : ℕ → ℕ → ℕ → ℕ
next_column w i j = if nat_lt (j + 1) w then j + 1 else 0

-- what is left to do at row i, column j; old is the whole table, new the new row r
unfoldable pub rest_ops : ℕ → ℕ → ℕ → List Rational → List Rational → List Rational → ℕ → ℕ → List EntryOp
rest_ops r c w new old [] i j = []
rest_ops r c w new old (x ∷ xs) i j = cell_ops r i j x (entry_of old (i * w + c)) (entry_of new j)
    ++ rest_ops r c w new old xs (next_row w i j) (next_column w i j)

unfoldable pub rest_cells : ℕ → ℕ → ℕ → List Rational → List Rational → List Rational → ℕ → ℕ → List Rational
rest_cells r c w new old [] i j = []
rest_cells r c w new old (x ∷ xs) i j =
    new_cell r i x (entry_of old (i * w + c)) (entry_of new j)
    ∷ rest_cells r c w new old xs (next_row w i j) (next_column w i j)

abbrev pub table_row : ℕ → List Rational → ℕ → List Rational
table_row w old r = slice_range old (r * w) (r * w + w)

unfoldable pub pivot_row : ℕ → List Rational → ℕ → ℕ → List Rational
pivot_row w old r c = divided_row (entry_of old (r * w + c)) (table_row w old r)

unfoldable pub table_ops : ℕ → List Rational → ℕ → ℕ → List EntryOp
table_ops w old r c = divide_ops r 0 (entry_of old (r * w + c)) (table_row w old r)
    ++ rest_ops r c w (pivot_row w old r c) old old 0 0

unfoldable pub table_cells : ℕ → List Rational → ℕ → ℕ → List Rational
table_cells w old r c = rest_cells r c w (pivot_row w old r c) old old 0 0

unfoldable pub exchange_ops : Table → ℕ → ℕ → List EntryOp
exchange_ops t r c = table_ops t.width t.entries r c

unfoldable pub exchanged : Table → ℕ → ℕ → Table
exchanged t r c = record { width = t.width; entries = table_cells t.width t.entries r c; basic = slice_set t.basic r c }

abbrev pub is_zero : Rational → Bool
is_zero x = elim x.num [ pos n ↦ nat_eq n 0 | negsuc n ↦ false ]

abbrev pub takes : Table → ℕ → ℕ → Bool
takes t c i = nat_lt (basic_at t i) (rows_of t) && not (is_zero (table_entry t i c))

unfoldable pub first_row : Table → ℕ → Option ℕ
first_row t c = first_place (takes t c) 0 (rows_of t)

unfoldable pub brought_in : Table → ℕ → Table
brought_in t c = elim (first_row t c) as (λ _. Table) [ None ↦ t | Some i ↦ exchanged t i c ]

unfoldable pub bring_ops : Table → ℕ → List EntryOp
bring_ops t c = elim (first_row t c) as (λ _. List EntryOp) [ None ↦ [] | Some i ↦ exchange_ops t i c ]

unfoldable pub first_bases : Table → ℕ → Table
first_bases t zero = t
first_bases t (suc k) = brought_in (first_bases t k) (rows_of t + k)

unfoldable pub first_ops : Table → ℕ → List EntryOp
first_ops t zero = []
first_ops t (suc k) = first_ops t k ++ bring_ops (first_bases t k) (rows_of t + k)

pub record IsLaidOut (rows width : ℕ) (entries pivots : List Rational) (basic : List ℕ) : Type 0 where
  pub cells : length entries ≡ rows * width
  pub row : length pivots ≡ width
  pub places : length basic ≡ rows
  pub positive : 1 ≤ width
  pub within : (i : ℕ) → i < rows → slice_index_or basic i 0 < width
