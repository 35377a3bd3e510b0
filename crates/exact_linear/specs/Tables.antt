-- Tables of fractions, as contracts see a tableau.
--
--     Table               its width, its entries row by row, and for each row the column that is basic there
--     rows_of t           how many rows there are
--     entry_of row j      number j of a list of fractions, or 0 past its end
--     table_entry t i j   the entry at row i, column j
--     basic_at t i        the basic column of row i
--     IsRectangle t       each row has as many entries as the table is wide, at least one, and its basic column is one of them
--     cells rows width f  the entries of a table that has f i j at row i, column j
--     first_place test i n     the first of the n places from i on that passes the test
--     places_where test i n    those of the n places from i on that pass the test, in their order
--     or_zero o, is_there o    the number that may be there, or 0; whether it is there
--     from_one o               a number that may be there, counted from 1 in place of 0
--     holds t c i              the basic column of row i is c
--     row_of t c               that row
--     is_basic t c             c is basic in some row
--     coordinate_in t j c      the entry of column j in the row of the basic column c, or 0 where c is not basic
--     contains cs c            c is in the list
--
-- Rows, columns and places count from 0.
use Rattle.std.specs.Prelude.{ℕ, zero, suc, ◌+◌, ◌*◌, ◌/◌, ◌%◌, pos, Bool, true, false, ◌||◌, List, [], ◌∷◌, map, length, Option, Some, None, if◌then◌else◌, nat_eq, slice_index_or, ◌≡◌, ◌≤◌, ◌<◌}
use Rattle.std.specs.List.{range_with_len}
use Rattle.exact_forms.specs.Rational.{Rational, whole}

pub record Table : Type 0 where
  pub width : ℕ
  pub entries : List Rational
  pub basic : List ℕ

abbrev pub rows_of : Table → ℕ
rows_of t = length t.basic

abbrev pub entry_of : List Rational → ℕ → Rational
entry_of row j = slice_index_or row j (whole (pos 0))

abbrev pub table_entry : Table → ℕ → ℕ → Rational
table_entry t i j = entry_of t.entries (i * t.width + j)

abbrev pub basic_at : Table → ℕ → ℕ
basic_at t i = slice_index_or t.basic i 0

unfoldable pub cells : ℕ → ℕ → (ℕ → ℕ → Rational) → List Rational
cells rows width f = map (λ k. f (k / width) (k % width)) (range_with_len 0 (rows * width))

unfoldable pub first_place : (ℕ → Bool) → ℕ → ℕ → Option ℕ
first_place test i zero = None
first_place test i (suc n) = if test i then Some i else first_place test (i + 1) n

unfoldable pub places_where : (ℕ → Bool) → ℕ → ℕ → List ℕ
places_where test i zero = []
places_where test i (suc n) = if test i then i ∷ places_where test (i + 1) n else places_where test (i + 1) n

abbrev pub or_zero : Option ℕ → ℕ
or_zero (Some i) = i
or_zero None = 0

abbrev pub is_there : Option ℕ → Bool
is_there (Some i) = true
is_there None = false

abbrev pub from_one : Option ℕ → Option ℕ
from_one (Some i) = Some (i + 1)
from_one None = None

abbrev pub holds : Table → ℕ → ℕ → Bool
holds t c i = nat_eq (basic_at t i) c

unfoldable pub row_of : Table → ℕ → Option ℕ
row_of t c = first_place (holds t c) 0 (rows_of t)

abbrev pub is_basic : Table → ℕ → Bool
is_basic t c = is_there (row_of t c)

abbrev pub coordinate_in : Table → ℕ → ℕ → Rational
coordinate_in t j c = elim (row_of t c) as (λ _. Rational) [ None ↦ whole (pos 0) | Some i ↦ table_entry t i j ]

abbrev pub contains : List ℕ → ℕ → Bool
contains [] x = false
contains (y ∷ ys) x = nat_eq y x || contains ys x

pub record IsRectangle (t : Table) : Type 0 where
  pub cells : length t.entries ≡ rows_of t * t.width
  pub positive : 1 ≤ t.width
  pub within : (i : ℕ) → i < rows_of t → basic_at t i < t.width
