-- The tables of the linear program: they stay rectangles, and one row is that of t.
use Rattle.std.specs.Prelude.{◌≡◌, ℕ, ◌+◌, ◌<◌, ◌≤◌, true, Option, Some, None}
use Rattle.std.proofs.Common.{arith, ◌∙◌, ap, refl}
use Rattle.commutative_ring.proofs.SmallCases.{same_of_test}
use Rattle.exact_forms.specs.Coordinates.{Columns}
use Rattle.exact_linear.specs.Tables.{Table, IsRectangle, rows_of, basic_at, first_place, or_zero, holds, row_of}
use Rattle.exact_linear.specs.Columns.{HasCoordinates}
use Rattle.exact_linear.proofs.Places.{first_found, first_none}
use Rattle.exact_lp.specs.Rule.{top, top_row}

-- a column for each row, for each vector, and the two of the program's own
abbrev pub HasWidth : Table → ℕ → Type 0
HasWidth t m = rows_of t + m + 2 ≡ t.width

-- a table that shows the coordinates of A
pub record IsGood (A : Columns) (t : Table) : Type 0 where
  pub coordinates : HasCoordinates A t
  pub rectangle : IsRectangle t

-- ---- the tables of the linear program
pub record IsReady (A : Columns) (t : Table) (m : ℕ) : Type 0 where
  pub good : IsGood A t
  pub width : HasWidth t m
  pub row : 1 ≤ rows_of t
  pub top_is : (i : ℕ) × (i < rows_of t) × (basic_at t i ≡ top t m)

-- ---- the row of t
pub top_row_is : (A : Columns) (t : Table) (m : ℕ) → IsReady A t m → (top_row t m < rows_of t) × (basic_at t (top_row t m) ≡ top t m)
unfolding top_row row_of
top_row_is A t m R = by (first_place (holds t (top t m)) 0 (rows_of t)) refl
  where
    by : (o : Option ℕ) → first_place (holds t (top t m)) 0 (rows_of t) ≡ o → (or_zero (first_place (holds t (top t m)) 0 (rows_of t)) < rows_of t)
        × (basic_at t (or_zero (first_place (holds t (top t m)) 0 (rows_of t))) ≡ top t m)
    by None h =
        let f = first_none (holds t (top t m)) 0 (rows_of t) h R.top_is.0 (omega arith) (let a = R.top_is.1 in omega arith) in
        absurd (let g : holds t (top t m) R.top_is.0 ≡ true = (let e = R.top_is.2 in grind arith) in cc)
    by (Some i) h =
        let f = first_found (holds t (top t m)) 0 (rows_of t) i h in
        let e : or_zero (first_place (holds t (top t m)) 0 (rows_of t)) ≡ i = ap or_zero h in
        ((let b = f.below in omega arith), ap (basic_at t) e ∙ same_of_test (basic_at t i) (top t m) f.passes)
