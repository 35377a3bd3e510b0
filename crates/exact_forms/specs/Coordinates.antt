-- Coordinates over some of the columns of a table, each column a matrix.
--
--     Columns                       `count` matrices of `size` rows and columns: entry k i j
--     IsCoordinates A B c x         c is 0 outside the columns of B, and writes x as a combination of the columns
--     IsIndependent A B             only the coefficients 0 on B write zero
--     IsBasis A B coord             B is free, and coord j are the coordinates of column j over B
--     mark e                        1 at e, else 0
--     swapped B l e                 B with e in place of l
--     exchanged_coordinates coord l e  the coordinates over swapped B l e, by those over B
--     IsShown A B coord rows t basic     row i of the table t has the coordinates at its basic column `basic i`
--
-- A set of columns is a test of their numbers. Rows, columns and places count from 0.
use Rattle.std.specs.Prelude.{ℕ, ◌≡◌, ◌≢◌, ◌<◌, pos, Bool, true, false}
use Rattle.exact_forms.specs.Rational.{Rational, whole, ◌+ℚ◌, ◌*ℚ◌, ◌-ℚ◌, ◌/ℚ◌, neg_ℚ}
use Rattle.exact_forms.specs.Sums.{sum_ℚ}
use Rattle.exact_forms.specs.Slacks.{replaced}

pub record Columns : Type 0 where
  pub size : ℕ
  pub count : ℕ
  pub entry : ℕ → ℕ → ℕ → Rational

pub record IsCoordinates (A : Columns) (B : ℕ → Bool) (c : ℕ → Rational) (x : ℕ → ℕ → Rational) : Type 0 where
  pub outside : (k : ℕ) → k < A.count → B k ≡ false → c k ≡ whole (pos 0)
  pub sum : (a b : ℕ) → a < A.size → b < A.size → sum_ℚ A.count (λ k. c k *ℚ A.entry k a b) ≡ x a b

pub record IsIndependent (A : Columns) (B : ℕ → Bool) : Type 0 where
  pub only_zero : (c : ℕ → Rational) → IsCoordinates A B c (λ a b. whole (pos 0)) → (k : ℕ) → k < A.count
      → c k ≡ whole (pos 0)

pub record IsBasis (A : Columns) (B : ℕ → Bool) (coord : ℕ → ℕ → Rational) : Type 0 where
  pub independent : IsIndependent A B
  pub written : (j : ℕ) → j < A.count → IsCoordinates A B (coord j) (A.entry j)

abbrev pub mark : ℕ → ℕ → Rational
mark e = replaced (λ k. whole (pos 0)) e (whole (pos 1))

abbrev pub swapped : (ℕ → Bool) → ℕ → ℕ → ℕ → Bool
swapped B l e = replaced (replaced B l false) e true

-- x_k - e_k·s beside e and s at e, where s = x_l / e_l
abbrev pub exchanged_coordinates : (ℕ → ℕ → Rational) → ℕ → ℕ → ℕ → ℕ → Rational
exchanged_coordinates coord l e j k = coord j k +ℚ (coord j l /ℚ coord e l) *ℚ (mark e k +ℚ neg_ℚ (coord e k))

pub record IsShown (A : Columns) (B : ℕ → Bool) (coord : ℕ → ℕ → Rational) (rows : ℕ) (t : ℕ → ℕ → Rational) (basic : ℕ
    → ℕ) : Type 0 where
  pub entry : (i j : ℕ) → i < rows → j < A.count → t i j ≡ coord j (basic i)
  pub within : (i : ℕ) → i < rows → basic i < A.count
  pub in_basis : (i : ℕ) → i < rows → B (basic i) ≡ true
  pub every : (k : ℕ) → k < A.count → B k ≡ true → (i : ℕ) × (i < rows) × (basic i ≡ k)
  pub apart : (i j : ℕ) → i < rows → j < rows → i ≢ j → basic i ≢ basic j
