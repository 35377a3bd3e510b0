-- Factorizations over nonnegative vectors, and matrices that separate from them.
--
--     WeightedVector           a vector with its weight
--     weighted_sum terms i j   the sum over the terms of weight times x_i·x_j
--     inner_ℚ n w a            ⟨W,A⟩, the sum over all rows and columns
--     IsFactorization n a terms   each weight is positive; each vector has n places and isn't zero; no two vectors
--                              are equal; at each row and column the weighted sum is the entry of A
--     Separates n w a          W is copositive and ⟨W,A⟩ is negative
--
-- W has whole entries, A rational ones; rows and columns count from 0 and are below n.
use Rattle.std.specs.Prelude.{ℕ, pos, ◌<◌, ◌≡◌, ◌≢◌, ◌*ℤ◌, List, [], ◌∷◌, length}
use Rattle.std.specs.List.{All, AllPairs}
use Rattle.exact_forms.specs.Rational.{Rational, whole, ◌+ℚ◌, ◌*ℚ◌}
use Rattle.exact_forms.specs.Sums.{sum_ℚ}
use Rattle.exact_forms.specs.Signs.{IsPositive, IsNegative}
use Rattle.exact_forms.specs.Vectors.{coordinate, IsNonzero}
use Rattle.exact_forms.specs.Copositive.{Matrix, IsCopositive}

pub record WeightedVector : Type 0 where
  pub weight : Rational
  pub vector : List ℕ

unfoldable pub weighted_sum : List WeightedVector → ℕ → ℕ → Rational
weighted_sum [] i j = whole (pos 0)
weighted_sum (term ∷ terms) i j =
    term.weight *ℚ whole (coordinate term.vector i *ℤ coordinate term.vector j) +ℚ weighted_sum terms i j

unfoldable pub inner_ℚ : ℕ → Matrix → (ℕ → ℕ → Rational) → Rational
inner_ℚ n w a = sum_ℚ n (λ i. sum_ℚ n (λ j. whole (w i j) *ℚ a i j))

pub record IsFactorization (n : ℕ) (a : ℕ → ℕ → Rational) (terms : List WeightedVector) : Type 0 where
  pub positive : All (λ term. IsPositive term.weight) terms
  pub sized : All (λ term. length term.vector ≡ n) terms
  pub nonzero : All (λ term. IsNonzero n term.vector) terms
  pub distinct : AllPairs (λ x y. x.vector ≢ y.vector) terms
  pub sum : (i j : ℕ) → i < n → j < n → weighted_sum terms i j ≡ a i j

pub record Separates (n : ℕ) (w : Matrix) (a : ℕ → ℕ → Rational) : Type 0 where
  pub copositive : IsCopositive n w
  pub negative : IsNegative (inner_ℚ n w a)
