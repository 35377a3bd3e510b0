-- The first basis: the vectors' columns, one after the other, take the place of units.
--
--     IsCombinationBelow A low c   the column c is a combination of those from low to c - 1
--     IsFirstBasis A low high B    of the columns from low to high - 1, B has those that are no combination of the ones
--                                  before, and none besides
--
-- Columns count from 0.
use Rattle.std.specs.Prelude.{ℕ, ◌≡◌, ◌<◌, ◌≤◌, pos, Bool, true, false, ◌⊎◌}
use Rattle.exact_forms.specs.Rational.{Rational, whole, ◌*ℚ◌}
use Rattle.exact_forms.specs.Sums.{sum_ℚ}
use Rattle.exact_forms.specs.Coordinates.{Columns}

pub record IsCombinationBelow (A : Columns) (low c : ℕ) : Type 0 where
  pub weight : ℕ → Rational
  pub outside : (k : ℕ) → k < A.count → ((k < low) ⊎ (c ≤ k)) → weight k ≡ whole (pos 0)
  pub sum : (a b : ℕ) → a < A.size → b < A.size → sum_ℚ A.count (λ k. weight k *ℚ A.entry k a b) ≡ A.entry c a b

pub record IsFirstBasis (A : Columns) (low high : ℕ) (B : ℕ → Bool) : Type 0 where
  pub taken : (c : ℕ) → low ≤ c → c < high → B c ≡ true → IsCombinationBelow A low c → ⊥
  pub left : (c : ℕ) → low ≤ c → c < high → B c ≡ false → IsCombinationBelow A low c
