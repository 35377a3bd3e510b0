-- The first basis while the columns are looked at, and the units as columns.
use Rattle.std.specs.Prelude.{ℕ, ◌≡◌, ◌<◌, ◌≤◌, pos, Bool, true, false, if◌then◌else◌, nat_lt}
use Rattle.exact_forms.specs.Rational.{Rational, whole}
use Rattle.exact_forms.specs.Coordinates.{Columns, IsBasis, mark}
use Rattle.exact_linear.specs.FirstBasis.{IsFirstBasis}

-- the columns below low are units, and stand in the basis B until a later column takes their place; those up to c - 1 were looked at
pub record IsFirstSoFar (A : Columns) (low c : ℕ) (B : ℕ → Bool) (coord : ℕ → ℕ → Rational) : Type 0 where
  pub basis : IsBasis A B coord
  pub first : IsFirstBasis A low c B
  pub later : (k : ℕ) → c ≤ k → k < A.count → B k ≡ false
  pub cleared : (j u : ℕ) → low ≤ j → j < c → u < low → B u ≡ true → coord j u ≡ whole (pos 0)

-- the columns below low are the units. The entry of column j at (a,b) stands at `place a b` of its triangle, which is `cell` of that place
pub record AreUnits (A : Columns) (low : ℕ) (place : ℕ → ℕ → ℕ) (cell : ℕ → ℕ → Rational) : Type 0 where
  pub entry : (j a b : ℕ) → j < A.count → a < A.size → b < A.size → A.entry j a b ≡ cell (place a b) j
  pub unit : (u k : ℕ) → u < low → k < low → cell k u ≡ mark u k
  pub place_below : (a b : ℕ) → a < A.size → b < A.size → place a b < low
  pub reached : (k : ℕ) → k < low → (a : ℕ) × (b : ℕ) × (a < A.size) × (b < A.size) × (place a b ≡ k)
  pub low_within : low ≤ A.count

-- the coordinates over the units are the lower triangle
unfoldable pub over_units : ℕ → (ℕ → ℕ → Rational) → ℕ → ℕ → Rational
over_units low cell j k = if nat_lt k low then cell k j else whole (pos 0)
