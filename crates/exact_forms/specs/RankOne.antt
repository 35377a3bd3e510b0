-- Combinations of the matrices v·vᵗ of a list of vectors.
--
--     rank_one_sum vectors c i j       Σ c_k·v_k(i)·v_k(j), the entry of Σ c_k·v_k·v_kᵗ
--     AreCoordinates n vectors c a     Σ c_k·v_k·v_kᵗ is the matrix A
--     AreIndependent n vectors         only the coefficients 0 give the zero matrix
--     HasVectors A low vectors         the columns of A from `low` on are the vectors' matrices, in their order
--     HasUnits A                       each unit matrix is a multiple of a column of A
--
-- The coefficients are rational; c k belongs to the k-th vector, from 0. Rows and columns count from 0 and are below n.
use Rattle.std.specs.Prelude.{ℕ, pos, ◌+◌, ◌≡◌, ◌<◌, ◌≤◌, ◌*ℤ◌, List, [], length, slice_index_or}
use Rattle.exact_forms.specs.Rational.{Rational, whole, ◌*ℚ◌}
use Rattle.exact_forms.specs.Sums.{sum_ℚ}
use Rattle.exact_forms.specs.Forms.{unit_sum}
use Rattle.exact_forms.specs.Vectors.{coordinate}
use Rattle.exact_forms.specs.Coordinates.{Columns}

unfoldable pub rank_one_sum : List (List ℕ) → (ℕ → Rational) → ℕ → ℕ → Rational
rank_one_sum vectors c i j =
    sum_ℚ (length vectors)
    (λ k. c k *ℚ whole (coordinate (slice_index_or vectors k []) i *ℤ coordinate (slice_index_or vectors k []) j))

pub record AreCoordinates (n : ℕ) (vectors : List (List ℕ)) (c : ℕ → Rational) (a : ℕ → ℕ → Rational) : Type 0 where
  pub sum : (i j : ℕ) → i < n → j < n → rank_one_sum vectors c i j ≡ a i j

pub record AreIndependent (n : ℕ) (vectors : List (List ℕ)) : Type 0 where
  pub only_zero : (c : ℕ → Rational) → AreCoordinates n vectors c (λ i j. whole (pos 0)) → (k : ℕ) → k < length vectors
      → c k ≡ whole (pos 0)

pub record HasVectors (A : Columns) (low : ℕ) (vectors : List (List ℕ)) : Type 0 where
  pub within : low + length vectors ≤ A.count
  pub entry : (k i j : ℕ) → k < length vectors → i < A.size → j < A.size
      → A.entry (low + k) i j
      ≡ whole (coordinate (slice_index_or vectors k []) i *ℤ coordinate (slice_index_or vectors k []) j)

pub record HasUnits (A : Columns) : Type 0 where
  pub units : (i j : ℕ) → i < A.size → j < A.size
      → (k : ℕ) × (t : Rational) × (k < A.count)
      × ((a b : ℕ) → a < A.size → b < A.size → t *ℚ A.entry k a b ≡ whole (unit_sum i j a b))
