-- The coordinates of a symmetric matrix over the matrices v·vᵗ of the start vectors.
--
--     framed none n q i j         the entry of Q at row i, column j, here counted from 1, and none outside of n rows and columns
--     start_weight n q r          Q_jk - Q_(j-1)k - Q_j(k+1) + Q_(j-1)(k+1), for the run from place j to place k, counted from 1
--     start_weights n q           the weights of all runs, in the order of the start list
--     start_coordinates n q d k   the k-th weight over d, from 0
--
--     StartWeightsWrite           the weights of a symmetric Q over d are coordinates of Q/d
--     StartMatricesAreIndependent  only the coefficients 0 give the zero matrix, so there are no other coordinates
use Rattle.std.specs.Prelude.{ℕ, ◌<◌, ◌+◌, ◌-◌, ◌&&◌, nat_lt, nat_le, if◌then◌else◌, ℤ, pos, ◌+ℤ◌, neg_ℤ, List, map, slice_index_or}
use Rattle.exact_forms.specs.Rational.{Rational, ratio}
use Rattle.exact_forms.specs.Forms.{IsSymmetric}
use Rattle.exact_forms.specs.RankOne.{AreCoordinates, AreIndependent}
use Rattle.symmetric_matrix.specs.StartVectors.{Run, start_runs, start_list}

unfoldable pub framed : {A : Type 0} → A → ℕ → (ℕ → ℕ → A) → ℕ → ℕ → A
framed none n q i j = if nat_lt 0 i && nat_le i n && (nat_lt 0 j && nat_le j n) then q (i - 1) (j - 1) else none

unfoldable pub start_weight : ℕ → (ℕ → ℕ → ℤ) → Run → ℤ
start_weight n q r =
    framed (pos 0) n q (r.first + 1) (r.last + 1)
    +ℤ neg_ℤ (framed (pos 0) n q r.first (r.last + 1))
    +ℤ neg_ℤ (framed (pos 0) n q (r.first + 1) (r.last + 2))
    +ℤ framed (pos 0) n q r.first (r.last + 2)

unfoldable pub start_weights : ℕ → (ℕ → ℕ → ℤ) → List ℤ
start_weights n q = map (start_weight n q) (start_runs n)

unfoldable pub start_coordinates : ℕ → (ℕ → ℕ → ℤ) → ℕ → ℕ → Rational
start_coordinates n q d k = ratio (slice_index_or (start_weights n q) k (pos 0)) d

abbrev pub StartWeightsWrite : Type 0
StartWeightsWrite = (n : ℕ) (q : ℕ → ℕ → ℤ) (d : ℕ) → 0 < d → IsSymmetric n q
    → AreCoordinates n (start_list n) (start_coordinates n q d) (λ i j. ratio (q i j) d)

abbrev pub StartMatricesAreIndependent : Type 0
StartMatricesAreIndependent = (n : ℕ) → AreIndependent n (start_list n)
