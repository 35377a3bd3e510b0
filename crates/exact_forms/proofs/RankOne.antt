-- Coordinates over the matrices of a list of vectors are unique.
use Rattle.std.specs.Prelude.{◌≡◌, ◌≢◌, ℕ, ◌<◌, pos, negsuc, ◌*ℤ◌, Bool, true, List, [], ◌∷◌, length, slice_index_or}
use Rattle.std.proofs.Common.{sym, ◌∙◌, ap, ap₂, refl}
use Rattle.commutative_ring.proofs.Ring.{num, ◌⊕◌, ◌⊗◌, v0, v1, v2, v3}
use Rattle.exact_forms.specs.Rational.{Rational, whole, ◌+ℚ◌, ◌*ℚ◌}
use Rattle.exact_forms.specs.Sums.{sum_ℚ}
use Rattle.exact_forms.specs.Vectors.{coordinate}
use Rattle.exact_forms.specs.Coordinates.{Columns, IsCoordinates, IsIndependent, mark}
use Rattle.exact_forms.specs.RankOne.{rank_one_sum, AreCoordinates, AreIndependent}
use Rattle.exact_forms.proofs.Rational.{ring_ℚ, same_by_difference}
use Rattle.exact_forms.proofs.RationalSums.{sum_ℚ_same, sum_ℚ-add, mul-sum_ℚ, sum_ℚ_one}
use Rattle.exact_forms.proofs.Slacks.{replaced_here, replaced_other}
use Rattle.exact_forms.proofs.Coordinates.{mul_zero_ℚ, coordinates_total, coordinates_same, coordinates_mark}

-- the entry at (i,j) of the matrix of the k-th vector
abbrev square : List (List ℕ) → ℕ → ℕ → ℕ → Rational
square vectors k i j = whole (coordinate (slice_index_or vectors k []) i *ℤ coordinate (slice_index_or vectors k []) j)

pub rank_one_sum_is : (vectors : List (List ℕ)) (c : ℕ → Rational) (i j : ℕ)
    → rank_one_sum vectors c i j
    ≡ sum_ℚ (length vectors) (λ k. c k *ℚ whole (coordinate (slice_index_or vectors k []) i *ℤ coordinate (slice_index_or vectors k []) j))
unfolding rank_one_sum
rank_one_sum_is vectors c i j = refl

-- the coefficients of the vectors decide
pub rank_one_sum_same : (vectors : List (List ℕ)) (c d : ℕ → Rational) (i j : ℕ) → ((k : ℕ) → k < length vectors → c k ≡ d k)
    → rank_one_sum vectors c i j ≡ rank_one_sum vectors d i j
unfolding rank_one_sum
rank_one_sum_same vectors c d i j h = sum_ℚ_same (length vectors) _ _ (λ k l. ap (λ w. w *ℚ square vectors k i j) (h k l))

-- c + s·d
pub rank_one_sum_linear : (vectors : List (List ℕ)) (s : Rational) (c d : ℕ → Rational) (i j : ℕ)
    → rank_one_sum vectors (λ k. c k +ℚ s *ℚ d k) i j ≡ rank_one_sum vectors c i j +ℚ s *ℚ rank_one_sum vectors d i j
unfolding rank_one_sum
rank_one_sum_linear vectors s c d i j =
    sum_ℚ_same (length vectors) _ _ (λ k l. ring_ℚ (c k ∷ s ∷ d k ∷ square vectors k i j ∷ []) ((v0 ⊕ v1 ⊗ v2) ⊗ v3) (v0 ⊗ v3 ⊕ v1 ⊗ (v2 ⊗ v3)) refl)
    ∙ sum_ℚ-add (length vectors) (λ k. c k *ℚ square vectors k i j) (λ k. s *ℚ (d k *ℚ square vectors k i j))
    ∙ ap (λ w. rank_one_sum vectors c i j +ℚ w) (sym (mul-sum_ℚ s (length vectors) (λ k. d k *ℚ square vectors k i j)))

-- over independent vectors the coordinates are unique
pub coordinates_agree : (n : ℕ) (vectors : List (List ℕ)) (c d : ℕ → Rational) (a : ℕ → ℕ → Rational) → AreIndependent n vectors
    → AreCoordinates n vectors c a → AreCoordinates n vectors d a → (k : ℕ) → k < length vectors → c k ≡ d k
coordinates_agree n vectors c d a free hc hd k l =
    same_by_difference (c k) (d k) (free.only_zero (λ k. c k +ℚ whole (negsuc 0) *ℚ d k) record {
      sum = λ i j li lj.
          rank_one_sum_linear vectors (whole (negsuc 0)) c d i j
          ∙ ap₂ (λ v w. v +ℚ whole (negsuc 0) *ℚ w) (hc.sum i j li lj) (hd.sum i j li lj)
          ∙ ring_ℚ (a i j ∷ []) (v0 ⊕ num (negsuc 0) ⊗ v0) (num (pos 0)) refl;
    } k l)

-- vectors whose matrices are different columns of a free set are independent
pub independent_of_free : (A : Columns) (B : ℕ → Bool) (vectors : List (List ℕ)) (column : ℕ → ℕ) → IsIndependent A B
    → ((k : ℕ) → k < length vectors → column k < A.count) → ((k : ℕ) → k < length vectors → B (column k) ≡ true)
    → ((k l : ℕ) → k < length vectors → l < length vectors → k ≢ l → column k ≢ column l)
    → ((k i j : ℕ) → k < length vectors → i < A.size → j < A.size
    → A.entry (column k) i j ≡ whole (coordinate (slice_index_or vectors k []) i *ℤ coordinate (slice_index_or vectors k []) j))
    → AreIndependent A.size vectors
unfolding rank_one_sum
independent_of_free A B vectors column free within chosen apart entries =
    record { only_zero = λ c h k l. at_column c k l ∙ free.only_zero (spread c) (written c h) (column k) (within k l) }
  where
    -- the coefficients over the columns
    spread : (ℕ → Rational) → ℕ → Rational
    spread c j = sum_ℚ (length vectors) (λ k. c k *ℚ mark (column k) j)

    written : (c : ℕ → Rational) → AreCoordinates A.size vectors c (λ i j. whole (pos 0)) → IsCoordinates A B (spread c) (λ i j. whole (pos 0))
    written c h =
        coordinates_same A B (spread c) (λ i j. sum_ℚ (length vectors) (λ k. c k *ℚ A.entry (column k) i j)) (λ i j. whole (pos 0))
        (λ i j li lj. sum_ℚ_same (length vectors) _ _ (λ k l. ap (λ w. c k *ℚ w) (entries k i j l li lj)) ∙ h.sum i j li lj)
        (coordinates_total A B (length vectors) c (λ k. mark (column k)) (λ k. A.entry (column k))
        (λ k l. coordinates_mark A B (column k) (within k l) (chosen k l)))

    at_column : (c : ℕ → Rational) (k : ℕ) → k < length vectors → c k ≡ spread c (column k)
    at_column c k l =
        sym (sum_ℚ_one (length vectors) (λ m. c m *ℚ mark (column m) (column k)) k l (λ m lm ne.
        ap (λ w. c m *ℚ w) (replaced_other (λ k. whole (pos 0)) (column m) (whole (pos 1)) (column k) (apart k m l lm (λ e. ne (sym e)))) ∙ mul_zero_ℚ (c m))
        ∙ ap (λ w. c k *ℚ w) (replaced_here (λ k. whole (pos 0)) (column k) (whole (pos 1)) (column k) refl)
        ∙ ring_ℚ (c k ∷ []) (v0 ⊗ num (pos 1)) v0 refl)
