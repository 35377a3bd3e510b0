-- Vectors whose matrices are independent all come into the basis.
use Rattle.std.specs.Prelude.{◌≡◌, ℕ, zero, suc, ◌+◌, ◌<◌, ◌≤◌, ◌⊎◌, pos, ◌*ℤ◌, Bool, true, false, List, [], length, slice_index_or}
use Rattle.std.proofs.Common.{arith, sym, ◌∙◌, ap, refl, inl, inr}
use Rattle.commutative_ring.proofs.SmallCases.{true_or_false}
use Rattle.exact_forms.specs.Rational.{Rational, whole, ◌+ℚ◌, ◌*ℚ◌}
use Rattle.exact_forms.specs.Sums.{sum_ℚ}
use Rattle.exact_forms.specs.RankOne.{AreCoordinates, AreIndependent, HasVectors}
use Rattle.exact_forms.specs.Vectors.{coordinate}
use Rattle.exact_forms.specs.Coordinates.{Columns, mark}
use Rattle.exact_forms.proofs.Rational.{zero_mul_ℚ, zero_add_ℚ, add_comm_ℚ}
use Rattle.exact_forms.proofs.RationalSums.{sum_ℚ_none, sum_ℚ_same, sum_ℚ-suc}
use Rattle.exact_forms.proofs.RankOne.{rank_one_sum_is, coordinates_agree}
use Rattle.exact_forms.proofs.Coordinates.{sum_marked}
use Rattle.exact_forms.proofs.Signs.{positive_not_zero, one_positive}
use Rattle.exact_forms.proofs.Slacks.{replaced_here}
use Rattle.exact_linear.specs.FirstBasis.{IsCombinationBelow}
use Rattle.exact_linear.proofs.SoFar.{IsFirstSoFar}

-- a sum whose first terms are 0
shifted : (low m : ℕ) (f : ℕ → Rational) → ((k : ℕ) → k < low → f k ≡ whole (pos 0)) → sum_ℚ (low + m) f ≡ sum_ℚ m (λ i. f (low + i))
shifted low zero f h = ap (λ (n : ℕ). sum_ℚ n f) (let e : low + 0 ≡ low = omega arith in e) ∙ sum_ℚ_none low f h
    ∙ sym (sum_ℚ_none 0 (λ i. f (low + i)) (λ k l. absurd (omega arith)))
shifted low (suc m) f h =
    ap (λ (n : ℕ). sum_ℚ n f) (let e : low + suc m ≡ suc (low + m) = omega arith in e) ∙ sum_ℚ-suc (low + m) f ∙ ap (λ w. w +ℚ f (low + m)) (shifted low m f h)
    ∙ sym (sum_ℚ-suc m (λ i. f (low + i)))

module _ (A : Columns) (low : ℕ) (vectors : List (List ℕ)) (V : HasVectors A low vectors) (count : A.count ≡ low + length vectors + 1) where
  -- a combination of the vectors' columns, as coordinates over the vectors
  pub over_vectors : (c : ℕ → Rational) (x : ℕ → ℕ → Rational) → ((k : ℕ) → k < A.count → ((k < low) ⊎ (low + length vectors ≤ k)) → c k ≡ whole (pos 0))
      → ((i j : ℕ) → i < A.size → j < A.size → sum_ℚ A.count (λ k. c k *ℚ A.entry k i j) ≡ x i j) → AreCoordinates A.size vectors (λ m. c (low + m)) x
  over_vectors c x outside sum = record {
    sum = λ i j li lj.
        rank_one_sum_is vectors (λ m. c (low + m)) i j
        ∙ sum_ℚ_same (length vectors) _ _ (λ m lm. ap (λ w. c (low + m) *ℚ w) (sym (V.entry m i j lm li lj)))
        ∙ sym (shifted low (length vectors) (λ m. c m *ℚ A.entry m i j) (λ m lm. ap (λ w. w *ℚ A.entry m i j) (outside m (omega arith) (inl lm))
        ∙ zero_mul_ℚ (A.entry m i j)))
        ∙ sym (last i j)
        ∙ sum i j li lj;
  }
    where
      last : (i j : ℕ) → sum_ℚ A.count (λ m. c m *ℚ A.entry m i j) ≡ sum_ℚ (low + length vectors) (λ m. c m *ℚ A.entry m i j)
      last i j =
          ap (λ (n : ℕ). sum_ℚ n (λ m. c m *ℚ A.entry m i j)) (let e : A.count ≡ suc (low + length vectors) = omega arith in e)
          ∙ sum_ℚ-suc (low + length vectors) (λ m. c m *ℚ A.entry m i j)
          ∙ ap (λ w. sum_ℚ (low + length vectors) (λ m. c m *ℚ A.entry m i j) +ℚ w)
          (ap (λ w. w *ℚ A.entry (low + length vectors) i j) (outside (low + length vectors) (omega arith) (inr (omega arith)))
          ∙ zero_mul_ℚ (A.entry (low + length vectors) i j))
          ∙ add_comm_ℚ (sum_ℚ (low + length vectors) (λ m. c m *ℚ A.entry m i j)) (whole (pos 0))
          ∙ zero_add_ℚ (sum_ℚ (low + length vectors) (λ m. c m *ℚ A.entry m i j))

  -- a combination of the columns before one
  below_coordinates : (k : ℕ) → k < length vectors → (C : IsCombinationBelow A low (low + k))
      → AreCoordinates A.size vectors (λ m. C.weight (low + m)) (A.entry (low + k))
  below_coordinates k l C = over_vectors C.weight (A.entry (low + k)) (λ m lm h. C.outside m lm (after m h)) C.sum
    where
      after : (m : ℕ) → ((m < low) ⊎ (low + length vectors ≤ m)) → (m < low) ⊎ (low + k ≤ m)
      after m (inl h) = inl h
      after m (inr h) = inr (omega arith)

  own_coordinates : (k : ℕ) → k < length vectors → AreCoordinates A.size vectors (mark k) (A.entry (low + k))
  own_coordinates k l = record {
    sum = λ i j li lj.
        rank_one_sum_is vectors (mark k) i j
        ∙ sum_marked (length vectors) (λ m. whole (coordinate (slice_index_or vectors m []) i *ℤ coordinate (slice_index_or vectors m []) j)) k l
        ∙ sym (V.entry k i j l li lj);
  }

  pub all_taken : AreIndependent A.size vectors → (B : ℕ → Bool) (coord : ℕ → ℕ → Rational) → IsFirstSoFar A low (low + length vectors) B coord → (k : ℕ)
      → k < length vectors → B (low + k) ≡ true
  all_taken free B coord S k l = by (true_or_false (B (low + k)))
    where
      by : ((B (low + k) ≡ true) ⊎ (B (low + k) ≡ false)) → B (low + k) ≡ true
      by (inl t) = t
      by (inr f) =
          let C = S.first.left (low + k) (omega arith) (omega arith) f in
          absurd (positive_not_zero (whole (pos 1)) one_positive
          (sym (replaced_here (λ m. whole (pos 0)) k (whole (pos 1)) k refl)
          ∙ sym (coordinates_agree A.size vectors (λ m. C.weight (low + m)) (mark k) (A.entry (low + k)) free (below_coordinates k l C) (own_coordinates k l) k
          l)
          ∙ C.outside (low + k) (omega arith) (inr (omega arith))))
