-- The positive weights factor S/d, and a product below 0 separates it.
use Rattle.std.specs.Prelude.{◌≡◌, ℕ, ◌<◌, ◌*◌, ℤ, pos, negsuc, nat_abs, ◌*ℤ◌, ◌≤ℤ◌, ◌<ℤ◌, List, [], ◌∷◌, map, length, slice_index_or}
use Rattle.std.specs.List.{All, range_with_len}
use Rattle.std.proofs.Common.{arith, sym, ◌∙◌, ap, refl, subst}
use Rattle.std.proofs.lemmas.Int.{ints}
use Rattle.std.proofs.lemmas.List.Elements.{Contains-get_or}
use Rattle.std.proofs.lemmas.List.FromFn.{length-map-range_with_len, get_or-map-range_with_len}
use Rattle.commutative_ring.proofs.Ring.{num, ◌⊗◌, v0}
use Rattle.commutative_ring.proofs.Expand.{times_one}
use Rattle.exact_forms.specs.Rational.{Rational, whole, ratio, inverse, ◌*ℚ◌, ◌/ℚ◌}
use Rattle.exact_forms.specs.Sums.{sum_ℚ}
use Rattle.exact_forms.specs.Signs.{IsNonnegative}
use Rattle.exact_forms.specs.Vectors.{coordinate, IsNonzero, ComesBefore}
use Rattle.exact_forms.specs.Forms.{inner}
use Rattle.exact_forms.specs.Copositive.{Matrix, Attains, IsCopositive, IsMinimum}
use Rattle.exact_forms.specs.Factors.{WeightedVector, weighted_sum, inner_ℚ, IsFactorization, Separates}
use Rattle.exact_forms.specs.PositiveTerms.{IsInOrder}
use Rattle.exact_forms.proofs.Rational.{ring_ℚ, mul-ratio, ratio_same, mul-inverse, mul_assoc_ℚ}
use Rattle.exact_forms.proofs.RationalSums.{sum_ℚ_same}
use Rattle.exact_forms.proofs.RankOne.{rank_one_sum_is}
use Rattle.exact_forms.proofs.Signs.{whole_positive, positive_not_zero}
use Rattle.exact_forms.proofs.Factors.{weighted_sum_by_places, separates_over, separates_same, factorization_same, inner_ℚ-ratio, inner_ℚ_same}
use Rattle.exact_forms.proofs.PositiveTerms.{factorization_of_positive_terms, positive_terms_in_order}
use Rattle.exact_forms.proofs.Vectors.{increasing_places}
use Rattle.symmetric_matrix.specs.Symmetric.{Symmetric, entry}
use Rattle.exact_linear.specs.Squares.{vector_at}
use Rattle.exact_lp.specs.Weights.{over, weight_in, AreWeights}
use Rattle.perfect_walk.specs.Ends.{terms_of}

-- ---- over d
divided_back : (z : ℤ) (d : ℕ) → 0 < d → ratio z d *ℚ whole (pos d) ≡ whole z
unfolding whole
divided_back z d h =
    let one : d * 1 ≡ d = omega arith in
    mul-ratio z (pos d) d 1 h (omega arith)
    ∙ ratio_same (z *ℤ pos d) z (d * 1) 1 (omega arith) (omega arith) (times_one (z *ℤ pos d) ∙ ap (λ (k : ℕ). z *ℤ pos k) (sym one))

quotient_is : (x y : Rational) → x /ℚ y ≡ x *ℚ inverse y.num y.den
unfolding ◌/ℚ◌
quotient_is x y = refl

pub over_is : (s : Symmetric) (d : ℤ) (i j : ℕ) → pos 1 ≤ℤ d → over s d i j ≡ ratio (entry s i j) (nat_abs d)
over_is s (negsuc k) i j h = absurd (omega (arith, ints))
over_is s (pos d) i j h =
    let positive : 0 < d = omega (arith, ints) in
    let q : Rational = ratio (entry s i j) d in
    let t : Rational = inverse (whole (pos d)).num (whole (pos d)).den in
    quotient_is (whole (entry s i j)) (whole (pos d))
    ∙ ap (λ (x : Rational). x *ℚ t) (sym (divided_back (entry s i j) d positive))
    ∙ mul_assoc_ℚ q (whole (pos d)) t
    ∙ ap (λ (x : Rational). q *ℚ x) (mul-inverse (whole (pos d)) (positive_not_zero (whole (pos d)) (whole_positive (pos d) h)))
    ∙ ring_ℚ (q ∷ []) (v0 ⊗ num (pos 1)) v0 refl

-- ---- a matrix that separates
pub record IsPaired (n : ℕ) (w : Matrix) (value : Rational) (a : ℕ → ℕ → Rational) : Type 0 where
  pub separates : Separates n w a
  pub value_is : value ≡ inner_ℚ n w a

pub paired : (n : ℕ) (w s : Matrix) (d : ℕ) (a : ℕ → ℕ → Rational) → 0 < d → ((i j : ℕ) → i < n → j < n → a i j ≡ ratio (s i j) d) → IsCopositive n w
    → inner n w s <ℤ pos 0 → IsPaired n w (ratio (inner n w s) d) a
paired n w s d a positive is copositive below = record {
  separates = separates_same n w (λ i j. ratio (s i j) d) a (λ i j li lj. sym (is i j li lj)) ((separates_over n w s d positive).1 (copositive, below));
  value_is = sym (inner_ℚ-ratio n w s d positive) ∙ inner_ℚ_same n w w (λ i j. ratio (s i j) d) a (λ i j li lj. refl) (λ i j li lj. sym (is i j li lj));
}

-- ---- the terms of the positive weights
module _ (n : ℕ) (q : Matrix) (mu : ℤ) (vectors : List (List ℕ)) (s : Symmetric) (d : ℤ) (found : List Rational) (M : IsMinimum n q mu vectors)
    (A : AreWeights n vectors s d (weight_in found)) where
  abbrev term : ℕ → WeightedVector
  term k = record { weight = weight_in found k; vector = vector_at vectors k }

  abbrev terms : List WeightedVector
  terms = map term (range_with_len 0 (length vectors))

  length-terms : length terms ≡ length vectors
  length-terms = length-map-range_with_len term 0 (length vectors)

  term_is : (k : ℕ) (none : WeightedVector) → k < length vectors → slice_index_or terms k none ≡ term k
  term_is k none l = get_or-map-range_with_len term 0 (length vectors) k k none l (omega arith)

  each : (P : WeightedVector → Type 0) → ((k : ℕ) → k < length vectors → P (term k)) → All P terms
  each P h k none l = let inside : k < length vectors = omega (arith, length-terms) in subst P (sym (term_is k none inside)) (h k inside)

  attains : (k : ℕ) → k < length vectors → Attains n q mu (vector_at vectors k)
  attains k l = M.lists.each (vector_at vectors k) (Contains-get_or vectors k [] l)

  in_order : IsInOrder terms
  in_order i j none before l =
      let inside : j < length vectors = omega (arith, length-terms) in
      let first : i < length vectors = omega arith in
      subst (λ (t : WeightedVector). ComesBefore t.vector (slice_index_or terms j none).vector) (sym (term_is i none first))
      (subst (λ (t : WeightedVector). ComesBefore (vector_at vectors i) t.vector) (sym (term_is j none inside))
      (increasing_places vectors [] M.lists.increasing i j before inside))

  sum_is : (i j : ℕ) → i < n → j < n → weighted_sum terms i j ≡ over s d i j
  sum_is i j li lj =
      weighted_sum_by_places terms (term 0) i j
      ∙ ap (λ (m : ℕ). sum_ℚ m (λ k. (slice_index_or terms k (term 0)).weight
      *ℚ whole (coordinate (slice_index_or terms k (term 0)).vector i *ℤ coordinate (slice_index_or terms k (term 0)).vector j))) length-terms
      ∙ sum_ℚ_same (length vectors) _ (λ k. weight_in found k *ℚ whole (coordinate (vector_at vectors k) i *ℤ coordinate (vector_at vectors k) j))
      (λ k l. ap (λ (t : WeightedVector). t.weight *ℚ whole (coordinate t.vector i *ℤ coordinate t.vector j)) (term_is k (term 0) l))
      ∙ sym (rank_one_sum_is vectors (weight_in found) i j)
      ∙ A.sum.sum i j li lj

  pub weights_in_order : IsInOrder (terms_of vectors found)
  unfolding terms_of
  weights_in_order = positive_terms_in_order terms in_order

  pub weights_factor : IsFactorization n (over s d) (terms_of vectors found)
  unfolding terms_of
  weights_factor = factorization_of_positive_terms n (over s d) terms
      (each (λ t. IsNonnegative t.weight) (λ k l. A.nonnegative k l)) (each (λ t. length t.vector ≡ n) (λ k l. (attains k l).size))
      (each (λ t. IsNonzero n t.vector) (λ k l. (attains k l).nonzero)) in_order sum_is

  -- of each matrix that is S/d
  pub weights_factor_of : (a : ℕ → ℕ → Rational) → pos 1 ≤ℤ d → ((i j : ℕ) → i < n → j < n → a i j ≡ ratio (entry s i j) (nat_abs d))
      → IsFactorization n a (terms_of vectors found)
  weights_factor_of a positive is =
      factorization_same n (over s d) a (terms_of vectors found) (λ i j li lj. over_is s d i j positive ∙ sym (is i j li lj)) weights_factor
