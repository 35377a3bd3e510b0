-- Leaving out the terms of weight 0 makes a factorization.
use Rattle.std.specs.Prelude.{◌≡◌, ◌≢◌, ℕ, ◌<◌, ℤ, pos, ◌*ℤ◌, ◌≤ℤ◌, Bool, true, false, int_lt, List, [], ◌∷◌, length, filter, cond, slice_index_or}
use Rattle.std.specs.List.{All}
use Rattle.std.proofs.Common.{refl, sym, ap, ◌∙◌, subst, arith}
use Rattle.std.proofs.lemmas.Int.{ints}
use Rattle.std.proofs.lemmas.List.Elements.{All-filter, filter_passes}
use Rattle.std.proofs.lemmas.List.Kept.{AllPairs-filter}
use Rattle.commutative_ring.proofs.SmallCases.{positive_of_test}
use Rattle.exact_forms.specs.Rational.{Rational, whole, ◌+ℚ◌, ◌*ℚ◌}
use Rattle.exact_forms.specs.Signs.{IsPositive, IsNonnegative}
use Rattle.exact_forms.specs.Vectors.{coordinate, IsNonzero, ComesBefore}
use Rattle.exact_forms.specs.Factors.{WeightedVector, weighted_sum, IsFactorization}
use Rattle.exact_forms.specs.PositiveTerms.{has_weight, positive_terms, IsInOrder}
use Rattle.exact_forms.proofs.Rational.{zero_mul_ℚ, zero_add_ℚ}
use Rattle.exact_forms.proofs.Signs.{neg_positive}
use Rattle.exact_forms.proofs.Vectors.{before_irreflexive}
use Rattle.exact_forms.proofs.Factors.{weighted_sum-cons, others_of}

not_over : (n : ℤ) → int_lt (pos 0) n ≡ false → n ≤ℤ pos 0
not_over n e = grind (arith, ints)

weight_none : (x : Rational) → IsNonnegative x → int_lt (pos 0) x.num ≡ false → x ≡ whole (pos 0)
weight_none x h e =
    let low : pos 0 ≤ℤ x.num = h.numerator in
    let high : x.num ≤ℤ pos 0 = not_over x.num e in
    neg_positive x (omega (arith, ints))

weight_some : (x : Rational) → int_lt (pos 0) x.num ≡ true → IsPositive x
weight_some x e = record { numerator = positive_of_test x.num e }

pub weighted_sum-positive_terms : (terms : List WeightedVector) (i j : ℕ) → All (λ term. IsNonnegative term.weight) terms
    → weighted_sum (positive_terms terms) i j ≡ weighted_sum terms i j
unfolding positive_terms
weighted_sum-positive_terms [] i j h = refl
weighted_sum-positive_terms (term ∷ terms) i j h =
    by (has_weight term) refl (weighted_sum-positive_terms terms i j (others_of (λ t. IsNonnegative t.weight) term terms h))
  where
    by : (b : Bool) → has_weight term ≡ b → weighted_sum (filter has_weight terms) i j ≡ weighted_sum terms i j
        → weighted_sum (cond b (term ∷ filter has_weight terms) (filter has_weight terms)) i j ≡ weighted_sum (term ∷ terms) i j
    by true e rest = weighted_sum-cons term (filter has_weight terms) i j
        ∙ ap (λ s. term.weight *ℚ whole (coordinate term.vector i *ℤ coordinate term.vector j) +ℚ s) rest ∙ sym (weighted_sum-cons term terms i j)
    by false e rest = rest ∙ sym (
        weighted_sum-cons term terms i j
        ∙ ap (λ w. w *ℚ whole (coordinate term.vector i *ℤ coordinate term.vector j) +ℚ weighted_sum terms i j)
        (weight_none term.weight (h 0 term (omega arith)) e)
        ∙ ap (λ z. z +ℚ weighted_sum terms i j) (zero_mul_ℚ (whole (coordinate term.vector i *ℤ coordinate term.vector j)))
        ∙ zero_add_ℚ (weighted_sum terms i j))

pub factorization_of_positive_terms : (n : ℕ) (a : ℕ → ℕ → Rational) (terms : List WeightedVector) → All (λ term. IsNonnegative term.weight) terms
    → All (λ term. length term.vector ≡ n) terms → All (λ term. IsNonzero n term.vector) terms
    → IsInOrder terms → ((i j : ℕ) → i < n → j < n → weighted_sum terms i j ≡ a i j) → IsFactorization n a (positive_terms terms)
unfolding positive_terms
factorization_of_positive_terms n a terms nonneg sized nonzero order sum = record {
  positive = λ k d l. weight_some (slice_index_or (filter has_weight terms) k d).weight (filter_passes has_weight terms k d l);
  sized = All-filter has_weight (λ term. length term.vector ≡ n) terms sized;
  nonzero = All-filter has_weight (λ term. IsNonzero n term.vector) terms nonzero;
  distinct = AllPairs-filter (λ x y. x.vector ≢ y.vector) has_weight terms
      (λ i j d l m e. before_irreflexive (slice_index_or terms j d).vector (subst (λ v. ComesBefore v (slice_index_or terms j d).vector) e (order i j d l m)));
  sum = λ i j li lj. weighted_sum-positive_terms terms i j nonneg ∙ sum i j li lj;
}

pub positive_terms_in_order : (terms : List WeightedVector) → IsInOrder terms → IsInOrder (positive_terms terms)
unfolding positive_terms
positive_terms_in_order terms order = AllPairs-filter (λ x y. ComesBefore x.vector y.vector) has_weight terms order
