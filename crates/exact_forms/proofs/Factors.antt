-- Laws of factorizations, and that no factorization stands beside a separation.
use Rattle.std.specs.Prelude.{◌≡◌, ◌↔◌, ℕ, suc, ◌*◌, ◌<◌, ℤ, pos, ◌*ℤ◌, ◌<ℤ◌, List, [], ◌∷◌, ◌++◌, length, slice_index_or}
use Rattle.commutative_ring.proofs.Expand.{expand}
use Rattle.std.proofs.Common.{arith, sym, ◌∙◌, ap, ap₂, refl, subst}
use Rattle.std.proofs.lemmas.Int.{ints}
use Rattle.std.specs.List.{All}
use Rattle.commutative_ring.proofs.Ring.{num, ◌⊕◌, ◌⊗◌, v0, v1, v2, v3}
use Rattle.exact_forms.specs.Rational.{Rational, ratio, whole, ◌+ℚ◌, ◌*ℚ◌}
use Rattle.exact_forms.specs.Sums.{sum_ℚ}
use Rattle.exact_forms.specs.Forms.{form, inner}
use Rattle.exact_forms.specs.Signs.{IsPositive, IsNegative, IsNonnegative}
use Rattle.exact_forms.specs.Vectors.{coordinate, IsNonzero}
use Rattle.exact_forms.specs.Copositive.{Matrix, IsCopositive}
use Rattle.exact_forms.specs.Factors.{WeightedVector, weighted_sum, inner_ℚ, IsFactorization, Separates}
use Rattle.exact_forms.proofs.Rational.{ring_ℚ, zero_mul_ℚ, whole-mul, mul-ratio, ratio_same}
use Rattle.exact_forms.proofs.RationalSums.{sum_ℚ_same, sum_ℚ_swap, mul-sum_ℚ, sum_ℚ-zero, sum_ℚ_head, sums_ℚ_same, sums_ℚ-add, mul-sums_ℚ, sum_ℚ_none}
use Rattle.exact_forms.proofs.RationalSums.{whole-sums}
use Rattle.exact_forms.proofs.Forms.{form_is_inner}
use Rattle.exact_forms.proofs.Order.{one_le_square}
use Rattle.exact_forms.proofs.Signs.{negative-ratio, positive_nonneg, nonneg_add, nonneg_product, positive_add, positive_product, whole_nonneg, whole_positive}
use Rattle.exact_forms.proofs.Signs.{nonneg_zero, zero_nonneg, negative_not_nonneg, positive_not_zero}

-- ---- the weighted sum
pub weighted_sum-nil : (i j : ℕ) → weighted_sum [] i j ≡ whole (pos 0)
unfolding weighted_sum
weighted_sum-nil i j = refl

pub weighted_sum-cons : (term : WeightedVector) (terms : List WeightedVector) (i j : ℕ)
    → weighted_sum (term ∷ terms) i j ≡ term.weight *ℚ whole (coordinate term.vector i *ℤ coordinate term.vector j) +ℚ weighted_sum terms i j
unfolding weighted_sum
weighted_sum-cons term terms i j = refl

-- lists one after the other
pub weighted_sum-append : (xs ys : List WeightedVector) (i j : ℕ) → weighted_sum (xs ++ ys) i j ≡ weighted_sum xs i j +ℚ weighted_sum ys i j
weighted_sum-append [] ys i j = ring_ℚ (weighted_sum ys i j ∷ []) v0 (num (pos 0) ⊕ v0) refl ∙ ap (λ w. w +ℚ weighted_sum ys i j) (sym (weighted_sum-nil i j))
weighted_sum-append (x ∷ xs) ys i j =
    weighted_sum-cons x (xs ++ ys) i j
    ∙ ap (λ w. x.weight *ℚ whole (coordinate x.vector i *ℤ coordinate x.vector j) +ℚ w) (weighted_sum-append xs ys i j)
    ∙ ring_ℚ ((x.weight *ℚ whole (coordinate x.vector i *ℤ coordinate x.vector j)) ∷ weighted_sum xs i j ∷ weighted_sum ys i j ∷ []) (v0 ⊕ (v1 ⊕ v2))
    (v0 ⊕ v1 ⊕ v2) refl
    ∙ ap (λ w. w +ℚ weighted_sum ys i j) (sym (weighted_sum-cons x xs i j))

-- the step of a loop: a term more at the end
pub weighted_sum_push : (terms : List WeightedVector) (term : WeightedVector) (i j : ℕ)
    → weighted_sum (terms ++ term ∷ []) i j ≡ weighted_sum terms i j +ℚ term.weight *ℚ whole (coordinate term.vector i *ℤ coordinate term.vector j)
weighted_sum_push terms term i j =
    weighted_sum-append terms (term ∷ []) i j
    ∙ ap (λ w. weighted_sum terms i j +ℚ w) (weighted_sum-cons term [] i j
    ∙ ap (λ w. term.weight *ℚ whole (coordinate term.vector i *ℤ coordinate term.vector j) +ℚ w) (weighted_sum-nil i j))
    ∙ ring_ℚ (weighted_sum terms i j ∷ (term.weight *ℚ whole (coordinate term.vector i *ℤ coordinate term.vector j)) ∷ []) (v0 ⊕ (v1 ⊕ num (pos 0))) (v0 ⊕ v1)
    refl

-- by the terms' places
pub weighted_sum_by_places : (terms : List WeightedVector) (d : WeightedVector) (i j : ℕ)
    → weighted_sum terms i j
    ≡ sum_ℚ (length terms)
    (λ k. (slice_index_or terms k d).weight *ℚ whole (coordinate (slice_index_or terms k d).vector i *ℤ coordinate (slice_index_or terms k d).vector j))
weighted_sum_by_places [] d i j = weighted_sum-nil i j ∙ sym (sum_ℚ-zero _)
weighted_sum_by_places (term ∷ terms) d i j =
    weighted_sum-cons term terms i j
    ∙ ap (λ w. term.weight *ℚ whole (coordinate term.vector i *ℤ coordinate term.vector j) +ℚ w) (weighted_sum_by_places terms d i j)
    ∙ sym (sum_ℚ_head (length terms)
    (λ k. (slice_index_or (term ∷ terms) k d).weight *ℚ whole
    (coordinate (slice_index_or (term ∷ terms) k d).vector i *ℤ coordinate (slice_index_or (term ∷ terms) k d).vector j)))

-- ---- the inner product over the rationals
pub inner_ℚ_is : (n : ℕ) (w : Matrix) (a : ℕ → ℕ → Rational) → inner_ℚ n w a ≡ sum_ℚ n (λ i. sum_ℚ n (λ j. whole (w i j) *ℚ a i j))
unfolding inner_ℚ
inner_ℚ_is n w a = refl

pub inner_ℚ_same : (n : ℕ) (w u : Matrix) (a b : ℕ → ℕ → Rational) → ((i j : ℕ) → i < n → j < n → w i j ≡ u i j) → ((i j : ℕ) → i < n → j < n → a i j ≡ b i j)
    → inner_ℚ n w a ≡ inner_ℚ n u b
unfolding inner_ℚ
inner_ℚ_same n w u a b hw ha = sums_ℚ_same n n _ _ (λ i j li lj. ap₂ (λ (z : ℤ) (x : Rational). whole z *ℚ x) (hw i j li lj) (ha i j li lj))

pub inner_ℚ_none : (n : ℕ) (w : Matrix) (a : ℕ → ℕ → Rational) → ((i j : ℕ) → i < n → j < n → a i j ≡ whole (pos 0)) → inner_ℚ n w a ≡ whole (pos 0)
unfolding inner_ℚ
inner_ℚ_none n w a h =
    sum_ℚ_none n _ (λ i li. sum_ℚ_none n _ (λ j lj. ap (λ x. whole (w i j) *ℚ x) (h i j li lj)
    ∙ ring_ℚ (whole (w i j) ∷ []) (v0 ⊗ num (pos 0)) (num (pos 0)) refl))

-- ⟨W, c·A + B⟩
pub inner_ℚ_linear : (n : ℕ) (w : Matrix) (c : Rational) (a b : ℕ → ℕ → Rational)
    → inner_ℚ n w (λ i j. c *ℚ a i j +ℚ b i j) ≡ c *ℚ inner_ℚ n w a +ℚ inner_ℚ n w b
unfolding inner_ℚ
inner_ℚ_linear n w c a b =
    sums_ℚ_same n n _ _ (λ i j li lj. ring_ℚ (whole (w i j) ∷ c ∷ a i j ∷ b i j ∷ []) (v0 ⊗ (v1 ⊗ v2 ⊕ v3)) (v1 ⊗ (v0 ⊗ v2) ⊕ v0 ⊗ v3) refl)
    ∙ sums_ℚ-add n n (λ i j. c *ℚ (whole (w i j) *ℚ a i j)) (λ i j. whole (w i j) *ℚ b i j)
    ∙ ap (λ x. x +ℚ inner_ℚ n w b) (sym (mul-sums_ℚ c n n (λ i j. whole (w i j) *ℚ a i j)))

-- at whole entries
pub inner_ℚ-whole : (n : ℕ) (w s : Matrix) → inner_ℚ n w (λ i j. whole (s i j)) ≡ whole (inner n w s)
unfolding inner_ℚ inner
inner_ℚ-whole n w s = sums_ℚ_same n n _ _ (λ i j li lj. sym (whole-mul (w i j) (s i j))) ∙ sym (whole-sums n n (λ i j. w i j *ℤ s i j))

-- at xxᵗ it is W[x]
pub inner_ℚ_of_square : (n : ℕ) (w : Matrix) (x : ℕ → ℤ) → inner_ℚ n w (λ i j. whole (x i *ℤ x j)) ≡ whole (form n w x)
inner_ℚ_of_square n w x = inner_ℚ-whole n w (λ i j. x i *ℤ x j) ∙ ap whole (sym (form_is_inner n w x))

-- the value of a combination
pub inner_ℚ_of_combination : (n m : ℕ) (w : Matrix) (c : ℕ → Rational) (e : ℕ → ℕ → ℕ → Rational) (x : ℕ → ℕ → Rational)
    → ((i j : ℕ) → i < n → j < n → sum_ℚ m (λ k. c k *ℚ e k i j) ≡ x i j) → inner_ℚ n w x ≡ sum_ℚ m (λ k. c k *ℚ inner_ℚ n w (e k))
unfolding inner_ℚ
inner_ℚ_of_combination n m w c e x h =
    sum_ℚ_same n _ _ (λ i li.
    sum_ℚ_same n _ _ (λ j lj.
    ap (λ y. whole (w i j) *ℚ y) (sym (h i j li lj))
    ∙ mul-sum_ℚ (whole (w i j)) m (λ k. c k *ℚ e k i j)
    ∙ sum_ℚ_same m _ (λ k. c k *ℚ (whole (w i j) *ℚ e k i j)) (λ k lk. ring_ℚ (whole (w i j) ∷ c k ∷ e k i j ∷ []) (v0 ⊗ (v1 ⊗ v2)) (v1 ⊗ (v0 ⊗ v2)) refl))
    ∙ sum_ℚ_swap n m (λ j k. c k *ℚ (whole (w i j) *ℚ e k i j)))
    ∙ sum_ℚ_swap n m (λ i k. sum_ℚ n (λ j. c k *ℚ (whole (w i j) *ℚ e k i j)))
    ∙ sum_ℚ_same m _ _ (λ k lk. sym (mul-sums_ℚ (c k) n n (λ i j. whole (w i j) *ℚ e k i j)))

pub inner_ℚ_times : (n : ℕ) (w : Matrix) (t : Rational) (x : ℕ → ℕ → Rational) → inner_ℚ n w (λ i j. t *ℚ x i j) ≡ t *ℚ inner_ℚ n w x
unfolding inner_ℚ
inner_ℚ_times n w t x =
    sums_ℚ_same n n _ _ (λ i j li lj. ring_ℚ (whole (w i j) ∷ t ∷ x i j ∷ []) (v0 ⊗ (v1 ⊗ v2)) (v1 ⊗ (v0 ⊗ v2)) refl)
    ∙ sym (mul-sums_ℚ t n n (λ i j. whole (w i j) *ℚ x i j))

-- of the zero matrix
pub inner_ℚ_zero : (n : ℕ) (w : Matrix) (x : ℕ → ℕ → Rational) → ((i j : ℕ) → i < n → j < n → w i j ≡ pos 0) → inner_ℚ n w x ≡ whole (pos 0)
unfolding inner_ℚ
inner_ℚ_zero n w x h = sum_ℚ_none n _ (λ i li. sum_ℚ_none n _ (λ j lj. ap (λ (y : ℤ). whole y *ℚ x i j) (h i j li lj) ∙ zero_mul_ℚ (x i j)))

-- at entries that are whole
pub inner_ℚ_whole : (n : ℕ) (w s : Matrix) (x : ℕ → ℕ → Rational) → ((i j : ℕ) → i < n → j < n → x i j ≡ whole (s i j)) → inner_ℚ n w x ≡ whole (inner n w s)
inner_ℚ_whole n w s x h = inner_ℚ_same n w w x (λ i j. whole (s i j)) (λ i j li lj. refl) h ∙ inner_ℚ-whole n w s

-- p/d is 1/d times p
ratio_as_product : (p : ℤ) (d : ℕ) → 0 < d → ratio p d ≡ ratio (pos 1) d *ℚ whole p
unfolding whole
ratio_as_product p d hd =
    ratio_same p (pos 1 *ℤ p) d (d * 1) hd (omega arith) (turn p (pos d))
    ∙ sym (mul-ratio (pos 1) p d 1 hd (omega arith))
  where
    turn : (p d : ℤ) → p *ℤ (d *ℤ pos 1) ≡ (pos 1 *ℤ p) *ℤ d
    turn p d = simp expand

-- at entries over one denominator
pub inner_ℚ-ratio : (n : ℕ) (w s : Matrix) (d : ℕ) → 0 < d → inner_ℚ n w (λ i j. ratio (s i j) d) ≡ ratio (inner n w s) d
inner_ℚ-ratio n w s d hd =
    inner_ℚ_same n w w _ (λ i j. ratio (pos 1) d *ℚ whole (s i j) +ℚ whole (pos 0)) (λ i j li lj. refl)
    (λ i j li lj. ratio_as_product (s i j) d hd ∙ ring_ℚ (ratio (pos 1) d ∷ whole (s i j) ∷ []) (v0 ⊗ v1) (v0 ⊗ v1 ⊕ num (pos 0)) refl)
    ∙ inner_ℚ_linear n w (ratio (pos 1) d) (λ i j. whole (s i j)) (λ i j. whole (pos 0))
    ∙ ap₂ (λ x y. ratio (pos 1) d *ℚ x +ℚ y) (inner_ℚ-whole n w s) (inner_ℚ_none n w (λ i j. whole (pos 0)) (λ i j li lj. refl))
    ∙ ring_ℚ (ratio (pos 1) d ∷ whole (inner n w s) ∷ []) (v0 ⊗ v1 ⊕ num (pos 0)) (v0 ⊗ v1) refl
    ∙ sym (ratio_as_product (inner n w s) d hd)

-- ---- the values at the vectors
-- Σ weight·W[x]
pub weighted_values : ℕ → Matrix → List WeightedVector → Rational
weighted_values n w [] = whole (pos 0)
weighted_values n w (term ∷ terms) = term.weight *ℚ whole (form n w (coordinate term.vector)) +ℚ weighted_values n w terms

pub inner_ℚ_of_terms : (n : ℕ) (w : Matrix) (terms : List WeightedVector) → inner_ℚ n w (weighted_sum terms) ≡ weighted_values n w terms
unfolding weighted_values
inner_ℚ_of_terms n w [] = inner_ℚ_none n w (weighted_sum []) (λ i j li lj. weighted_sum-nil i j)
inner_ℚ_of_terms n w (term ∷ terms) =
    inner_ℚ_same n w w _ (λ i j. term.weight *ℚ whole (coordinate term.vector i *ℤ coordinate term.vector j) +ℚ weighted_sum terms i j) (λ i j li lj. refl)
    (λ i j li lj. weighted_sum-cons term terms i j)
    ∙ inner_ℚ_linear n w term.weight (λ i j. whole (coordinate term.vector i *ℤ coordinate term.vector j)) (weighted_sum terms)
    ∙ ap₂ (λ x y. term.weight *ℚ x +ℚ y) (inner_ℚ_of_square n w (coordinate term.vector)) (inner_ℚ_of_terms n w terms)

first_of : (P : WeightedVector → Type 0) (term : WeightedVector) (terms : List WeightedVector) → All P (term ∷ terms) → P term
first_of P term terms h = h 0 term (omega arith)

pub others_of : (P : WeightedVector → Type 0) (term : WeightedVector) (terms : List WeightedVector) → All P (term ∷ terms) → All P terms
others_of P term terms h = λ k d l. h (suc k) d (omega arith)

values_nonneg : (n : ℕ) (w : Matrix) (terms : List WeightedVector) → IsCopositive n w → All (λ term. IsPositive term.weight) terms
    → All (λ term. length term.vector ≡ n) terms → IsNonnegative (weighted_values n w terms)
unfolding weighted_values
values_nonneg n w [] h positive sized = zero_nonneg
values_nonneg n w (term ∷ terms) h positive sized =
    nonneg_add (term.weight *ℚ whole (form n w (coordinate term.vector))) (weighted_values n w terms)
    (nonneg_product term.weight (whole (form n w (coordinate term.vector)))
    (positive_nonneg term.weight (first_of (λ term. IsPositive term.weight) term terms positive))
    (whole_nonneg (form n w (coordinate term.vector)) (h term.vector (first_of (λ term. length term.vector ≡ n) term terms sized))))
    (values_nonneg n w terms h (others_of (λ term. IsPositive term.weight) term terms positive) (others_of (λ term. length term.vector ≡ n) term terms sized))

-- a copositive W has ⟨W,A⟩ at least 0 where A has a factorization
pub factorization_nonneg : (n : ℕ) (w : Matrix) (a : ℕ → ℕ → Rational) (terms : List WeightedVector) → IsCopositive n w → IsFactorization n a terms
    → IsNonnegative (inner_ℚ n w a)
factorization_nonneg n w a terms h factors =
    subst IsNonnegative (sym (inner_ℚ_of_terms n w terms) ∙ inner_ℚ_same n w w (weighted_sum terms) a (λ i j li lj. refl) factors.sum)
    (values_nonneg n w terms h factors.positive factors.sized)

-- where W separates A there is no factorization
pub separated_not_factored : (n : ℕ) (w : Matrix) (a : ℕ → ℕ → Rational) (terms : List WeightedVector) → Separates n w a → IsFactorization n a terms → ⊥
separated_not_factored n w a terms h factors = negative_not_nonneg (inner_ℚ n w a) h.negative (factorization_nonneg n w a terms h.copositive factors)

-- A over one denominator: W separates it exactly where ⟨W,S⟩ is below 0, for A = S/d
pub separates_over : (n : ℕ) (w s : Matrix) (d : ℕ) → 0 < d → Separates n w (λ i j. ratio (s i j) d) ↔ (IsCopositive n w × (inner n w s <ℤ pos 0))
separates_over n w s d hd = (
  λ h. (h.copositive, (negative-ratio (inner n w s) d hd).0 (subst IsNegative (inner_ℚ-ratio n w s d hd) h.negative)),
  λ h. record { copositive = h.0; negative = subst IsNegative (sym (inner_ℚ-ratio n w s d hd)) ((negative-ratio (inner n w s) d hd).1 h.1) },
)

-- ---- the entries below n decide
pub factorization_same : (n : ℕ) (a b : ℕ → ℕ → Rational) (terms : List WeightedVector) → ((i j : ℕ) → i < n → j < n → a i j ≡ b i j)
    → IsFactorization n a terms → IsFactorization n b terms
factorization_same n a b terms e h =
    record { positive = h.positive; sized = h.sized; nonzero = h.nonzero; distinct = h.distinct; sum = λ i j li lj. h.sum i j li lj ∙ e i j li lj }

pub separates_same : (n : ℕ) (w : Matrix) (a b : ℕ → ℕ → Rational) → ((i j : ℕ) → i < n → j < n → a i j ≡ b i j) → Separates n w a → Separates n w b
separates_same n w a b e h = record { copositive = h.copositive; negative = subst IsNegative (inner_ℚ_same n w w a b (λ i j li lj. refl) e) h.negative }

-- ---- the empty list factors the zero matrix alone
pub empty_factors : (n : ℕ) (a : ℕ → ℕ → Rational) → ((i j : ℕ) → i < n → j < n → a i j ≡ whole (pos 0)) → IsFactorization n a []
empty_factors n a h = record {
  positive = λ k d l. absurd (omega arith);
  sized = λ k d l. absurd (omega arith);
  nonzero = λ k d l. absurd (omega arith);
  distinct = λ i j d l m. absurd (omega arith);
  sum = λ i j li lj. weighted_sum-nil i j ∙ sym (h i j li lj);
}

pub empty_factors_zero : (n : ℕ) (a : ℕ → ℕ → Rational) → IsFactorization n a [] → (i j : ℕ) → i < n → j < n → a i j ≡ whole (pos 0)
empty_factors_zero n a h i j li lj = sym (h.sum i j li lj) ∙ weighted_sum-nil i j

-- a diagonal entry of the weighted sum is at least 0
diagonal_nonneg : (terms : List WeightedVector) (p : ℕ) → All (λ term. IsPositive term.weight) terms → IsNonnegative (weighted_sum terms p p)
diagonal_nonneg [] p positive = nonneg_zero (weighted_sum [] p p) (weighted_sum-nil p p)
diagonal_nonneg (term ∷ terms) p positive =
    subst IsNonnegative (sym (weighted_sum-cons term terms p p))
    (nonneg_add (term.weight *ℚ whole (coordinate term.vector p *ℤ coordinate term.vector p)) (weighted_sum terms p p)
    (nonneg_product term.weight (whole (coordinate term.vector p *ℤ coordinate term.vector p))
    (positive_nonneg term.weight (first_of (λ term. IsPositive term.weight) term terms positive))
    (whole_nonneg (coordinate term.vector p *ℤ coordinate term.vector p) (omega (arith, ints))))
    (diagonal_nonneg terms p (others_of (λ term. IsPositive term.weight) term terms positive)))

-- and the zero matrix has no other factorization
pub zero_factors_empty : (n : ℕ) (a : ℕ → ℕ → Rational) (terms : List WeightedVector) → ((i j : ℕ) → i < n → j < n → a i j ≡ whole (pos 0))
    → IsFactorization n a terms → terms ≡ []
zero_factors_empty n a [] none h = refl
zero_factors_empty n a (term ∷ terms) none h =
    let place : IsNonzero n term.vector = first_of (λ term. IsNonzero n term.vector) term terms h.nonzero in
    let p : ℕ = place.0 in
    let square : IsPositive (whole (coordinate term.vector p *ℤ coordinate term.vector p)) =
    whole_positive _ (one_le_square (coordinate term.vector p) place.2) in
    let over : IsPositive (term.weight *ℚ whole (coordinate term.vector p *ℤ coordinate term.vector p) +ℚ weighted_sum terms p p) =
    positive_add (term.weight *ℚ whole (coordinate term.vector p *ℤ coordinate term.vector p)) (weighted_sum terms p p)
    (positive_product term.weight (whole (coordinate term.vector p *ℤ coordinate term.vector p))
    (first_of (λ term. IsPositive term.weight) term terms h.positive) square)
    (diagonal_nonneg terms p (others_of (λ term. IsPositive term.weight) term terms h.positive)) in
    absurd (positive_not_zero _ over (sym (weighted_sum-cons term terms p p) ∙ h.sum p p place.1 place.1 ∙ none p p place.1 place.1))
