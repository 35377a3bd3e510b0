-- The signs of rational numbers.
use Rattle.std.specs.Prelude.{◌≡◌, ◌≢◌, ◌⊎◌, ◌↔◌, ℕ, zero, suc, ◌*◌, ◌<◌, ℤ, pos, negsuc, neg_ℤ, ◌*ℤ◌, ◌≤ℤ◌, ◌<ℤ◌, [], ◌∷◌}
use Rattle.std.proofs.Common.{arith, sym, ◌∙◌, ap, refl, subst, mul-pos, inl, inr}
use Rattle.std.proofs.lemmas.Int.{ints}
use Rattle.exact_forms.proofs.RationalSums.{sum_ℚ-zero, sum_ℚ-suc}
use Rattle.commutative_ring.proofs.Ring.{num, ◌⊕◌, ◌⊗◌, neg, v0, v1}
use Rattle.commutative_ring.proofs.Expand.{linear}
use Rattle.commutative_ring.proofs.SmallCases.{below_zero_or_not}
use Rattle.exact_forms.specs.Rational.{Rational, ratio, whole, inverse, neg_ℚ, ◌+ℚ◌, ◌*ℚ◌, ◌/ℚ◌}
use Rattle.exact_forms.specs.Sums.{sum_ℚ}
use Rattle.exact_forms.proofs.Rational.{ring_ℚ, ratio_value, ratio_parts, ratio_same, den_positive, mul-inverse}
use Rattle.exact_forms.proofs.Order.{positive_mul, nonneg_mul}
use Rattle.exact_forms.specs.Signs.{IsPositive, IsNegative, IsNonnegative}

den_at_least : (x : Rational) → pos 1 ≤ℤ pos x.den
den_at_least x = let d = den_positive x in omega (arith, ints)

-- ---- at a fraction
pub of_positive_product : (n d : ℤ) → pos 1 ≤ℤ d → pos 1 ≤ℤ (n *ℤ d) → pos 1 ≤ℤ n
of_positive_product (pos zero) d h k = absurd (omega (arith, ints))
of_positive_product (pos (suc n)) d h k = omega (arith, ints)
of_positive_product (negsuc n) (pos d) h k = absurd (omega (arith, ints))
of_positive_product (negsuc n) (negsuc d) h k = absurd (omega (arith, ints))

of_nonneg_product : (n d : ℤ) → pos 1 ≤ℤ d → pos 0 ≤ℤ (n *ℤ d) → pos 0 ≤ℤ n
of_nonneg_product (pos n) d h k = omega (arith, ints)
of_nonneg_product (negsuc n) (pos zero) h k = absurd (omega (arith, ints))
of_nonneg_product (negsuc n) (pos (suc d)) h k = absurd (omega (arith, ints))
of_nonneg_product (negsuc n) (negsuc d) h k = absurd (omega (arith, ints))

pub ratio_positive : (p : ℤ) (d : ℕ) → 0 < d → pos 1 ≤ℤ p → IsPositive (ratio p d)
ratio_positive p d hd h = record {
  numerator = of_positive_product (ratio p d).num (pos d) (omega (arith, ints))
      (subst (λ z. pos 1 ≤ℤ z) (sym (ratio_value p d hd)) (positive_mul p (pos (ratio p d).den) h (den_at_least (ratio p d))));
}

pub ratio_nonneg : (p : ℤ) (d : ℕ) → 0 < d → pos 0 ≤ℤ p → IsNonnegative (ratio p d)
ratio_nonneg p d hd h = record {
  numerator = of_nonneg_product (ratio p d).num (pos d) (omega (arith, ints))
      (subst (λ z. pos 0 ≤ℤ z) (sym (ratio_value p d hd)) (nonneg_mul p (pos (ratio p d).den) h (let e = den_at_least (ratio p d) in omega (arith, ints))));
}

pub whole_positive : (z : ℤ) → pos 1 ≤ℤ z → IsPositive (whole z)
unfolding whole
whole_positive z h = ratio_positive z 1 (omega arith) h

pub whole_nonneg : (z : ℤ) → pos 0 ≤ℤ z → IsNonnegative (whole z)
unfolding whole
whole_nonneg z h = ratio_nonneg z 1 (omega arith) h

-- the sign of a fraction is that of its numerator
pub positive-ratio : (p : ℤ) (d : ℕ) → 0 < d → IsPositive (ratio p d) ↔ (pos 1 ≤ℤ p)
positive-ratio p d hd = (
  λ h. of_positive_product p (pos (ratio p d).den) (den_at_least (ratio p d))
      (subst (λ z. pos 1 ≤ℤ z) (ratio_value p d hd) (positive_mul (ratio p d).num (pos d) h.numerator (omega (arith, ints)))),
  ratio_positive p d hd,
)

pub nonneg-ratio : (p : ℤ) (d : ℕ) → 0 < d → IsNonnegative (ratio p d) ↔ (pos 0 ≤ℤ p)
nonneg-ratio p d hd = (
  λ h. of_nonneg_product p (pos (ratio p d).den) (den_at_least (ratio p d))
      (subst (λ z. pos 0 ≤ℤ z) (ratio_value p d hd) (nonneg_mul (ratio p d).num (pos d) h.numerator (omega (arith, ints)))),
  ratio_nonneg p d hd,
)

pub negative_not_nonneg : (x : Rational) → IsNegative x → IsNonnegative x → ⊥
negative_not_nonneg x h k = let a = h.numerator in let b = k.numerator in omega (arith, ints)

pub negative_or_nonneg : (x : Rational) → IsNegative x ⊎ IsNonnegative x
negative_or_nonneg x = by x.num refl
  where
    by : (z : ℤ) → x.num ≡ z → IsNegative x ⊎ IsNonnegative x
    by (pos n) e = inr record { numerator = rw e (omega (arith, ints)) }
    by (negsuc n) e = inl record { numerator = rw e (omega (arith, ints)) }

pub negative-ratio : (p : ℤ) (d : ℕ) → 0 < d → IsNegative (ratio p d) ↔ (p <ℤ pos 0)
negative-ratio p d hd = (λ h. below_or (below_zero_or_not p) h, λ h. by h (negative_or_nonneg (ratio p d)))
  where
    below_or : ((p <ℤ pos 0) ⊎ (pos 0 ≤ℤ p)) → IsNegative (ratio p d) → p <ℤ pos 0
    below_or (inl l) h = l
    below_or (inr l) h = absurd (negative_not_nonneg (ratio p d) h (ratio_nonneg p d hd l))

    by : p <ℤ pos 0 → (IsNegative (ratio p d) ⊎ IsNonnegative (ratio p d)) → IsNegative (ratio p d)
    by h (inl l) = l
    by h (inr l) = absurd (let a = (nonneg-ratio p d hd).0 l in omega (arith, ints))

pub of_whole_positive : (z : ℤ) → IsPositive (whole z) → pos 1 ≤ℤ z
unfolding whole
of_whole_positive z h = (positive-ratio z 1 (omega arith)).0 h

pub of_whole_nonneg : (z : ℤ) → IsNonnegative (whole z) → pos 0 ≤ℤ z
unfolding whole
of_whole_nonneg z h = (nonneg-ratio z 1 (omega arith)).0 h

pub of_whole_negative : (z : ℤ) → IsNegative (whole z) → z <ℤ pos 0
unfolding whole
of_whole_negative z h = (negative-ratio z 1 (omega arith)).0 h

-- ---- sums and products
pub positive_add : (x y : Rational) → IsPositive x → IsNonnegative y → IsPositive (x +ℚ y)
unfolding ◌+ℚ◌
positive_add x y h k =
    let a : pos 1 ≤ℤ (x.num *ℤ pos y.den) = positive_mul x.num (pos y.den) h.numerator (den_at_least y) in
    let b : pos 0 ≤ℤ (y.num *ℤ pos x.den) = nonneg_mul y.num (pos x.den) k.numerator (let e = den_at_least x in omega (arith, ints)) in
    ratio_positive _ (x.den * y.den) (mul-pos (den_positive x) (den_positive y)) (omega (arith, linear))

pub nonneg_add : (x y : Rational) → IsNonnegative x → IsNonnegative y → IsNonnegative (x +ℚ y)
unfolding ◌+ℚ◌
nonneg_add x y h k =
    let a : pos 0 ≤ℤ (x.num *ℤ pos y.den) = nonneg_mul x.num (pos y.den) h.numerator (let e = den_at_least y in omega (arith, ints)) in
    let b : pos 0 ≤ℤ (y.num *ℤ pos x.den) = nonneg_mul y.num (pos x.den) k.numerator (let e = den_at_least x in omega (arith, ints)) in
    ratio_nonneg _ (x.den * y.den) (mul-pos (den_positive x) (den_positive y)) (omega (arith, linear))

pub positive_product : (x y : Rational) → IsPositive x → IsPositive y → IsPositive (x *ℚ y)
unfolding ◌*ℚ◌
positive_product x y h k = ratio_positive _ (x.den * y.den) (mul-pos (den_positive x) (den_positive y)) (positive_mul x.num y.num h.numerator k.numerator)

pub nonneg_product : (x y : Rational) → IsNonnegative x → IsNonnegative y → IsNonnegative (x *ℚ y)
unfolding ◌*ℚ◌
nonneg_product x y h k = ratio_nonneg _ (x.den * y.den) (mul-pos (den_positive x) (den_positive y)) (nonneg_mul x.num y.num h.numerator k.numerator)

pub positive_nonneg : (x : Rational) → IsPositive x → IsNonnegative x
positive_nonneg x h = record { numerator = let a = h.numerator in omega (arith, ints) }

pub zero_nonneg : IsNonnegative (whole (pos 0))
zero_nonneg = whole_nonneg (pos 0) (omega (arith, ints))

-- it is below 0 exactly where its opposite is over 0
pub negative_opposite : (x : Rational) → IsNegative x ↔ IsPositive (neg_ℚ x)
unfolding neg_ℚ
negative_opposite x = (
  λ h. ratio_positive (neg_ℤ x.num) x.den (den_positive x) (let a = h.numerator in omega (arith, ints)),
  λ h. record { numerator = let a = (positive-ratio (neg_ℤ x.num) x.den (den_positive x)).0 h in omega (arith, ints) },
)

pub one_positive : IsPositive (whole (pos 1))
one_positive = whole_positive (pos 1) (omega (arith, ints))

pub nonneg_zero : (x : Rational) → x ≡ whole (pos 0) → IsNonnegative x
nonneg_zero x e = subst IsNonnegative (sym e) zero_nonneg

-- ---- three cases
zero_numerator : (x : Rational) → x.num ≡ pos 0 → x ≡ whole (pos 0)
unfolding whole
zero_numerator x e =
    sym (ratio_parts x) ∙ ap (λ (n : ℤ). ratio n x.den) e
    ∙ ratio_same (pos 0) (pos 0) x.den 1 (den_positive x) (omega arith) (omega (arith, ints))

pub neg_positive : (x : Rational) → (neg_ℤ x.num) ≡ pos 0 → x ≡ whole (pos 0)
neg_positive x e = zero_numerator x (omega (arith, ints))

pub data Sign (x : Rational) : Type 0 where
  above : IsPositive x → Sign x
  none : x ≡ whole (pos 0) → Sign x
  below : IsPositive (neg_ℚ x) → Sign x

pub sign_of : (x : Rational) → Sign x
unfolding neg_ℚ
sign_of x = by x.num refl
  where
    by : (n : ℤ) → x.num ≡ n → Sign x
    by (pos zero) e = none (zero_numerator x e)
    by (pos (suc n)) e = above record { numerator = rw e (omega (arith, ints)) }
    by (negsuc n) e = below (ratio_positive (neg_ℤ x.num) x.den (den_positive x) (rw e (omega (arith, ints))))

pub zero_not_positive : IsPositive (whole (pos 0)) → ⊥
unfolding whole
zero_not_positive h =
    let one : 0 < 1 = omega arith in
    let e : (ratio (pos 0) 1).num *ℤ pos 1 ≡ pos 0 *ℤ pos (ratio (pos 0) 1).den = ratio_value (pos 0) 1 one in
    let a = h.numerator in
    omega (arith, ints)

pub not_both : (x : Rational) → IsPositive x → IsNonnegative (neg_ℚ x) → ⊥
not_both x h k =
    let s : IsPositive (x +ℚ neg_ℚ x) = positive_add x (neg_ℚ x) h k in
    zero_not_positive (subst IsPositive (ring_ℚ (x ∷ []) (v0 ⊕ neg v0) (num (pos 0)) refl) s)

pub positive_not_zero : (x : Rational) → IsPositive x → x ≢ whole (pos 0)
positive_not_zero x h e = not_both x h (subst IsNonnegative (sym (ap neg_ℚ e ∙ ring_ℚ [] (neg (num (pos 0))) (num (pos 0)) refl)) zero_nonneg)

pub positive_inverse : (x : Rational) → IsPositive x → IsPositive (inverse x.num x.den)
positive_inverse x h = by (sign_of (inverse x.num x.den))
  where
    one : x *ℚ inverse x.num x.den ≡ whole (pos 1)
    one = mul-inverse x (positive_not_zero x h)

    by : Sign (inverse x.num x.den) → IsPositive (inverse x.num x.den)
    by (above p) = p
    by (none e) = absurd (positive_not_zero (whole (pos 1)) one_positive (sym one ∙ ap (λ w. x *ℚ w) e ∙ ring_ℚ (x ∷ []) (v0 ⊗ num (pos 0)) (num (pos 0)) refl))
    by (below n) = absurd (not_both (whole (pos 1)) one_positive
        (subst IsNonnegative (ring_ℚ (x ∷ inverse x.num x.den ∷ []) (v0 ⊗ neg v1) (neg (v0 ⊗ v1)) refl ∙ ap neg_ℚ one)
        (positive_nonneg _ (positive_product x (neg_ℚ (inverse x.num x.den)) h n))))

pub positive_quotient : (x y : Rational) → IsPositive x → IsPositive y → IsPositive (x /ℚ y)
unfolding ◌/ℚ◌
positive_quotient x y h k = positive_product x (inverse y.num y.den) h (positive_inverse y k)

pub total_nonneg : (n : ℕ) (f : ℕ → Rational) → ((k : ℕ) → k < n → IsNonnegative (f k)) → IsNonnegative (sum_ℚ n f)
total_nonneg zero f h = subst IsNonnegative (sym (sum_ℚ-zero f)) zero_nonneg
total_nonneg (suc n) f h =
    subst IsNonnegative (sym (sum_ℚ-suc n f)) (nonneg_add (sum_ℚ n f) (f n) (total_nonneg n f (λ k l. h k (omega arith))) (h n (omega arith)))
