-- A fraction in lowest terms is what its two numbers say.
use Rattle.std.specs.Prelude.{◌≡◌, ◌≢◌, ◌↔◌, ℕ, zero, suc, ◌<◌, ◌≤◌, ◌/◌, ◌^◌, ℤ, pos, negsuc, neg_ℤ, ◌*ℤ◌, ◌≤ℤ◌, ◌<ℤ◌, nat_abs, T, ltb, eqb}
use Rattle.std.proofs.Common.{arith, sym, ◌∙◌, ap, ap₂, refl, subst, lt_of_le_of_lt}
use Rattle.std.proofs.lemmas.Int.{ints}
use native.Mathlib.Nat.{div-le_self}
use Rattle.commutative_ring.specs.Gcd.{gcd_of, gcd_steps, divided}
use Rattle.commutative_ring.proofs.Gcd.{gcd_of-step}
use Rattle.commutative_ring.proofs.Coprime.{gcd_comm}
use Rattle.commutative_ring.proofs.Lowest.{nat_abs-divided}
use Rattle.commutative_ring.proofs.SmallCases.{mod_one, nat_abs-neg}
use Rattle.exact_forms.specs.Rational.{Rational, ratio, whole, neg_ℚ, inverse}
use Rattle.exact_forms.proofs.Rational.{ratio_parts, ratio_value, ratio_same, den_positive, num_den_lowest}
use Rattle.exact_forms.specs.Lowest.{IsLowest}

eqb_of : (a b : ℕ) → a ≡ b → T (eqb a b)
eqb_of a b e = grind arith

ltb_of : (a : ℕ) → 0 < a → T (ltb 0 a)
ltb_of a h = grind arith

pub lowest_parts : (n d : ℤ) → IsLowest n d → ((ratio n (nat_abs d)).num ≡ n) × (pos (ratio n (nat_abs d)).den ≡ d)
lowest_parts n (pos d) h =
    let r : Rational = record { num = n; den = d; positive = ltb_of d (let p = h.positive in omega (arith, ints)); lowest = eqb_of _ 1 h.lowest } in
    (ap (λ (r : Rational). r.num) (ratio_parts r), ap (λ (r : Rational). pos r.den) (ratio_parts r))
lowest_parts n (negsuc d) h = absurd (let p = h.positive in omega (arith, ints))

-- the same of the rational number that the two numbers stand for
pub parts_of : (n d : ℤ) (x : Rational) → IsLowest n d → ratio n (nat_abs d) ≡ x → (n ≡ x.num) × (d ≡ pos x.den)
parts_of n d x h e = (sym (lowest_parts n d h).0 ∙ ap (λ (r : Rational). r.num) e, sym (lowest_parts n d h).1 ∙ ap (λ (r : Rational). pos r.den) e)

-- two numbers in lowest terms are a rational number of their own
pub ratio_of : (n d : ℤ) (x : Rational) → IsLowest n d → n ≡ x.num → d ≡ pos x.den → ratio n (nat_abs d) ≡ x
ratio_of n d x h p q = ap₂ (λ (n : ℤ) (d : ℤ). ratio n (nat_abs d)) p q ∙ ratio_parts x

-- the numbers of a rational number whose numerator fits
pub lowest_of : (x : Rational) → nat_abs x.num < 2 ^ 127 → IsLowest x.num (pos x.den)
lowest_of x h = record { positive = (let p = den_positive x in omega (arith, ints)); lowest = num_den_lowest x; fits = h }

-- both numbers over their common divisor
pub lowest_of_parts : (n d : ℤ) → pos 1 ≤ℤ d → nat_abs n < 2 ^ 127 → let g = gcd_of (nat_abs n) (nat_abs d) in
    IsLowest (divided n g) (divided d g) × (ratio (divided n g) (nat_abs (divided d g)) ≡ ratio n (nat_abs d))
unfolding ratio
lowest_of_parts n (pos zero) h k = absurd (omega (arith, ints))
lowest_of_parts n (pos (suc d)) h k =
    let small : nat_abs (divided n (gcd_of (nat_abs n) (suc d))) < 2 ^ 127 =
    rw (nat_abs-divided n (gcd_of (nat_abs n) (suc d))) (lt_of_le_of_lt (div-le_self (nat_abs n) (gcd_of (nat_abs n) (suc d))) k) in
    (lowest_of (ratio n (suc d)) small, ratio_parts (ratio n (suc d)))
lowest_of_parts n (negsuc d) h k = absurd (omega (arith, ints))

-- a whole number
pub lowest_whole : (n : ℤ) → nat_abs n < 2 ^ 127 → IsLowest n (pos 1)
unfolding gcd_of gcd_steps
lowest_whole n k = record { positive = omega (arith, ints); lowest = gcd_of-step (nat_abs n) 1 ∙ ap (λ r. gcd_of 1 r) (mod_one (nat_abs n)) ∙ refl; fits = k }

-- the other sign
pub lowest_neg : (n d : ℤ) → IsLowest n d → IsLowest (neg_ℤ n) d
lowest_neg n d h =
    record { positive = h.positive; lowest = ap (λ (m : ℕ). gcd_of m (nat_abs d)) (nat_abs-neg n) ∙ h.lowest; fits = (rw (nat_abs-neg n) h.fits) }

pub ratio-neg : (n d : ℤ) (x : Rational) → IsLowest n d → ratio n (nat_abs d) ≡ x → ratio (neg_ℤ n) (nat_abs d) ≡ neg_ℚ x
unfolding neg_ℚ
ratio-neg n d x h e = let p = parts_of n d x h e in ap₂ (λ (n : ℤ) (d : ℤ). ratio (neg_ℤ n) (nat_abs d)) p.0 p.1

-- zero
pub zero_num : (x : Rational) → x.num ≡ pos 0 ↔ (x ≡ whole (pos 0))
unfolding whole
zero_num x = (
  λ e. sym (ratio_parts x) ∙ ap (λ (n : ℤ). ratio n x.den) e ∙ ratio_same (pos 0) (pos 0) x.den 1 (den_positive x) (omega arith) (same (pos x.den)),
  λ e. ap (λ (r : Rational). r.num) e ∙ at_zero,
)
  where
    same : (d : ℤ) → pos 0 *ℤ pos 1 ≡ pos 0 *ℤ d
    same d = omega (arith, ints)

    by_one : (n d : ℤ) → n *ℤ pos 1 ≡ pos 0 *ℤ d → n ≡ pos 0
    by_one n d e = omega (arith, ints)

    at_zero : (ratio (pos 0) 1).num ≡ pos 0
    at_zero = by_one (ratio (pos 0) 1).num (pos (ratio (pos 0) 1).den) (ratio_value (pos 0) 1 (omega arith))

-- turned over, the sign moved to the numerator
positive_inverse : (n : ℤ) (d : ℕ) → pos 1 ≤ℤ n → ratio (pos d) (nat_abs n) ≡ inverse n d
unfolding inverse
positive_inverse (pos zero) d h = absurd (omega (arith, ints))
positive_inverse (pos (suc n)) d h = refl
positive_inverse (negsuc n) d h = absurd (omega (arith, ints))

negative_inverse : (n : ℤ) (d : ℕ) → n <ℤ pos 0 → ratio (neg_ℤ (pos d)) (nat_abs (neg_ℤ n)) ≡ inverse n d
unfolding inverse
negative_inverse (pos n) d h = absurd (omega (arith, ints))
negative_inverse (negsuc n) d h = refl

pub record IsInverse (n d : ℤ) (x : Rational) : Type 0 where
  pub lowest : IsLowest n d
  pub same : ratio n (nat_abs d) ≡ inverse x.num x.den

pub lowest_inverse : (n d : ℤ) (x : Rational) → IsLowest n d → nat_abs d < 2 ^ 127 → ratio n (nat_abs d) ≡ x → x ≢ whole (pos 0) → pos 0 ≤ℤ n → IsInverse d n x
lowest_inverse n d x h k e ne s =
    let p = parts_of n d x h e in
    let some : n ≢ pos 0 = λ z. ne ((zero_num x).0 (sym p.0 ∙ z)) in
    let above : pos 1 ≤ℤ n = omega (arith, ints) in
    record {
      lowest = (record { positive = above; lowest = gcd_comm (nat_abs d) (nat_abs n) ∙ h.lowest; fits = k });
      same = ap₂ (λ (d : ℤ) (n : ℤ). ratio d (nat_abs n)) p.1 p.0 ∙ positive_inverse x.num x.den (subst (λ (n : ℤ). pos 1 ≤ℤ n) p.0 above);
    }

pub lowest_inverse_neg : (n d : ℤ) (x : Rational) → IsLowest n d → nat_abs d < 2 ^ 127 → ratio n (nat_abs d) ≡ x → n <ℤ pos 0 → IsInverse (neg_ℤ d) (neg_ℤ n) x
lowest_inverse_neg n d x h k e s =
    let p = parts_of n d x h e in record {
      lowest = (record {
        positive = (omega (arith, ints));
        lowest = ap₂ gcd_of (nat_abs-neg d) (nat_abs-neg n) ∙ gcd_comm (nat_abs d) (nat_abs n) ∙ h.lowest;
        fits = (rw (nat_abs-neg d) k);
      });
      same = ap₂ (λ (d : ℤ) (n : ℤ). ratio (neg_ℤ d) (nat_abs (neg_ℤ n))) p.1 p.0 ∙ negative_inverse x.num x.den (subst (λ (n : ℤ). n <ℤ pos 0) p.0 s);
    }
