-- What is left of a numerator and a denominator when their greatest common divisor is taken out.
use Rattle.std.specs.Prelude.{◌≡◌, ℕ, zero, suc, ◌*◌, ◌/◌, ◌<◌, ℤ, pos, negsuc, neg_ℤ, nat_abs, T, ltb, eqb}
use Rattle.std.proofs.Common.{arith, ◌∙◌, ap, refl, subst, lt→ltb, ltb→lt}
use Rattle.std.specs.Int.{IsGcd}
use Rattle.std.proofs.lemmas.Nat.Gcd.{same_from_IsGcd}
use native.Mathlib.Nat.{pos_of_dvd_of_pos, div-mul_cancel}
use Rattle.commutative_ring.specs.Gcd.{gcd_of, divided}
use Rattle.commutative_ring.proofs.Gcd.{gcd_of_is, gcd_of_scaled}

pub nat_abs-divided : (z : ℤ) (g : ℕ) → nat_abs (divided z g) ≡ nat_abs z / g
nat_abs-divided (pos a) g = refl
nat_abs-divided (negsuc a) g = nat_abs-neg (suc a / g)
  where
    nat_abs-neg : (n : ℕ) → nat_abs (neg_ℤ (pos n)) ≡ n
    nat_abs-neg zero = refl
    nat_abs-neg (suc n) = refl

pub gcd_positive : (a d : ℕ) → 0 < gcd_of a (suc d)
gcd_positive a d = pos_of_dvd_of_pos (gcd_of_is a (suc d)).1 (omega arith)

pub part_times : (a d : ℕ) → suc d / gcd_of a (suc d) * gcd_of a (suc d) ≡ suc d
part_times a d = div-mul_cancel (gcd_of a (suc d)) (gcd_of_is a (suc d)).1

pub above_times : (a d : ℕ) → a / gcd_of a (suc d) * gcd_of a (suc d) ≡ a
above_times a d = div-mul_cancel (gcd_of a (suc d)) (gcd_of_is a (suc d)).0

pub part_positive : (a d : ℕ) → T (ltb 0 (suc d / gcd_of a (suc d)))
part_positive a d = lt→ltb 0 _ (some (suc d / gcd_of a (suc d)) (gcd_of a (suc d)) (part_times a d))
  where
    some : (q g : ℕ) → q * g ≡ suc d → 0 < q
    some zero g e = absurd (omega arith)
    some (suc q) g e = omega arith

pub part_above : (a d : ℕ) → 0 < d → 0 < d / gcd_of a d
part_above a zero h = absurd (omega arith)
part_above a (suc d) h = ltb→lt 0 (suc d / gcd_of a (suc d)) (part_positive a d)

-- two parts by one number, crosswise
pub cross_parts : (e d x y g : ℕ) → x * g ≡ e → y * g ≡ d → e * y ≡ d * x
cross_parts e d x y g h k = rw (← h, ← k) (omega arith)

is_one : (n g : ℕ) → 0 < g → n * g ≡ g → n ≡ 1
is_one zero g p e = absurd (omega arith)
is_one (suc zero) g p e = refl
is_one (suc (suc n)) g p e = absurd (omega arith)

pub parts_lowest : (a d : ℕ) → gcd_of (a / gcd_of a (suc d)) (suc d / gcd_of a (suc d)) ≡ 1
parts_lowest a d =
    let g : ℕ = gcd_of a (suc d) in
    let scaled : IsGcd (a / g * g) (suc d / g * g) (gcd_of (a / g) (suc d / g) * g) = gcd_of_scaled (a / g) (suc d / g) g (gcd_positive a d) in
    let here : IsGcd a (suc d) (gcd_of (a / g) (suc d / g) * g) = relabel scaled (above_times a d) (part_times a d) in
    is_one _ g (gcd_positive a d) (same_from_IsGcd a (suc d) _ g here (gcd_of_is a (suc d)))
  where
    relabel : {a b g c e : ℕ} → IsGcd a b g → a ≡ c → b ≡ e → IsGcd c e g
    relabel {b = b} {g = g} {c = c} h p q = subst (λ x. IsGcd c x g) q (subst (λ x. IsGcd x b g) p h)

pub part_lowest : (z : ℤ) (d : ℕ) → T (eqb (gcd_of (nat_abs (divided z (gcd_of (nat_abs z) (suc d)))) (suc d / gcd_of (nat_abs z) (suc d))) 1)
part_lowest z d =
    let e : gcd_of (nat_abs (divided z (gcd_of (nat_abs z) (suc d)))) (suc d / gcd_of (nat_abs z) (suc d)) ≡ 1
    = ap (λ (n : ℕ). gcd_of n (suc d / gcd_of (nat_abs z) (suc d))) (nat_abs-divided z (gcd_of (nat_abs z) (suc d))) ∙ parts_lowest (nat_abs z) d in
    rw e tt
