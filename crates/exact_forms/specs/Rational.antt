-- Rational numbers in lowest terms.
--
--     Rational           a numerator and a denominator of at least 1 that have no common divisor but 1
--     ratio p d          p over d, for d of at least 1
--     whole z            a whole number
--     x +ℚ y, x -ℚ y     sum and difference
--     x *ℚ y, x /ℚ y     product and quotient; x /ℚ y is 0 where y is 0
--     neg_ℚ x            the opposite
--     inverse p d        d over p, for p not 0
--     x <ℚ y, x ≤ℚ y     the order, by products crosswise
--
-- Two pairs (p, q) and (r, s) with q and s of at least 1 have one ratio exactly where p·s ≡ r·q.
use Rattle.std.specs.Prelude.{ℕ, zero, suc, ℤ, pos, negsuc, neg_ℤ, nat_abs, ◌*◌, ◌/◌, ◌+ℤ◌, ◌*ℤ◌, ◌≤ℤ◌, ◌<ℤ◌, T, ltb, eqb}
use Rattle.commutative_ring.specs.Gcd.{gcd_of, divided}
use Rattle.commutative_ring.proofs.Lowest.{part_positive, part_lowest}

pub record Rational : Type 0 where
  pub num : ℤ
  pub den : ℕ
  pub positive : T (ltb 0 den)
  pub lowest : T (eqb (gcd_of (nat_abs num) den) 1)

-- over 0 it is taken as over 1
unfoldable pub ratio : ℤ → ℕ → Rational
ratio p zero =
    record {
      num = divided p (gcd_of (nat_abs p) 1);
      den = 1 / gcd_of (nat_abs p) 1;
      positive = part_positive (nat_abs p) 0;
      lowest = part_lowest p 0;
    }
ratio p (suc d) =
    record {
      num = divided p (gcd_of (nat_abs p) (suc d));
      den = suc d / gcd_of (nat_abs p) (suc d);
      positive = part_positive (nat_abs p) d;
      lowest = part_lowest p d;
    }

infixl 6 ◌+ℚ◌ ◌-ℚ◌
infixl 7 ◌*ℚ◌
infix 50 ◌≤ℚ◌ ◌<ℚ◌
unfoldable pub whole : ℤ → Rational
whole z = ratio z 1

unfoldable pub ◌+ℚ◌ : Rational → Rational → Rational
x +ℚ y = ratio (x.num *ℤ pos y.den +ℤ y.num *ℤ pos x.den) (x.den * y.den)

unfoldable pub ◌*ℚ◌ : Rational → Rational → Rational
x *ℚ y = ratio (x.num *ℤ y.num) (x.den * y.den)

unfoldable pub neg_ℚ : Rational → Rational
neg_ℚ x = ratio (neg_ℤ x.num) x.den

unfoldable pub ◌-ℚ◌ : Rational → Rational → Rational
x -ℚ y = x +ℚ neg_ℚ y

unfoldable pub inverse : ℤ → ℕ → Rational
inverse (pos zero) d = whole (pos 0)
inverse (pos (suc n)) d = ratio (pos d) (suc n)
inverse (negsuc n) d = ratio (neg_ℤ (pos d)) (suc n)

unfoldable pub ◌/ℚ◌ : Rational → Rational → Rational
x /ℚ y = x *ℚ inverse y.num y.den

infixl 7 ◌/ℚ◌
pub record ◌≤ℚ◌ (x y : Rational) : Type 0 where
  pub crosswise : (x.num *ℤ pos y.den) ≤ℤ (y.num *ℤ pos x.den)

pub record ◌<ℚ◌ (x y : Rational) : Type 0 where
  pub crosswise : (x.num *ℤ pos y.den) <ℤ (y.num *ℤ pos x.den)
