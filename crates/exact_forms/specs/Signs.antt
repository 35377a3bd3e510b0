-- Signs and order of rational numbers.
--
--     IsPositive x      x is over 0
--     IsNegative x      x is below 0
--     IsNonnegative x   x is at least 0
--
-- That x is below y is also IsPositive (y +ℚ neg_ℚ x).
use Rattle.std.specs.Prelude.{pos, ◌≤ℤ◌, ◌<ℤ◌}
use Rattle.exact_forms.specs.Rational.{Rational}

pub record IsPositive (x : Rational) : Type 0 where
  pub numerator : pos 1 ≤ℤ x.num

pub record IsNegative (x : Rational) : Type 0 where
  pub numerator : x.num <ℤ pos 0

pub record IsNonnegative (x : Rational) : Type 0 where
  pub numerator : pos 0 ≤ℤ x.num
