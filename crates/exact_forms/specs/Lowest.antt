-- What holds of the numerator and the denominator that a program keeps of a fraction.
--
--     IsLowest n d    d is at least 1, n and d have no common divisor but 1, and n fits
--
-- A number fits if its magnitude is at most 2^127 - 1. The denominator fits by its type.
use Rattle.std.specs.Prelude.{◌≡◌, ◌<◌, ◌^◌, ℤ, pos, ◌≤ℤ◌, nat_abs}
use Rattle.commutative_ring.specs.Gcd.{gcd_of}

pub record IsLowest (n d : ℤ) : Type 0 where
  pub positive : pos 1 ≤ℤ d
  pub lowest : gcd_of (nat_abs n) (nat_abs d) ≡ 1
  pub fits : nat_abs n < 2 ^ 127
