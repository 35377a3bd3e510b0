-- The greatest common divisor of the entries of a matrix.
--
--     divisor_from g entries          that of g and the magnitudes of the entries, as a number that computes
--     IsGreatestDivisor g entries     g divides each entry, and each number that does divides g
use Rattle.std.specs.Prelude.{ℕ, ℤ, nat_abs, List, [], ◌∷◌}
use Rattle.std.specs.List.{All}
use Prim.Native.Nat.{◌∣◌}
use Rattle.commutative_ring.specs.Gcd.{gcd_of}

unfoldable pub divisor_from : ℕ → List ℤ → ℕ
divisor_from g [] = g
divisor_from g (z ∷ rest) = divisor_from (gcd_of g (nat_abs z)) rest

pub record IsGreatestDivisor (g : ℕ) (entries : List ℤ) : Type 0 where
  pub divides : All (λ z. g ∣ nat_abs z) entries
  pub greatest : (d : ℕ) → All (λ z. d ∣ nat_abs z) entries → d ∣ g
