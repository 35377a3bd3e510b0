use Rattle.std.proofs.Common.{◌≡◌, take, map, nat_abs, ℤ}
use Rattle.commutative_ring.specs.Gcd.{divided}
use Rattle.symmetric_matrix.proofs.combining.divide_lower.Given as goal

abbrev pub invariant-loop-entry : goal.invariant-loop-entry
invariant-loop-entry l = l.parts.items ≡ map (λ (z : ℤ). divided z (nat_abs l.divisor)) (take l.entry-index l.lower)
