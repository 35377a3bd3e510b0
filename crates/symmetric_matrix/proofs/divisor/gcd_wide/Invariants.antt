use Rattle.std.proofs.Common.{◌≡◌}
use Rattle.commutative_ring.specs.Gcd.{gcd_of}
use Rattle.symmetric_matrix.proofs.divisor.gcd_wide.Given as goal

abbrev pub invariant-loop-a : goal.invariant-loop-a
invariant-loop-a l = gcd_of l.left l.right ≡ gcd_of l.a l.b

abbrev pub decreases-loop-a : goal.decreases-loop-a
decreases-loop-a l = l.b
