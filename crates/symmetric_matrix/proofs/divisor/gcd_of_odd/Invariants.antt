use Rattle.std.proofs.Common.{◌≡◌, ◌+◌, ◌%◌, ◌^◌, ◌<◌}
use Rattle.commutative_ring.specs.Gcd.{gcd_of}
use Rattle.symmetric_matrix.proofs.divisor.gcd_of_odd.Given as goal

abbrev pub invariant-loop-a : goal.invariant-loop-a
invariant-loop-a l =
    record { a_odd : l.a % 2 ≡ 1; b_odd : l.b % 2 ≡ 1; a_fits : l.a < 2 ^ 64; b_fits : l.b < 2 ^ 64; same : gcd_of l.left l.right ≡ gcd_of l.a l.b }

abbrev pub decreases-loop-a : goal.decreases-loop-a
decreases-loop-a l = l.a + l.b
