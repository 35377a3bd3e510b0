use Rattle.std.proofs.Common.{arith}
use Rattle.commutative_ring.proofs.Gcd.{gcd_of-step, gcd_of-zero}
use Rattle.symmetric_matrix.proofs.divisor.gcd_wide.Goals as goal

pub returns-then-b-eq0 : goal.returns-then-b-eq0
returns-then-b-eq0 c = grind (arith, gcd_of-zero)

pub loop-a-preserved : goal.loop-a-preserved
loop-a-preserved c = grind (arith, gcd_of-step)
