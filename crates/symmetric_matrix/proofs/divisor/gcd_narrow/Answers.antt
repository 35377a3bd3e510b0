use Rattle.std.proofs.Common.{arith, sym, ◌∙◌, ap}
use Rattle.commutative_ring.specs.Gcd.{gcd_of}
use Rattle.commutative_ring.proofs.Gcd.{gcd_of-zero}
use Rattle.symmetric_matrix.proofs.BinaryDivisors.{shifted_back, zero_gcd_of}
use Rattle.symmetric_matrix.proofs.divisor.gcd_narrow.Goals as goal

pub returns-then-left-eq0 : goal.returns-then-left-eq0
returns-then-left-eq0 c = sym (ap (λ n. gcd_of n c.args.right) c.if-left-eq0.true ∙ zero_gcd_of c.args.right)

pub returns-then-right-eq0 : goal.returns-then-right-eq0
returns-then-right-eq0 c = sym (ap (λ n. gcd_of c.args.left n) c.if-right-eq0.true ∙ gcd_of-zero c.args.left)

pub gcd_of_odd-requires-clause-left : goal.gcd_of_odd-requires-clause-left
gcd_of_odd-requires-clause-left c = (shifted_back c.args.left c.args.right (omega arith) (omega arith) (omega arith) (omega arith)).0

pub gcd_of_odd-requires-clause-right : goal.gcd_of_odd-requires-clause-right
gcd_of_odd-requires-clause-right c = (shifted_back c.args.left c.args.right (omega arith) (omega arith) (omega arith) (omega arith)).1

pub returns : goal.returns
returns c =
    rw (c.gcd_of_odd.ensures, c.min.ensures) (shifted_back c.args.left c.args.right (omega arith) (omega arith) (omega arith) (omega arith)).2
