use Rattle.std.proofs.Common.{◌≡◌, ◌<◌, ◌^◌, arith, ◌∙◌, ap, sym, subst, to_z-of_z, nat_abs, pos}
use Rattle.std.proofs.lemmas.Int.{ints, to_z_pos}
use Rattle.std.specs.Int.{IsGcd}
use mir.Syntax.{w128}
use Rattle.commutative_ring.specs.Gcd.{gcd_of}
use Rattle.commutative_ring.proofs.Gcd.{gcd_of_is}
use Rattle.symmetric_matrix.proofs.Divisors.{gcd_of_below, gcd_of_abs}
use Rattle.symmetric_matrix.proofs.divisor.gcd.Goals as goal

found : (c : goal.After-gcd_wide) → c.gcd_wide.result ≡ gcd_of (nat_abs c.args.left) (nat_abs c.args.right)
found c =
    gcd_of_abs c.gcd_wide.result c.unsigned_abs.result c.unsigned_abs-2.result (nat_abs c.args.left) (nat_abs c.args.right) c.gcd_wide.ensures
    (c.unsigned_abs.ensures.value ∙ ap nat_abs (to_z-of_z c.ranges.left)) (c.unsigned_abs-2.ensures.value ∙ ap nat_abs (to_z-of_z c.ranges.right))

below : (c : goal.After-gcd_wide) → c.gcd_wide.result < 2 ^ 127
below c = omega (
  arith,
  found c,
  gcd_of_below (nat_abs c.args.left) (nat_abs c.args.right) (2 ^ 127) (omega (arith, c.requires.left)) (omega (arith, c.requires.right)),
)

pub overflow_cast-result : goal.overflow_cast-result
overflow_cast-result c = omega (arith, ints, below c)

pub returns-clause-value : goal.returns-clause-value
returns-clause-value c = to_z_pos w128 c.gcd_wide.result (below c) ∙ ap pos (found c)

pub returns-clause-greatest : goal.returns-clause-greatest
returns-clause-greatest c =
    subst (IsGcd (nat_abs c.args.left) (nat_abs c.args.right)) (sym (ap nat_abs (returns-clause-value c)))
    (gcd_of_is (nat_abs c.args.left) (nat_abs c.args.right))

pub returns-clause-fits : goal.returns-clause-fits
returns-clause-fits c = rw (returns-clause-value c) (omega (arith, found c, below c))
