use Rattle.std.proofs.Common.{◌≡◌, arith, sym, ◌∙◌, ap, ℤ, pos, nat_abs}
use Rattle.std.proofs.lemmas.Int.{ints}
use Rattle.commutative_ring.specs.Gcd.{gcd_of}
use Rattle.commutative_ring.proofs.Coprime.{gcd_comm}
use Rattle.symmetric_matrix.proofs.BinaryDivisors.{gcd_of_one}
use Rattle.fraction128.proofs.divisor.common_divisor.Goals as goal

pub returns-then-den-eq1 : goal.returns-then-den-eq1
returns-then-den-eq1 c =
    let e : c.args.den ≡ pos 1 = omega (arith, ints) in
    sym (ap (λ (d : ℤ). pos (gcd_of (nat_abs c.args.value) (nat_abs d))) e ∙ ap pos (gcd_of_one (nat_abs c.args.value)))

pub returns-then-value-eq1 : goal.returns-then-value-eq1
returns-then-value-eq1 c =
    let e : c.args.value ≡ pos 1 = omega (arith, ints) in
    sym (ap (λ (v : ℤ). pos (gcd_of (nat_abs v) (nat_abs c.args.den))) e ∙ ap pos (gcd_comm 1 (nat_abs c.args.den) ∙ gcd_of_one (nat_abs c.args.den)))
