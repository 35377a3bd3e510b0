use Rattle.std.proofs.Common.{arith, ap, ℤ, to_z-of_z}
use Rattle.exact_forms.specs.Rational.{ratio, whole}
use Rattle.exact_forms.proofs.Lowest.{lowest_whole}
use Rattle.fraction128.proofs.fraction.Fraction.whole.Goals as goal

pub invariant_of-result : goal.invariant_of-result
invariant_of-result c = rw (to_z-of_z c.ranges.num) (lowest_whole c.args.num (omega (arith, c.requires)))

pub returns : goal.returns
unfolding whole
returns c = ap (λ (n : ℤ). ratio n 1) (to_z-of_z c.ranges.num)
