use Rattle.std.proofs.Common.{arith, to_z-of_z}
use Rattle.exact_forms.proofs.Lowest.{lowest_of_parts}
use Rattle.fraction128.proofs.Products.{gcd_at_least_one}
use Rattle.fraction128.proofs.fraction.Fraction.new.Goals as goal

pub quotient-requires : goal.quotient-requires
quotient-requires c = grind (arith, to_z-of_z, gcd_at_least_one)

pub quotient-requires-2 : goal.quotient-requires-2
quotient-requires-2 c = grind (arith, to_z-of_z, gcd_at_least_one)

pub invariant_of-result : goal.invariant_of-result
invariant_of-result c = let p = lowest_of_parts c.args.num c.args.den c.requires.positive (omega (arith, c.requires.fits)) in grind (arith, to_z-of_z)

pub returns : goal.returns
returns c = let p = lowest_of_parts c.args.num c.args.den c.requires.positive (omega (arith, c.requires.fits)) in grind (arith, to_z-of_z)
