use Rattle.std.proofs.Common.{arith, rules, pos, ◌<ℤ◌, ◌≤ℤ◌, to_z-of_z}
use Rattle.std.proofs.lemmas.Int.{ints}
use Rattle.std.specs.Prelude.{◌<◌, ◌^◌, neg_ℤ, nat_abs}
use mir.Syntax.{w128}
use mir.Val.{SFits}
use Rattle.exact_forms.proofs.Lowest.{IsInverse, lowest_inverse, lowest_inverse_neg}
use Rattle.fraction128.proofs.Operations.{neg_back, den_fits}
use Rattle.fraction128.proofs.fraction.Fraction.inverted.Goals.{Else-self-lt0, Then-self-lt0}
use Rattle.fraction128.proofs.fraction.Fraction.inverted.Goals as goal

-- below zero, with the bound of the denominator
below : (c : Then-self-lt0) → (nat_abs c.self.inside.den < 2 ^ 127) × IsInverse (neg_ℤ c.self.inside.den) (neg_ℤ c.self.inside.num) c.args.self
below c =
    let self_den : SFits w128 c.self.inside.den = search rules in
    let self_num : SFits w128 c.self.inside.num = search rules in
    let d = den_fits c.self.inside.den self_den c.self.invariant.positive in
    let less : c.self.inside.num <ℤ pos 0 = omega (arith, ints) in
    (d, lowest_inverse_neg c.self.inside.num c.self.inside.den c.args.self c.self.invariant d c.self.view_is less)

above : (c : Else-self-lt0) → IsInverse c.self.inside.den c.self.inside.num c.args.self
above c =
    let self_num : SFits w128 c.self.inside.num = search rules in
    let self_den : SFits w128 c.self.inside.den = search rules in
    let d = den_fits c.self.inside.den self_den c.self.invariant.positive in
    let more : pos 0 ≤ℤ c.self.inside.num = omega (arith, ints) in
    lowest_inverse c.self.inside.num c.self.inside.den c.args.self c.self.invariant d c.self.view_is c.requires more

pub invariant_of-t-3 : goal.invariant_of-t-3
invariant_of-t-3 c =
    let i = below (goal.at.invariant_of-t-3 c).Then-self-lt0 in
    rw (neg_back c.self.inside.den i.0, neg_back c.self.inside.num c.self.invariant.fits) i.1.lowest

pub invariant_of-result : goal.invariant_of-result
invariant_of-result c =
    let self_den : SFits w128 c.self.inside.den = search rules in
    let self_num : SFits w128 c.self.inside.num = search rules in
    rw (to_z-of_z self_den, to_z-of_z self_num) (above (goal.at.invariant_of-result c).Else-self-lt0).lowest

pub returns-then-self-lt0 : goal.returns-then-self-lt0
returns-then-self-lt0 c =
    let i = below (goal.at.returns-then-self-lt0 c).Then-self-lt0 in
    rw (neg_back c.self.inside.den i.0, neg_back c.self.inside.num c.self.invariant.fits) i.1.same

pub returns-else-self-lt0 : goal.returns-else-self-lt0
returns-else-self-lt0 c =
    let self_den : SFits w128 c.self.inside.den = search rules in
    let self_num : SFits w128 c.self.inside.num = search rules in
    rw (to_z-of_z self_den, to_z-of_z self_num) (above (goal.at.returns-else-self-lt0 c).Else-self-lt0).same
