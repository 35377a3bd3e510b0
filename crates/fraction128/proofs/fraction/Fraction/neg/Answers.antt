use Rattle.std.proofs.Common.{rules, to_z-of_z}
use mir.Syntax.{w128}
use mir.Val.{SFits}
use Rattle.exact_forms.proofs.Lowest.{lowest_neg, ratio-neg}
use Rattle.fraction128.proofs.Operations.{neg_back}
use Rattle.fraction128.proofs.fraction.Fraction.neg.Goals as goal

pub invariant_of-result : goal.invariant_of-result
invariant_of-result c =
    let self_den : SFits w128 c.self.inside.den = search rules in
    rw (neg_back c.self.inside.num c.self.invariant.fits, to_z-of_z self_den) (lowest_neg c.self.inside.num c.self.inside.den c.self.invariant)

pub returns : goal.returns
returns c =
    let self_den : SFits w128 c.self.inside.den = search rules in
    rw (
      neg_back c.self.inside.num c.self.invariant.fits,
      to_z-of_z self_den,
    ) (ratio-neg c.self.inside.num c.self.inside.den c.args.self c.self.invariant c.self.view_is)
