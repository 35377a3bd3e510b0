use Rattle.std.proofs.Common.{arith, rules, ◌∙◌, to_z-of_z}
use Rattle.std.proofs.lemmas.Int.{ints}
use mir.Syntax.{w128}
use mir.Val.{SFits}
use Rattle.exact_forms.proofs.Lowest.{parts_of}
use Rattle.fraction128.proofs.fraction.Fraction.den.Goals as goal

pub returns-clause-value : goal.returns-clause-value
returns-clause-value c =
    let n : SFits w128 c.self.inside.den = search rules in
    to_z-of_z n ∙ (parts_of c.self.inside.num c.self.inside.den c.args.self.now c.self.invariant c.self.view_is).1

pub returns-clause-fits : goal.returns-clause-fits
returns-clause-fits c =
    let n : SFits w128 c.self.inside.den = search rules in
    let e = (parts_of c.self.inside.num c.self.inside.den c.args.self.now c.self.invariant c.self.view_is).1 in
    omega (arith, ints)
