use Rattle.std.proofs.Common.{rules, ◌∙◌, to_z-of_z}
use mir.Syntax.{w128}
use mir.Val.{SFits}
use Rattle.exact_forms.proofs.Lowest.{parts_of}
use Rattle.fraction128.proofs.fraction.Fraction.num.Goals as goal

pub returns-clause-value : goal.returns-clause-value
returns-clause-value c =
    let n : SFits w128 c.self.inside.num = search rules in
    to_z-of_z n ∙ (parts_of c.self.inside.num c.self.inside.den c.args.self.now c.self.invariant c.self.view_is).0
