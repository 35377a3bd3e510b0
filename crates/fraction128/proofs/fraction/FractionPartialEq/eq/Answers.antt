use Rattle.std.proofs.Common.{◌∙◌, ap₂, int_eq, ◌&&◌}
use Rattle.exact_forms.proofs.Lowest.{parts_of}
use Rattle.fraction128.proofs.fraction.FractionPartialEq.eq.Goals as goal

pub returns : goal.returns
returns c =
    let l = parts_of c.t1-1.inside.num c.t1-1.inside.den c.args.self.now c.t1-1.invariant c.t1-1.view_is in
    let r = parts_of c.t2-1.inside.num c.t2-1.inside.den c.args.other.now c.t2-1.invariant c.t2-1.view_is in
    c.and_eq.ensures ∙ ap₂ (λ b d. b && d) (c.eq.ensures ∙ ap₂ int_eq l.0 r.0) (ap₂ int_eq l.1 r.1)
