use Rattle.std.proofs.Common.{sym, ◌∙◌}
use Rattle.exact_forms.proofs.Lowest.{parts_of, zero_num}
use Rattle.fraction128.proofs.Operations.{zero_bits}
use Rattle.fraction128.proofs.fraction.Fraction.is_zero.Goals as goal

pub returns : goal.returns
returns c =
    let p = parts_of c.self.inside.num c.self.inside.den c.args.self.now c.self.invariant c.self.view_is in
    let z = zero_bits c.self.inside.num c.self.invariant.fits in
    (λ t. (zero_num c.args.self.now).0 (sym p.0 ∙ z.0 t), λ e. z.1 (p.0 ∙ (zero_num c.args.self.now).1 e))
