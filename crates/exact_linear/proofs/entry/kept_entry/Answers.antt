use Rattle.std.proofs.Common.{◌<◌, ◌^◌, subst, ℤ, nat_abs, arith}
use Rattle.exact_linear.proofs.Zero.{clear_kept}
use Rattle.exact_linear.proofs.entry.kept_entry.Goals as goal

pub returns : goal.returns
returns c =
    let num : nat_abs c.num-num.result < 2 ^ 127 = omega (arith, c.num-num.ensures.fits) in
    let den : nat_abs c.den-den.result < 2 ^ 127 = omega (arith, c.den-den.ensures.fits) in
    clear_kept c.args.row c.args.column c.args.entry c.args.factor c.args.pivot
    (subst (λ (z : ℤ). nat_abs z < 2 ^ 127) c.num-num.ensures.value num) (subst (λ (z : ℤ). nat_abs z < 2 ^ 127) c.den-den.ensures.value den) c.requires
