use Rattle.std.proofs.Common.{◌<◌, ◌^◌, nat_abs, arith, refl, subst, ℤ, to_z-of_z}
use Rattle.fraction128.proofs.Operations.{small_made}
use Rattle.fraction128.proofs.small.multiply.Goals as goal

pub returns-then-is_small-2 : goal.returns-then-is_small-2
returns-then-is_small-2 c =
    let l : nat_abs c.args.left < 2 ^ 63 = subst (λ (z : ℤ). nat_abs z < 2 ^ 63) (to_z-of_z c.ranges.left) (c.if-is_small.ensures.0 refl) in
    let r : nat_abs c.args.right < 2 ^ 63 = subst (λ (z : ℤ). nat_abs z < 2 ^ 63) (to_z-of_z c.ranges.right) (c.if-is_small-2.ensures.0 refl) in
    let made = small_made c.args.left c.args.right l r in
    grind (arith, to_z-of_z)
