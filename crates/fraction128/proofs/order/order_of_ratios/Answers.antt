use Rattle.std.proofs.Common.{◌≡◌, ℤ, ◌*ℤ◌, sym, ◌∙◌, ap, ap₂, to_z, to_z-of_z}
use Rattle.std.specs.Ordering.{int_cmp}
use mir.Syntax.{w128}
use Rattle.fraction128.proofs.Orders.{order_same_den}
use Rattle.fraction128.proofs.order.order_of_ratios.Goals as goal

pub returns-then-b-d : goal.returns-then-b-d
returns-then-b-d c =
    let same : c.args.b ≡ c.args.d = sym (to_z-of_z c.ranges.b) ∙ ap (to_z w128) c.if-b-d.true ∙ to_z-of_z c.ranges.d in
    c.cmp.ensures
    ∙ ap₂ int_cmp (to_z-of_z c.ranges.a) (to_z-of_z c.ranges.c)
    ∙ order_same_den c.args.a c.args.c c.args.d c.requires.right
    ∙ ap (λ (b : ℤ). int_cmp (c.args.a *ℤ c.args.d) (c.args.c *ℤ b)) (sym same)
