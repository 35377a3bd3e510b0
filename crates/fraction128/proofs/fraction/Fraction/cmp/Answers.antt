use Rattle.std.proofs.Common.{◌≡◌, ℤ, ◌*ℤ◌, rules, ◌∙◌, ap₂, to_z-of_z}
use Rattle.std.specs.Ordering.{int_cmp}
use mir.Syntax.{w128}
use mir.Val.{SFits}
use Rattle.exact_forms.proofs.Lowest.{parts_of}
use Rattle.fraction128.specs.Order.{order_of}
use Rattle.fraction128.proofs.Orders.{order_of_ranks}
use Rattle.fraction128.proofs.fraction.Fraction.cmp.Goals as goal

is_order : (c : goal.After-order_of_ratios) → c.order_of_ratios.result ≡ order_of c.args.self.now c.args.other.now
unfolding order_of
is_order c =
    let l = parts_of c.self.inside.num c.self.inside.den c.args.self.now c.self.invariant c.self.view_is in
    let r = parts_of c.other.inside.num c.other.inside.den c.args.other.now c.other.invariant c.other.view_is in
    let self_num : SFits w128 c.self.inside.num = search rules in
    let self_den : SFits w128 c.self.inside.den = search rules in
    let other_num : SFits w128 c.other.inside.num = search rules in
    let other_den : SFits w128 c.other.inside.den = search rules in
    c.order_of_ratios.ensures
    ∙ ap₂ int_cmp
    (ap₂ (λ (n : ℤ) (d : ℤ). n *ℤ d) (to_z-of_z self_num ∙ l.0) (to_z-of_z other_den ∙ r.1))
    (ap₂ (λ (n : ℤ) (d : ℤ). n *ℤ d) (to_z-of_z other_num ∙ r.0) (to_z-of_z self_den ∙ l.1))

pub returns-clause-order : goal.returns-clause-order
returns-clause-order c = is_order c

pub returns-clause-ranks : goal.returns-clause-ranks
returns-clause-ranks c = order_of_ranks c.args.self.now c.args.other.now c.order_of_ratios.result (is_order c)
