use Rattle.std.proofs.Common.{◌≡◌, ◌⊎◌, ◌%◌, arith, inl, inr, sym, ◌∙◌}
use Rattle.fraction128.proofs.Orders.{apart, same_whole, at_end, turned}
use Rattle.fraction128.proofs.order.order_by_division.Goals as goal
use Rattle.fraction128.proofs.order.order_by_division.Goals.{then-rest-eq0-via-then-rest-eq0, then-rest-eq0-via-else-rest-eq0+then-other_rest-eq0}

pub returns-then-whole-other_whole : goal.returns-then-whole-other_whole
returns-then-whole-other_whole c =
    let l = c.loop-whole in
    c.cmp.ensures ∙ apart l.a l.b l.c l.d l.invariant.left l.invariant.right c.if-whole-other_whole.true ∙ sym l.invariant.same

pub returns-then-rest-eq0 : goal.returns-then-rest-eq0
returns-then-rest-eq0 c =
    let l = c.loop-whole in
    let none : (l.a % l.b ≡ 0) ⊎ (l.c % l.d ≡ 0) = elim c.then-rest-eq0.branch [
      | then-rest-eq0-via-then-rest-eq0 w ↦ inl w.if-rest-eq0.true
      | then-rest-eq0-via-else-rest-eq0+then-other_rest-eq0 w ↦ inr w.if-other_rest-eq0.true
    ]
    in
    c.cmp-then-rest-eq0.ensures ∙ at_end (l.a % l.b) l.b (l.c % l.d) l.d l.invariant.left l.invariant.right none
    ∙ same_whole l.a l.b l.c l.d c.if-whole-other_whole.false ∙ sym l.invariant.same

pub loop-whole-preserved : goal.loop-whole-preserved
loop-whole-preserved c =
    let l = c.loop-whole in record {
      left = omega arith;
      right = omega arith;
      same = l.invariant.same ∙ sym (same_whole l.a l.b l.c l.d c.if-whole-other_whole.false) ∙ turned (l.a % l.b) (l.c % l.d) l.b l.d;
    }
