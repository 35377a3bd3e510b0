use Rattle.std.specs.Prelude.{ℕ, take, nat_eq}
use Rattle.std.proofs.Common.{arith, refl, subst}
use Rattle.symmetric_matrix.specs.Symmetric.{entry}
use Rattle.unimodular_cone.specs.Shown.{IsNext}
use Rattle.unimodular_cone.proofs.Orders.{take_is_above}
use Rattle.unimodular_cone.proofs.ShownAt.{closed_at, closed_there}
use Rattle.search_core.proofs.ShownFates.{splits_as_shown}
use Rattle.search_core.proofs.WaysDown.{down_more, down_closed, down_open, closed_itself, when_false, not_test, read_bound}
use Rattle.search_core.proofs.descent.is_unclosed_down.Goals as goal

pub returns-then-closed : goal.returns-then-closed
returns-then-closed c = (
  when_false _,
  λ u. absurd (down_closed c.args.q.now.size (entry c.args.q.now) c.args.bound c.args.path.now c.loop-k.k (omega arith)
      (closed_at _ _ _ c.loop-k.cone c.loop-k.invariant.at_path c.args.bound
      (rw (read_bound c.args.bound c.requires.low c.requires.high) at (c.if-closed.ensures.0 refl))) u),
)

pub step_down-requires-clause-splits : goal.step_down-requires-clause-splits
step_down-requires-clause-splits c =
    splits_as_shown c.args.q.now.size (entry c.args.q.now) (take c.loop-k.k c.args.path.now) c.loop-k.cone c.loop-k.invariant.at_path
    (c.requires.in_tree.above (take c.loop-k.k c.args.path.now) (take_is_above c.args.path.now c.loop-k.k (omega arith)))

pub loop-k-preserved : goal.loop-k-preserved
loop-k-preserved c =
    rw (read_bound c.args.bound c.requires.low c.requires.high)
    (down_more c.args.q.now.size (entry c.args.q.now) c.args.bound c.args.path.now c.loop-k.k c.loop-k.cone c.step_down.new.c (omega arith)
    (rw (read_bound c.args.bound c.requires.low c.requires.high) at c.loop-k.invariant)
    (λ closed. when_false ⊥
    ((rw (read_bound c.args.bound c.requires.low c.requires.high) at c.if-closed.ensures).1
    (closed_there c.args.q.now.size (entry c.args.q.now) (take c.loop-k.k c.args.path.now) c.loop-k.cone c.loop-k.invariant.at_path c.args.bound
    closed)))
    (subst (λ (d : ℕ). IsNext c.loop-k.cone (nat_eq d 1) c.step_down.new.c) c.digit.ensures c.step_down.ensures))

pub returns : goal.returns
returns c = not_test c.closed-2.result _ _ (rw (read_bound c.args.bound c.requires.low c.requires.high) at c.closed-2.ensures)
    (λ unclosed. down_open c.args.q.now.size (entry c.args.q.now) c.args.bound c.args.path.now c.loop-k.k c.loop-k.cone (omega arith)
    (rw (read_bound c.args.bound c.requires.low c.requires.high) at c.loop-k.invariant)
    (λ closed. unclosed
    (closed_there c.args.q.now.size (entry c.args.q.now) (take c.loop-k.k c.args.path.now) c.loop-k.cone c.loop-k.invariant.at_path c.args.bound
    closed)))
    (λ closed u. closed_itself c.args.q.now.size (entry c.args.q.now) c.args.bound c.args.path.now c.loop-k.k (omega arith)
    (closed_at _ _ _ c.loop-k.cone c.loop-k.invariant.at_path c.args.bound closed) u)
