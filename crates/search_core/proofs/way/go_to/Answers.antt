use Rattle.std.specs.Prelude.{◌≡◌, ◌+◌, ◌-◌, ◌<◌, ℕ, length, take, nat_eq}
use Rattle.std.proofs.Common.{arith, ◌∙◌, sym, subst}
use Rattle.std.proofs.lemmas.List.Elements.{All-push}
use Rattle.symmetric_matrix.specs.Symmetric.{entry}
use Rattle.unimodular_cone.specs.Paths.{Path}
use Rattle.unimodular_cone.specs.Shown.{ShownCone, IsNext, IsConeAt}
use Rattle.unimodular_cone.proofs.Orders.{take_is_above}
use Rattle.search_core.specs.Way.{AreAtPaths}
use Rattle.search_core.proofs.ShownFates.{splits_as_shown}
use Rattle.search_core.proofs.WaysDown.{way_more}
use Rattle.search_core.proofs.Ways.{last_read, some_last}
use Rattle.search_core.proofs.way.go_to.Goals.{After-digit}
use Rattle.search_core.proofs.way.go_to.Goals as goal

here : (c : After-digit) → IsConeAt c.args.q.now.size (entry c.args.q.now) (take c.loop-k.k c.args.path.now) c.copy-next.result
here c =
    let last = c.loop-k.invariant.last in
    let some : 0 < length c.loop-k.way.items = some_last c.loop-k.way.items last.rest last.last last.is in
    let is : c.copy-next.result ≡ last.last = c.copy-next.ensures
    ∙ last_read c.loop-k.way.items last.rest last.last c.index-in-loop-k.result.now (c.len-in-loop-k.result - 1) last.is
    (omega (arith, some, c.len-in-loop-k.ensures)) c.index-in-loop-k.ensures in
    subst (IsConeAt c.args.q.now.size (entry c.args.q.now) (take c.loop-k.k c.args.path.now)) (sym is) last.at

pub step_down-requires-clause-splits : goal.step_down-requires-clause-splits
step_down-requires-clause-splits c = splits_as_shown c.args.q.now.size (entry c.args.q.now) (take c.loop-k.k c.args.path.now) c.copy-next.result (here c)
    (c.requires.in_tree.above (take c.loop-k.k c.args.path.now) (take_is_above c.args.path.now c.loop-k.k (omega arith)))

pub loop-k-preserved : goal.loop-k-preserved
loop-k-preserved c =
    let next : ShownCone = c.step_down.new.c in
    let at : IsConeAt c.args.q.now.size (entry c.args.q.now) (take (c.loop-k.k + 1) c.args.path.now) c.step_down.new.c =
    way_more c.args.q.now.size (entry c.args.q.now) c.args.path.now c.loop-k.k c.copy-next.result c.step_down.new.c (omega arith)
    (here (goal.at.loop-k-preserved c).After-digit)
    (subst (λ (d : ℕ). IsNext c.copy-next.result (nat_eq d 1) c.step_down.new.c) c.digit.ensures c.step_down.ensures) in
    let own : IsConeAt c.args.q.now.size (entry c.args.q.now) (c.step_down.new.c).path c.step_down.new.c =
    subst (λ (p : Path). IsConeAt c.args.q.now.size (entry c.args.q.now) p c.step_down.new.c) (sym at.path_is) at in
    record {
      at = subst (AreAtPaths c.args.q.now.size (entry c.args.q.now)) (sym c.in_ok-push-2.ensures.items)
          (All-push (λ (d : ShownCone). IsConeAt c.args.q.now.size (entry c.args.q.now) d.path d) c.loop-k.way.items c.step_down.new.c c.loop-k.invariant.at
          own);
      last = record { rest = c.loop-k.way.items; last = c.step_down.new.c; is = c.in_ok-push-2.ensures.items; at = at };
    }
