use Rattle.std.specs.Prelude.{ℕ, take, nat_eq}
use Rattle.std.proofs.Common.{arith, subst}
use Rattle.std.proofs.lemmas.List.{take_all}
use Rattle.symmetric_matrix.specs.Symmetric.{entry}
use Rattle.unimodular_cone.specs.Paths.{Path}
use Rattle.unimodular_cone.specs.Shown.{IsNext, IsConeAt}
use Rattle.unimodular_cone.proofs.Orders.{take_is_above}
use Rattle.search_core.proofs.ShownFates.{splits_as_shown}
use Rattle.search_core.proofs.WaysDown.{way_more}
use Rattle.search_core.proofs.attaining.fitting_cone.Goals as goal

pub step_down-requires-clause-splits : goal.step_down-requires-clause-splits
step_down-requires-clause-splits c = splits_as_shown c.args.q.now.size (entry c.args.q.now) (take c.loop-k.k c.args.path.now) c.loop-k.cone c.loop-k.invariant
    (c.requires.in_tree.above (take c.loop-k.k c.args.path.now) (take_is_above c.args.path.now c.loop-k.k (omega arith)))

pub loop-k-preserved : goal.loop-k-preserved
loop-k-preserved c = way_more c.args.q.now.size (entry c.args.q.now) c.args.path.now c.loop-k.k c.loop-k.cone c.step_down.new.c (omega arith) c.loop-k.invariant
    (subst (λ (d : ℕ). IsNext c.loop-k.cone (nat_eq d 1) c.step_down.new.c) c.digit.ensures c.step_down.ensures)

pub returns : goal.returns
returns c = subst (λ (p : Path). IsConeAt c.args.q.now.size (entry c.args.q.now) p c.loop-k.cone) (take_all c.loop-k.k c.args.path.now (omega arith))
    c.loop-k.invariant
