use Rattle.std.specs.Prelude.{◌<◌, List}
use Rattle.std.proofs.Common.{arith, refl, ◌∙◌}
use Rattle.unimodular_cone.specs.Shown.{ShownCone}
use Rattle.serial_search.proofs.Stacks.{cones_left, no_items}
use Rattle.serial_search.proofs.Loops.{IsSearchLoop, loop_starts_above, loop_ends_above, loop_within, loop_named, loop_others, loop_may_turn}
use Rattle.serial_search.proofs.Opens.{loop_opens, may_open}
use Rattle.serial_search.proofs.narrow_search.search_above.Goals as goal

pub loop-mode-init : goal.loop-mode-init
loop-mode-init c = record { loop = λ below stands. loop_starts_above below c.requires.alone c.requires.room stands; room = (refl, refl) }

pub lowering_next-next-requires-clause-within : goal.lowering_next-next-requires-clause-within
lowering_next-next-requires-clause-within c =
    loop_within (c.loop-mode.invariant.loop c.requires.stands.0 c.requires.stands.1) c.top-cone.ensures.top.0 _ c.top-cone.ensures.top.1

pub lowering_next-next-requires-clause-named : goal.lowering_next-next-requires-clause-named
lowering_next-next-requires-clause-named c =
    loop_named (c.loop-mode.invariant.loop c.requires.stands.0 c.requires.stands.1) c.top-cone.ensures.top.0 _ c.top-cone.ensures.top.1

pub lowering_next-next-requires-clause-others : goal.lowering_next-next-requires-clause-others
lowering_next-next-requires-clause-others c =
    loop_others (c.loop-mode.invariant.loop c.requires.stands.0 c.requires.stands.1) c.top-cone.ensures.top.0 _ c.top-cone.ensures.top.1

pub keep_next-requires-clause-within : goal.keep_next-requires-clause-within
keep_next-requires-clause-within c =
    loop_within (c.loop-mode.invariant.loop c.requires.stands.0 c.requires.stands.1) c.top-cone.ensures.top.0 _ c.top-cone.ensures.top.1

pub note_new-requires : goal.note_new-requires
note_new-requires c =
    loop_named (c.loop-mode.invariant.loop c.requires.stands.0 c.requires.stands.1) c.top-cone.ensures.top.0 _ c.top-cone.ensures.top.1

pub turn-requires-clause-may : goal.turn-requires-clause-may
turn-requires-clause-may c =
    let next = c.lowering_next-next.ensures.next in
    may_open c.loop-mode.arena next.0 c.lowering_next-next.result next.2
    (loop_may_turn (c.loop-mode.invariant.loop c.requires.stands.0 c.requires.stands.1) c.top-cone.ensures.top.0 _ c.top-cone.ensures.top.1 _ next.0
    c.top-cone.ensures.size next.1)

step : (c : goal.In-Some) (below : List ShownCone)
    → IsSearchLoop c.args.mode c.args.q.now c.args.limit below c.loop-mode.arena c.loop-mode.word c.loop-mode.fresh c.loop-mode.found.judged.items
    c.loop-mode.found.attaining.keys
    → IsSearchLoop c.args.mode c.args.q.now c.args.limit below c.turn.new.arena c.lowering_next-next.new.word c.in-Some.new
    c.keep_next.new.judged.items c.turn.new.noted.keys
    × (cones_left c.args.limit c.turn.new.arena.cones < cones_left c.args.limit c.loop-mode.arena.cones)
step c below h = loop_opens h c.top-cone.ensures.top.0 _ c.top-cone.ensures.top.1 c.n-n.ensures.matrix.positive c.requires.limited _ _ _
    c.lowering_next-next.ensures.word c.in_ok-note_new.ensures _ _ _ _ c.lowering_next-next.ensures.next
    (rw c.in-Some.is at c.in_ok-new.ensures) c.in_ok-keep_next.ensures.kept

pub loop-mode-smaller : goal.loop-mode-smaller
loop-mode-smaller c = (step c c.requires.stands.0 (c.loop-mode.invariant.loop c.requires.stands.0 c.requires.stands.1)).1

pub loop-mode-preserved : goal.loop-mode-preserved
loop-mode-preserved c = record {
  loop = λ below stands. (step c below (c.loop-mode.invariant.loop below stands)).0;
  room = (
    (rw c.in-Some.is at c.in_ok-new.ensures).size ∙ c.loop-mode.invariant.room.0,
    (rw c.in-Some.is at c.in_ok-new.ensures).depth ∙ c.loop-mode.invariant.room.1,
  );
}

pub returns-clause-searched : goal.returns-clause-searched
returns-clause-searched c = λ below stands. loop_ends_above (c.loop-mode.invariant.loop below stands) (no_items c.loop-mode.arena.cones (omega arith))
