use Rattle.std.specs.Prelude.{◌<◌, []}
use Rattle.std.proofs.Common.{arith, ◌∙◌, sym}
use Rattle.search_core.specs.Noting.{new_after}
use Rattle.serial_search.proofs.Stacks.{cones_left, no_items}
use Rattle.serial_search.proofs.Loops.{IsSearchLoop, loop_starts, loop_ends, loop_within, loop_named, loop_others, loop_may_turn, loop_turns, loop_apart}
use Rattle.serial_search.proofs.Loops.{loop_without, loop_top_shallow}
use Rattle.serial_search.proofs.mixed_search.search_mixed.Goals as goal

pub loop-mode-init : goal.loop-mode-init
loop-mode-init c = record {
  loop = rw (c.none-found.ensures.word, c.start_word.ensures, c.none-found.ensures.judged, c.none-found.ensures.attaining)
      (loop_starts _ c.args.q.now _ c.args.wide.now c.requires.root c.requires.room);
  room = c.requires.narrow_room;
  size = c.requires.sizes;
  empty = c.requires.empty;
}

pub narrow_top-requires-clause-shallow : goal.narrow_top-requires-clause-shallow
narrow_top-requires-clause-shallow c = loop_top_shallow c.loop-mode.invariant.loop

pub put_alone-requires-clause-size : goal.put_alone-requires-clause-size
put_alone-requires-clause-size c = c.in-Some.ensures.size ∙ sym c.loop-mode.invariant.size

pub search_above-requires-clause-stands : goal.search_above-requires-clause-stands
search_above-requires-clause-stands c =
    (_, loop_apart c.loop-mode.invariant.loop c.in-Some.ensures.top.0 _ c.in-Some.ensures.top.1 _ c.put_alone.ensures.alone)

pub loop-mode-smaller-in-Some-2 : goal.loop-mode-smaller-in-Some-2
loop-mode-smaller-in-Some-2 c =
    (loop_without c.loop-mode.invariant.loop c.in-Some.ensures.top.0 _ c.in-Some.ensures.top.1 _ _ _ _ _ c.drop_top.ensures
    (rw c.in-Some-2.is at (c.in_ok-next.ensures.searched _
    (loop_apart c.loop-mode.invariant.loop c.in-Some.ensures.top.0 _ c.in-Some.ensures.top.1 _ c.put_alone.ensures.alone)))).1

pub loop-mode-preserved-in-Some-2 : goal.loop-mode-preserved-in-Some-2
loop-mode-preserved-in-Some-2 c = record {
  loop =
      (loop_without c.loop-mode.invariant.loop c.in-Some.ensures.top.0 _ c.in-Some.ensures.top.1 _ _ _ _ _ c.drop_top.ensures
      (rw c.in-Some-2.is at (c.in_ok-next.ensures.searched _
      (loop_apart c.loop-mode.invariant.loop c.in-Some.ensures.top.0 _ c.in-Some.ensures.top.1 _ c.put_alone.ensures.alone)))).0;
  room = omega (arith, c.loop-mode.invariant.room, c.put_alone.ensures.depth, (rw c.in-Some-2.is at c.in_ok-next.ensures.emptied).depth);
  size = (rw c.in-Some-2.is at c.in_ok-next.ensures.emptied).size ∙ c.put_alone.ensures.size ∙ c.loop-mode.invariant.size ∙ sym c.drop_top.ensures.size;
  empty = (rw c.in-Some-2.is at c.in_ok-next.ensures.emptied).empty;
}

pub lowering_fate-fate-requires-clause-within : goal.lowering_fate-fate-requires-clause-within
lowering_fate-fate-requires-clause-within c = loop_within c.loop-mode.invariant.loop c.top-cone.ensures.top.0 _ c.top-cone.ensures.top.1

pub lowering_fate-fate-requires-clause-named : goal.lowering_fate-fate-requires-clause-named
lowering_fate-fate-requires-clause-named c = loop_named c.loop-mode.invariant.loop c.top-cone.ensures.top.0 _ c.top-cone.ensures.top.1

pub lowering_fate-fate-requires-clause-others : goal.lowering_fate-fate-requires-clause-others
lowering_fate-fate-requires-clause-others c = loop_others c.loop-mode.invariant.loop c.top-cone.ensures.top.0 _ c.top-cone.ensures.top.1

pub keep_fate-requires-clause-within : goal.keep_fate-requires-clause-within
keep_fate-requires-clause-within c = loop_within c.loop-mode.invariant.loop c.top-cone.ensures.top.0 _ c.top-cone.ensures.top.1

pub note_new-requires : goal.note_new-requires
note_new-requires c = loop_named c.loop-mode.invariant.loop c.top-cone.ensures.top.0 _ c.top-cone.ensures.top.1

pub turn-requires-clause-may : goal.turn-requires-clause-may
turn-requires-clause-may c = loop_may_turn c.loop-mode.invariant.loop c.top-cone.ensures.top.0 _ c.top-cone.ensures.top.1 _ _ c.top-cone.ensures.size
    c.lowering_fate-fate.ensures.fate

step : (c : goal.After-after-fresh)
    → IsSearchLoop c.args.mode c.args.q.now c.args.limit [] c.turn.new.arena c.lowering_fate-fate.new.word (new_after c.lowering_fate-fate.result)
    c.keep_fate.new.judged.items c.note_new.new.found.keys
    × (cones_left c.args.limit c.turn.new.arena.cones < cones_left c.args.limit c.loop-mode.wide.cones)
step c = loop_turns c.loop-mode.invariant.loop c.top-cone.ensures.top.0 _ c.top-cone.ensures.top.1 _ _ _ _ _ c.n-n.ensures.matrix.positive
    c.requires.limited c.lowering_fate-fate.ensures.word c.lowering_fate-fate.ensures.fate c.turn.ensures c.in_ok-keep_fate.ensures.kept
    c.in_ok-note_new.ensures

pub loop-mode-smaller : goal.loop-mode-smaller
loop-mode-smaller c = (step c).1

pub loop-mode-preserved : goal.loop-mode-preserved
loop-mode-preserved c = record {
  loop = rw c.after-fresh.ensures (step c).0;
  room = c.loop-mode.invariant.room;
  size = c.loop-mode.invariant.size ∙ sym c.turn.ensures.size;
  empty = c.loop-mode.invariant.empty;
}

pub returns : goal.returns
returns c = loop_ends c.loop-mode.invariant.loop (no_items c.loop-mode.wide.cones (omega arith))
