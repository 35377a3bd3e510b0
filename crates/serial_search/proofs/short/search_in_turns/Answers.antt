use Rattle.std.proofs.Common.{arith}
use Rattle.serial_search.proofs.Stacks.{no_items}
use Rattle.serial_search.proofs.Loops.{loop_starts, loop_ends, loop_within, loop_named, loop_others, loop_may_turn, loop_turns}
use Rattle.serial_search.proofs.short.search_in_turns.Goals as goal

pub loop-init : goal.loop-init
loop-init c =
    record {
      loop = rw (c.start_word-word.ensures, c.new-judged.ensures.items, c.new-attaining.ensures)
          (loop_starts _ c.args.q.now _ c.args.arena.now c.requires.root c.requires.room);
    }

pub lowering_fate-fate-requires-clause-within : goal.lowering_fate-fate-requires-clause-within
lowering_fate-fate-requires-clause-within c = loop_within c.loop.invariant.loop c.top-cone.ensures.top.0 _ c.top-cone.ensures.top.1

pub lowering_fate-fate-requires-clause-named : goal.lowering_fate-fate-requires-clause-named
lowering_fate-fate-requires-clause-named c = loop_named c.loop.invariant.loop c.top-cone.ensures.top.0 _ c.top-cone.ensures.top.1

pub lowering_fate-fate-requires-clause-others : goal.lowering_fate-fate-requires-clause-others
lowering_fate-fate-requires-clause-others c = loop_others c.loop.invariant.loop c.top-cone.ensures.top.0 _ c.top-cone.ensures.top.1

pub keep_fate-requires-clause-below_code : goal.keep_fate-requires-clause-below_code
keep_fate-requires-clause-below_code c = omega (arith, c.lowering_fate-fate.ensures.word)

pub keep_fate-requires-clause-within : goal.keep_fate-requires-clause-within
keep_fate-requires-clause-within c = loop_within c.loop.invariant.loop c.top-cone.ensures.top.0 _ c.top-cone.ensures.top.1

pub note_new-requires : goal.note_new-requires
note_new-requires c = loop_named c.loop.invariant.loop c.top-cone.ensures.top.0 _ c.top-cone.ensures.top.1

pub turn-requires-clause-may : goal.turn-requires-clause-may
turn-requires-clause-may c = loop_may_turn c.loop.invariant.loop c.top-cone.ensures.top.0 _ c.top-cone.ensures.top.1 _ _ c.top-cone.ensures.size
    c.lowering_fate-fate.ensures.fate

pub loop-preserved : goal.loop-preserved
loop-preserved c = record {
  loop = rw c.after-fresh.ensures
      (loop_turns c.loop.invariant.loop c.top-cone.ensures.top.0 _ c.top-cone.ensures.top.1 _ _ _ _ _ c.n-n.ensures.matrix.positive c.requires.limited
      c.lowering_fate-fate.ensures.word c.lowering_fate-fate.ensures.fate c.turn.ensures c.in_ok-keep_fate.ensures.kept c.in_ok-note_new.ensures).0;
}

pub returns-then-len-eq0 : goal.returns-then-len-eq0
returns-then-len-eq0 c = loop_ends c.loop.invariant.loop (no_items c.loop.arena.cones (omega arith))
