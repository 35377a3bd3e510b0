use Rattle.std.specs.Prelude.{◌<◌, []}
use Rattle.std.proofs.Common.{arith}
use Rattle.search_core.specs.Noting.{new_after}
use Rattle.serial_search.proofs.Stacks.{cones_left, no_items}
use Rattle.serial_search.proofs.Loops.{IsSearchLoop, loop_starts, loop_ends, loop_within, loop_named, loop_others, loop_may_turn, loop_turns}
use Rattle.serial_search.proofs.search.search.Goals as goal

pub loop-mode-init : goal.loop-mode-init
loop-mode-init c =
    record {
      loop = rw (c.start_word-word.ensures, c.new-judged.ensures.items, c.new-attaining.ensures)
          (loop_starts _ c.args.q.now _ c.args.arena.now c.requires.root c.requires.room);
    }

pub lowering_fate-fate-requires-clause-within : goal.lowering_fate-fate-requires-clause-within
lowering_fate-fate-requires-clause-within c = loop_within c.loop-mode.invariant.loop c.top-cone.ensures.top.0 _ c.top-cone.ensures.top.1

pub lowering_fate-fate-requires-clause-named : goal.lowering_fate-fate-requires-clause-named
lowering_fate-fate-requires-clause-named c = loop_named c.loop-mode.invariant.loop c.top-cone.ensures.top.0 _ c.top-cone.ensures.top.1

pub lowering_fate-fate-requires-clause-others : goal.lowering_fate-fate-requires-clause-others
lowering_fate-fate-requires-clause-others c = loop_others c.loop-mode.invariant.loop c.top-cone.ensures.top.0 _ c.top-cone.ensures.top.1

pub keep_fate-requires-clause-below_code : goal.keep_fate-requires-clause-below_code
keep_fate-requires-clause-below_code c = omega (arith, c.lowering_fate-fate.ensures.word)

pub keep_fate-requires-clause-within : goal.keep_fate-requires-clause-within
keep_fate-requires-clause-within c = loop_within c.loop-mode.invariant.loop c.top-cone.ensures.top.0 _ c.top-cone.ensures.top.1

pub note_new-requires : goal.note_new-requires
note_new-requires c = loop_named c.loop-mode.invariant.loop c.top-cone.ensures.top.0 _ c.top-cone.ensures.top.1

pub turn-requires-clause-may : goal.turn-requires-clause-may
turn-requires-clause-may c = loop_may_turn c.loop-mode.invariant.loop c.top-cone.ensures.top.0 _ c.top-cone.ensures.top.1 _ _ c.top-cone.ensures.size
    c.lowering_fate-fate.ensures.fate

step : (c : goal.After-after-fresh)
    → IsSearchLoop c.args.mode c.args.q.now c.args.limit [] c.turn.new.arena c.lowering_fate-fate.new.word (new_after c.lowering_fate-fate.result)
    c.keep_fate.new.judged.items c.note_new.new.found.keys
    × (cones_left c.args.limit c.turn.new.arena.cones < cones_left c.args.limit c.loop-mode.arena.cones)
step c = loop_turns c.loop-mode.invariant.loop c.top-cone.ensures.top.0 _ c.top-cone.ensures.top.1 _ _ _ _ _ c.n-n.ensures.matrix.positive c.requires.limited
    c.lowering_fate-fate.ensures.word c.lowering_fate-fate.ensures.fate c.turn.ensures c.in_ok-keep_fate.ensures.kept c.in_ok-note_new.ensures

pub loop-mode-smaller : goal.loop-mode-smaller
loop-mode-smaller c = (step c).1

pub loop-mode-preserved : goal.loop-mode-preserved
loop-mode-preserved c = record { loop = rw c.after-fresh.ensures (step c).0 }

pub returns : goal.returns
returns c = loop_ends c.loop-mode.invariant.loop (no_items c.loop-mode.arena.cones (omega arith))
