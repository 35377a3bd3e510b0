use Rattle.std.specs.Prelude.{List, min}
use Rattle.std.proofs.Common.{arith}
use Rattle.symmetric_matrix.specs.Symmetric.{entry}
use Rattle.unimodular_cone.specs.declared.Mode.{Mode}
use Rattle.unimodular_cone.specs.Shown.{ShownCone}
use Rattle.search_core.specs.Judging.{shown_code}
use Rattle.search_core.proofs.Mirrors.{entry_symmetric}
use Rattle.serial_search.specs.Turns.{IsOnTop}
use Rattle.serial_search.proofs.Tops.{may_turn}
use Rattle.serial_search.proofs.WalkArenas.{walk_arena_starts, walk_arena_turns, walk_arena_empties}
use Rattle.serial_search.proofs.Stacks.{no_items, plain_within}
use Rattle.serial_search.proofs.Lows.{FallsOn, falls_from_root, falls_on, falls_to_low, falls_to_word}
use Rattle.serial_search.proofs.values.first_walk.Goals as goal

pub loop-arena-init : goal.loop-arena-init
loop-arena-init c = record {
  falling = rw (c.requires.root.alone, c.start_word-word.ensures)
      (falls_from_root c.args.q.now.size (entry c.args.q.now) c.args.limit c.requires.root.root c.requires.root.is_root);
  arena = walk_arena_starts c.args.limit c.args.arena.now c.requires.root.root c.requires.root.alone c.requires.room;
}

pub lowering_fate-fate-requires-clause-within : goal.lowering_fate-fate-requires-clause-within
lowering_fate-fate-requires-clause-within c =
    plain_within c.loop-arena.invariant.falling.search c.top-cone.ensures.top.0 _ c.top-cone.ensures.top.1

pub turn-requires-clause-may : goal.turn-requires-clause-may
turn-requires-clause-may c =
    let rest : List ShownCone = c.top-cone.ensures.top.0 in
    let top : IsOnTop c.top-cone.result.cone.now rest c.loop-arena.arena.cones = c.top-cone.ensures.top.1 in
    may_turn Mode.Least c.loop-arena.arena rest c.top-cone.result.cone.now c.args.limit c.lowering_fate-fate.new.word c.lowering_fate-fate.result top
    c.top-cone.ensures.size c.loop-arena.invariant.arena.deep c.loop-arena.invariant.arena.room
    (plain_within c.loop-arena.invariant.falling.search rest _ top)
    c.lowering_fate-fate.ensures.fate

turned : (c : goal.After-turn) → FallsOn c.args.q.now.size (entry c.args.q.now) c.args.limit c.loop-arena.arena.cones c.turn.new.arena.cones
    (min c.loop-arena.word (shown_code Mode.Least c.top-cone.result.cone.now)) c.note_low.new.first
turned c =
    falls_on c.args.q.now.size (entry c.args.q.now) c.args.limit c.loop-arena.arena.cones c.top-cone.ensures.top.0 c.turn.new.arena.cones
    c.top-cone.result.cone.now c.loop-arena.word c.loop-arena.first c.note_low.new.first c.lowering_fate-fate.result c.n-n.ensures.matrix.positive
    c.loop-arena.invariant.falling c.top-cone.ensures.top.1
    (rw c.lowering_fate-fate.ensures.word at c.lowering_fate-fate.ensures.fate)
    (c.turn.ensures.turned c.top-cone.result.cone.now c.top-cone.ensures.top.0 c.top-cone.ensures.top.1) c.note_low.ensures

pub loop-arena-smaller : goal.loop-arena-smaller
loop-arena-smaller c = (turned c).fewer

pub loop-arena-preserved : goal.loop-arena-preserved
loop-arena-preserved c = record {
  falling = rw c.lowering_fate-fate.ensures.word (turned c).falling;
  arena = walk_arena_turns c.top-cone.result.cone.now c.top-cone.ensures.top.0 c.loop-arena.invariant.arena c.top-cone.ensures.top.1 c.turn.ensures;
}

pub returns-in-Some-clause-fallen : goal.returns-in-Some-clause-fallen
returns-in-Some-clause-fallen c =
    falls_to_low c.args.q.now.size (entry c.args.q.now) c.args.limit c.loop-arena.arena.cones c.loop-arena.word c.in-Some.low
    (entry_symmetric c.args.q.now.size c.args.q.now) c.requires.limited c.n-n.ensures.matrix.positive (no_items c.loop-arena.arena.cones (omega arith))
    (rw c.in-Some.is at c.loop-arena.invariant.falling)

pub returns-in-None-clause-fallen : goal.returns-in-None-clause-fallen
returns-in-None-clause-fallen c =
    falls_to_word c.args.q.now.size (entry c.args.q.now) c.args.limit c.loop-arena.arena.cones c.loop-arena.word
    (entry_symmetric c.args.q.now.size c.args.q.now) c.requires.limited c.n-n.ensures.matrix.positive c.requires.bound_fits c.requires.fits
    (no_items c.loop-arena.arena.cones (omega arith)) (rw c.in-None.is at c.loop-arena.invariant.falling)

pub returns-in-Some-clause-emptied : goal.returns-in-Some-clause-emptied
returns-in-Some-clause-emptied c = walk_arena_empties c.loop-arena.invariant.arena (no_items c.loop-arena.arena.cones (omega arith))

pub returns-in-None-clause-emptied : goal.returns-in-None-clause-emptied
returns-in-None-clause-emptied c = walk_arena_empties c.loop-arena.invariant.arena (no_items c.loop-arena.arena.cones (omega arith))
