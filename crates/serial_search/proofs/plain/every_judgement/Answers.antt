use Rattle.std.specs.Prelude.{◌≡◌, ◌<◌, ℕ, ◌∷◌, min}
use Rattle.std.proofs.Common.{arith, sym, ap, ◌∙◌, subst}
use Rattle.symmetric_matrix.specs.Symmetric.{entry}
use Rattle.search_core.specs.Judging.{shown_code, IsJudgementOf}
use Rattle.serial_search.specs.Turns.{AreStacked}
use Rattle.serial_search.proofs.Tops.{AreDeep, may_turn, deep_turned}
use Rattle.serial_search.specs.Searching.{IsSearchedPlainly}
use Rattle.serial_search.proofs.Stacks.{cones_left, no_items, plain_starts, plain_step, plain_ends, plain_within}
use Rattle.serial_search.proofs.plain.every_judgement.Goals as goal

pub loop-mode-init : goal.loop-mode-init
loop-mode-init c = record {
  searching = rw (c.requires.root.alone, c.start_word-word.ensures, c.new-judged.ensures.items)
      (plain_starts c.args.mode c.args.q.now.size (entry c.args.q.now) c.args.limit c.requires.root.root c.requires.root.is_root);
  deep = subst (AreDeep 0) (sym c.requires.root.alone) (omega arith, tt);
  room = c.requires.room;
}

pub judgement-j-requires-clause-within : goal.judgement-j-requires-clause-within
judgement-j-requires-clause-within c =
    plain_within c.loop-mode.invariant.searching c.top-cone.ensures.top.0 _ c.top-cone.ensures.top.1

pub turn-requires-clause-may : goal.turn-requires-clause-may
turn-requires-clause-may c =
    may_turn c.args.mode c.loop-mode.arena c.top-cone.ensures.top.0 c.top-cone.result.cone.now c.args.limit c.min-lower.result c.judgement-j.result.fate
    c.top-cone.ensures.top.1 c.top-cone.ensures.size c.loop-mode.invariant.deep c.loop-mode.invariant.room
    (plain_within c.loop-mode.invariant.searching c.top-cone.ensures.top.0 _ c.top-cone.ensures.top.1)
    c.judgement-j.ensures.fate

lowered : (c : goal.After-turn) → c.min-lower.result ≡ min c.loop-mode.word (shown_code c.args.mode c.top-cone.result.cone.now)
lowered c = c.min-lower.ensures ∙ ap (min c.loop-mode.word) c.code.ensures

judged : (c : goal.After-turn)
    → IsJudgementOf c.args.mode c.top-cone.result.cone.now c.args.limit (min c.loop-mode.word (shown_code c.args.mode c.top-cone.result.cone.now))
    c.judgement-j.result
judged c = subst (λ (w : ℕ). IsJudgementOf c.args.mode c.top-cone.result.cone.now c.args.limit w c.judgement-j.result) (lowered c) c.judgement-j.ensures

stacks : (c : goal.After-turn) → AreStacked c.top-cone.result.cone.now c.judgement-j.result.fate c.top-cone.ensures.top.0 c.turn.new.arena.cones
stacks c = c.turn.ensures.turned c.top-cone.result.cone.now c.top-cone.ensures.top.0 c.top-cone.ensures.top.1

step : (c : goal.After-turn)
    → IsSearchedPlainly c.args.mode c.args.q.now.size (entry c.args.q.now) c.args.limit c.turn.new.arena.cones
    (min c.loop-mode.word (shown_code c.args.mode c.top-cone.result.cone.now)) (c.judgement-j.result ∷ c.loop-mode.judged.items)
    × (cones_left c.args.limit c.turn.new.arena.cones < cones_left c.args.limit c.loop-mode.arena.cones)
step c =
    plain_step _ _ _ _ _ c.top-cone.ensures.top.0 _ c.top-cone.result.cone.now _ _ _ c.n-n.ensures.matrix.positive c.loop-mode.invariant.searching
    c.top-cone.ensures.top.1 (judged c) (stacks c)

pub loop-mode-smaller : goal.loop-mode-smaller
loop-mode-smaller c = (step c).1

pub loop-mode-preserved : goal.loop-mode-preserved
loop-mode-preserved c = record {
  searching = rw (lowered c, c.in_ok-insert.ensures.items) (step c).0;
  deep = deep_turned c.loop-mode.arena.cones c.top-cone.ensures.top.0 c.turn.new.arena.cones c.top-cone.result.cone.now c.judgement-j.result.fate
      c.loop-mode.invariant.deep c.top-cone.ensures.top.1 (stacks c);
  room = omega (arith, c.loop-mode.invariant.room, c.turn.ensures.depth);
}

pub returns : goal.returns
returns c = plain_ends _ _ _ _ _ _ _ (no_items c.loop-mode.arena.cones (omega arith)) c.loop-mode.invariant.searching
