use Rattle.std.specs.Prelude.{◌≡◌, ◌≤◌, ◌-◌, ℤ, pos, max, List, FitsSigned}
use Rattle.std.specs.Int.{w128}
use Rattle.std.proofs.Common.{arith, sym, ◌∙◌, ap, refl, subst, to_z, of_z}
use Rattle.std.proofs.lemmas.Int.{ints, to_z-of_z}
use Rattle.symmetric_matrix.specs.Symmetric.{entry}
use Rattle.unimodular_cone.specs.declared.Mode.{Mode}
use Rattle.unimodular_cone.specs.Paths.{Path}
use Rattle.unimodular_cone.specs.Answer.{SearchAnswer, IsSearchAnswer, IsClosedAnswer}
use Rattle.unimodular_cone.specs.Shown.{ShownCone}
use Rattle.search_core.specs.declared.Fate.{Fate}
use Rattle.search_core.specs.declared.Fate.TheVariants.{Closed, Split, Low, Dropped, AtLimit, Wide}
use Rattle.search_core.specs.Fair.{bound_under, IsEndFate}
use Rattle.serial_search.specs.Turns.{IsOnTop, AreStacked}
use Rattle.serial_search.proofs.Tops.{may_turn, top_there}
use Rattle.serial_search.proofs.WalkArenas.{walk_arena_starts, walk_arena_turns}
use Rattle.serial_search.proofs.Stacks.{no_items}
use Rattle.serial_search.proofs.Digits.{IsOnTheWay, walk_from_root, word_below_code, depth_is_due, wide_is_due, walks_on, walk_shortens, none_left}
use Rattle.serial_search.proofs.values.second_walk.Goals as goal

pub loop-arena-init : goal.loop-arena-init
loop-arena-init c = record {
  walking = rw c.requires.root.alone
      (walk_from_root c.args.q.now.size (entry c.args.q.now) c.args.limit (bound_under Mode.Least c.args.word) c.requires.root.root c.requires.root.is_root);
  arena = walk_arena_starts c.args.limit c.args.arena.now c.requires.root.root c.requires.root.alone c.requires.room;
}

pub judge-fate-requires-clause-below_code : goal.judge-fate-requires-clause-below_code
judge-fate-requires-clause-below_code c =
    let cone : ShownCone = c.top-cone.result.cone.now in
    let way : IsOnTheWay c.args.q.now.size (entry c.args.q.now) c.args.limit (bound_under Mode.Least c.args.word) cone =
    c.loop-arena.invariant.walking.cones cone (top_there c.loop-arena.arena.cones c.top-cone.ensures.top.0 cone c.top-cone.ensures.top.1) in
    word_below_code c.args.q.now.size (entry c.args.q.now) c.args.limit c.args.word cone c.n-n.ensures.matrix.positive
    (omega (arith, c.ranges.word.fits)) c.requires.final_word way.at way.way.in_tree

pub judge-fate-requires-clause-within : goal.judge-fate-requires-clause-within
judge-fate-requires-clause-within c =
    (c.loop-arena.invariant.walking.cones c.top-cone.result.cone.now
    (top_there c.loop-arena.arena.cones c.top-cone.ensures.top.0 c.top-cone.result.cone.now c.top-cone.ensures.top.1)).way.in_tree.short

pub turn-requires-clause-may : goal.turn-requires-clause-may
turn-requires-clause-may c =
    let rest : List ShownCone = c.top-cone.ensures.top.0 in
    let top : IsOnTop c.top-cone.result.cone.now rest c.loop-arena.arena.cones = c.top-cone.ensures.top.1 in
    may_turn Mode.Least c.loop-arena.arena rest c.top-cone.result.cone.now c.args.limit c.args.word c.judge-fate.result top
    c.top-cone.ensures.size c.loop-arena.invariant.arena.deep c.loop-arena.invariant.arena.room
    (c.loop-arena.invariant.walking.cones c.top-cone.result.cone.now (top_there c.loop-arena.arena.cones rest c.top-cone.result.cone.now top)).way.in_tree.short
    c.judge-fate.ensures

stacks : (c : goal.After-turn) → AreStacked c.top-cone.result.cone.now c.judge-fate.result c.top-cone.ensures.top.0 c.turn.new.arena.cones
stacks c = c.turn.ensures.turned c.top-cone.result.cone.now c.top-cone.ensures.top.0 c.top-cone.ensures.top.1

no_end : (c : goal.After-turn) → ¬ IsEndFate c.judge-fate.result
no_end c = by c.judge-fate.result refl
  where
    by : (f : Fate) → c.judge-fate.result ≡ f → ¬ IsEndFate f
    by (AtLimit w) e h = c.in_default.not-AtLimit w e
    by (Wide w at) e h = c.in_default.not-Wide w at e
    by (Closed w) e h = h
    by (Split i j w) e h = h
    by (Low k) e h = h
    by (Dropped w) e h = h

pub loop-arena-smaller : goal.loop-arena-smaller
loop-arena-smaller c =
    walk_shortens (record {
      final = c.requires.final_word;
      walking = c.loop-arena.invariant.walking;
      popped = c.top-cone.ensures.top.1;
      shown = c.judge-fate.ensures;
    }) c.turn.new.arena.cones (stacks c)

pub loop-arena-preserved : goal.loop-arena-preserved
loop-arena-preserved c = record {
  walking = walks_on (record {
    final = c.requires.final_word;
    walking = c.loop-arena.invariant.walking;
    popped = c.top-cone.ensures.top.1;
    shown = c.judge-fate.ensures;
  }) c.turn.new.arena.cones (stacks c) (no_end c);
  arena = walk_arena_turns c.top-cone.result.cone.now c.top-cone.ensures.top.0 c.loop-arena.invariant.arena c.top-cone.ensures.top.1 c.turn.ensures;
}

pub returns-in-AtLimit-clause-answer : goal.returns-in-AtLimit-clause-answer
returns-in-AtLimit-clause-answer c =
    subst (λ (p : Path). IsSearchAnswer Mode.Least c.args.q.now.size (entry c.args.q.now) c.args.limit (SearchAnswer.Depth p)) (sym c.path.ensures)
    (depth_is_due (record {
      final = c.requires.final_word;
      walking = c.loop-arena.invariant.walking;
      popped = c.top-cone.ensures.top.1;
      shown = c.judge-fate.ensures;
    }) _ c.in-AtLimit.is)

pub returns-in-Wide-clause-answer : goal.returns-in-Wide-clause-answer
returns-in-Wide-clause-answer c =
    wide_is_due (record {
      final = c.requires.final_word;
      walking = c.loop-arena.invariant.walking;
      popped = c.top-cone.ensures.top.1;
      shown = c.judge-fate.ensures;
    }) _ c.in-Wide.at c.in-Wide.is

pub returns-clause-answer : goal.returns-clause-answer
returns-clause-answer c =
    let past : 257 ≤ c.args.word = c.requires.final_word.past in
    let fits : FitsSigned w128 c.from.result = omega (arith, ints) in
    let lone : c.args.word - 256 ≡ max 1 (c.args.word - 256) = omega arith in
    let is : to_z w128 (of_z w128 c.from.result) ≡ bound_under Mode.Least c.args.word = to_z-of_z w128 c.from.result fits ∙ c.from.ensures ∙ ap pos lone in
    subst (λ (z : ℤ). IsClosedAnswer Mode.Least c.args.q.now.size (entry c.args.q.now) c.args.limit z) (sym is)
    (none_left c.args.q.now.size (entry c.args.q.now) c.args.limit c.args.word c.loop-arena.arena.cones (no_items c.loop-arena.arena.cones (omega arith))
    c.requires.final_word c.loop-arena.invariant.walking)
