use Rattle.std.proofs.Common.{◌-◌, arith, refl, ap, subst, sym, map, ℕ, List, to_z, of_z}
use Rattle.std.proofs.lemmas.Int.{to_z-of_z}
use mir.Syntax.{w128}
use Rattle.exact_lp.specs.declared.placed.Placed.{Placed}
use Rattle.exact_lp.specs.declared.placed.Placed.TheVariants as placed
use Rattle.exact_lp.specs.Placement.{IsPlaceAnswer, problem_of}
use Rattle.perfect_walk.specs.declared.journal.End.TheVariants as end
use Rattle.perfect_walk.specs.declared.journal.Step.TheVariants as step
use Rattle.perfect_walk.specs.Parts.{task, IsOutsideWith}
use Rattle.perfect_walk.proofs.Exchanging.{with_exchanges}
use Rattle.perfect_walk.proofs.Held.{after_next, ended_as}
use Rattle.perfect_walk.proofs.Outside.{held_size}
use Rattle.perfect_walk.proofs.PlaceParts.{IsPlaceStart, memory_here, inside_part, pivots_part, wide_part, outside_with, outside_part, placed_as, ruled_as}
use Rattle.perfect_walk.proofs.PlaceParts.{sound_as}
use Rattle.perfect_walk.proofs.walking.place_at.Given as given
use Rattle.perfect_walk.proofs.walking.place_at.Goals as goal
use Rattle.perfect_walk.proofs.walking.place_at.Goals.{After-steps_left-budget}

-- where the linear program begins
start_here : (g : given.Over) (c : After-steps_left-budget g)
    → IsPlaceStart (task c.args.s.now c.args.d c.args.limits.depth) c.args.now.now c.args.limits.pivots c.steps_left-budget.result c.args.trail.now
start_here g c = record {
  met = c.requires.met;
  owes = c.requires.owes;
  some = c.n-n.ensures.matrix.positive;
  sizes = held_size c.args.s.now.size c.args.now.now c.requires.held;
  perfect = c.requires.held.perfect;
  within = let n = c.steps_left-budget.ensures in let r = c.requires.room in omega arith;
}

-- what it answers, under d's own name
answer_here : (g : given.Over) (c : After-steps_left-budget g) (a : Placed)
    → IsPlaceAnswer (problem_of c.args.now.now.vectors c.args.s.now (to_z w128 (of_z w128 c.args.d))) c.steps_left-budget.result a
    → IsPlaceAnswer (problem_of c.args.now.now.vectors c.args.s.now c.args.d) c.steps_left-budget.result a
answer_here g c = placed_as c.args.now.now.vectors c.args.s.now _ c.args.d (to_z-of_z w128 c.args.d c.ranges.d) c.steps_left-budget.result

pub returns-in-Inside-clause-part : goal.returns-in-Inside-clause-part
returns-in-Inside-clause-part g c =
    let at = (goal.at.returns-in-Inside-clause-part g c).After-steps_left-budget in
    let here = placed.Inside c.in-Inside.weights c.in-Inside.steps in
    let A = answer_here g at here c.in-Inside.ensures.answer in
    inside_part _ _ _ _ _ (start_here g at) c.end_after_exchanges.new.trail c.in-Inside.steps A.0 c.in-Inside.weights c.factored.result
    c.end_after_exchanges.result A
    (ruled_as c.args.now.now.vectors c.args.s.now _ c.args.d (to_z-of_z w128 c.args.d c.ranges.d) here c.in-Inside.ensures.rule)
    (sound_as c.args.now.now.vectors c.args.s.now _ c.args.d (to_z-of_z w128 c.args.d c.ranges.d) c.args.s.now.size here c.in-Inside.ensures.sound)
    c.factored.ensures c.end_after_exchanges.ensures

pub returns-in-Pivots-clause-part : goal.returns-in-Pivots-clause-part
returns-in-Pivots-clause-part g c =
    let at = (goal.at.returns-in-Pivots-clause-part g c).After-steps_left-budget in
    let A = answer_here g at (placed.Pivots c.in-Pivots.steps) c.in-Pivots.ensures.answer in
    pivots_part _ _ _ _ _ (start_here g at) c.end_after_exchanges-in-Pivots.new.trail c.in-Pivots.steps A.0 c.end_after_exchanges-in-Pivots.result A
    c.end_after_exchanges-in-Pivots.ensures

pub returns-in-Pivots-clause-next : goal.returns-in-Pivots-clause-next
returns-in-Pivots-clause-next g c = after_next c.args.s.now c.args.now.now _ _ _ _ _ _ c.end_after_exchanges-in-Pivots.ensures

pub returns-in-Wide-clause-part : goal.returns-in-Wide-clause-part
returns-in-Wide-clause-part g c =
    let at = (goal.at.returns-in-Wide-clause-part g c).After-steps_left-budget in
    let A = answer_here g at (placed.Wide c.in-Wide.op c.in-Wide.steps) c.in-Wide.ensures.answer in
    wide_part _ _ _ _ _ (start_here g at) c.end_after_exchanges-in-Wide.new.trail c.in-Wide.steps A.0 c.in-Wide.op c.end_after_exchanges-in-Wide.result A
    (ended_as c.args.trail.now c.end_after_exchanges-in-Wide.new.trail (map step.Exchange c.in-Wide.steps) _ _ _ _ c.end_after_exchanges-in-Wide.result refl
    (ap end.Overflow c.owed_of_place.ensures) c.end_after_exchanges-in-Wide.ensures)

pub returns-in-Ok-clause-part : goal.returns-in-Ok-clause-part
returns-in-Ok-clause-part g c =
    let T = task c.args.s.now c.args.d c.args.limits.depth in
    let σ = with_exchanges T c.args.now.now c.args.trail.now.searched c.in-Outside.steps in
    let at = (goal.at.returns-in-Ok-clause-part g c).After-steps_left-budget in
    let here = placed.Outside c.in-Outside.zeros c.in-Outside.leaving c.in-Outside.steps in
    let A = answer_here g at here c.in-Outside.ensures.answer in
    let O = outside_with _ _ _ _ _ (start_here g at) c.turn_outside.new.trail c.in-Outside.steps A.0 c.in-Outside.zeros c.in-Outside.leaving A
    (ruled_as c.args.now.now.vectors c.args.s.now _ c.args.d (to_z-of_z w128 c.args.d c.ranges.d) here c.in-Outside.ensures.rule) in
    outside_part _ _ _ _ _ (start_here g at) c.turn_outside.new.trail c.in-Outside.steps A.0 _ c.turn_outside.result c.in-Ok.ensures.ok
    (c.turn_outside.ensures.part T σ
    (record { matrix = refl; depth = refl; visit = refl; searched = refl }) (sym (to_z-of_z w128 c.args.d c.ranges.d))
    (subst (λ (zs : List ℕ). IsOutsideWith T σ zs c.in-Outside.leaving)
    (sym c.as_slice.ensures) O))

pub returns-in-Outside-clause-part : goal.returns-in-Outside-clause-part
returns-in-Outside-clause-part g c =
    memory_here _ _ _ _ _ (start_here g (goal.at.returns-in-Outside-clause-part g c).After-steps_left-budget) _ _ c.in-Err.ensures.err refl refl

pub returns-clause-part : goal.returns-clause-part
returns-clause-part g c =
    memory_here _ _ _ _ _ (start_here g (goal.at.returns-clause-part g c).After-steps_left-budget) _ _ refl refl refl
