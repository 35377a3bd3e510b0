use Rattle.std.proofs.Common.{◌≡◌, ◌++◌, ◌∷◌, rules, arith, to_z, of_z, to_z-of_z, SFits, [], Bool, false, Result, Ok, Err, OnOk}
use mir.Syntax.{w128}
use Rattle.std.specs.Result.{is_err}
use Rattle.contiguous.specs.Tightenings.{line_along}
use Rattle.contiguous.proofs.Ways.{IsRayLine, starts, tightenable}
use Rattle.contiguous.proofs.Ends.{ends_refused, holds_refused, again_refused, ends_pivots, again_none, reached, at_least_one, IsStepMade, goes_on, ends_answer}
use Rattle.contiguous.proofs.Ends.{ends_holds, ends_again}
use Rattle.contiguous.proofs.walking.next_perfect.Given.{Over}
use Rattle.contiguous.proofs.walking.next_perfect.Goals.{After-search_candidate}
use Rattle.contiguous.proofs.walking.next_perfect.Goals as goal

-- what was appended where the push was not refused
of_push : {E : Type 0} (r : Result Unit E) (b : Bool) (P : Type 0) → b ≡ is_err r → b ≡ false → OnOk r P → P
of_push (Ok u) b P e f h = h
of_push (Err e) b P is f h = absurd cc

-- the step that was made, before its end or its next vector
step : (g : Over) (c : After-search_candidate g) → IsStepMade (line_along c.args.p_matrix.now c.args.mu c.args.r_matrix.now) c.args.vectors.now
    c.args.limit c.args.below.now c.loop.counter c.loop.steps c.loop.vector c.in-Ok.made (to_z w128 (of_z w128 c.in-Ok.made.level)) c.push.new.self
step g c =
    let mu_fits : SFits w128 c.args.mu = search rules in
    let level_fits : SFits w128 c.in-Ok.made.level = search rules in
    let appended : c.push.new.self ≡ c.loop.steps ++ c.in-Ok.made.step ∷ [] =
    of_push c.push.result c.is_err.result _ c.is_err.ensures.value c.if-is_err.false c.push.ensures.ok in
    record {
      ray = record { sizes = c.requires.sizes; minimum = c.requires.minimum; extreme = c.requires.extreme };
      way = rw (to_z-of_z mu_fits) at c.loop.invariant;
      made_is = rw (to_z-of_z mu_fits) at c.in-Ok.ensures.made;
      level_is = to_z-of_z level_fits;
      steps_are = appended;
    }

pub loop-init : goal.loop-init
loop-init g c =
    let mu_fits : SFits w128 c.args.mu = search rules in
    let l = line_along c.args.p_matrix.now c.args.mu c.args.r_matrix.now in
    let ray : IsRayLine l c.args.vectors.now = record { sizes = c.requires.sizes; minimum = c.requires.minimum; extreme = c.requires.extreme } in
    let able = tightenable l c.args.vectors.now ray c.args.below.now c.requires.length c.requires.nonzero c.requires.below in
    rw (to_z-of_z mu_fits, c.new-steps.ensures, c.copy-vector.ensures) (starts l c.args.vectors.now ray c.args.limit c.args.below.now able)

pub tighten-requires-clause-tightenable : goal.tighten-requires-clause-tightenable
tighten-requires-clause-tightenable g c = c.loop.invariant.ready.tightenable

pub returns-in-Err : goal.returns-in-Err
returns-in-Err g c =
    let mu_fits : SFits w128 c.args.mu = search rules in
    let l = line_along c.args.p_matrix.now c.args.mu c.args.r_matrix.now in
    let h = rw (to_z-of_z mu_fits) at c.loop.invariant in
    let f = rw (to_z-of_z mu_fits) at c.in-Err.ensures.refused in
    record {
      answer = ends_refused l c.args.limit c.args.below.now c.args.budget c.loop.counter c.loop.steps c.loop.vector c.in-Err.fail c.refused.result h
          (omega (arith, c.loop-test.true)) f c.refused.ensures;
      holds = holds_refused l c.args.limit c.args.below.now c.args.vectors.now c.loop.counter c.loop.steps c.loop.vector c.in-Err.fail c.refused.result h
          c.refused.ensures;
      again = again_refused l c.args.limit c.args.below.now c.loop.counter c.loop.steps c.loop.vector c.in-Err.fail c.refused.result h c.refused.ensures;
    }

pub returns-clause-answer : goal.returns-clause-answer
returns-clause-answer g c =
    let mu_fits : SFits w128 c.args.mu = search rules in
    let h = rw (to_z-of_z mu_fits) at c.loop.invariant in
    ends_pivots c.args.budget h (omega (arith, c.loop-test.false))

pub returns-then-is_err-clause-again : goal.returns-then-is_err-clause-again
returns-then-is_err-clause-again g c = again_none (line_along c.args.p_matrix.now c.args.mu c.args.r_matrix.now)

pub search_candidate-requires : goal.search_candidate-requires
search_candidate-requires g c =
    let mu_fits : SFits w128 c.args.mu = search rules in
    let level_fits : SFits w128 c.in-Ok.made.level = search rules in
    let level_is = to_z-of_z level_fits in
    let l = line_along c.args.p_matrix.now c.args.mu c.args.r_matrix.now in
    let h = rw (to_z-of_z mu_fits) at c.loop.invariant in
    let m = rw (to_z-of_z mu_fits) at c.in-Ok.ensures.made in
    record {
      limited = c.requires.limited;
      positive = at_least_one l c.requires.sizes c.loop.vector c.in-Ok.made _ h.ready.tightenable c.requires.minimum.positive m level_is;
      reached = reached l c.requires.sizes c.loop.vector c.in-Ok.made _ h.ready.tightenable c.requires.minimum.positive m level_is;
    }

pub loop-preserved : goal.loop-preserved
loop-preserved g c =
    let mu_fits : SFits w128 c.args.mu = search rules in
    rw (to_z-of_z mu_fits) (goes_on (step g (goal.at.loop-preserved g c).After-search_candidate) c.in-Vector.next c.in-Vector.ensures)

pub returns-in-End : goal.returns-in-End
returns-in-End g c =
    let s = step g (goal.at.returns-in-End g c).After-search_candidate in
    record {
      answer = ends_answer s c.in-End.end c.ended.result c.in-End.ensures c.ended.ensures c.args.budget (omega (arith, c.loop-test.true));
      holds = ends_holds s c.in-End.end c.ended.result c.in-End.ensures c.ended.ensures;
      again = ends_again s c.in-End.end c.ended.result c.in-End.ensures c.ended.ensures;
    }
