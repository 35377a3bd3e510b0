use Rattle.std.proofs.Common.{◌≤◌, ◌≡◌, ◌-◌, arith, subst, sym, List, length, to_z, of_z}
use Rattle.std.proofs.lemmas.Int.{to_z-of_z}
use mir.Syntax.{w128}
use Rattle.std.specs.List.{All}
use Rattle.perfect_walk.specs.declared.journal.Visit.{Visit}
use Rattle.perfect_walk.specs.declared.journal.Walked.{Walked}
use Rattle.perfect_walk.specs.declared.walking.Turned.{Turned}
use Rattle.perfect_walk.specs.declared.walking.Turned.TheVariants as turned
use Rattle.perfect_walk.specs.Chains.{at_visit}
use Rattle.perfect_walk.specs.Parts.{task, IsHeld, IsPart}
use Rattle.perfect_walk.proofs.Reaching.{walked_as, reached_end, reached_memory, reached_move, steps_grow, last_is, some_visits, part_at, next_at, on_ok_of}
use Rattle.perfect_walk.proofs.Reaching.{on_err_of}
use Rattle.perfect_walk.proofs.walking.walk_on.Given as given
use Rattle.perfect_walk.proofs.walking.walk_on.Goals as goal
use Rattle.perfect_walk.proofs.walking.walk_on.Goals.{After-visit}

-- the visit that was made is the last
last_here : (g : given.Over) (c : After-visit g) → c.at.result.now ≡ c.loop-next.invariant.last
last_here g c = last_is _ _ _ _ c.loop-next.invariant c.at.result.now (c.len-last.result - 1)
    (let n = c.len-last.ensures in let m : 1 ≤ length c.loop-next.visited = some_visits _ _ _ _ c.loop-next.invariant in omega arith) c.at.ensures

-- so its part begins at the last
part_here : (g : given.Over) (c : After-visit g) (left : Turned)
    → IsPart (task c.args.s.now (to_z w128 (of_z w128 c.args.d)) c.args.limits.depth) c.args.limits.pivots (at_visit c.at.result.now c.loop-next.trail.searched)
    c.loop-next.trail c.visit.new.trail left
    → IsPart (task c.args.s.now (to_z w128 (of_z w128 c.args.d)) c.args.limits.depth) c.args.limits.pivots
    (at_visit c.loop-next.invariant.last c.loop-next.trail.searched) c.loop-next.trail c.visit.new.trail left
part_here g c left = part_at _ _ c.at.result.now c.loop-next.invariant.last c.loop-next.trail.searched _ _ left (last_here g c)

pub returns-in-Ended-clause-answer : goal.returns-in-Ended-clause-answer
returns-in-Ended-clause-answer g c =
    walked_as c.args.s.now _ c.args.d c.args.limits.depth c.args.limits.pivots _ _ (to_z-of_z w128 c.args.d c.ranges.d) c.walked-in-Ended.ensures
    (reached_end _ _ _ _ _ c.loop-next.invariant c.in-Ended.end
    (part_here g (goal.at.returns-in-Ended-clause-answer g c).After-visit (turned.Ended c.in-Ended.end) c.in-Ended.ensures.part))

pub returns-then-is_err-clause-answer : goal.returns-then-is_err-clause-answer
returns-then-is_err-clause-answer g c =
    walked_as c.args.s.now _ c.args.d c.args.limits.depth c.args.limits.pivots _ _ (to_z-of_z w128 c.args.d c.ranges.d) c.walked.ensures
    (reached_memory _ _ _ _ _ c.loop-next.invariant c.in-Moved.next
    (part_here g (goal.at.returns-then-is_err-clause-answer g c).After-visit (turned.Moved c.in-Moved.next) c.in-Moved.ensures.part)
    _ (on_err_of _ c.enter.result c.if-is_err.ensures.value c.enter.ensures.kept_visits)
    _ (on_err_of _ c.enter.result c.if-is_err.ensures.value c.enter.ensures.kept_steps))

pub returns-then-is_err-clause-held : goal.returns-then-is_err-clause-held
returns-then-is_err-clause-held g c =
    let kept : c.enter.new.visited ≡ c.loop-next.visited = on_err_of (c.enter.new.visited ≡ c.loop-next.visited) c.enter.result c.if-is_err.ensures.value
    c.enter.ensures.kept_visits in
    subst (λ (w : Walked). All (IsHeld c.args.s.now.size) w.journal.visited) (sym c.walked.ensures)
    (subst (λ (vs : List Visit). All (IsHeld c.args.s.now.size) vs) (sym kept) c.loop-next.invariant.held)

pub loop-next-preserved : goal.loop-next-preserved
loop-next-preserved g c =
    let v = (goal.at.loop-next-preserved g c).After-visit in
    reached_move _ _ _ _ _ c.loop-next.invariant c.in-Moved.next (part_here g v (turned.Moved c.in-Moved.next) c.in-Moved.ensures.part)
    (next_at c.args.s.now _ _ (turned.Moved c.in-Moved.next) (last_here g v) c.in-Moved.ensures.next) c.enter.new.visited c.enter.new.steps
    (on_ok_of _ c.enter.result c.if-is_err.ensures.value c.enter.ensures.visited) (on_ok_of _ c.enter.result c.if-is_err.ensures.value c.enter.ensures.steps)

pub loop-next-smaller : goal.loop-next-smaller
loop-next-smaller g c = steps_grow _ _ _ _ _ c.loop-next.invariant c.in-Moved.next
    (part_here g (goal.at.loop-next-smaller g c).After-visit (turned.Moved c.in-Moved.next) c.in-Moved.ensures.part) c.enter.new.steps
    (on_ok_of _ c.enter.result c.if-is_err.ensures.value c.enter.ensures.steps)
