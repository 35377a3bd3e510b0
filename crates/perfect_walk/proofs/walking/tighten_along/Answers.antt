use Rattle.std.proofs.Common.{Option, Some, None, List, ℕ, ◌≡◌, ◌+◌, ◌∙◌, arith, refl, ap, ap₂, subst, sym, rules, to_z, of_z, length, map, ℤ}
use Rattle.std.proofs.lemmas.Int.{to_z-of_z}
use mir.Syntax.{w128}
use Rattle.symmetric_matrix.specs.Symmetric.{Symmetric}
use Rattle.contiguous.specs.declared.neighbour.Neighbour.TheVariants as neighbour
use Rattle.contiguous.specs.declared.neighbour.Tighten.{Tighten}
use Rattle.contiguous.specs.Tightenings.{line_along, CanBeMadeAgain}
use Rattle.perfect_walk.specs.declared.journal.Visit.{Visit}
use Rattle.perfect_walk.specs.declared.journal.End.{End}
use Rattle.perfect_walk.specs.declared.journal.End.TheVariants as end
use Rattle.perfect_walk.specs.declared.journal.Step.TheVariants as step
use Rattle.perfect_walk.specs.Parts.{or_ray}
use Rattle.perfect_walk.specs.States.{ray_at}
use Rattle.perfect_walk.proofs.TightenEnds.{part_memory, depth_part, wide_part, pivots_part, found_part}
use Rattle.perfect_walk.proofs.FromRay.{here, answer_here, part_here, searched_here}
use Rattle.perfect_walk.proofs.Held.{ended_as, ended_next, after_next, found_next}
use Rattle.perfect_walk.proofs.walking.tighten_along.Goals as goal

pub returns-in-Depth-clause-part : goal.returns-in-Depth-clause-part
returns-in-Depth-clause-part g c T σ R O C =
    part_here T c.args.limits c.args.s.now σ c.args.now.now c.args.trail.now c.end_after_tightens.new.trail c.args.ray R O c.args.limits.pivots
    c.args.below.now c.end_after_tightens.result C (λ called rayed before.
    depth_part T c.args.limits.pivots c.args.now.now σ.exchanges σ.searched c.args.below.now _ c.args.trail.now c.end_after_tightens.new.trail called rayed
    (let n = c.steps_left-budget.ensures in let r = c.requires.room in omega arith) before
    c.in-Depth.steps c.in-Depth.candidate c.in-Depth.path c.end_after_tightens.result
    (answer_here T c.args.limits c.args.s.now σ c.args.now.now c.args.trail.now c.end_after_tightens.new.trail c.args.ray R O c.args.below.now _ _
    (neighbour.Depth c.in-Depth.candidate c.in-Depth.path c.in-Depth.steps) (search (rules, to_z-of_z)) c.in-Depth.ensures.answer)
    c.end_after_tightens.ensures)

pub returns-in-Depth-clause-next : goal.returns-in-Depth-clause-next
returns-in-Depth-clause-next g c = after_next c.args.s.now c.args.now.now _ _ _ _ _ _ c.end_after_tightens.ensures

-- what is made again
again_as : (v : Visit) (ray : Symmetric) (mu : ℤ) (ts : List Tighten) → mu ≡ v.mu → CanBeMadeAgain (line_along v.matrix mu ray) ts
    → CanBeMadeAgain (line_along v.matrix v.mu ray) ts
again_as v ray mu ts e h = subst (λ (mu : ℤ). CanBeMadeAgain (line_along v.matrix mu ray) ts) e h

pub end_by_width-requires-clause-again : goal.end_by_width-requires-clause-again
end_by_width-requires-clause-again g c = again_as c.args.now.now c.args.ray _ c.in-Wide.steps (search (rules, to_z-of_z)) c.in-Wide.ensures.again

pub end_before_tightening-requires-clause-again : goal.end_before_tightening-requires-clause-again
end_before_tightening-requires-clause-again g c = again_as c.args.now.now c.args.ray _ c.in-Pivots.steps (search (rules, to_z-of_z)) c.in-Pivots.ensures.again

pub returns-in-Wide-clause-part : goal.returns-in-Wide-clause-part
returns-in-Wide-clause-part g c T σ R O C =
    part_here T c.args.limits c.args.s.now σ c.args.now.now c.args.trail.now c.end_by_width.new.trail c.args.ray R O c.args.limits.pivots c.args.below.now
    c.end_by_width.result C (λ called rayed before.
    wide_part T c.args.limits.pivots c.args.now.now σ.exchanges σ.searched c.args.below.now _ c.args.trail.now c.end_by_width.new.trail called rayed
    (let n = c.steps_left-budget.ensures in let r = c.requires.room in omega arith) before
    c.in-Wide.steps c.in-Wide.op c.in-Wide.candidate c.end_by_width.result
    (answer_here T c.args.limits c.args.s.now σ c.args.now.now c.args.trail.now c.end_by_width.new.trail c.args.ray R O c.args.below.now _ _
    (neighbour.Wide c.in-Wide.op c.in-Wide.candidate c.in-Wide.steps) (search (rules, to_z-of_z)) c.in-Wide.ensures.answer)
    (ended_as c.args.trail.now c.end_by_width.new.trail (map step.Tighten c.in-Wide.steps) _ _ _ _ c.end_by_width.result
    (ap (λ (q : Symmetric). Some (or_ray q c.in-Wide.candidate))
    (searched_here T c.args.limits c.args.s.now σ c.args.now.now c.args.trail.now c.end_by_width.new.trail c.args.ray R O c.in-Wide.steps)) refl
    c.end_by_width.ensures))

pub returns-in-Pivots-clause-part : goal.returns-in-Pivots-clause-part
returns-in-Pivots-clause-part g c T σ R O C =
    part_here T c.args.limits c.args.s.now σ c.args.now.now c.args.trail.now c.end_before_tightening.new.trail c.args.ray R O c.args.limits.pivots
    c.args.below.now c.end_before_tightening.result C (λ called rayed before.
    pivots_part T c.args.limits.pivots c.args.now.now σ.exchanges σ.searched c.args.below.now _ c.args.trail.now c.end_before_tightening.new.trail called rayed
    (let n = c.steps_left-budget.ensures in let r = c.requires.room in omega arith) before
    c.in-Pivots.steps c.end_before_tightening.result
    (answer_here T c.args.limits c.args.s.now σ c.args.now.now c.args.trail.now c.end_before_tightening.new.trail c.args.ray R O c.args.below.now _ _
    (neighbour.Pivots c.in-Pivots.steps) (search (rules, to_z-of_z)) c.in-Pivots.ensures.answer)
    (ended_as c.args.trail.now c.end_before_tightening.new.trail (map step.Tighten c.in-Pivots.steps) _ _ end.Pivots end.Pivots c.end_before_tightening.result
    (ap (λ (q : Symmetric). Some q)
    (searched_here T c.args.limits c.args.s.now σ c.args.now.now c.args.trail.now c.end_before_tightening.new.trail c.args.ray R O c.in-Pivots.steps)) refl
    c.end_before_tightening.ensures))

visit_is : (c : Symmetric) (mu mu' : ℤ) (found : List (List ℕ)) → mu ≡ mu'
    → (let v : Visit = record { matrix = c; mu = mu; vectors = found } in v) ≡ record { matrix = c; mu = mu'; vectors = found }
visit_is c mu mu' found e = ap (λ (mu : ℤ). (let v : Visit = record { matrix = c; mu = mu; vectors = found } in v)) e

pub returns-in-Found-clause-part : goal.returns-in-Found-clause-part
returns-in-Found-clause-part g c T σ R O C =
    part_here T c.args.limits c.args.s.now σ c.args.now.now c.args.trail.now c.turn_to.new.trail c.args.ray R O c.args.limits.pivots c.args.below.now
    c.turn_to.result C (λ called rayed before.
    found_part T c.args.limits.pivots c.args.now.now σ.exchanges σ.searched c.args.below.now _ c.args.trail.now c.turn_to.new.trail called rayed
    (let n = c.steps_left-budget.ensures in let r = c.requires.room in omega arith) before
    c.in-Found.steps c.in-Found.perfect c.in-Found.mu c.in-Found.vectors _ c.turn_to.result
    (visit_is c.in-Found.perfect _ c.in-Found.mu c.in-Found.vectors (search (rules, to_z-of_z)))
    (answer_here T c.args.limits c.args.s.now σ c.args.now.now c.args.trail.now c.turn_to.new.trail c.args.ray R O c.args.below.now _ _
    (neighbour.Found c.in-Found.perfect c.in-Found.mu c.in-Found.vectors c.in-Found.steps) (search (rules, to_z-of_z)) c.in-Found.ensures.answer)
    c.turn_to.ensures)

pub returns-in-Found-clause-next : goal.returns-in-Found-clause-next
returns-in-Found-clause-next g c =
    found_next c.args.s.now c.args.now.now c.args.ray _ (search (rules, to_z-of_z)) c.requires.held c.requires.extreme c.requires.separates c.in-Found.perfect
    c.in-Found.mu c.in-Found.vectors c.in-Found.steps _ _ _ _ _ _
    (visit_is c.in-Found.perfect _ c.in-Found.mu c.in-Found.vectors (search (rules, to_z-of_z))) c.in-Found.ensures.holds.1 c.turn_to.ensures

pub returns-in-OutOfMemory-clause-part : goal.returns-in-OutOfMemory-clause-part
returns-in-OutOfMemory-clause-part g c T σ R O C = part_memory T c.args.limits.pivots σ c.args.trail.now _ _ c.requires.room R.searched refl refl refl
