use Rattle.std.proofs.Common.{refl, subst, ℤ}
use Rattle.std.proofs.lemmas.Int.{to_z-of_z}
use mir.Syntax.{w128}
use Rattle.perfect_walk.specs.Parts.{IsPairedEnd}
use Rattle.perfect_walk.proofs.TightenEnds.{part_memory}
use Rattle.perfect_walk.proofs.RayParts.{search_here, called_here, depth_here, wide_here, copositive_here}
use Rattle.perfect_walk.proofs.walking.search_ray.Goals as goal

pub returns-in-Copositive-clause-part : goal.returns-in-Copositive-clause-part
returns-in-Copositive-clause-part g c T σ R d O =
    copositive_here T c.args.limits c.args.s.now c.args.d σ c.args.now.now c.args.trail.now c.args.ray R d O c.requires.room _ refl refl
    c.separated_by_ray-end.result c.in-Copositive.ensures.answer
    (subst (λ (d : ℤ). IsPairedEnd c.args.ray c.args.s.now d c.separated_by_ray-end.result) (to_z-of_z w128 c.args.d c.ranges.d) c.separated_by_ray-end.ensures)

pub returns-in-Low-clause-part : goal.returns-in-Low-clause-part
returns-in-Low-clause-part g c T σ R d O =
    c.tighten_along.ensures.part T σ R O
    (called_here T c.args.limits c.args.s.now c.args.d σ c.args.now.now c.args.trail.now c.args.ray R d O c.requires.room c.in-Low.vector c.in-Low.value
    c.in-Low.path c.in-Low.ensures.answer)

pub returns-in-Depth-clause-part : goal.returns-in-Depth-clause-part
returns-in-Depth-clause-part g c T σ R d O =
    depth_here T c.args.limits c.args.s.now c.args.d σ c.args.now.now c.args.trail.now c.args.ray R d O c.requires.room _ refl refl c.in-Depth.path
    c.in-Depth.ensures.answer

pub returns-in-Wide-clause-part : goal.returns-in-Wide-clause-part
returns-in-Wide-clause-part g c T σ R d O =
    wide_here T c.args.limits c.args.s.now c.args.d σ c.args.now.now c.args.trail.now c.args.ray R d O c.requires.room _ refl refl c.in-Wide.at
    c.in-Wide.ensures.answer

pub returns-in-OutOfMemory-clause-part : goal.returns-in-OutOfMemory-clause-part
returns-in-OutOfMemory-clause-part g c T σ R d O = part_memory T c.args.limits.pivots σ c.args.trail.now _ _ c.requires.room R.searched refl refl refl
