use Rattle.std.proofs.Common.{◌≡◌, ◌∙◌, sym, refl}
use Rattle.std.proofs.lemmas.Int.{to_z-of_z}
use mir.Syntax.{w128}
use Rattle.perfect_walk.proofs.Outside.{is_ray_basis, ray_extreme, ray_on, ray_ended}
use Rattle.perfect_walk.proofs.walking.turn_outside.Goals as goal

pub ray_or_end-requires : goal.ray_or_end-requires
ray_or_end-requires g c = is_ray_basis c.args.s.now c.args.now.now c.args.zeros.now c.args.leaving c.requires.held c.requires.separating

pub search_ray-requires-clause-extreme : goal.search_ray-requires-clause-extreme
search_ray-requires-clause-extreme g c = ray_extreme c.args.s.now c.args.now.now c.args.zeros.now c.args.leaving c.requires.held c.requires.separating
    c.in-Ok.ray c.in-Ok.ensures.meaning

pub returns-in-Ok-clause-part : goal.returns-in-Ok-clause-part
returns-in-Ok-clause-part g c T σ R d O =
    c.search_ray.ensures.part T σ R (d ∙ sym (to_z-of_z w128 c.args.d c.ranges.d))
    (ray_on T c.args.limits σ c.args.s.now c.args.now.now c.args.trail.now c.args.zeros.now c.args.leaving c.requires.held c.requires.separating R O
    c.in-Ok.ray c.in-Ok.ensures.value c.in-Ok.ensures.owes c.in-Ok.ensures.meaning)

pub returns-in-Err-clause-part : goal.returns-in-Err-clause-part
returns-in-Err-clause-part g c T σ R d O =
    ray_ended T c.args.limits σ c.args.s.now c.args.now.now c.args.trail.now c.args.zeros.now c.args.leaving R O c.in-Err.end c.in-Err.ensures.ended
    c.requires.room
