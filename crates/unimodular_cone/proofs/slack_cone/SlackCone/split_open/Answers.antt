use Rattle.std.specs.Prelude.{◌≡◌, ◌≤◌, ◌^◌, ℕ, min, pos}
use Rattle.std.specs.Int.{w64}
use Rattle.std.proofs.Common.{arith, to_z, ◌∙◌, ap}
use Rattle.std.proofs.lemmas.Int.{to_z_pos}
use Rattle.unimodular_cone.proofs.SlackChoices.{openings_at_bound}
use Rattle.unimodular_cone.proofs.slack_cone.SlackCone.split_open.Goals as goal

clamped : (bound least : ℕ) → least ≡ min bound (2 ^ 60) → to_z w64 least ≡ pos (min bound (2 ^ 60))
clamped bound least is = let low : least ≤ 2 ^ 60 = omega (arith, is) in to_z_pos w64 least (omega (arith, low)) ∙ ap pos is

pub returns-in-3-clause-opening : goal.returns-in-3-clause-opening
returns-in-3-clause-opening c = openings_at_bound _ _ _ _ _ _ c.split_sized.ensures.narrow
    (rw (clamped c.args.bound c.min-bound.result c.min-bound.ensures) at c.split_sized.ensures.opening)

pub returns-in-4-clause-opening : goal.returns-in-4-clause-opening
returns-in-4-clause-opening c = openings_at_bound _ _ _ _ _ _ c.split_sized-in-4.ensures.narrow
    (rw (clamped c.args.bound c.min-bound.result c.min-bound.ensures) at c.split_sized-in-4.ensures.opening)

pub returns-in-5-clause-opening : goal.returns-in-5-clause-opening
returns-in-5-clause-opening c = openings_at_bound _ _ _ _ _ _ c.split_sized-in-5.ensures.narrow
    (rw (clamped c.args.bound c.min-bound.result c.min-bound.ensures) at c.split_sized-in-5.ensures.opening)

pub returns-in-6-clause-opening : goal.returns-in-6-clause-opening
returns-in-6-clause-opening c = openings_at_bound _ _ _ _ _ _ c.split_sized-in-6.ensures.narrow
    (rw (clamped c.args.bound c.min-bound.result c.min-bound.ensures) at c.split_sized-in-6.ensures.opening)

pub returns-in_default-clause-opening : goal.returns-in_default-clause-opening
returns-in_default-clause-opening c = openings_at_bound _ _ _ _ _ _ c.split_sized-in_default.ensures.narrow
    (rw (clamped c.args.bound c.min-bound.result c.min-bound.ensures) at c.split_sized-in_default.ensures.opening)
