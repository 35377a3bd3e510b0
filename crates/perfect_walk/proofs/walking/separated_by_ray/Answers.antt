use Rattle.std.proofs.Common.{◌≡◌, ap, refl, subst, sym, ◌∙◌, inl, inr, ℤ, Ok, Err, rules, to_z, of_z}
use Rattle.std.proofs.lemmas.Int.{to_z-of_z}
use mir.Syntax.{w128}
use Rattle.symmetric_matrix.specs.Operations.{is_owed}
use Rattle.symmetric_matrix.specs.Recipes.{inner_ops}
use Rattle.symmetric_matrix.specs.Symmetric.{FitsInt}
use Rattle.symmetric_matrix.proofs.Owed.{none_of_ok, some_of_err}
use Rattle.perfect_walk.specs.Parts.{IsSeparatedBy}
use Rattle.perfect_walk.proofs.Fits.{inner_fits}
use Rattle.perfect_walk.proofs.walking.separated_by_ray.Goals as goal

pub separated-requires-clause-narrow : goal.separated-requires-clause-narrow
separated-requires-clause-narrow c =
    let v : to_z w128 (of_z w128 c.in-Ok.value) ≡ c.in-Ok.value = search (rules, to_z-of_z) in
    subst (λ (z : ℤ). FitsInt z) (sym v) (inner_fits c.args.ray.now c.args.s.now c.in-Ok.value c.requires.sizes (sym c.inner.ensures.value ∙ c.in-Ok.is))

pub returns-in-Ok : goal.returns-in-Ok
returns-in-Ok c =
    let k = none_of_ok is_owed (inner_ops c.args.ray.now c.args.s.now) _ c.in-Ok.value (sym c.inner.ensures.value ∙ c.in-Ok.is) in
    let v : to_z w128 (of_z w128 c.in-Ok.value) ≡ c.in-Ok.value = search (rules, to_z-of_z) in
    inl (
      k.0,
      subst (λ (z : ℤ). IsSeparatedBy c.args.ray.now z c.args.d c.separated.result) (v ∙ sym k.1)
          (subst (λ (d : ℤ). IsSeparatedBy c.args.ray.now (to_z w128 (of_z w128 c.in-Ok.value)) d c.separated.result)
          (to_z-of_z w128 c.args.d c.ranges.d) c.separated.ensures),
    )

pub returns-in-Err : goal.returns-in-Err
returns-in-Err c = inr (c.in-Err.op, some_of_err is_owed (inner_ops c.args.ray.now c.args.s.now) _ c.in-Err.op (sym c.inner.ensures.value ∙ c.in-Err.is), refl)
