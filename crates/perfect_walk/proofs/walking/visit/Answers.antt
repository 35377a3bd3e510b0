use Rattle.std.proofs.Common.{◌≡◌, ◌∙◌, arith, refl, ap, subst, sym, inl, inr, ℤ, pos, ◌≤ℤ◌, ◌<ℤ◌, Ok, Err, rules, to_z, of_z}
use Rattle.std.proofs.lemmas.Int.{ints, to_z-of_z}
use mir.Syntax.{w128}
use Rattle.symmetric_matrix.specs.Operations.{is_owed}
use Rattle.symmetric_matrix.specs.Recipes.{inner_ops}
use Rattle.symmetric_matrix.specs.Symmetric.{FitsInt}
use Rattle.symmetric_matrix.proofs.Owed.{none_of_ok, some_of_err}
use Rattle.perfect_walk.specs.Chains.{at_visit}
use Rattle.perfect_walk.specs.Parts.{task, IsPart, IsSeparatedBy}
use Rattle.perfect_walk.proofs.Owes.{inner_none}
use Rattle.perfect_walk.proofs.VisitParts.{separated_part, inner_refused}
use Rattle.perfect_walk.proofs.Fits.{inner_fits}
use Rattle.perfect_walk.proofs.walking.visit.Goals as goal

pub separated-requires-clause-narrow : goal.separated-requires-clause-narrow
separated-requires-clause-narrow g c =
    let v : to_z w128 (of_z w128 c.in-Ok.value) ≡ c.in-Ok.value = search (rules, to_z-of_z) in
    subst (λ (z : ℤ). FitsInt z) (sym v) (inner_fits c.args.now.now.matrix c.args.s.now c.in-Ok.value c.requires.held.size (sym c.inner.ensures.value
    ∙ c.in-Ok.is))

pub place_at-requires-clause-owes : goal.place_at-requires-clause-owes
place_at-requires-clause-owes g c =
    let k = none_of_ok is_owed (inner_ops c.args.now.now.matrix c.args.s.now) _ c.in-Ok.value (sym c.inner.ensures.value ∙ c.in-Ok.is) in inner_none
    c.args.now.now.matrix c.args.s.now k.0

pub place_at-requires-clause-met : goal.place_at-requires-clause-met
place_at-requires-clause-met g c =
    let k = none_of_ok is_owed (inner_ops c.args.now.now.matrix c.args.s.now) _ c.in-Ok.value (sym c.inner.ensures.value ∙ c.in-Ok.is) in
    subst (λ (z : ℤ). pos 0 ≤ℤ z) (sym k.1) (let h = c.if-value-lt0.false in grind (arith, ints))

pub returns-then-value-lt0-clause-part : goal.returns-then-value-lt0-clause-part
returns-then-value-lt0-clause-part g c =
    let k = none_of_ok is_owed (inner_ops c.args.now.now.matrix c.args.s.now) _ c.in-Ok.value (sym c.inner.ensures.value ∙ c.in-Ok.is) in
    let v : to_z w128 (of_z w128 c.in-Ok.value) ≡ c.in-Ok.value = search (rules, to_z-of_z) in
    separated_part c.args.s.now c.args.d c.args.limits.depth c.args.limits.pivots c.args.now.now c.args.trail.now c.separated.result c.requires.room k.0
    (subst (λ (z : ℤ). z <ℤ pos 0) (sym k.1) (let h = c.if-value-lt0.true in grind (arith, ints)))
    (subst (λ (z : ℤ). IsSeparatedBy c.args.now.now.matrix z c.args.d c.separated.result) (v ∙ sym k.1)
    (subst (λ (d : ℤ). IsSeparatedBy c.args.now.now.matrix (to_z w128 (of_z w128 c.in-Ok.value)) d c.separated.result)
    (to_z-of_z w128 c.args.d c.ranges.d) c.separated.ensures))

pub returns-in-Err-clause-part : goal.returns-in-Err-clause-part
returns-in-Err-clause-part g c =
    inner_refused c.args.s.now c.args.d c.args.limits.depth c.args.limits.pivots c.args.now.now c.args.trail.now c.in-Err.op c.requires.room
    (some_of_err is_owed (inner_ops c.args.now.now.matrix c.args.s.now) _ c.in-Err.op (sym c.inner.ensures.value ∙ c.in-Err.is))

pub returns-else-value-lt0-clause-part : goal.returns-else-value-lt0-clause-part
returns-else-value-lt0-clause-part g c =
    subst (λ (d : ℤ). IsPart (task c.args.s.now d c.args.limits.depth) c.args.limits.pivots (at_visit c.args.now.now c.args.trail.now.searched)
    c.args.trail.now c.place_at.new.trail c.place_at.result)
    (to_z-of_z w128 c.args.d c.ranges.d) c.place_at.ensures.part
