use Rattle.std.specs.Prelude.{◌≡◌}
use Rattle.std.proofs.Common.{◌∙◌, ap, sym, subst}
use Rattle.unimodular_cone.specs.Narrow.{HasNarrowGram, HasShallowCoordinates}
use Rattle.unimodular_cone.specs.NarrowFields.{as_wide}
use Rattle.unimodular_cone.specs.Shown.{ShownCone}
use Rattle.unimodular_cone.proofs.Copies.{same_shown, copied_is_cone}
use Rattle.unimodular_cone.proofs.narrow.NarrowCone.become_copy.Goals as goal

pub invariant_of-self : goal.invariant_of-self
invariant_of-self c =
    let from = as_wide c.other.inside in
    let count : c.args.n ≡ c.other.inside.n = c.requires.size ∙ sym (ap (λ (s : ShownCone). s.size) c.other.view_is) in
    let lower = rw count at c.copy_lower.ensures in
    let rows = rw count at c.copy_rows.ensures in
    let same = sym (same_shown from _ _ c.other.invariant.cone.within.few lower.full c.other.invariant.cone.room lower rows) in
    record {
      cone = copied_is_cone from _ _ lower.full c.other.invariant.cone lower rows;
      narrow = subst HasNarrowGram same c.other.invariant.narrow;
      shallow = subst HasShallowCoordinates same c.other.invariant.shallow;
    }

pub returns : goal.returns
returns c =
    let count : c.args.n ≡ c.other.inside.n = c.requires.size ∙ sym (ap (λ (s : ShownCone). s.size) c.other.view_is) in
    let lower = rw count at c.copy_lower.ensures in
    same_shown (as_wide c.other.inside) _ _ c.other.invariant.cone.within.few lower.full c.other.invariant.cone.room lower
    (rw count at c.copy_rows.ensures)
    ∙ c.other.view_is
