use Rattle.std.proofs.Common.{◌∙◌}
use Rattle.unimodular_cone.proofs.Copies.{same_shown, copied_is_cone}
use Rattle.unimodular_cone.proofs.cone.Cone.become_copy.Goals as goal

pub invariant_of-self : goal.invariant_of-self
invariant_of-self c =
    copied_is_cone c.other.inside _ _ c.copy_lower.ensures.full c.other.invariant c.copy_lower.ensures c.copy_rows.ensures

pub returns : goal.returns
returns c =
    same_shown c.other.inside _ _ c.other.invariant.within.few c.copy_lower.ensures.full c.other.invariant.room c.copy_lower.ensures c.copy_rows.ensures
    ∙ c.other.view_is
