use Rattle.std.proofs.Common.{◌∙◌, ap, sym, subst}
use Rattle.unimodular_cone.specs.Cones.{child_gram}
use Rattle.unimodular_cone.specs.OpenChildren.{AreSlacks}
use Rattle.unimodular_cone.specs.Shown.{ShownCone, shown_gram}
use Rattle.unimodular_cone.proofs.SlackChoices.{child_has_slacks}
use Rattle.unimodular_cone.proofs.slack_cone.SlackCone.put.Goals as goal

pub invariant_of-self : goal.invariant_of-self
invariant_of-self c = child_has_slacks _ _ _ _ _ _ _ c.put.ensures (c.requires.size ∙ sym (ap (λ (s : ShownCone). s.size) c.self.view_is))
    (subst (λ (s : ShownCone). AreSlacks c.args.n (child_gram (shown_gram s) c.args.r c.args.s) c.put_slacks.new.into) (sym c.self.view_is)
    (λ k l. c.put_slacks.ensures k l ∙ c.requires.slacks k l))
