use Rattle.std.proofs.Common.{◌∙◌}
use Rattle.unimodular_cone.proofs.SlackChoices.{child_has_slacks}
use Rattle.unimodular_cone.proofs.slack_cone.SlackCone.become_child.Goals as goal

pub invariant_of-self : goal.invariant_of-self
invariant_of-self c = child_has_slacks _ _ _ _ _ _ _ (rw c.become_copy.ensures at c.put.ensures) c.requires.size
    (λ k l. c.put_slacks.ensures k l ∙ c.requires.slacks k l)
