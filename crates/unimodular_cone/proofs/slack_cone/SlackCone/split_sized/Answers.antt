use Rattle.std.specs.Prelude.{FitsSigned}
use Rattle.std.specs.Int.{w64}
use Rattle.std.proofs.Common.{rules}
use Rattle.std.proofs.lemmas.Int.{to_z-of_z}
use Rattle.unimodular_cone.proofs.SlackChoices.{opening_by_slacks}
use Rattle.unimodular_cone.proofs.slack_cone.SlackCone.split_sized.Goals as goal

pub returns-clause-opening : goal.returns-clause-opening
returns-clause-opening c =
    let bound : FitsSigned w64 c.args.bound = search rules in
    let value : FitsSigned w64 c.mediant_value-value.result = search rules in
    opening_by_slacks _ _ _ _ _ _ _ _ _ _ c.requires.size (rw c.self.view_is at c.mediant_value-value.ensures)
    (rw c.self.view_is at c.child_slacks-first.ensures) (rw c.self.view_is at c.child_slacks-second.ensures)
    (rw (to_z-of_z w64 c.args.bound bound, to_z-of_z w64 c.mediant_value-value.result value) at c.open_of-made.ensures)
    (rw (to_z-of_z w64 c.args.bound bound, to_z-of_z w64 c.mediant_value-value.result value) at c.is_at-attains.ensures)
    (rw c.self.view_is at c.tell_mediant.ensures)
