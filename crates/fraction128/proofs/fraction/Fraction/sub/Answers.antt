use Rattle.std.proofs.Common.{◌∙◌, ap}
use Rattle.exact_forms.specs.Rational.{◌+ℚ◌, ◌-ℚ◌}
use Rattle.symmetric_matrix.specs.Owed.{answer}
use Rattle.symmetric_matrix.specs.Operations.{is_owed}
use Rattle.fraction128.specs.Recipes.{add_ops, sub_ops}
use Rattle.fraction128.proofs.fraction.Fraction.sub.Goals as goal

pub returns : goal.returns
unfolding sub_ops ◌-ℚ◌
returns c = c.add.ensures ∙ ap (λ x. answer is_owed (add_ops c.args.self x) (c.args.self +ℚ x)) c.neg.ensures
