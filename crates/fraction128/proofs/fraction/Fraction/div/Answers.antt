use Rattle.std.proofs.Common.{◌∙◌, ap}
use Rattle.exact_forms.specs.Rational.{◌*ℚ◌, ◌/ℚ◌}
use Rattle.symmetric_matrix.specs.Owed.{answer}
use Rattle.symmetric_matrix.specs.Operations.{is_owed}
use Rattle.fraction128.specs.Recipes.{mul_ops, div_ops}
use Rattle.fraction128.proofs.fraction.Fraction.div.Goals as goal

pub returns : goal.returns
unfolding div_ops ◌/ℚ◌
returns c = c.mul.ensures ∙ ap (λ x. answer is_owed (mul_ops c.args.self x) (c.args.self *ℚ x)) c.inverted.ensures
