use Rattle.std.proofs.Common.{arith, to_z-of_z}
use Rattle.symmetric_matrix.proofs.Recipes.{multiple_refused, multiple_then_rest}
use Rattle.symmetric_matrix.proofs.forms.add_multiple.Goals as goal

pub returns-in_err-multiple : goal.returns-in_err-multiple
returns-in_err-multiple c = grind (arith, to_z-of_z, multiple_refused)

pub returns : goal.returns
returns c = grind (arith, to_z-of_z, multiple_then_rest)
