use Rattle.std.proofs.Common.{arith, to_z-of_z}
use Rattle.symmetric_matrix.proofs.Recipes.{product_refused, product_then_sum}
use Rattle.symmetric_matrix.proofs.forms.add_product.Goals as goal

pub returns-in_err-product : goal.returns-in_err-product
returns-in_err-product c = grind (arith, to_z-of_z, product_refused)

pub returns : goal.returns
returns c = grind (arith, to_z-of_z, product_then_sum)
