use Rattle.std.proofs.Common.{arith, to_z-of_z}
use Rattle.symmetric_matrix.proofs.Combinations.{first_product_refused, second_product_refused, products_then_sum}
use Rattle.symmetric_matrix.proofs.combining.combine_entry.Goals as goal

pub returns-in_err-first : goal.returns-in_err-first
returns-in_err-first c = grind (arith, to_z-of_z, first_product_refused)

pub returns-in_err-second : goal.returns-in_err-second
returns-in_err-second c = grind (arith, to_z-of_z, second_product_refused)

pub returns : goal.returns
returns c = grind (arith, to_z-of_z, products_then_sum)
