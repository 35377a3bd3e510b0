use Rattle.std.proofs.Common.{to_z-of_z}
use Rattle.fraction128.proofs.Operations.{small_back, small_product_fits}
use Rattle.fraction128.proofs.small.small_product.Goals as goal

pub overflow_mul-result : goal.overflow_mul-result
overflow_mul-result c =
    rw (small_back c.args.left c.requires.left, small_back c.args.right c.requires.right)
    (small_product_fits c.args.left c.args.right c.requires.left c.requires.right)

pub returns : goal.returns
returns c =
    rw (small_back c.args.left c.requires.left, small_back c.args.right c.requires.right)
    (to_z-of_z (small_product_fits c.args.left c.args.right c.requires.left c.requires.right))
