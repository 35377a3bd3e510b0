use Rattle.symmetric_matrix.proofs.SmallLower.{narrow, lower_of_three}
use Rattle.pool_rows.proofs.pool_tests.three.Goals as goal

pub from_lower-requires-clause-lower : goal.from_lower-requires-clause-lower
from_lower-requires-clause-lower c =
    lower_of_three _ _ _ _ _ _ (narrow c.args.a c.requires.first) (narrow c.args.b c.requires.second) (narrow c.args.c c.requires.third)
    (narrow c.args.d c.requires.fourth) (narrow c.args.e c.requires.fifth) (narrow c.args.f c.requires.last)
