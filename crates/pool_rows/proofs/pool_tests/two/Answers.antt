use Rattle.symmetric_matrix.proofs.SmallLower.{narrow, lower_of_two}
use Rattle.pool_rows.proofs.pool_tests.two.Goals as goal

pub from_lower-requires-clause-lower : goal.from_lower-requires-clause-lower
from_lower-requires-clause-lower c = lower_of_two _ _ _ (narrow c.args.a c.requires.first) (narrow c.args.b c.requires.beside) (narrow c.args.c c.requires.last)
