use Rattle.std.proofs.Common.{arith}
use Rattle.symmetric_matrix.proofs.SmallLower.{lower_of_two}
use Rattle.verdict_rows.proofs.checker_tests.two.Goals as goal

pub from_lower-requires-clause-lower : goal.from_lower-requires-clause-lower
from_lower-requires-clause-lower c = lower_of_two _ _ _ (omega arith) (omega arith) (omega arith)

pub from_lower-requires-else-first-clause-lower : goal.from_lower-requires-else-first-clause-lower
from_lower-requires-else-first-clause-lower c = lower_of_two _ _ _ (omega arith) (omega arith) (omega arith)
