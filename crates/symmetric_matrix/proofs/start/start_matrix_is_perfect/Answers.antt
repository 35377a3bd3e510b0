use Rattle.symmetric_matrix.proofs.FirstMatrix.{first_is_minimum, start_list_is_perfect}
use Rattle.symmetric_matrix.proofs.start.start_matrix_is_perfect.Goals as goal

pub returns-clause-minimum : goal.returns-clause-minimum
returns-clause-minimum c = first_is_minimum

pub returns-clause-perfect : goal.returns-clause-perfect
returns-clause-perfect c = start_list_is_perfect
