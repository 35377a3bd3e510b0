use Rattle.symmetric_matrix.proofs.Weights.{start_coordinates_write, start_matrices_independent}
use Rattle.symmetric_matrix.proofs.start.start_weights_are_coordinates.Goals as goal

pub returns-clause-write : goal.returns-clause-write
returns-clause-write c = start_coordinates_write

pub returns-clause-independent : goal.returns-clause-independent
returns-clause-independent c = start_matrices_independent
