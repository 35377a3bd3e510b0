use Rattle.std.proofs.Common.{◌≡◌, map}
use Rattle.symmetric_matrix.specs.StartVectors.{run_vector, late_runs}
use Rattle.symmetric_matrix.proofs.start.start_vectors.Given as goal

abbrev pub invariant-loop-later : goal.invariant-loop-later
invariant-loop-later l = l.list ≡ map (run_vector l.n) (late_runs l.n l.later)
