use Rattle.std.proofs.Common.{◌≡◌, ◌+◌, ◌-◌, ◌++◌, map}
use Rattle.symmetric_matrix.specs.StartVectors.{run_vector, runs_from, late_runs}
use Rattle.symmetric_matrix.proofs.start.push_runs.Given as goal

abbrev pub invariant-loop-last : goal.invariant-loop-last
invariant-loop-last l = l.list ≡ map (run_vector l.n) (late_runs l.n l.later ++ runs_from (l.n - (l.later + 1)) (l.last - l.first))
