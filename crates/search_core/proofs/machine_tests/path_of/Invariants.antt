use Rattle.std.specs.Prelude.{◌≤◌, length}
use Rattle.search_core.proofs.machine_tests.path_of.Given as goal

abbrev pub invariant-loop-k : goal.invariant-loop-k
invariant-loop-k l = length l.path ≤ l.k
