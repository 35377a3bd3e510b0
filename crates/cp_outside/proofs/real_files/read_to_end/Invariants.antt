use Rattle.std.proofs.Common.{◌≤◌, length}
use Rattle.cp_outside.proofs.real_files.read_to_end.Given as goal

abbrev pub invariant-loop : goal.invariant-loop
invariant-loop g l = length l.into.items ≤ l.limit
