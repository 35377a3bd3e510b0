use Rattle.std.proofs.Common.{◌≡◌, length}
use Rattle.hot_paths.proofs.folding.operands.Given as goal

abbrev pub invariant-loop : goal.invariant-loop
invariant-loop l = length l.operands.items ≡ l.counter
