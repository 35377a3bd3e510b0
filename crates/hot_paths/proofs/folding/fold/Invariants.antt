use Rattle.std.proofs.Common.{◌<◌, length}
use Rattle.hot_paths.proofs.folding.fold.Given as goal

abbrev pub invariant-loop-made : goal.invariant-loop-made
invariant-loop-made g l = l.place < length l.operands
