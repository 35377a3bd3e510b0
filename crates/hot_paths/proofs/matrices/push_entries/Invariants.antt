use Rattle.std.proofs.Common.{◌≡◌, ◌+◌, length}
use Rattle.std.specs.Prelude.{All}
use Rattle.symmetric_matrix.specs.Symmetric.{FitsInt}
use Rattle.hot_paths.proofs.matrices.push_entries.Given as goal

abbrev pub invariant-loop-entry : goal.invariant-loop-entry
invariant-loop-entry l = record {
  count : length l.lower.items ≡ length l.fn.lower.items + l.entry-index;
  fits : All FitsInt l.lower.items;
}
