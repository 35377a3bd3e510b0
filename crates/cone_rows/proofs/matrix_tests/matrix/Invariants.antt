use Rattle.std.proofs.Common.{◌<◌, ℕ, pos, slice_index_or}
use Rattle.symmetric_matrix.specs.Symmetric.{FitsInt}
use Rattle.cone_rows.proofs.matrix_tests.matrix.Given as goal

abbrev pub invariant-loop-entry : goal.invariant-loop-entry
invariant-loop-entry g l = (k : ℕ) → k < l.entry-index → FitsInt (slice_index_or l.lower k (pos 0))
