use Rattle.std.specs.Prelude.{◌<◌, ◌^◌, ℕ, slice_index_or}
use Rattle.unimodular_cone.proofs.mediant.first_wide_coordinate.Given as goal

abbrev pub invariant-loop-p : goal.invariant-loop-p
invariant-loop-p l = (k : ℕ) → k < l.p → ¬ (2 ^ 62 < slice_index_or l.coordinates k 0)
