use Rattle.std.proofs.Common.{◌≡◌, ℕ, ◌+◌, ◌<◌, length, slice_index_or}
use Rattle.matrix_sample.specs.Samples.{number_at, coordinate_from}
use Rattle.matrix_sample.proofs.drawing.next_vector.Given as goal

abbrev pub invariant-loop-place : goal.invariant-loop-place
invariant-loop-place l = record {
  long : length l.vector ≡ 6;
  number : l.number ≡ number_at l.initial.number l.place;
  coordinates : (p : ℕ) → p < l.place → slice_index_or l.vector p 0 ≡ coordinate_from (number_at l.initial.number (p + 1));
}
