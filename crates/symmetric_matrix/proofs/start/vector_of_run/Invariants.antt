use Rattle.std.proofs.Common.{◌≡◌, ℕ, ◌<◌, ◌≤◌, length, slice_index_or}
use Rattle.symmetric_matrix.proofs.start.vector_of_run.Given as goal

-- ones so far, and zeros elsewhere
abbrev pub invariant-loop-place : goal.invariant-loop-place
invariant-loop-place l = record {
  long : length l.coordinates ≡ 8;
  ones : (k : ℕ) → l.first ≤ k → k < l.place → slice_index_or l.coordinates k 0 ≡ 1;
  before : (k : ℕ) → k < l.first → slice_index_or l.coordinates k 0 ≡ 0;
  after : (k : ℕ) → l.place ≤ k → slice_index_or l.coordinates k 0 ≡ 0;
}
