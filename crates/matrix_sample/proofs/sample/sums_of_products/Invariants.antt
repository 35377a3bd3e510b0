use Rattle.std.proofs.Common.{◌≡◌, ℕ, ◌+◌, ◌*◌, ◌<◌, ◌≤◌, length, slice_index_or, pos}
use Rattle.exact_forms.specs.Triangles.{triangle}
use Rattle.matrix_sample.specs.Samples.{number_at, sample_sum}
use Rattle.matrix_sample.proofs.sample.sums_of_products.Given as goal

abbrev pub invariant-loop-drawn : goal.invariant-loop-drawn
invariant-loop-drawn l = record {
  long : length l.sums ≡ 21;
  number : l.number ≡ number_at l.first (l._drawn * l.n);
  sums : (i j : ℕ) → j ≤ i → i < l.n → pos (slice_index_or l.sums (triangle i + j) 0) ≡ sample_sum l.n l._drawn l.first i j;
}
