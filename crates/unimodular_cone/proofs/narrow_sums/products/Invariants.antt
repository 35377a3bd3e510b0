use Rattle.std.specs.Prelude.{◌≡◌, ◌<◌, ◌+ℤ◌, ℕ, pos, length, slice_index_or}
use Rattle.unimodular_cone.specs.Shown.{shown_gram}
use Rattle.unimodular_cone.proofs.narrow_sums.products.Given as goal

abbrev pub invariant-loop-k : goal.invariant-loop-k
invariant-loop-k l = record {
  room : length l.sums ≡ 8;
  sums : (k : ℕ) → k < l.k → slice_index_or l.sums k (pos 0) ≡ shown_gram l.c l.r k +ℤ shown_gram l.c l.s k;
}
