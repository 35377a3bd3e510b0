use Rattle.std.specs.Prelude.{◌≡◌, ◌<◌, ℕ, pos, length, slice_index_or}
use Rattle.unimodular_cone.proofs.slack_numbers.put_slacks.Given as goal

abbrev pub invariant-loop-k : goal.invariant-loop-k
invariant-loop-k l = record {
  full : length l.from ≡ 8;
  room : length l.into ≡ 8;
  same : (k : ℕ) → k < l.k → slice_index_or l.into k (pos 0) ≡ slice_index_or l.from k (pos 0);
}
