use Rattle.std.specs.Prelude.{◌≡◌, ◌<◌, ℕ, pos, length, slice_index_or}
use Rattle.exact_forms.specs.Slacks.{slack}
use Rattle.unimodular_cone.specs.Shown.{shown_gram}
use Rattle.unimodular_cone.proofs.slack_numbers.slacks_of.Given as goal

abbrev pub invariant-loop-k : goal.invariant-loop-k
invariant-loop-k l = record {
  room : length l.slacks ≡ 8;
  slacks : (k : ℕ) → k < l.k → slice_index_or l.slacks k (pos 0) ≡ slack l.n (shown_gram l.c) k;
}
