use Rattle.std.specs.Prelude.{◌<◌, ◌≤◌, ◌^◌, ℕ, pos, nat_abs, slice_index_or}
use Rattle.unimodular_cone.proofs.narrow_sums.all_narrow.Given as goal

abbrev pub invariant-loop-k : goal.invariant-loop-k
invariant-loop-k l = (k : ℕ) → k < l.k → nat_abs (slice_index_or l.numbers k (pos 0)) ≤ 2 ^ 59
