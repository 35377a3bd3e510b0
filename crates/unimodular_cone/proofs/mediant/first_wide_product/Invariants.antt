use Rattle.std.specs.Prelude.{◌<◌, ◌^◌, ℕ, pos, nat_abs, slice_index_or}
use Rattle.unimodular_cone.proofs.mediant.first_wide_product.Given as goal

abbrev pub invariant-loop-k : goal.invariant-loop-k
invariant-loop-k l = (k : ℕ) → k < l.k → ¬ (2 ^ 100 < nat_abs (slice_index_or l.row k (pos 0)))
