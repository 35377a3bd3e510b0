use Rattle.std.specs.Prelude.{◌<◌, ◌≤ℤ◌, ℕ, pos, slice_index_or}
use Rattle.unimodular_cone.proofs.open_children.are_at_least.Given as goal

abbrev pub invariant-loop-k : goal.invariant-loop-k
invariant-loop-k l = (k : ℕ) → k < l.k → l.bound ≤ℤ slice_index_or l.numbers k (pos 0)
