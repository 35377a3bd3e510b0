use Rattle.std.specs.Prelude.{ℕ, ◌≢◌, ◌<◌, slice_index_or}
use Rattle.search_core.proofs.machine.place_among.Given as goal

abbrev pub invariant-loop-place : goal.invariant-loop-place
invariant-loop-place l = (k : ℕ) → k < l.place → slice_index_or l.paths k l.path ≢ l.path
