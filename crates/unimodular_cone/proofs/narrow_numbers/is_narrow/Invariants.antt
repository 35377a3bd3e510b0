use Rattle.std.specs.Prelude.{◌<◌, ◌≤◌, ◌^◌, ℕ, nat_abs}
use Rattle.symmetric_matrix.specs.Symmetric.{entry}
use Rattle.unimodular_cone.proofs.narrow_numbers.is_narrow.Given as goal

abbrev pub invariant-loop-row : goal.invariant-loop-row
invariant-loop-row l = (i j : ℕ) → j ≤ i → i < l.row → nat_abs (entry l.q i j) ≤ 2 ^ 59
