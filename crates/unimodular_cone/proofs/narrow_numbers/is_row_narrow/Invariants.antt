use Rattle.std.specs.Prelude.{◌<◌, ◌≤◌, ◌^◌, ℕ, nat_abs}
use Rattle.symmetric_matrix.specs.Symmetric.{entry}
use Rattle.unimodular_cone.proofs.narrow_numbers.is_row_narrow.Given as goal

abbrev pub invariant-loop-column : goal.invariant-loop-column
invariant-loop-column l = (j : ℕ) → j < l.column → nat_abs (entry l.q l.row j) ≤ 2 ^ 59
