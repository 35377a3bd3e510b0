use Rattle.std.specs.Prelude.{◌<◌, ◌^◌, ℕ, nat_abs}
use Rattle.symmetric_matrix.specs.Symmetric.{entry}
use Rattle.unimodular_cone.proofs.root_numbers.first_wide_in_row.Given as goal

abbrev pub invariant-loop-column : goal.invariant-loop-column
invariant-loop-column l = (j : ℕ) → j < l.column → ¬ (2 ^ 100 < nat_abs (entry l.q l.row j))
