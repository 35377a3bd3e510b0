-- The columns that a program names are among its columns.
use Rattle.std.specs.Prelude.{ℕ, zero, suc, ◌<◌}
use Rattle.std.proofs.Common.{arith}
use Rattle.exact_forms.specs.Rational.{Rational}
use Rattle.exact_lp.specs.Program.{Program, order, IsProgram}

module _ (P : Program) (start : ℕ → ℕ → Rational) (R : IsProgram P start) where
  pub first_within : (j : ℕ) → j < P.rank → P.first j < P.columns.count
  first_within j l = let a = R.vectors in let b = (R.first_is_vector j l).1 in omega arith

  pub order_within : (j : ℕ) → j < suc P.rank → order P j < P.columns.count
  unfolding order
  order_within zero l = R.target_within
  order_within (suc j) l = first_within j (omega arith)
