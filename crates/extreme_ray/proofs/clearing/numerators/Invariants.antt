use Rattle.std.proofs.Common.{◌≡◌, ◌++◌, nat_abs, length, take, drop}
use Rattle.symmetric_matrix.specs.Owed.{answer}
use Rattle.symmetric_matrix.specs.Operations.{is_owed}
use Rattle.extreme_ray.specs.Clearing.{numerators, ray_numerator_ops}
use Rattle.extreme_ray.proofs.clearing.numerators.Given as goal

-- what is left answers the same, and makes the same numbers
abbrev pub invariant-loop-k : goal.invariant-loop-k
invariant-loop-k l = record {
  size : length l.into ≡ length l.coefficients;
  same : answer is_owed (ray_numerator_ops (nat_abs l.common) l.coefficients) (tt {0})
      ≡ answer is_owed (ray_numerator_ops (nat_abs l.common) (drop l.k l.coefficients)) (tt {0});
  made : take l.k l.into ++ numerators (nat_abs l.common) (drop l.k l.coefficients) ≡ numerators (nat_abs l.common) l.coefficients;
}
