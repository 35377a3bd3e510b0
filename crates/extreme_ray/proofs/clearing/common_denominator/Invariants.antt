use Rattle.std.proofs.Common.{◌≡◌, ◌≤ℤ◌, pos, nat_abs, drop}
use Rattle.symmetric_matrix.specs.Symmetric.{FitsInt}
use Rattle.extreme_ray.proofs.Clearings.{denominator_left}
use Rattle.extreme_ray.proofs.clearing.common_denominator.Given as goal

abbrev pub invariant-loop-k : goal.invariant-loop-k
invariant-loop-k l = record {
  same : denominator_left 1 l.coefficients ≡ denominator_left (nat_abs l.common) (drop l.k l.coefficients);
  positive : pos 1 ≤ℤ l.common;
  fits : FitsInt l.common;
}
