use Rattle.std.proofs.Common.{◌≡◌, ◌++◌, nat_abs, length, take, drop}
use Rattle.exact_linear.specs.Whole.{fractions_over}
use Rattle.exact_linear.proofs.kept.write_fractions.Given as goal

abbrev pub invariant-loop-k : goal.invariant-loop-k
invariant-loop-k l = record {
  size : length l.into ≡ length l.wholes;
  made : take l.k l.into ++ drop l.k (fractions_over (nat_abs l.den) l.wholes) ≡ fractions_over (nat_abs l.den) l.wholes;
}
