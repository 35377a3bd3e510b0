use Rattle.std.proofs.Common.{◌≡◌, ◌++◌, length, take, drop}
use Rattle.exact_linear.specs.Whole.{fractions_over, AreSmallWholes}
use Rattle.exact_linear.proofs.kept.wholes_into.Given as goal

abbrev pub invariant-loop-k : goal.invariant-loop-k
invariant-loop-k l = record {
  size : length l.into ≡ length l.from;
  small : AreSmallWholes l.into;
  same : take l.k (fractions_over 1 l.into) ++ drop l.k l.from ≡ l.from;
}
