use Rattle.std.proofs.Common.{◌≡◌, length}
use Rattle.exact_linear.specs.Whole.{AreSmallWholes}
use Rattle.exact_linear.proofs.kept.zeros.Given as goal

abbrev pub invariant-loop-k : goal.invariant-loop-k
invariant-loop-k l = record {
  size : length l.numbers.items ≡ l.k;
  small : AreSmallWholes l.numbers.items;
}
