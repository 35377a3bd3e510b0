use Rattle.std.proofs.Common.{◌≡◌, ◌<◌, ◌^◌, drop}
use Rattle.symmetric_matrix.specs.Divisors.{divisor_from}
use Rattle.symmetric_matrix.proofs.divisor.divisor_of.Given as goal

abbrev pub invariant-loop-entry : goal.invariant-loop-entry
invariant-loop-entry l = record {
  fits : l.divisor < 2 ^ 127;
  same : divisor_from 0 l.lower ≡ divisor_from l.divisor (drop l.entry-index l.lower);
}
