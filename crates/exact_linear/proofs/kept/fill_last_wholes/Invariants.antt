use Rattle.std.proofs.Common.{nat_abs}
use Rattle.exact_linear.specs.Whole.{fractions_over, AreSmallWholes}
use Rattle.exact_linear.proofs.Fill.{Filled}
use Rattle.exact_linear.proofs.kept.fill_last_wholes.Given as goal

abbrev pub invariant-loop-k : goal.invariant-loop-k
invariant-loop-k l = record {
  small : AreSmallWholes l.wholes;
  filled : Filled l.width (fractions_over (nat_abs l.den) l.fn.wholes) (fractions_over (nat_abs l.den) l.wholes) l.k;
}
