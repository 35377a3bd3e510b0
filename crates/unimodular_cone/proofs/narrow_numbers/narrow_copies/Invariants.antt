use Rattle.unimodular_cone.specs.Narrow.{IsNarrowCopy}
use Rattle.unimodular_cone.proofs.narrow_numbers.narrow_copies.Given as goal

abbrev pub invariant-loop-k : goal.invariant-loop-k
invariant-loop-k l = IsNarrowCopy l.k l.from l.into
