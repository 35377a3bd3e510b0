use Rattle.unimodular_cone.specs.Copies.{IsCopiedTo}
use Rattle.unimodular_cone.proofs.narrow.copy_entries.Given as goal

abbrev pub invariant-loop-k : goal.invariant-loop-k
invariant-loop-k l = IsCopiedTo l.k l.from l.into
