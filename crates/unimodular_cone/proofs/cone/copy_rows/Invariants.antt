use Rattle.unimodular_cone.specs.Copies.{AreRowsCopied}
use Rattle.unimodular_cone.proofs.cone.copy_rows.Given as goal

abbrev pub invariant-loop-k : goal.invariant-loop-k
invariant-loop-k l = AreRowsCopied l.k l.from l.into
