use Rattle.unimodular_cone.specs.Replacement.{IsPartRowSet}
use Rattle.unimodular_cone.proofs.narrow.set_row.Given as goal

abbrev pub invariant-loop-k : goal.invariant-loop-k
invariant-loop-k l = IsPartRowSet l.k l.r l.fn.gram l.row l.gram
