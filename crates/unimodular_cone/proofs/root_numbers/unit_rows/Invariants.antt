use Rattle.unimodular_cone.specs.RootNumbers.{AreUnitRows}
use Rattle.unimodular_cone.proofs.root_numbers.unit_rows.Given as goal

abbrev pub invariant-loop-k : goal.invariant-loop-k
invariant-loop-k l = AreUnitRows l.k l.rows
