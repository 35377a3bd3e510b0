use Rattle.unimodular_cone.specs.RootNumbers.{IsLowerOf}
use Rattle.unimodular_cone.proofs.narrow_numbers.narrow_lower_of.Given as goal

abbrev pub invariant-loop-row : goal.invariant-loop-row
invariant-loop-row l = IsLowerOf l.q l.row l.lower
