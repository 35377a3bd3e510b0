use Rattle.std.proofs.Common.{arith, []}
use Rattle.unimodular_cone.specs.PackedDigits.{packed, binary}
use Rattle.unimodular_cone.proofs.Packing.{is_packed}
use Rattle.unimodular_cone.proofs.path.Path.root.Goals as goal

pub invariant_of-result : goal.invariant_of-result
unfolding packed binary
invariant_of-result c = is_packed [] (omega arith)
