use Rattle.std.proofs.Common.{◌≡◌, take}
use Rattle.symmetric_matrix.proofs.vector_list.VectorList.copy.Given as goal

abbrev pub invariant-loop-vector : goal.invariant-loop-vector
invariant-loop-vector l = l.vectors.items ≡ take l.vector-index l.self
