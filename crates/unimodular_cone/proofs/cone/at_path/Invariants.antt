use Rattle.std.specs.Prelude.{take}
use Rattle.symmetric_matrix.specs.Symmetric.{entry}
use Rattle.unimodular_cone.specs.Shown.{IsWithinLimits, IsConeAt}
use Rattle.unimodular_cone.proofs.cone.at_path.Given as goal

abbrev pub invariant-loop-k : goal.invariant-loop-k
invariant-loop-k l = record {
  there : IsConeAt l.q.size (entry l.q) (take l.k l.path) l.cone;
  within : IsWithinLimits l.cone;
}
