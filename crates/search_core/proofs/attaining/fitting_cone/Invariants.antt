use Rattle.std.specs.Prelude.{take}
use Rattle.symmetric_matrix.specs.Symmetric.{entry}
use Rattle.unimodular_cone.specs.Shown.{IsConeAt}
use Rattle.search_core.proofs.attaining.fitting_cone.Given as goal

abbrev pub invariant-loop-k : goal.invariant-loop-k
invariant-loop-k l = IsConeAt l.q.size (entry l.q) (take l.k l.path) l.cone
