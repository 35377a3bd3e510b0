use Rattle.std.specs.Prelude.{take}
use Rattle.symmetric_matrix.specs.Symmetric.{entry}
use Rattle.search_core.specs.Way.{AreAtPaths, IsLastAt}
use Rattle.search_core.proofs.way.go_to.Given as goal

abbrev pub invariant-loop-k : goal.invariant-loop-k
invariant-loop-k l = record {
  at : AreAtPaths l.q.size (entry l.q) l.way.items;
  last : IsLastAt l.q.size (entry l.q) (take l.k l.path) l.way.items;
}
