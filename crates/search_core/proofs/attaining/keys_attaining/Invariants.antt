use Rattle.std.proofs.Common.{take}
use Rattle.std.specs.Prelude.{pos}
use Rattle.symmetric_matrix.specs.Symmetric.{entry}
use Rattle.search_core.specs.Attaining.{HasGenerators}
use Rattle.search_core.specs.Way.{AreAtPaths}
use Rattle.search_core.proofs.attaining.keys_attaining.Given as goal

abbrev pub invariant-loop-j : goal.invariant-loop-j
invariant-loop-j l = record {
  keys : HasGenerators l.q.size (entry l.q) (take l.j-index l.judged) (pos l.minimum) l.found.keys;
  way : AreAtPaths l.q.size (entry l.q) l.way.items;
}
