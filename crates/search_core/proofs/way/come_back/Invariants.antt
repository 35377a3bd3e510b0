use Rattle.std.specs.Prelude.{length}
use Rattle.symmetric_matrix.specs.Symmetric.{entry}
use Rattle.search_core.specs.Way.{AreAtPaths}
use Rattle.search_core.proofs.way.come_back.Given as goal

abbrev pub invariant-loop-cone : goal.invariant-loop-cone
invariant-loop-cone l = AreAtPaths l.q.size (entry l.q) l.way.items

abbrev pub decreases-loop-cone : goal.decreases-loop-cone
decreases-loop-cone l = length l.way.items
