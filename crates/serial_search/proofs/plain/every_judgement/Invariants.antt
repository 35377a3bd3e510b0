use Rattle.std.specs.Prelude.{◌≤◌}
use Rattle.symmetric_matrix.specs.Symmetric.{entry}
use Rattle.serial_search.specs.Searching.{IsSearchedPlainly}
use Rattle.serial_search.proofs.Stacks.{cones_left}
use Rattle.serial_search.proofs.Tops.{AreDeep}
use Rattle.serial_search.proofs.plain.every_judgement.Given as goal

abbrev pub invariant-loop-mode : goal.invariant-loop-mode
invariant-loop-mode l = record {
  searching : IsSearchedPlainly l.mode l.q.size (entry l.q) l.limit l.arena.cones l.word l.judged.items;
  deep : AreDeep 0 l.arena.cones;
  room : l.limit ≤ l.arena.depth;
}

abbrev pub decreases-loop-mode : goal.decreases-loop-mode
decreases-loop-mode l = cones_left l.limit l.arena.cones
