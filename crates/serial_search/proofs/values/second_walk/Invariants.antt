use Rattle.symmetric_matrix.specs.Symmetric.{entry}
use Rattle.unimodular_cone.specs.declared.Mode.{Mode}
use Rattle.search_core.specs.Fair.{bound_under}
use Rattle.serial_search.proofs.Stacks.{cones_left}
use Rattle.serial_search.proofs.WalkArenas.{IsWalkArena}
use Rattle.serial_search.proofs.Digits.{IsWalking}
use Rattle.serial_search.proofs.values.second_walk.Given as goal

abbrev pub invariant-loop-arena : goal.invariant-loop-arena
invariant-loop-arena l = record {
  walking : IsWalking l.q.size (entry l.q) l.limit (bound_under Mode.Least l.word) l.arena.cones;
  arena : IsWalkArena l.limit l.initial.arena l.arena;
}

abbrev pub decreases-loop-arena : goal.decreases-loop-arena
decreases-loop-arena l = cones_left l.limit l.arena.cones
