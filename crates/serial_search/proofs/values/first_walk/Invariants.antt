use Rattle.symmetric_matrix.specs.Symmetric.{entry}
use Rattle.serial_search.proofs.Stacks.{cones_left}
use Rattle.serial_search.proofs.WalkArenas.{IsWalkArena}
use Rattle.serial_search.proofs.Lows.{IsFalling}
use Rattle.serial_search.proofs.values.first_walk.Given as goal

abbrev pub invariant-loop-arena : goal.invariant-loop-arena
invariant-loop-arena l = record {
  falling : IsFalling l.q.size (entry l.q) l.limit l.arena.cones l.word l.first;
  arena : IsWalkArena l.limit l.initial.arena l.arena;
}

abbrev pub decreases-loop-arena : goal.decreases-loop-arena
decreases-loop-arena l = cones_left l.limit l.arena.cones
