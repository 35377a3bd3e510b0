use Rattle.std.specs.Prelude.{◌≡◌, length}
use Rattle.serial_search.proofs.values.take_all.Given as goal

abbrev pub invariant-loop-arena : goal.invariant-loop-arena
invariant-loop-arena l = record {
  size : l.arena.size ≡ l.initial.arena.size;
  depth : l.arena.depth ≡ l.initial.arena.depth;
}

abbrev pub decreases-loop-arena : goal.decreases-loop-arena
decreases-loop-arena l = length l.arena.cones
