use Rattle.std.specs.Prelude.{◌≡◌, ◌≤◌, []}
use Rattle.serial_search.proofs.Stacks.{cones_left}
use Rattle.serial_search.proofs.Loops.{IsSearchLoop}
use Rattle.serial_search.proofs.mixed_search.search_mixed.Given as goal

abbrev pub invariant-loop-mode : goal.invariant-loop-mode
invariant-loop-mode l = record {
  loop : IsSearchLoop l.mode l.q l.limit [] l.wide l.found.final_word l.fresh l.found.judged.items l.found.attaining.keys;
  room : l.limit ≤ l.narrow.depth;
  size : l.narrow.size ≡ l.wide.size;
  empty : l.narrow.cones ≡ [];
}

abbrev pub decreases-loop-mode : goal.decreases-loop-mode
decreases-loop-mode l = cones_left l.limit l.wide.cones
