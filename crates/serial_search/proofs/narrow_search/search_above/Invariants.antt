use Rattle.std.specs.Prelude.{◌≡◌, List, ◌++◌}
use Rattle.unimodular_cone.specs.Shown.{ShownCone}
use Rattle.serial_search.specs.Searching.{IsSearchingOver}
use Rattle.serial_search.proofs.Stacks.{cones_left}
use Rattle.serial_search.proofs.Loops.{IsSearchLoop}
use Rattle.serial_search.proofs.narrow_search.search_above.Given as goal

abbrev pub invariant-loop-mode : goal.invariant-loop-mode
invariant-loop-mode l = record {
  loop : (below : List ShownCone) → IsSearchingOver l.mode l.q l.limit (below ++ l.initial.arena.cones) l.initial.fresh l.initial.found
      → IsSearchLoop l.mode l.q l.limit below l.arena l.word l.fresh l.found.judged.items l.found.attaining.keys;
  room : (l.arena.size ≡ l.initial.arena.size) × (l.arena.depth ≡ l.initial.arena.depth);
}

abbrev pub decreases-loop-mode : goal.decreases-loop-mode
decreases-loop-mode l = cones_left l.limit l.arena.cones
