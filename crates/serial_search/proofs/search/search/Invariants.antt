use Rattle.serial_search.proofs.Stacks.{cones_left}
use Rattle.std.specs.Prelude.{[]}
use Rattle.serial_search.proofs.Loops.{IsSearchLoop}
use Rattle.serial_search.proofs.search.search.Given as goal

abbrev pub invariant-loop-mode : goal.invariant-loop-mode
invariant-loop-mode l = record { loop : IsSearchLoop l.mode l.q l.limit [] l.arena l.word l.fresh l.judged.items l.attaining.keys }

abbrev pub decreases-loop-mode : goal.decreases-loop-mode
decreases-loop-mode l = cones_left l.limit l.arena.cones
