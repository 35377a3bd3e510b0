use Rattle.std.specs.Prelude.{[]}
use Rattle.serial_search.proofs.Loops.{IsSearchLoop}
use Rattle.serial_search.proofs.short.search_in_turns.Given as goal

abbrev pub invariant-loop : goal.invariant-loop
invariant-loop l = record { loop : IsSearchLoop l.mode l.q l.limit [] l.arena l.word l.fresh l.judged.items l.attaining.keys }
