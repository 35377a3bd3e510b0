use Rattle.std.specs.Prelude.{pos}
use Rattle.search_core.specs.Attaining.{AddsAttaining}
use Rattle.search_core.proofs.attaining.add_attaining.Given as goal

abbrev pub invariant-loop-k : goal.invariant-loop-k
invariant-loop-k g l = AddsAttaining (g.C.ConeRead.cone l.c) l.k (pos l.minimum) l.initial.found.keys l.found.keys
