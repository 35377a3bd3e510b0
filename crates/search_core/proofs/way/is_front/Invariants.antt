use Rattle.std.specs.Prelude.{◌≡◌, take}
use Rattle.search_core.proofs.way.is_front.Given as goal

abbrev pub invariant-loop-k : goal.invariant-loop-k
invariant-loop-k l = take l.k l.path ≡ take l.k l.front
