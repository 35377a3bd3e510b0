use Rattle.std.proofs.Common.{take}
use Rattle.search_core.specs.Scans.{IsLowOf, FindsFirst}
use Rattle.search_core.proofs.scan.first_low.Given as goal

abbrev pub invariant-loop-j : goal.invariant-loop-j
invariant-loop-j l = FindsFirst (IsLowOf l.depth) (take l.j-index l.judged) l.best
