use Rattle.std.proofs.Common.{take}
use Rattle.std.specs.Prelude.{pos}
use Rattle.symmetric_matrix.specs.Symmetric.{entry}
use Rattle.search_core.specs.Scans.{IsOpenEnd, FindsFirst}
use Rattle.search_core.proofs.scan.first_open.Given as goal

abbrev pub invariant-loop-j : goal.invariant-loop-j
invariant-loop-j l = FindsFirst (IsOpenEnd l.q.size (entry l.q) (pos l.bound)) (take l.j-index l.judged) l.best
