use Rattle.std.proofs.Common.{◌≡◌, ◌++◌, take}
use Rattle.cpfactor_lines.specs.Traces.{visits_text}
use Rattle.cpfactor_lines.proofs.trace.push_visits.Given as goal

abbrev pub invariant-loop-k : goal.invariant-loop-k
invariant-loop-k l = l.into.items ≡ l.fn.into.items ++ visits_text 0 (take l.k l.visits)
