use Rattle.std.proofs.Common.{◌≡◌}
use Rattle.exact_lp.proofs.Weighing.{IsWeighing}
use Rattle.exact_lp.proofs.ends.inside.Given as goal

abbrev pub invariant-loop-vector : goal.invariant-loop-vector
invariant-loop-vector l = record { weighing : IsWeighing l.tableau l.vectors l.firsts l.d l.weights l.vector; steps : l.steps ≡ l.fn.steps }
