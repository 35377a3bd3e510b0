use Rattle.exact_linear.proofs.BringIn.{IsSoFar}
use Rattle.exact_linear.proofs.tableau.Tableau.bring_in_first.Given as goal

abbrev pub invariant-loop-k : goal.invariant-loop-k
invariant-loop-k l = IsSoFar l.fn.self l.tableau l.k
