use Rattle.std.proofs.Common.{◌-◌, length}
use Rattle.exact_lp.proofs.Placing.{IsAt, problem}
use Rattle.exact_lp.proofs.simplex.place_on.Given as goal

abbrev pub invariant-loop-tableau : goal.invariant-loop-tableau
invariant-loop-tableau l = IsAt (problem l.fn.start l.vectors l.d) l.budget l.tableau l.firsts.items l.ranks.items l.steps

abbrev pub decreases-loop-tableau : goal.decreases-loop-tableau
decreases-loop-tableau l = l.budget - length l.steps
