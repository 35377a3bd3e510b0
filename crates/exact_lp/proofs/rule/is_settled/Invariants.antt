use Rattle.exact_linear.proofs.Seeking.{IsSeeking}
use Rattle.exact_linear.specs.Tables.{rows_of, first_place}
use Rattle.exact_lp.specs.Rule.{is_below}
use Rattle.exact_lp.proofs.rule.is_settled.Given as goal

abbrev pub invariant-loop-row : goal.invariant-loop-row
invariant-loop-row l =
    IsSeeking (first_place (is_below l.tableau l.fn.vectors) 0 (rows_of l.tableau)) (is_below l.tableau l.fn.vectors) l.row (rows_of l.tableau)
