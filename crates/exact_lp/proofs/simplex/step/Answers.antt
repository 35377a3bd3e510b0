use Rattle.std.proofs.Common.{◌≡◌, ◌∙◌, ◌∷◌, sym, ap, Ok, Some, None}
use Rattle.symmetric_matrix.specs.Owed.{first_owed}
use Rattle.exact_linear.specs.Exchange.{entry_is_owed}
use Rattle.exact_linear.specs.Tables.{rows_of}
use Rattle.exact_lp.specs.Placement.{leaving}
use Rattle.exact_lp.specs.Rule.{target, leaving_ops}
use Rattle.exact_lp.proofs.Choices.{IsCandidateRow, candidate_not_zero}
use Rattle.exact_lp.proofs.Placing.{step_refused, step_row, step_has_row, step_left}
use Rattle.exact_lp.proofs.simplex.step.Goals as goal
use Rattle.exact_lp.proofs.simplex.step.Goals.{In-Ok-Some}

-- the row that leaves
row_is : (c : In-Ok-Some)
    → (first_owed entry_is_owed
    (leaving_ops c.args.tableau.now c.args.vectors c.args.entering (target c.args.tableau.now c.args.vectors ∷ c.args.firsts.now) None 0
    (rows_of c.args.tableau.now)) ≡ None)
    × (leaving c.args.tableau.now c.args.vectors c.args.firsts.now c.args.entering ≡ Some c.in-Ok-Some.row)
    × (IsCandidateRow c.args.tableau.now c.args.vectors c.args.entering c.in-Ok-Some.row)
row_is c = step_row c.args.tableau.now c.args.vectors c.args.entering c.args.firsts.now c.args.ranks.now c.in-Ok-Some.row c.requires.ranks
    (sym c.leaving_row.ensures ∙ c.in-Ok-Some.is ∙ ap Ok c.in-Ok-Some.field-0-is)

pub leave-requires-clause-row : goal.leave-requires-clause-row
leave-requires-clause-row c = (row_is (goal.at.leave-requires-clause-row c).In-Ok-Some).2.row

pub leave-requires-clause-pivot : goal.leave-requires-clause-pivot
leave-requires-clause-pivot c =
    candidate_not_zero c.args.tableau.now c.args.vectors c.args.entering c.in-Ok-Some.row
    (row_is (goal.at.leave-requires-clause-pivot c).In-Ok-Some).2.candidate

pub returns-in-Ok-Some : goal.returns-in-Ok-Some
returns-in-Ok-Some c =
    let r = row_is (goal.at.returns-in-Ok-Some c).In-Ok-Some in
    step_left c.args.tableau.now c.leave.new.tableau c.args.vectors c.args.entering c.args.firsts.now c.in-Ok-Some.row c.leave.result r.0 r.1 c.leave.ensures

pub returns-in-Err : goal.returns-in-Err
returns-in-Err c =
    step_refused c.args.tableau.now c.args.vectors c.args.entering c.args.firsts.now c.args.ranks.now c.in-Err.op c.requires.ranks (sym c.leaving_row.ensures
    ∙ c.in-Err.is)

pub unreachable-requires : goal.unreachable-requires
unreachable-requires c =
    step_has_row c.args.tableau.now c.args.vectors c.args.entering c.args.firsts.now c.args.ranks.now c.requires.leaves c.requires.ranks
    (sym c.leaving_row.ensures ∙ c.in-Ok-None.is ∙ ap Ok c.in-Ok-None.field-0-is)
