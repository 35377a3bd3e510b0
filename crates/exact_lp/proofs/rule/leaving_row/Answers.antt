use Rattle.std.proofs.Common.{◌≡◌, ◌∙◌, sym, arith, Err, None}
use Rattle.symmetric_matrix.specs.Owed.{answer}
use Rattle.exact_linear.specs.Tables.{rows_of}
use Rattle.exact_linear.specs.Exchange.{entry_is_owed}
use Rattle.exact_lp.specs.Rule.{leaving_row, leaving_ops}
use Rattle.exact_lp.proofs.Choices.{best_passed, best_refused, best_more, best_done, candidate_not_zero, some_row, some_not_zero}
use Rattle.exact_lp.proofs.rule.leaving_row.Goals as goal
use Rattle.exact_lp.proofs.rule.leaving_row.Goals.{then-is_candidate+in_ok-best, else-is_candidate}

pub better-requires-clause-row_divisor : goal.better-requires-clause-row_divisor
better-requires-clause-row_divisor c =
    candidate_not_zero c.args.tableau.now c.args.vectors c.args.entering c.loop-row.row (sym c.is_candidate.ensures ∙ c.if-is_candidate.true)

pub better-requires-clause-best : goal.better-requires-clause-best
better-requires-clause-best c = some_row c.args.tableau.now c.args.vectors c.args.entering c.loop-row.best c.loop-row.invariant.found

pub better-requires-clause-best_divisor : goal.better-requires-clause-best_divisor
better-requires-clause-best_divisor c = some_not_zero c.args.tableau.now c.args.vectors c.args.entering c.loop-row.best c.loop-row.invariant.found

pub returns-in_err-best : goal.returns-in_err-best
returns-in_err-best c =
    let whole : answer entry_is_owed (leaving_ops c.args.tableau.now c.args.vectors c.args.entering c.args.columns.now None 0 (rows_of c.args.tableau.now))
    (leaving_row c.args.tableau.now c.args.vectors c.args.entering c.args.columns.now None 0 (rows_of c.args.tableau.now)) ≡ Err c.in_err-best.field-0.0 =
    best_refused c.args.tableau.now c.args.vectors c.args.entering c.args.columns.now c.loop-row.best c.loop-row.row c.in_err-best.field-0.0
    c.loop-row.invariant (let a = c.loop-row-test.true in let b = c.rows-row-end.ensures.value in omega arith)
    (sym c.is_candidate.ensures ∙ c.if-is_candidate.true) (sym c.better.ensures ∙ c.in_err-best.was) in
    grind arith

pub loop-row-preserved : goal.loop-row-preserved
loop-row-preserved c = elim c.if-is_candidate.branch [
  | then-is_candidate+in_ok-best w ↦ rw w.best-is
      (best_more c.args.tableau.now c.args.vectors c.args.entering c.args.columns.now c.loop-row.best w.in_ok-best.best c.loop-row.row c.loop-row.invariant
      (let a = c.loop-row-test.true in let b = c.rows-row-end.ensures.value in omega arith) (sym c.is_candidate.ensures
      ∙ w.if-is_candidate.true) (sym w.better.ensures ∙ w.in_ok-best.was))
  | else-is_candidate w ↦ rw w.best-is
      (best_passed c.args.tableau.now c.args.vectors c.args.entering c.args.columns.now c.loop-row.best c.loop-row.row c.loop-row.invariant
      (let a = c.loop-row-test.true in let b = c.rows-row-end.ensures.value in omega arith) (sym c.is_candidate.ensures ∙ w.if-is_candidate.false))
]

pub returns : goal.returns
returns c = best_done c.args.tableau.now c.args.vectors c.args.entering c.args.columns.now c.loop-row.best c.loop-row.row c.loop-row.invariant
    (let a = c.loop-row-test.false in let b = c.rows-row-end.ensures.value in omega arith)
