use Rattle.std.proofs.Common.{◌∙◌, sym, arith}
use Rattle.exact_lp.proofs.Choices.{least_lower, least_kept, least_done}
use Rattle.exact_lp.proofs.rule.least_row.Goals as goal
use Rattle.exact_lp.proofs.rule.least_row.Goals.{then-is_lower, else-is_lower}

pub loop-row-preserved : goal.loop-row-preserved
loop-row-preserved c = elim c.if-is_lower.branch [
  | then-is_lower w ↦ rw w.best-is
      (least_lower _ _ _ _ c.loop-row.invariant (let a = c.loop-row-test.true in
      let b = c.rows-row-end.ensures.value in omega arith) (sym c.is_lower.ensures ∙ w.if-is_lower.true))
  | else-is_lower w ↦ rw w.best-is
      (least_kept _ _ _ _ c.loop-row.invariant (let a = c.loop-row-test.true in
      let b = c.rows-row-end.ensures.value in omega arith) (sym c.is_lower.ensures ∙ w.if-is_lower.false))
]

pub returns-clause-value : goal.returns-clause-value
returns-clause-value c =
    least_done _ _ _ _ c.loop-row.invariant (let a = c.loop-row-test.false in
    let b = c.rows-row-end.ensures.value in omega arith)
