use Rattle.std.proofs.Common.{◌≡◌, ◌∙◌, sym, arith}
use Rattle.exact_linear.proofs.Seeking.{seek_found, seek_more, seek_done}
use Rattle.exact_linear.specs.Tables.{rows_of}
use Rattle.exact_lp.specs.Rule.{is_below}
use Rattle.exact_lp.proofs.Choices.{seek_below, below_is, settled_not, settled_yes}
use Rattle.exact_lp.proofs.rule.is_settled.Goals as goal
use Rattle.exact_lp.proofs.rule.is_settled.Goals.{After-is_negative}

pub loop-row-init : goal.loop-row-init
loop-row-init c = seek_below c.args.tableau.now c.args.vectors

-- whether the entry of this row is negative
is_below_is : (c : After-is_negative) → is_below c.args.tableau.now c.args.vectors c.loop-row.row ≡ c.is_negative.result
is_below_is c =
    sym (below_is c.args.tableau.now c.args.vectors c.target_of-target.result c.loop-row.row c.entry_at.result c.target_of-target.ensures.value
    c.entry_at.ensures)
    ∙ sym c.is_negative.ensures

pub returns-then-is_negative : goal.returns-then-is_negative
returns-then-is_negative c = settled_not c.args.tableau.now c.args.vectors c.loop-row.row
    (seek_found _ _ _ _ c.loop-row.invariant (let a = c.loop-row-test.true in let b = c.rows-row-end.ensures.value in omega arith)
    (is_below_is (goal.at.returns-then-is_negative c).After-is_negative ∙ c.if-is_negative.true))

pub loop-row-preserved : goal.loop-row-preserved
loop-row-preserved c =
    seek_more _ _ _ _ c.loop-row.invariant (let a = c.loop-row-test.true in let b = c.rows-row-end.ensures.value in omega arith)
    (is_below_is (goal.at.loop-row-preserved c).After-is_negative ∙ c.if-is_negative.false)

pub returns : goal.returns
returns c = settled_yes c.args.tableau.now c.args.vectors
    (seek_done _ (is_below c.args.tableau.now c.args.vectors) c.loop-row.row (rows_of c.args.tableau.now) c.loop-row.invariant (let a = c.loop-row-test.false in
    let b = c.rows-row-end.ensures.value in omega arith))
