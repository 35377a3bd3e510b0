use Rattle.std.proofs.Common.{◌≡◌, ◌∙◌, sym, subst, arith, ◌+◌, ℕ}
use Rattle.exact_linear.proofs.Seeking.{IsSeeking, seek_found, seek_more, seek_done}
use Rattle.exact_linear.specs.Tables.{rows_of}
use Rattle.exact_lp.specs.Rule.{entering, goes_down}
use Rattle.exact_lp.proofs.Choices.{seek_entering, down_is}
use Rattle.exact_lp.proofs.rule.entering.Goals as goal
use Rattle.exact_lp.proofs.rule.entering.Goals.{After-is_negative}

pub loop-column-init : goal.loop-column-init
loop-column-init c =
    subst (λ (k : ℕ). IsSeeking (entering c.args.tableau.now c.args.vectors) (goes_down c.args.tableau.now c.args.vectors) k
    (rows_of c.args.tableau.now + c.args.vectors)) (sym c.rows-units.ensures.value)
    (seek_entering c.args.tableau.now c.args.vectors)

-- whether the entry of this column is negative
goes_down_is : (c : After-is_negative) → goes_down c.args.tableau.now c.args.vectors c.loop-column.column ≡ c.is_negative.result
goes_down_is c =
    sym (down_is c.args.tableau.now c.args.vectors c.top_row-row.result c.loop-column.column c.entry_at.result c.top_row-row.ensures.value c.entry_at.ensures)
    ∙ sym c.is_negative.ensures

pub returns-then-is_negative : goal.returns-then-is_negative
returns-then-is_negative c =
    seek_found _ _ _ _ c.loop-column.invariant
    (let a = c.loop-column-test.true in let b = c.target_of-column-end.ensures.value in omega arith)
    (goes_down_is (goal.at.returns-then-is_negative c).After-is_negative ∙ c.if-is_negative.true)

pub loop-column-preserved : goal.loop-column-preserved
loop-column-preserved c =
    seek_more _ _ _ _ c.loop-column.invariant
    (let a = c.loop-column-test.true in let b = c.target_of-column-end.ensures.value in omega arith)
    (goes_down_is (goal.at.loop-column-preserved c).After-is_negative ∙ c.if-is_negative.false)

pub returns : goal.returns
returns c = seek_done _ (goes_down c.args.tableau.now c.args.vectors) c.loop-column.column (rows_of c.args.tableau.now + c.args.vectors) c.loop-column.invariant
    (let a = c.loop-column-test.false in let b = c.target_of-column-end.ensures.value in omega arith)
