use Rattle.std.proofs.Common.{ap, arith, ◌-◌, ◌+◌, ◌≡◌}
use Rattle.exact_linear.specs.Tables.{basic_at, from_one}
use Rattle.exact_linear.proofs.Seeking.{seek_row, seek_found, seek_more, seek_done, holds_yes, holds_no, back_one}
use Rattle.exact_linear.proofs.tableau.Tableau.row_of.Goals as goal

pub loop-row-init : goal.loop-row-init
loop-row-init c = seek_row c.args.self.now (c.args.column - 1)

pub returns-then-basic-column : goal.returns-then-basic-column
returns-then-basic-column c =
    let b = c.basic.ensures in
    let e = c.if-basic-column.true in
    let r : basic_at c.args.self.now (c.loop-row.row + 1 - 1) ≡ basic_at c.args.self.now c.loop-row.row =
    ap (basic_at c.args.self.now) (back_one c.loop-row.row) in
    ap from_one (seek_found _ _ _ _ c.loop-row.invariant
    (let a = c.loop-row-test.true in let d = c.rows-row-end.ensures.value in omega arith)
    (holds_yes c.args.self.now (c.args.column - 1) c.loop-row.row (omega arith)))

pub loop-row-preserved : goal.loop-row-preserved
loop-row-preserved c =
    let b = c.basic.ensures in
    let r : basic_at c.args.self.now (c.loop-row.row + 1 - 1) ≡ basic_at c.args.self.now c.loop-row.row =
    ap (basic_at c.args.self.now) (back_one c.loop-row.row) in
    let f = c.requires.first in
    seek_more _ _ _ _ c.loop-row.invariant (let a = c.loop-row-test.true in
    let d = c.rows-row-end.ensures.value in omega arith)
    (holds_no c.args.self.now (c.args.column - 1) c.loop-row.row (λ e. c.if-basic-column.false (omega arith)))

pub returns : goal.returns
returns c = ap from_one
    (seek_done _ _ _ _ c.loop-row.invariant (let a = c.loop-row-test.false in
    let d = c.rows-row-end.ensures.value in omega arith))
