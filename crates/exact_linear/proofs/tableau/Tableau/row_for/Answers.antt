use Rattle.std.proofs.Common.{◌≡◌, ◌∙◌, sym, ap, arith, ◌+◌, ◌*◌, pos, ◌<◌, false}
use Rattle.std.proofs.lemmas.List.{get_or_read}
use Rattle.exact_forms.specs.Rational.{whole}
use Rattle.exact_linear.specs.Tables.{Table, rows_of, basic_at, table_entry}
use Rattle.exact_linear.specs.Exchange.{takes}
use Rattle.exact_linear.proofs.Rows.{row_within}
use Rattle.exact_linear.proofs.Places.{place_here, place_later, place_nowhere}
use Rattle.exact_linear.proofs.BringIn.{takes_yes, takes_no_unit, takes_zero, row_from_start}
use Rattle.exact_linear.proofs.tableau.Tableau.row_for.Goals as goal
use Rattle.exact_linear.proofs.tableau.Tableau.row_for.Goals.{At-loop-row, After-index, else-index-self-via-then-index-self+else-not-is_zero}
use Rattle.exact_linear.proofs.tableau.Tableau.row_for.Goals.{else-index-self-via-else-index-self}

pub loop-row-init : goal.loop-row-init
loop-row-init c = row_from_start c.args.self.now c.args.column

-- the basic column of the row
basic_is : (c : After-index) → c.index.result.now ≡ basic_at c.args.self.now c.loop-row.row
basic_is c =
    get_or_read c.self.inside.basic.items c.loop-row.row c.index.result.now (let a = c.loop-row-test.true in let p = c.self.invariant.places in omega arith)
    c.index.ensures 0
    ∙ ap (λ (t : Table). basic_at t c.loop-row.row) c.self.view_is

pub returns-then-not-is_zero : goal.returns-then-not-is_zero
returns-then-not-is_zero c =
    let same = ap rows_of c.self.view_is in
    let places = c.self.invariant.places in
    let l : c.loop-row.row < rows_of c.args.self.now = (let a = c.loop-row-test.true in omega arith) in
    let entry : c.at.result ≡ table_entry c.args.self.now c.loop-row.row c.args.column =
    c.at.ensures ∙ ap (λ (t : Table). table_entry t c.loop-row.row c.args.column) c.self.view_is in
    let basic : c.index.result.now ≡ basic_at c.args.self.now c.loop-row.row = basic_is (goal.at.returns-then-not-is_zero c).After-index in
    let u : basic_at c.args.self.now c.loop-row.row < rows_of c.args.self.now = (let a = c.if-index-self.true in omega arith) in
    sym (c.loop-row.invariant ∙ place_here (takes c.args.self.now c.args.column) c.loop-row.row (rows_of c.args.self.now) l
    (takes_yes c.args.self.now c.args.column c.loop-row.row u
    (λ (e : table_entry c.args.self.now c.loop-row.row c.args.column ≡ whole (pos 0)). absurd
    (let t = c.is_zero.ensures.1 (entry ∙ e) in let f = c.if-not-is_zero.true in grind arith))))

pub loop-row-preserved : goal.loop-row-preserved
loop-row-preserved c =
    let same = ap rows_of c.self.view_is in
    let places = c.self.invariant.places in
    let l : c.loop-row.row < rows_of c.args.self.now = (let a = c.loop-row-test.true in omega arith) in
    c.loop-row.invariant ∙ place_later (takes c.args.self.now c.args.column) c.loop-row.row (rows_of c.args.self.now) l
    (elim c.else-index-self.branch as (λ _. takes c.args.self.now c.args.column c.loop-row.row ≡ false) [
      | else-index-self-via-then-index-self+else-not-is_zero w ↦
          takes_zero c.args.self.now c.args.column c.loop-row.row
          (sym (w.at.ensures ∙ ap (λ (t : Table). table_entry t c.loop-row.row c.args.column) c.self.view_is)
          ∙ w.is_zero.ensures.0 (let f = w.if-not-is_zero.false in grind arith))
      | else-index-self-via-else-index-self w ↦
          takes_no_unit c.args.self.now c.args.column c.loop-row.row (let b : c.index.result.now ≡ basic_at c.args.self.now c.loop-row.row =
          basic_is (goal.at.loop-row-preserved c).After-index in let a = w.if-index-self.false in
          omega arith)
    ])

pub returns : goal.returns
returns c =
    let same = ap rows_of c.self.view_is in
    let places = c.self.invariant.places in
    sym (c.loop-row.invariant ∙ place_nowhere (takes c.args.self.now c.args.column) c.loop-row.row (rows_of c.args.self.now)
    (let a = c.loop-row-test.false in omega arith))

-- the entry's place is within the table
cell_within : (c : At-loop-row) → c.loop-row.row < c.self.inside.rows
    → c.loop-row.row * c.self.inside.width + c.args.column < c.self.inside.rows * c.self.inside.width
cell_within c l = row_within c.loop-row.row c.self.inside.width c.args.column c.self.inside.rows l
    (let q = ap (λ (t : Table). t.width) c.self.view_is in let h = c.requires in omega arith)

pub overflow_mul-row : goal.overflow_mul-row
overflow_mul-row c =
    let p : c.loop-row.row * c.self.inside.width + c.args.column < c.self.inside.rows * c.self.inside.width =
    cell_within (goal.at.overflow_mul-row c).At-loop-row c.loop-row-test.true in
    let s = c.self.invariant.cells in let e = c.len-len.ensures in omega arith

pub overflow_add-row : goal.overflow_add-row
overflow_add-row c =
    let p : c.loop-row.row * c.self.inside.width + c.args.column < c.self.inside.rows * c.self.inside.width =
    cell_within (goal.at.overflow_add-row c).At-loop-row c.loop-row-test.true in
    let s = c.self.invariant.cells in let e = c.len-len.ensures in omega arith
