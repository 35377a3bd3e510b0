use Rattle.std.proofs.Common.{◌≡◌, ◌∙◌, sym, ap, refl, get_or}
use Rattle.exact_forms.specs.Rational.{Rational}
use Rattle.exact_linear.specs.Tables.{table_entry}
use Rattle.exact_lp.specs.Rule.{is_positive}
use Rattle.exact_lp.proofs.Weighing.{above_found, above_more, above_done}
use Rattle.exact_lp.proofs.ends.first_above.Goals as goal
use Rattle.exact_lp.proofs.ends.first_above.Goals.{After-is_positive}

-- whether the entry of this column is positive
positive_is : (c : After-is_positive)
    → is_positive (table_entry c.args.tableau.now c.args.row (get_or c.args.columns.now c.loop-column.column-index 0)) ≡ c.is_positive.result
positive_is c = ap (λ (x : Rational). is_positive x) (sym c.entry_at.ensures) ∙ sym c.is_positive.ensures

pub returns-then-is_positive : goal.returns-then-is_positive
returns-then-is_positive c =
    above_found c.args.tableau.now c.args.row c.args.columns.now c.loop-column.column-index (get_or c.args.columns.now c.loop-column.column-index 0)
    c.loop-column.invariant c.loop-column-test.true refl
    (positive_is (goal.at.returns-then-is_positive c).After-is_positive ∙ c.if-is_positive.true)

pub loop-column-preserved : goal.loop-column-preserved
loop-column-preserved c =
    above_more c.args.tableau.now c.args.row c.args.columns.now c.loop-column.column-index (get_or c.args.columns.now c.loop-column.column-index 0)
    c.loop-column.invariant c.loop-column-test.true refl
    (positive_is (goal.at.loop-column-preserved c).After-is_positive ∙ c.if-is_positive.false)

pub returns : goal.returns
returns c = above_done c.args.tableau.now c.args.row c.args.columns.now c.loop-column.column-index c.loop-column.invariant c.loop-column-test.false
