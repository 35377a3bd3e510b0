use Rattle.std.proofs.Common.{◌≡◌, ◌∙◌, ◌+◌, ◌*◌, sym, arith, refl, List, IfOk, subst, length, pos}
use Rattle.std.proofs.lemmas.List.{get_or_read_under}
use Rattle.exact_forms.specs.Rational.{Rational, whole}
use Rattle.exact_linear.specs.Tables.{entry_of}
use Rattle.exact_linear.specs.Exchange.{table_row}
use Rattle.exact_linear.proofs.Rows.{exchange_refused, exchange_then, exchange_made, row_within}
use Rattle.exact_linear.proofs.pivot.exchange_into.Goals as goal
use Rattle.exact_linear.proofs.pivot.exchange_into.Goals.{After-index-old-start}

-- the pivot
pivot_is : (c : After-index-old-start) → c.index-old-start.result ≡ entry_of c.args.old.now (c.args.row * c.args.width + c.args.column)
pivot_is c =
    get_or_read_under c.args.old.now (c.args.row * c.args.width + c.args.column) (length c.args.old.now) c.index-old-start.result (whole (pos 0))
    c.index-old-start.is
    (omega (arith, row_within c.args.row c.args.width c.args.column c.args.rows c.requires.row c.requires.column)) refl

pub returns-in_err-divide_row-clause-refused : goal.returns-in_err-divide_row-clause-refused
returns-in_err-divide_row-clause-refused c = let e : c.index-old-start.result ≡ entry_of c.args.old.now (c.args.row * c.args.width + c.args.column) =
    pivot_is (goal.at.returns-in_err-divide_row-clause-refused c).After-index-old-start in grind (arith, exchange_refused)

pub returns-clause-refused : goal.returns-clause-refused
returns-clause-refused c =
    c.clear_rows.ensures.refused
    ∙ exchange_then c.args.width c.args.row c.args.column c.args.old.now (table_row c.args.width c.args.old.now c.args.row) c.divide_row.new.into
    c.index-old-start.result
    (pivot_is (goal.at.returns-clause-refused c).After-index-old-start) refl (sym c.in_ok-divide_row.ensures.refused) c.in_ok-divide_row.ensures.made

pub returns-clause-made : goal.returns-clause-made
returns-clause-made c =
    subst (λ (t : List Rational). IfOk c.clear_rows.result (λ x. c.clear_rows.new.into ≡ t))
    (exchange_made c.args.width c.args.row c.args.column c.args.old.now (table_row c.args.width c.args.old.now c.args.row) c.divide_row.new.into
    c.index-old-start.result
    (pivot_is (goal.at.returns-clause-made c).After-index-old-start) refl c.in_ok-divide_row.ensures.made)
    c.clear_rows.ensures.made
