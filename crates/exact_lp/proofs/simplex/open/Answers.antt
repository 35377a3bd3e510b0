use Rattle.std.proofs.Common.{◌≡◌, ◌∙◌, ap, subst, List, IfOk}
use Rattle.symmetric_matrix.specs.Owed.{answer}
use Rattle.exact_linear.specs.declared.entry.EntryOp.{EntryOp}
use Rattle.exact_linear.specs.Tables.{Table}
use Rattle.exact_linear.specs.Exchange.{entry_is_owed}
use Rattle.exact_lp.proofs.Placing.{sum_pivot, open_ops_is, open_is}
use Rattle.exact_lp.proofs.simplex.open.Goals as goal

pub exchange_at-requires-clause-pivot : goal.exchange_at-requires-clause-pivot
exchange_at-requires-clause-pivot c =
    sum_pivot c.args.tableau.now c.sum_of_basis.new.self c.args.vectors c.least_row-row.result c.top_of-column.result c.sum_of_basis.ensures.sum
    c.least_row-row.ensures.within c.top_of-column.ensures.value c.requires.width

pub returns-clause-refused : goal.returns-clause-refused
returns-clause-refused c = c.exchange_at.ensures.refused ∙ ap (λ (ops : List EntryOp). answer entry_is_owed ops (tt {0}))
    (open_ops_is c.args.tableau.now c.sum_of_basis.new.self c.args.vectors c.least_row-row.result c.top_of-column.result c.sum_of_basis.ensures.sum
    c.least_row-row.ensures.value c.top_of-column.ensures.value)

pub returns-clause-made : goal.returns-clause-made
returns-clause-made c = subst (λ (t : Table). IfOk c.exchange_at.result (λ _. c.exchange_at.new.tableau ≡ t))
    (open_is c.args.tableau.now c.sum_of_basis.new.self c.args.vectors c.least_row-row.result c.top_of-column.result c.sum_of_basis.ensures.sum
    c.least_row-row.ensures.value c.top_of-column.ensures.value) c.exchange_at.ensures.made
