use Rattle.std.proofs.Common.{◌≡◌, ◌∙◌, ◌-◌, sym, ap, subst, arith, List, IfOk}
use Rattle.symmetric_matrix.specs.Owed.{answer}
use Rattle.symmetric_matrix.proofs.Owed.{answer_nothing}
use Rattle.exact_linear.specs.declared.entry.EntryOp.{EntryOp}
use Rattle.exact_linear.specs.Tables.{Table}
use Rattle.exact_linear.specs.Columns.{HasCoordinates}
use Rattle.exact_linear.specs.Exchange.{entry_is_owed, exchanged}
use Rattle.exact_linear.proofs.Results.{kept_or_made}
use Rattle.exact_linear.proofs.Exchanges.{exchange_coordinates}
use Rattle.exact_linear.proofs.BringIn.{row_taken, bring_some, bring_none}
use Rattle.exact_linear.proofs.tableau.Tableau.bring_in.Goals as goal

pub exchange_at-requires-clause-row : goal.exchange_at-requires-clause-row
exchange_at-requires-clause-row c = (row_taken c.args.self.now (c.args.column - 1) c.in-Some.row (sym c.in-Some.ensures)).row

pub exchange_at-requires-clause-pivot : goal.exchange_at-requires-clause-pivot
exchange_at-requires-clause-pivot c = (row_taken c.args.self.now (c.args.column - 1) c.in-Some.row (sym c.in-Some.ensures)).not_zero

pub returns-in-Some-clause-refused : goal.returns-in-Some-clause-refused
returns-in-Some-clause-refused c = c.exchange_at.ensures.refused
    ∙ ap (λ (ops : List EntryOp). answer entry_is_owed ops (tt {0}))
    (sym (bring_some c.args.self.now (c.args.column - 1) c.in-Some.row (sym c.in-Some.ensures)).0)

pub returns-in-Some-clause-made : goal.returns-in-Some-clause-made
returns-in-Some-clause-made c =
    subst (λ (t : Table). IfOk c.exchange_at.result (λ x. c.exchange_at.new.self ≡ t))
    (sym (bring_some c.args.self.now (c.args.column - 1) c.in-Some.row (sym c.in-Some.ensures)).1) c.exchange_at.ensures.made

pub returns-in-None-clause-refused : goal.returns-in-None-clause-refused
returns-in-None-clause-refused c =
    sym (ap (λ (ops : List EntryOp). answer entry_is_owed ops (tt {0})) (bring_none c.args.self.now (c.args.column - 1) (sym c.in-None.ensures)).0
    ∙ answer_nothing entry_is_owed (tt {0}))

pub returns-in-None-clause-made : goal.returns-in-None-clause-made
returns-in-None-clause-made c = sym (bring_none c.args.self.now (c.args.column - 1) (sym c.in-None.ensures)).1

pub returns-in-Some-clause-coordinates : goal.returns-in-Some-clause-coordinates
returns-in-Some-clause-coordinates c = λ A h.
    let r = row_taken c.args.self.now (c.args.column - 1) c.in-Some.row (sym c.in-Some.ensures) in
    kept_or_made c.exchange_at.result (HasCoordinates A) c.args.self.now c.exchange_at.new.self (exchanged c.args.self.now c.in-Some.row (c.args.column - 1)) h
    (exchange_coordinates A c.args.self.now h c.in-Some.row (c.args.column - 1) c.exchange_at.ensures.rectangle r.row (let a = c.requires.first in
    let b = c.requires.last in omega arith) r.not_zero)
    c.exchange_at.ensures.made c.exchange_at.ensures.kept
