use Rattle.std.proofs.Common.{◌∙◌, ◌-◌, ap, ap₂, sym, ℕ}
use Rattle.exact_linear.specs.Exchange.{exchange_ops}
use Rattle.exact_lp.proofs.Placing.{err_owed, ok_owed, same_exchange}
use Rattle.exact_lp.proofs.simplex.leave.Goals as goal

pub returns-in-Err : goal.returns-in-Err
returns-in-Err c = err_owed (exchange_ops c.args.tableau.now c.args.row c.args.column) c.in-Err.op (sym c.exchange_at.ensures.refused ∙ c.in-Err.is)

pub returns-in-Ok : goal.returns-in-Ok
returns-in-Ok c = (
  ok_owed (exchange_ops c.args.tableau.now c.args.row c.args.column) (sym c.exchange_at.ensures.refused ∙ c.in-Ok.is),
  (
    same_exchange _ _ _ _
        (c.saturating_sub.ensures ∙ ap (λ (n : ℕ). c.args.column - n) c.rows-units.ensures.value)
        (c.saturating_sub-in-Ok.ensures ∙ ap₂ (λ (b : ℕ) (n : ℕ). b - n) c.basic_of-leaving.ensures c.rows-units.ensures.value),
    c.in-Ok.ensures.made,
  ),
)
