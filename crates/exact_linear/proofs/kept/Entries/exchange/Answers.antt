use Rattle.std.proofs.Common.{◌≡◌, ◌∙◌, ap, refl, length, List}
use Rattle.exact_forms.specs.Rational.{Rational}
use Rattle.exact_linear.specs.Exchange.{entry_is_owed, table_ops, table_cells}
use Rattle.exact_linear.proofs.Results.{kept_or_made}
use Rattle.exact_linear.proofs.KeptEntries.{ok_of_none, length-table_cells}
use Rattle.exact_linear.proofs.kept.Entries.exchange.Goals as goal

pub returns-then-exchange_whole-clause-refused : goal.returns-then-exchange_whole-clause-refused
returns-then-exchange_whole-clause-refused c =
    ok_of_none entry_is_owed (table_ops c.args.width c.args.self.now c.args.row c.args.column) (tt {0})
    (c.exchange_whole.ensures.owes c.if-exchange_whole.true)

pub returns-then-exchange_whole-clause-size : goal.returns-then-exchange_whole-clause-size
returns-then-exchange_whole-clause-size c = ap length (c.exchange_whole.ensures.made c.if-exchange_whole.true)
    ∙ length-table_cells c.args.width c.args.row c.args.column c.args.self.now

pub returns-else-exchange_whole-clause-size : goal.returns-else-exchange_whole-clause-size
returns-else-exchange_whole-clause-size c =
    kept_or_made c.exchange_fractions.result (λ (l : List Rational). length l ≡ length c.exchange_whole.new.self) c.exchange_whole.new.self
    c.exchange_fractions.new.self (table_cells c.args.width c.exchange_whole.new.self c.args.row c.args.column)
    refl (length-table_cells c.args.width c.args.row c.args.column c.exchange_whole.new.self) c.exchange_fractions.ensures.made
    c.exchange_fractions.ensures.kept
    ∙ ap length (c.exchange_whole.ensures.kept c.if-exchange_whole.false)
