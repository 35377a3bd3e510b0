use Rattle.std.proofs.Common.{◌≡◌, ◌∙◌, arith, sym, ap, List, length, to_z-of_z}
use Rattle.std.proofs.lemmas.List.{with_items_is}
use Rattle.exact_forms.specs.Rational.{Rational}
use Rattle.exact_linear.specs.Exchange.{table_cells}
use Rattle.exact_linear.specs.Whole.{entries_in}
use Rattle.exact_linear.proofs.KeptEntries.{kept_fractions}
use Rattle.exact_linear.proofs.kept.Entries.exchange_fractions.Goals as goal
use Rattle.exact_linear.proofs.kept.Entries.exchange_fractions.Goals.{After-deref-2}

-- the fractions that are written are the entries
now_is : (c : After-deref-2) → c.deref-2.result.now ≡ c.args.self.now
now_is c =
    let a : c.deref-2.result.now ≡ c.fractions_into.new.into = c.deref-2.ensures.value
    ∙ with_items_is c.self.inside.fractions c.fractions_into.new.into
    (c.fractions_into.auto.into ∙ ap length c.deref_mut.ensures.value ∙ sym (c.self.inside.fractions.ok.0)) in
    let b : c.fractions_into.new.into ≡ entries_in c.self.inside.den c.self.inside.wholes.items c.self.inside.fractions.items = grind (arith, to_z-of_z) in
    a ∙ b ∙ c.self.view_is

pub returns-in_err-exchange_into-clause-refused : goal.returns-in_err-exchange_into-clause-refused
returns-in_err-exchange_into-clause-refused c = let n : c.deref-2.result.now ≡ c.args.self.now =
    now_is (goal.at.returns-in_err-exchange_into-clause-refused c).After-deref-2 in grind arith

pub returns-in_err-exchange_into-clause-kept : goal.returns-in_err-exchange_into-clause-kept
returns-in_err-exchange_into-clause-kept c = let n : c.deref-2.result.now ≡ c.args.self.now =
    now_is (goal.at.returns-in_err-exchange_into-clause-kept c).After-deref-2 in grind (arith, kept_fractions)

made_is : (c : goal.After-swap) → c.swap.new.x.items ≡ c.exchange_into.new.into
made_is c =
    ap (λ (v : _). v.items) c.swap.ensures.x_after
    ∙ with_items_is c.self.inside.spare c.exchange_into.new.into
    (c.exchange_into.auto.into ∙ ap length c.deref_mut-2.ensures.value ∙ sym (c.self.inside.spare.ok.0))

pub returns-clause-made : goal.returns-clause-made
returns-clause-made c =
    kept_fractions c.self.inside.wholes.items c.swap.new.x.items ∙ made_is c ∙ c.in_ok-exchange_into.ensures.made
    ∙ ap (λ (l : List Rational). table_cells c.args.width l c.args.row c.args.column) (now_is (goal.at.returns-clause-made c).After-deref-2)
