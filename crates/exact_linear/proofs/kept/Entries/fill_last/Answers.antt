use Rattle.std.proofs.Common.{◌≡◌, ◌∙◌, ◌*◌, nat_abs, arith, sym, ap, pos, ◌≤ℤ◌, ℤ, List, length}
use Rattle.std.specs.Vec.{with_items}
use Rattle.std.proofs.lemmas.Int.{ints}
use Rattle.std.proofs.lemmas.List.{with_items_is}
use Rattle.symmetric_matrix.proofs.Narrow.{read_64}
use Rattle.exact_forms.specs.Rational.{Rational}
use Rattle.exact_linear.specs.Columns.{with_ones}
use Rattle.exact_linear.specs.Whole.{entries_in, fractions_over}
use Rattle.exact_linear.proofs.KeptEntries.{kept_size, kept_fractions, kept_wholes, kept_over}
use Rattle.exact_linear.proofs.kept.Entries.fill_last.Goals as goal

pub fill_last_column-requires-clause-size : goal.fill_last_column-requires-clause-size
fill_last_column-requires-clause-size c =
    let e = c.self.inside in
    let size = kept_size c.args.self.now e.den e.wholes.items e.fractions.items (c.args.rows * c.args.width)
    (sym c.self.view_is) c.self.invariant.entries c.requires.size in
    ap length c.deref_mut.ensures.value ∙ c.self.invariant.entries ∙ size

pub returns-then-self-eq0 : goal.returns-then-self-eq0
returns-then-self-eq0 c =
    let e = c.self.inside in
    let new = c.fill_last_column.new.entries in
    let none : e.den ≡ pos 0 =
    (let t = c.if-self-eq0.true in let n = c.self.invariant.not_negative in let d = c.self.invariant.den_small in omega (arith, ints)) in
    let now : c.args.self.now ≡ e.fractions.items =
    sym c.self.view_is ∙ ap (λ (d : ℤ). entries_in d e.wholes.items e.fractions.items) none ∙ kept_fractions e.wholes.items e.fractions.items in
    let written : List Rational = (with_items e.fractions new).items in
    let room = c.fill_last_column.auto.entries ∙ ap length c.deref_mut.ensures.value ∙ sym (e.fractions.ok.0) in
    ap (λ (d : ℤ). entries_in d e.wholes.items written) none
    ∙ kept_fractions e.wholes.items written
    ∙ with_items_is e.fractions new room
    ∙ c.fill_last_column.ensures
    ∙ ap (λ (xs : List Rational). with_ones c.args.rows c.args.width xs) (c.deref_mut.ensures.value ∙ sym now)

pub fill_last_wholes-requires-clause-size : goal.fill_last_wholes-requires-clause-size
fill_last_wholes-requires-clause-size c =
    let e = c.self.inside in
    let size = kept_size c.args.self.now e.den e.wholes.items e.fractions.items (c.args.rows * c.args.width)
    (sym c.self.view_is) c.self.invariant.entries c.requires.size in
    ap length c.deref_mut-2.ensures.value ∙ size

pub returns : goal.returns
returns c =
    let e = c.self.inside in
    let new = c.fill_last_wholes.new.wholes in
    let d = nat_abs e.den in
    let above : pos 1 ≤ℤ e.den = (let n = c.self.invariant.not_negative in let f = c.if-self-eq0.false in omega (arith, ints)) in
    let room = c.fill_last_wholes.auto.wholes ∙ ap length c.deref_mut-2.ensures.value ∙ sym (e.wholes.ok.0) in
    let made = rw (read_64 e.den c.self.invariant.den_small) at c.fill_last_wholes.ensures.made in
    kept_wholes e.den _ e.fractions.items above
    ∙ ap (λ (ws : List ℤ). fractions_over d ws) (with_items_is e.wholes new room)
    ∙ made
    ∙ ap (λ (xs : List Rational). with_ones c.args.rows c.args.width xs)
    (ap (λ (ws : List ℤ). fractions_over d ws) c.deref_mut-2.ensures.value
    ∙ sym (kept_over c.args.self.now e.den e.wholes.items e.fractions.items (sym c.self.view_is) above))
