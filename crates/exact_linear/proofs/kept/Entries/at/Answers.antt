use Rattle.std.proofs.Common.{◌≡◌, ◌∙◌, ◌<◌, nat_abs, arith, sym, ap, subst, pos, ◌≤ℤ◌, ℤ, List, length}
use Rattle.std.proofs.lemmas.Int.{ints}
use Rattle.std.proofs.lemmas.List.{get_or_read}
use Rattle.symmetric_matrix.proofs.Narrow.{read_64_128}
use Rattle.commutative_ring.proofs.SmallCases.{positive_abs}
use Rattle.exact_forms.specs.Rational.{Rational, whole}
use Rattle.exact_linear.specs.Tables.{entry_of}
use Rattle.exact_linear.specs.Whole.{whole_at, fractions_over, entries_in}
use Rattle.exact_linear.proofs.WholeEntries.{fractions_entry}
use Rattle.exact_linear.proofs.KeptEntries.{kept_size, kept_over, kept_fractions}
use Rattle.exact_linear.proofs.kept.Entries.at.Goals as goal

pub index-requires : goal.index-requires
index-requires c =
    let s = kept_size c.args.self.now c.self.inside.den c.self.inside.wholes.items c.self.inside.fractions.items (length c.args.self.now)
    (sym c.self.view_is) c.self.invariant.entries (let e : length c.args.self.now ≡ length c.args.self.now = omega arith in e) in
    let k : c.args.k < length c.args.self.now = c.requires in
    let e = c.self.invariant.entries in let o = c.self.inside.fractions.ok.0 in omega arith

pub index-requires-else-self-eq0 : goal.index-requires-else-self-eq0
index-requires-else-self-eq0 c =
    let s = kept_size c.args.self.now c.self.inside.den c.self.inside.wholes.items c.self.inside.fractions.items (length c.args.self.now)
    (sym c.self.view_is) c.self.invariant.entries (let e : length c.args.self.now ≡ length c.args.self.now = omega arith in e) in
    let k : c.args.k < length c.args.self.now = c.requires in
    let o = c.self.inside.wholes.ok.0 in omega arith

pub returns-then-self-eq0 : goal.returns-then-self-eq0
returns-then-self-eq0 c =
    let none : c.self.inside.den ≡ pos 0 =
    (let t = c.if-self-eq0.true in let n = c.self.invariant.not_negative in let d = c.self.invariant.den_small in omega (arith, ints)) in
    let now : c.args.self.now ≡ c.self.inside.fractions.items =
    sym c.self.view_is ∙ ap (λ (d : ℤ). entries_in d c.self.inside.wholes.items c.self.inside.fractions.items) none
    ∙ kept_fractions c.self.inside.wholes.items c.self.inside.fractions.items in
    let l : c.args.k < length c.self.inside.fractions.items = subst (λ (xs : List Rational). c.args.k < length xs) now c.requires in
    get_or_read c.self.inside.fractions.items c.args.k c.index.result.now l c.index.ensures (whole (pos 0))
    ∙ ap (λ (xs : List Rational). entry_of xs c.args.k) (sym now)

pub returns-else-self-eq0 : goal.returns-else-self-eq0
returns-else-self-eq0 c =
    let above : pos 1 ≤ℤ c.self.inside.den = (let n = c.self.invariant.not_negative in let f = c.if-self-eq0.false in omega (arith, ints)) in
    let now : c.args.self.now ≡ fractions_over (nat_abs c.self.inside.den) c.self.inside.wholes.items =
    kept_over c.args.self.now c.self.inside.den c.self.inside.wholes.items c.self.inside.fractions.items (sym c.self.view_is) above in
    let s : length c.self.inside.wholes.items ≡ length c.args.self.now =
    kept_size c.args.self.now c.self.inside.den c.self.inside.wholes.items c.self.inside.fractions.items (length c.args.self.now)
    (sym c.self.view_is) c.self.invariant.entries (let e : length c.args.self.now ≡ length c.args.self.now = omega arith in e) in
    let k : c.args.k < length c.args.self.now = c.requires in
    let e : c.index-else-self-eq0.result.now ≡ whole_at c.self.inside.wholes.items c.args.k =
    get_or_read c.self.inside.wholes.items c.args.k c.index-else-self-eq0.result.now (omega arith) c.index-else-self-eq0.ensures (pos 0) in
    (rw (
      e,
      read_64_128 (whole_at c.self.inside.wholes.items c.args.k) (c.self.invariant.small.small c.args.k),
      read_64_128 c.self.inside.den
          c.self.invariant.den_small,
    ) at c.new.ensures)
    ∙ sym (fractions_entry (nat_abs c.self.inside.den) c.self.inside.wholes.items c.args.k (positive_abs c.self.inside.den above))
    ∙ ap (λ (xs : List Rational). entry_of xs c.args.k) (sym now)
