use Rattle.std.proofs.Common.{◌≡◌, ◌≢◌, ◌∙◌, ◌+◌, ◌*◌, ◌<◌, ◌^◌, nat_abs, arith, sym, ap, pos, ◌≤ℤ◌, length}
use Rattle.std.proofs.lemmas.Int.{ints}
use Rattle.std.proofs.lemmas.List.{get_or_read, with_items_is}
use Rattle.symmetric_matrix.proofs.Narrow.{read_64}
use Rattle.exact_linear.specs.Whole.{whole_at}
use Rattle.exact_linear.proofs.Rows.{row_within}
use Rattle.exact_linear.proofs.KeptEntries.{kept_size, kept_pivot, kept_made, kept_owes}
use Rattle.exact_linear.proofs.kept.Entries.exchange_whole.Goals as goal
use Rattle.exact_linear.proofs.kept.Entries.exchange_whole.Goals.{After-deref, After-index}

-- how many whole numbers there are, and the one of the pivot
size_is : (c : After-deref) → length c.self.inside.wholes.items ≡ c.args.rows * c.args.width
size_is c = kept_size c.args.self.now c.self.inside.den c.self.inside.wholes.items c.self.inside.fractions.items (c.args.rows * c.args.width)
    (sym c.self.view_is) c.self.invariant.entries c.requires.rows

whole_is : (c : After-index) → length c.self.inside.wholes.items ≡ c.args.rows * c.args.width
    → c.index.result.now ≡ whole_at c.self.inside.wholes.items (c.args.row * c.args.width + c.args.column)
whole_is c s =
    let r = row_within c.args.row c.args.width c.args.column c.args.rows c.requires.row c.requires.column in
    get_or_read c.self.inside.wholes.items (c.args.row * c.args.width + c.args.column) c.index.result.now (omega arith) c.index.ensures (pos 0)

not_zero : (c : After-deref) → pos 1 ≤ℤ c.self.inside.den → whole_at c.self.inside.wholes.items (c.args.row * c.args.width + c.args.column) ≢ pos 0
not_zero c above =
    kept_pivot c.args.self.now c.self.inside.den c.self.inside.wholes.items c.self.inside.fractions.items (c.args.row * c.args.width + c.args.column)
    (sym c.self.view_is) above c.requires.pivot

pub exchange_wholes-requires-clause-rows : goal.exchange_wholes-requires-clause-rows
exchange_wholes-requires-clause-rows c =
    let s : length c.self.inside.wholes.items ≡ c.args.rows * c.args.width = size_is (goal.at.exchange_wholes-requires-clause-rows c).After-deref in
    grind arith

pub exchange_wholes-requires-clause-pivot : goal.exchange_wholes-requires-clause-pivot
exchange_wholes-requires-clause-pivot c =
    let above : pos 1 ≤ℤ c.self.inside.den = (let n = c.self.invariant.not_negative in let f = c.if-self-eq0.false in omega (arith, ints)) in
    rw c.deref.ensures.value (not_zero (goal.at.exchange_wholes-requires-clause-pivot c).After-deref above)

pub overflow_mul-row : goal.overflow_mul-row
overflow_mul-row c =
    let s : length c.self.inside.wholes.items ≡ c.args.rows * c.args.width = size_is (goal.at.overflow_mul-row c).After-deref in
    let r = row_within c.args.row c.args.width c.args.column c.args.rows c.requires.row c.requires.column in omega arith

pub overflow_add-row : goal.overflow_add-row
overflow_add-row c =
    let s : length c.self.inside.wholes.items ≡ c.args.rows * c.args.width = size_is (goal.at.overflow_add-row c).After-deref in
    let r = row_within c.args.row c.args.width c.args.column c.args.rows c.requires.row c.requires.column in omega arith

pub index-requires : goal.index-requires
index-requires c =
    let s : length c.self.inside.wholes.items ≡ c.args.rows * c.args.width = size_is (goal.at.index-requires c).After-deref in
    let r = row_within c.args.row c.args.width c.args.column c.args.rows c.requires.row c.requires.column in omega arith

pub magnitude-self-inside-requires : goal.magnitude-self-inside-requires
magnitude-self-inside-requires c =
    let at = goal.at.magnitude-self-inside-requires c in
    let l : nat_abs (whole_at c.self.inside.wholes.items (c.args.row * c.args.width + c.args.column)) < 2 ^ 63 =
    c.self.invariant.small.small (c.args.row * c.args.width + c.args.column) in
    rw (whole_is at.After-index (size_is at.After-deref), read_64 (whole_at c.self.inside.wholes.items (c.args.row * c.args.width + c.args.column)) l) l

above_of : (c : goal.After-swap) → pos 1 ≤ℤ c.self.inside.den
above_of c = let n = c.self.invariant.not_negative in let f = c.if-self-eq0.false in omega (arith, ints)

den_small : (c : goal.After-swap) → nat_abs c.self.inside.den < 2 ^ 63
den_small c = c.self.invariant.den_small

pivot_is : (c : goal.After-swap) → c.index.result.now ≡ whole_at c.self.inside.wholes.items (c.args.row * c.args.width + c.args.column)
    → c.magnitude-self-inside.result ≡ pos (nat_abs (whole_at c.self.inside.wholes.items (c.args.row * c.args.width + c.args.column)))
pivot_is c e =
    rw (
      e,
      read_64 (whole_at c.self.inside.wholes.items (c.args.row * c.args.width + c.args.column))
          (c.self.invariant.small.small (c.args.row * c.args.width + c.args.column)),
    ) at c.magnitude-self-inside.ensures.value

new_is : (c : goal.After-swap) → c.swap.new.x.items ≡ c.exchange_wholes.new.into
new_is c =
    ap (λ (v : _). v.items) c.swap.ensures.x_after
    ∙ with_items_is c.self.inside.spare_wholes c.exchange_wholes.new.into
    (c.exchange_wholes.auto.into ∙ ap length c.deref_mut.ensures.value ∙ sym (c.self.inside.spare_wholes.ok.0))

pub invariant_of-self-2 : goal.invariant_of-self-2
invariant_of-self-2 c =
    let at = goal.at.invariant_of-self-2 c in
    let n = new_is c in
    let y : c.swap.new.y.items ≡ c.self.inside.wholes.items = search in
    rw (read_64 c.magnitude-self-inside.result c.magnitude-self-inside.ensures.small, n, y) record {
      den_small = c.magnitude-self-inside.ensures.small;
      not_negative = rw (pivot_is c (whole_is at.After-index (size_is at.After-deref)))
          (let z : pos 0 ≤ℤ pos (nat_abs (whole_at c.self.inside.wholes.items (c.args.row * c.args.width + c.args.column))) = omega (arith, ints) in
          z);
      small = c.exchange_wholes.ensures.small c.if-not-exchange_wholes.false;
      room = sym (c.exchange_wholes.ensures.size ∙ ap length c.deref.ensures.value);
      entries = c.self.invariant.entries ∙ sym (c.exchange_wholes.ensures.size ∙ ap length c.deref.ensures.value);
      spare_entries = c.self.invariant.spare_entries ∙ sym (c.exchange_wholes.ensures.size ∙ ap length c.deref.ensures.value);
    }

pub returns-clause-made : goal.returns-clause-made
returns-clause-made c = λ _.
    rw (read_64 c.magnitude-self-inside.result c.magnitude-self-inside.ensures.small, new_is c)
    (kept_made c.args.width c.args.row c.args.column c.args.self.now c.self.inside.den c.self.inside.wholes.items c.exchange_wholes.new.into
    c.self.inside.fractions.items c.self.inside.fractions.items
    (whole_at c.self.inside.wholes.items (c.args.row * c.args.width + c.args.column)) c.magnitude-self-inside.result (sym c.self.view_is) (above_of c)
    (pivot_is c (whole_is (goal.at.returns-clause-made c).After-index (size_is (goal.at.returns-clause-made c).After-deref)))
    (not_zero (goal.at.returns-clause-made c).After-deref (above_of c))
    (rw (c.deref.ensures.value, read_64 c.self.inside.den c.self.invariant.den_small) at (c.exchange_wholes.ensures.made c.if-not-exchange_wholes.false)))

pub returns-clause-owes : goal.returns-clause-owes
returns-clause-owes c = λ _.
    kept_owes c.args.width c.args.row c.args.column c.args.self.now c.self.inside.den c.self.inside.wholes.items c.self.inside.fractions.items
    (sym c.self.view_is) (above_of c) (den_small c) c.self.invariant.small c.requires.pivot
