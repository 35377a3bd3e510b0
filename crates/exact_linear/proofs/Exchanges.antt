-- An exchange keeps the coordinates.
use Rattle.std.specs.Prelude.{◌≡◌, ◌≢◌, ℕ, ◌<◌, pos, Bool, true, false, ◌⊎◌, nat_eq, [], ◌∷◌}
use Rattle.std.proofs.Common.{arith, sym, ◌∙◌, ap, refl, subst, inl, inr}
use Rattle.std.proofs.lemmas.List.{length-set, get_or-set_same, get_or-set_other}
use Rattle.commutative_ring.proofs.Ring.{num, ◌⊕◌, ◌⊗◌, neg, v0, v1}
use Rattle.commutative_ring.proofs.SmallCases.{same_or_not, true_or_false}
use Rattle.exact_forms.specs.Rational.{Rational, whole, ◌*ℚ◌, ◌-ℚ◌, ◌/ℚ◌}
use Rattle.exact_forms.proofs.Rational.{ring_ℚ, div-mul}
use Rattle.exact_forms.proofs.Slacks.{replaced_here}
use Rattle.exact_forms.proofs.Signs.{positive_not_zero, one_positive}
use Rattle.exact_forms.specs.Coordinates.{Columns, IsShown, mark, swapped, exchanged_coordinates}
use Rattle.exact_forms.proofs.Coordinates.{basis_mark, mark_off, exchange_keeps}
use Rattle.exact_forms.proofs.Shown.{exchange_shown, IsTableExchange}
use Rattle.exact_linear.specs.Tables.{Table, IsRectangle, rows_of, table_entry, basic_at}
use Rattle.exact_linear.specs.Columns.{HasCoordinates}
use Rattle.exact_linear.specs.Exchange.{exchanged, new_cell}
use Rattle.exact_linear.proofs.Cells.{exchanged_entry}

pub exchanged_width : (t : Table) (r c : ℕ) → (exchanged t r c).width ≡ t.width
unfolding exchanged
exchanged_width t r c = refl

pub exchanged_rows : (t : Table) (r c : ℕ) → rows_of (exchanged t r c) ≡ rows_of t
unfolding exchanged
exchanged_rows t r c = length-set t.basic r c

pub exchanged_basic_here : (t : Table) (r c : ℕ) → r < rows_of t → basic_at (exchanged t r c) r ≡ c
unfolding exchanged
exchanged_basic_here t r c l = get_or-set_same t.basic r c 0 l

pub exchanged_basic_other : (t : Table) (r c i : ℕ) → i ≢ r → basic_at (exchanged t r c) i ≡ basic_at t i
unfolding exchanged
exchanged_basic_other t r c i n = get_or-set_other t.basic r i c 0 n

pub new_here : (r i : ℕ) (x f y : Rational) → i ≡ r → new_cell r i x f y ≡ y
unfolding new_cell
new_here r i x f y e = let t : nat_eq i r ≡ true = grind arith in rw t

new_other : (r i : ℕ) (x f y : Rational) → i ≢ r → new_cell r i x f y ≡ x -ℚ f *ℚ y
unfolding new_cell
new_other r i x f y n = let t : nat_eq i r ≡ false = grind arith in rw t

pub exchanged_is : (t : Table) (count r c : ℕ) → IsRectangle t → count ≡ t.width → r < rows_of t → c < t.width
    → IsTableExchange (rows_of t) count (table_entry t) (basic_at t) r c (table_entry (exchanged t r c)) (basic_at (exchanged t r c))
exchanged_is t count r c R e lr lc = record {
  pivot_row = λ j lj. exchanged_entry t (rows_of t) r c r j R.cells lr lr lc (inside j lj) ∙ new_here r r _ _ _ refl;
  other_rows = λ i j li lj n. exchanged_entry t (rows_of t) r c i j R.cells lr li lc (inside j lj) ∙ new_other r i _ _ _ n;
  entering = exchanged_basic_here t r c lr;
  kept = λ i li n. exchanged_basic_other t r c i n;
}
  where
    inside : (j : ℕ) → j < count → j < t.width
    inside j l = omega arith

-- x / 1
pub by_one : (x y : Rational) → y ≡ whole (pos 1) → x /ℚ y ≡ x
by_one x y e = ring_ℚ ((x /ℚ y) ∷ []) v0 (v0 ⊗ num (pos 1)) refl ∙ ap (λ w. (x /ℚ y) *ℚ w) (sym e)
    ∙ div-mul x y (λ z. positive_not_zero (whole (pos 1)) one_positive (sym e ∙ z))

less_nothing : (x y : Rational) → x -ℚ whole (pos 0) *ℚ y ≡ x
unfolding ◌-ℚ◌
less_nothing x y = ring_ℚ (x ∷ y ∷ []) (v0 ⊕ neg (num (pos 0) ⊗ v1)) v0 refl

module _ (A : Columns) (t : Table) (H : HasCoordinates A t) (r c : ℕ) (R : IsRectangle t) (lr : r < rows_of t) (lc : c < t.width)
    (ne : table_entry t r c ≢ whole (pos 0)) where
  c_within : c < A.count
  c_within = let e = H.width in omega arith

  table_exchange : IsTableExchange (rows_of t) A.count (table_entry t) (basic_at t) r c (table_entry (exchanged t r c)) (basic_at (exchanged t r c))
  table_exchange = exchanged_is t A.count r c R H.width lr lc

  -- where the column is basic already it is so in this row, and the table stays
  itself : H.basis c ≡ true → basic_at t r ≡ c
  itself b = by (same_or_not (basic_at t r) c)
    where
      by : ((basic_at t r ≡ c) ⊎ (basic_at t r ≢ c)) → basic_at t r ≡ c
      by (inl e) = e
      by (inr n) = absurd (ne (
          H.shown.entry r c lr c_within
          ∙ basis_mark A H.basis H.coord H.is_basis c c_within b (basic_at t r) (H.shown.within r lr)
          ∙ mark_off A c (basic_at t r) n))

  stays : H.basis c ≡ true → IsShown A H.basis H.coord (rows_of t) (table_entry (exchanged t r c)) (basic_at (exchanged t r c))
  stays b = record {
    entry = λ i j li lj. new_entry i j li lj (same_or_not i r);
    within = λ i li. subst (λ (k : ℕ). k < A.count) (sym (basic_same i li (same_or_not i r))) (H.shown.within i li);
    in_basis = λ i li. ap H.basis (basic_same i li (same_or_not i r)) ∙ H.shown.in_basis i li;
    every = λ k lk bk. let e = H.shown.every k lk bk in (e.0, e.1, basic_same e.0 e.1 (same_or_not e.0 r) ∙ e.2);
    apart = λ i j li lj n s. H.shown.apart i j li lj n (sym (basic_same i li (same_or_not i r)) ∙ s ∙ basic_same j lj (same_or_not j r));
  }
    where
      at_c : (i : ℕ) → i < rows_of t → table_entry t i c ≡ mark c (basic_at t i)
      at_c i li = H.shown.entry i c li c_within ∙ basis_mark A H.basis H.coord H.is_basis c c_within b (basic_at t i) (H.shown.within i li)

      one : table_entry t r c ≡ whole (pos 1)
      one = at_c r lr ∙ replaced_here (λ k. whole (pos 0)) c (whole (pos 1)) (basic_at t r) (itself b)

      none : (i : ℕ) → i < rows_of t → i ≢ r → table_entry t i c ≡ whole (pos 0)
      none i li n = at_c i li ∙ mark_off A c (basic_at t i) (λ (s : basic_at t i ≡ c). H.shown.apart i r li lr n (s ∙ sym (itself b)))

      basic_same : (i : ℕ) → i < rows_of t → ((i ≡ r) ⊎ (i ≢ r)) → basic_at (exchanged t r c) i ≡ basic_at t i
      basic_same i li (inl e) = ap (basic_at (exchanged t r c)) e ∙ table_exchange.entering ∙ sym (itself b) ∙ ap (basic_at t) (sym e)
      basic_same i li (inr n) = table_exchange.kept i li n

      same_entry : (i j : ℕ) → i < rows_of t → j < A.count → ((i ≡ r) ⊎ (i ≢ r)) → table_entry (exchanged t r c) i j ≡ table_entry t i j
      same_entry i j li lj (inl e) =
          ap (λ (i : ℕ). table_entry (exchanged t r c) i j) e ∙ table_exchange.pivot_row j lj ∙ by_one (table_entry t r j) (table_entry t r c) one
          ∙ ap (λ (i : ℕ). table_entry t i j) (sym e)
      same_entry i j li lj (inr n) =
          table_exchange.other_rows i j li lj n
          ∙ ap (λ w. table_entry t i j -ℚ w *ℚ (table_entry t r j /ℚ table_entry t r c)) (none i li n)
          ∙ less_nothing (table_entry t i j) (table_entry t r j /ℚ table_entry t r c)

      new_entry : (i j : ℕ) → i < rows_of t → j < A.count → ((i ≡ r) ⊎ (i ≢ r)) → table_entry (exchanged t r c) i j ≡ H.coord j (basic_at (exchanged t r c) i)
      new_entry i j li lj d = same_entry i j li lj d ∙ H.shown.entry i j li lj ∙ ap (H.coord j) (sym (basic_same i li d))

  as_rows : (B : ℕ → Bool) (coord : ℕ → ℕ → Rational) → IsShown A B coord (rows_of t) (table_entry (exchanged t r c)) (basic_at (exchanged t r c))
      → IsShown A B coord (rows_of (exchanged t r c)) (table_entry (exchanged t r c)) (basic_at (exchanged t r c))
  as_rows B coord h = subst (λ (n : ℕ). IsShown A B coord n (table_entry (exchanged t r c)) (basic_at (exchanged t r c))) (sym (exchanged_rows t r c)) h

  pub exchange_coordinates : HasCoordinates A (exchanged t r c)
  exchange_coordinates = by (true_or_false (H.basis c))
    where
      by : ((H.basis c ≡ true) ⊎ (H.basis c ≡ false)) → HasCoordinates A (exchanged t r c)
      by (inl b) = record {
        basis = H.basis;
        coord = H.coord;
        width = H.width ∙ sym (exchanged_width t r c);
        is_basis = H.is_basis;
        shown = as_rows H.basis H.coord (stays b);
      }
      by (inr f) = record {
        basis = swapped H.basis (basic_at t r) c;
        coord = exchanged_coordinates H.coord (basic_at t r) c;
        width = H.width ∙ sym (exchanged_width t r c);
        is_basis = exchange_keeps A H.basis H.coord (basic_at t r) c (H.shown.within r lr) c_within (H.shown.in_basis r lr) f
            (λ e. ne (H.shown.entry r c lr c_within ∙ e)) H.is_basis;
        shown = as_rows (swapped H.basis (basic_at t r) c) (exchanged_coordinates H.coord (basic_at t r) c)
            (exchange_shown A H.basis H.coord (rows_of t) (table_entry t) (basic_at t) H.is_basis H.shown r c lr c_within f (table_entry (exchanged t r c))
            (basic_at (exchanged t r c)) table_exchange);
      }
