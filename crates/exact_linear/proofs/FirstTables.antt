-- The tables that the first columns come into show the first basis.
use Rattle.std.specs.Prelude.{◌≡◌, ℕ, zero, suc, ◌+◌, ◌<◌, ◌≤◌, ◌⊎◌, pos, Bool, true, false, nat_lt, List, Option, Some, None}
use Rattle.std.proofs.Common.{arith, sym, ◌∙◌, ap, refl, subst, inl, inr}
use Rattle.commutative_ring.proofs.SmallCases.{same_of_test, true_or_false}
use Rattle.exact_forms.specs.Rational.{Rational, whole, ◌*ℚ◌}
use Rattle.exact_forms.specs.Triangles.{triangle}
use Rattle.exact_forms.specs.Coordinates.{Columns, IsBasis, IsShown, swapped, exchanged_coordinates}
use Rattle.exact_forms.proofs.RationalSums.{sum_ℚ_same}
use Rattle.exact_forms.proofs.Shown.{exchange_shown}
use Rattle.symmetric_matrix.specs.Symmetric.{Symmetric}
use Rattle.exact_linear.specs.Tables.{Table, IsRectangle, rows_of, table_entry, basic_at, first_place, holds, row_of, is_there, is_basic, coordinate_in}
use Rattle.exact_linear.specs.Columns.{place_in, start_cell, columns_of, start_table, HasCoordinates}
use Rattle.exact_linear.specs.Exchange.{exchanged, first_row, brought_in, first_bases}
use Rattle.exact_linear.specs.FirstBasis.{IsFirstBasis}
use Rattle.exact_linear.proofs.SoFar.{IsFirstSoFar, over_units}
use Rattle.exact_linear.proofs.Exchanges.{exchanged_width, exchanged_rows, exchanged_is}
use Rattle.exact_linear.proofs.BringIn.{IsTaken, row_taken, none_taken, bring_some, bring_none, first_bases_none, first_bases_more}
use Rattle.exact_linear.proofs.FirstBasis.{first_left, first_taken}
use Rattle.exact_linear.proofs.Listed.{basic_row, row_basic}
use Rattle.exact_linear.proofs.Places.{first_found}
use Rattle.exact_linear.proofs.Rectangles.{exchanged_rectangle, start_rectangle}
use Rattle.exact_linear.proofs.StartTable.{are_units, start_rows, start_shown}
use Rattle.exact_linear.proofs.Units.{first_of_none}

-- a table that shows the basis after the columns up to c - 1 were looked at; the first `low` columns are units
pub record IsFirstTable (A : Columns) (low c : ℕ) (t : Table) : Type 0 where
  pub basis : ℕ → Bool
  pub coord : ℕ → ℕ → Rational
  pub first : IsFirstSoFar A low c basis coord
  pub shown : IsShown A basis coord (rows_of t) (table_entry t) (basic_at t)
  pub rectangle : IsRectangle t
  pub width : A.count ≡ t.width
  pub rows : rows_of t ≡ low

abbrev pub first_coordinates : (A : Columns) (low c : ℕ) (t : Table) → IsFirstTable A low c t → HasCoordinates A t
first_coordinates A low c t F = record { basis = F.basis; coord = F.coord; width = F.width; is_basis = F.first.basis; shown = F.shown }

-- ---- one vector more
module _ (A : Columns) (low c : ℕ) (t : Table) (F : IsFirstTable A low c t) (lo : low ≤ c) (lc : c < A.count) where
  nothing_taken : first_row t c ≡ None → IsFirstTable A low (c + 1) t
  nothing_taken h = record {
    basis = F.basis;
    coord = F.coord;
    first = first_left A low c F.basis F.coord F.first lo lc (λ u lu b. at_unit u lu (F.shown.every u (omega arith) b));
    shown = F.shown;
    rectangle = F.rectangle;
    width = F.width;
    rows = F.rows;
  }
    where
      at_unit : (u : ℕ) → u < low → (i : ℕ) × (i < rows_of t) × (basic_at t i ≡ u) → F.coord c u ≡ whole (pos 0)
      at_unit u lu e =
          ap (F.coord c) (sym e.2) ∙ sym (F.shown.entry e.0 c e.1 lc)
          ∙ none_taken t c e.0 h e.1 (let r = F.rows in let s = e.2 in omega arith)

  taken : (r : ℕ) → IsTaken t c r → IsFirstTable A low (c + 1) (exchanged t r c)
  taken r T = record {
    basis = swapped F.basis (basic_at t r) c;
    coord = exchanged_coordinates F.coord (basic_at t r) c;
    first = first_taken A low c F.basis F.coord F.first lo lc (basic_at t r) (let u = T.unit in let w = F.rows in
        omega arith) (F.shown.in_basis r T.row) (λ z. T.not_zero (F.shown.entry r c T.row lc ∙ z));
    shown = subst
        (λ (n : ℕ). IsShown A (swapped F.basis (basic_at t r) c) (exchanged_coordinates F.coord (basic_at t r) c) n (table_entry (exchanged t r c))
        (basic_at (exchanged t r c))) (sym (exchanged_rows t r c))
        (exchange_shown A F.basis F.coord (rows_of t) (table_entry t) (basic_at t) F.first.basis F.shown r c T.row lc (F.first.later c (omega arith) lc)
        (table_entry (exchanged t r c)) (basic_at (exchanged t r c))
        (exchanged_is t A.count r c F.rectangle F.width T.row within));
    rectangle = exchanged_rectangle t r c F.rectangle T.row within;
    width = F.width ∙ sym (exchanged_width t r c);
    rows = exchanged_rows t r c ∙ F.rows;
  }
    where
      within : c < t.width
      within = let e = F.width in omega arith

  first_brought : IsFirstTable A low (c + 1) (brought_in t c)
  first_brought = by (first_row t c) refl
    where
      by : (o : Option ℕ) → first_row t c ≡ o → IsFirstTable A low (c + 1) (brought_in t c)
      by None e = subst (λ (t : Table). IsFirstTable A low (c + 1) t) (sym (bring_none t c e).1) (nothing_taken e)
      by (Some r) e = subst (λ (t : Table). IsFirstTable A low (c + 1) t) (sym (bring_some t c r e).1) (taken r (row_taken t c r e))

pub first_tables : (A : Columns) (low : ℕ) (t : Table) (k : ℕ) → IsFirstTable A low low t → low + k ≤ A.count → IsFirstTable A low (low + k) (first_bases t k)
first_tables A low t zero F l =
    subst (λ (c : ℕ). IsFirstTable A low c (first_bases t 0)) (let e : low ≡ low + 0 = omega arith in
    e) (subst (λ (t : Table). IsFirstTable A low low t) (sym (first_bases_none t).0) F)
first_tables A low t (suc k) F l =
    let n : suc k ≡ k + 1 = omega arith in
    subst (λ (c : ℕ). IsFirstTable A low c (first_bases t (suc k))) (let e : low + k + 1 ≡ low + suc k = omega arith in e)
    (subst (λ (t : Table). IsFirstTable A low (low + k + 1) t)
    (sym (ap (first_bases t) n ∙ (first_bases_more t k).0 ∙ ap (λ (r : ℕ). brought_in (first_bases t k) (r + k)) F.rows))
    (first_brought A low (low + k) (first_bases t k) (first_tables A low t k F (omega arith)) (omega arith) (omega arith)))

-- ---- the table over the units
pub start_first : (n : ℕ) (given : List Symmetric) → IsFirstTable (columns_of n given) (triangle n) (triangle n) (start_table n given)
start_first n given = record {
  basis = λ k. nat_lt k (triangle n);
  coord = over_units (triangle n) (start_cell (triangle n) given);
  first = first_of_none (columns_of n given) (triangle n) place_in (start_cell (triangle n) given) (are_units n given);
  shown = start_shown n given;
  rectangle = start_rectangle n given;
  width = refl;
  rows = start_rows n given;
}

-- ---- the basis and its coordinates, read from the table
basis_as : (A : Columns) (B C : ℕ → Bool) (coord other : ℕ → ℕ → Rational) → ((k : ℕ) → k < A.count → B k ≡ C k)
    → ((j k : ℕ) → j < A.count → k < A.count → coord j k ≡ other j k) → IsBasis A B coord → IsBasis A C other
basis_as A B C coord other same equal H = record {
  independent =
      record { only_zero = λ c h k l. H.independent.only_zero c record { outside = λ i li b. h.outside i li (sym (same i li) ∙ b); sum = h.sum } k l };
  written = λ j lj. record {
    outside = λ k lk b. sym (equal j k lj lk) ∙ (H.written j lj).outside k lk (same k lk ∙ b);
    sum = λ a b la lb. sum_ℚ_same A.count _ _ (λ k lk. ap (λ w. w *ℚ A.entry k a b) (sym (equal j k lj lk))) ∙ (H.written j lj).sum a b la lb;
  };
}

module _ (A : Columns) (low c : ℕ) (t : Table) (F : IsFirstTable A low c t) (l : c ≤ A.count) where
  basis_in : (k : ℕ) → k < A.count → F.basis k ≡ is_basic t k
  basis_in k lk = by (true_or_false (F.basis k)) (true_or_false (is_basic t k))
    where
      by : ((F.basis k ≡ true) ⊎ (F.basis k ≡ false)) → ((is_basic t k ≡ true) ⊎ (is_basic t k ≡ false)) → F.basis k ≡ is_basic t k
      by (inl a) (inl b) = a ∙ sym b
      by (inr a) (inr b) = a ∙ sym b
      by (inl a) (inr b) = let i = F.shown.every k lk a in absurd (let r = row_basic t k i.0 i.1 i.2 in cc)
      by (inr a) (inl b) =
          let i = basic_row t k b in
          absurd (let s = F.shown.in_basis i.0 i.1 in let e : F.basis (basic_at t i.0) ≡ F.basis k = ap F.basis i.2 in cc)

  coord_in : (j k : ℕ) → j < A.count → k < A.count → F.coord j k ≡ coordinate_in t j k
  unfolding row_of
  coord_in j k lj lk = by (first_place (holds t k) 0 (rows_of t)) refl
    where
      by : (o : Option ℕ) → first_place (holds t k) 0 (rows_of t) ≡ o
          → F.coord j k ≡ elim (first_place (holds t k) 0 (rows_of t)) as (λ _. Rational) [ None ↦ whole (pos 0) | Some i ↦ table_entry t i j ]
      by None e =
          (F.first.basis.written j lj).outside k lk (basis_in k lk ∙ ap is_there e)
          ∙ sym (ap (λ (o : Option ℕ). elim o as (λ _. Rational) [ None ↦ whole (pos 0) | Some i ↦ table_entry t i j ]) e)
      by (Some i) e =
          let f = first_found (holds t k) 0 (rows_of t) i e in
          ap (F.coord j) (sym (same_of_test (basic_at t i) k f.passes)) ∙ sym (F.shown.entry i j (let b = f.below in omega arith) lj)
          ∙ sym (ap (λ (o : Option ℕ). elim o as (λ _. Rational) [ None ↦ whole (pos 0) | Some i ↦ table_entry t i j ]) e)

  read_first_basis : IsFirstBasis A low c (is_basic t)
  read_first_basis = record {
    taken = λ k lo hi b g. F.first.first.taken k lo hi (basis_in k (omega arith) ∙ b) g;
    left = λ k lo hi b. F.first.first.left k lo hi (basis_in k (omega arith) ∙ b);
  }

  pub read_so_far : IsFirstSoFar A low c (is_basic t) (coordinate_in t)
  read_so_far = record {
    basis = basis_as A F.basis (is_basic t) F.coord (coordinate_in t) basis_in coord_in F.first.basis;
    first = read_first_basis;
    later = λ k h lk. sym (basis_in k lk) ∙ F.first.later k h lk;
    cleared = λ j u lo hi lu b. sym (coord_in j u (omega arith) (within u b)) ∙ F.first.cleared j u lo hi lu (basis_in u (within u b) ∙ b);
  }
    where
      within : (u : ℕ) → is_basic t u ≡ true → u < A.count
      within u b = let i = basic_row t u b in subst (λ (u : ℕ). u < A.count) i.2 (F.shown.within i.0 i.1)

  pub read_shown : IsShown A (is_basic t) (coordinate_in t) (rows_of t) (table_entry t) (basic_at t)
  read_shown = record {
    entry = λ i j li lj. F.shown.entry i j li lj ∙ coord_in j (basic_at t i) lj (F.shown.within i li);
    within = F.shown.within;
    in_basis = λ i li. row_basic t (basic_at t i) i li refl;
    every = λ k lk b. basic_row t k b;
    apart = F.shown.apart;
  }

  abbrev pub read_first : IsFirstTable A low c t
  read_first = record {
    basis = is_basic t;
    coord = coordinate_in t;
    first = read_so_far;
    shown = read_shown;
    rectangle = F.rectangle;
    width = F.width;
    rows = F.rows;
  }
