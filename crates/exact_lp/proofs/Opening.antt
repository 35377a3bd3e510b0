-- The opening: t comes in at the least entry of the target, and the table shows the first state.
use Rattle.std.specs.Prelude.{◌≡◌, ℕ, zero, suc, ◌+◌, ◌-◌, ◌<◌, ◌≤◌, ◌⊎◌, ℤ, pos, Bool, true, false, nat_lt, List, [], ◌∷◌, length, slice_index_or}
use Rattle.std.specs.Prelude.{if◌then◌else◌}
use Rattle.std.specs.Ordering.{MatchOrdering}
use Rattle.std.specs.declared.cmp.Ordering.{Ordering}
use Rattle.std.specs.declared.cmp.Ordering.TheVariants.{Less, Equal, Greater}
use Rattle.std.proofs.Common.{arith, sym, ◌∙◌, ap, ap₂, refl, subst, inl, inr}
use Rattle.commutative_ring.proofs.Ring.{num, ◌⊕◌, neg, v0, v1, v2}
use Rattle.commutative_ring.proofs.SmallCases.{below_of_test, here_or_before}
use Rattle.exact_forms.specs.Rational.{Rational, ◌+ℚ◌, neg_ℚ, ◌<ℚ◌}
use Rattle.exact_forms.specs.Signs.{IsPositive, IsNonnegative}
use Rattle.exact_forms.specs.Coordinates.{IsShown, swapped, exchanged_coordinates}
use Rattle.exact_forms.proofs.Rational.{ring_ℚ}
use Rattle.exact_forms.proofs.RationalOrder.{lt-positive}
use Rattle.exact_forms.proofs.Signs.{positive_add, positive_nonneg, nonneg_zero}
use Rattle.exact_forms.proofs.Shown.{exchange_shown}
use Rattle.fraction128.specs.Order.{order_of}
use Rattle.fraction128.proofs.Orders.{order_of_ranks}
use Rattle.symmetric_matrix.specs.Symmetric.{Symmetric}
use Rattle.exact_linear.proofs.FirstTables.{first_coordinates}
use Rattle.exact_linear.proofs.Rectangles.{exchanged_rectangle, summed_rectangle}
use Rattle.exact_linear.specs.Tables.{Table, rows_of, table_entry, basic_at}
use Rattle.exact_linear.specs.Columns.{with_sum}
use Rattle.exact_linear.specs.Exchange.{exchanged}
use Rattle.exact_linear.proofs.Exchanges.{exchanged_rows, exchanged_width, exchanged_is}
use Rattle.exact_linear.proofs.Summed.{coord_other, summed_shown}
use Rattle.exact_lp.specs.Rule.{target, is_lower, least_row}
use Rattle.exact_lp.specs.Placement.{first_table, firsts, opened, problem_of}
use Rattle.exact_lp.specs.Program.{Program, IsProgram, IsState, IsLeastPlace}
use Rattle.exact_lp.specs.OfVectors.{IsPlaceable}
use Rattle.exact_lp.proofs.Right.{start_columns, low_of, count_is}
use Rattle.exact_lp.proofs.Outcome.{top_not_chosen}
use Rattle.exact_lp.proofs.Start.{start_state}
use Rattle.exact_lp.proofs.FirstProgram.{IsFirst, the_first, the_program, first_free, first_coord, is_program}
use Rattle.exact_lp.proofs.Tableaux.{IsTableau}
use Rattle.exact_lp.proofs.Starting.{IsStart, start_is}

-- ---- the least row
-- by how much the target's entry in row j is over that in row i
abbrev pub excess : Table → ℕ → ℕ → ℕ → Rational
excess t m i j = table_entry t j (target t m) +ℚ neg_ℚ (table_entry t i (target t m))

-- of the rows before i
pub record IsLeastRow (t : Table) (m best i : ℕ) : Type 0 where
  pub before : best < i
  pub least : (j : ℕ) → j < i → IsNonnegative (excess t m best j)
  pub last : (j : ℕ) → j < i → basic_at t best < basic_at t j → IsPositive (excess t m best j)

itself : (t : Table) (m i : ℕ) → IsNonnegative (excess t m i i)
itself t m i = nonneg_zero _ (ring_ℚ (table_entry t i (target t m) ∷ []) (v0 ⊕ neg v0) (num (pos 0)) refl)

least_to : (t : Table) (m best i : ℕ) → best < i + 1 → ((j : ℕ) → ((j ≡ i) ⊎ (j < i)) → IsNonnegative (excess t m best j))
    → ((j : ℕ) → basic_at t best < basic_at t j → ((j ≡ i) ⊎ (j < i)) → IsPositive (excess t m best j)) → IsLeastRow t m best (i + 1)
least_to t m best i before least last = record {
  before = before;
  least = λ j l. least j (here_or_before j i l);
  last = λ j l h. last j h (here_or_before j i l);
}

least_kept : (t : Table) (m best i : ℕ) → IsLeastRow t m best i → IsNonnegative (excess t m best i)
    → (basic_at t best < basic_at t i → IsPositive (excess t m best i)) → IsLeastRow t m best (i + 1)
least_kept t m best i L n p = least_to t m best i (let b = L.before in omega arith) least last
  where
    least : (j : ℕ) → ((j ≡ i) ⊎ (j < i)) → IsNonnegative (excess t m best j)
    least j (inl s) = subst (λ (j : ℕ). IsNonnegative (excess t m best j)) (sym s) n
    least j (inr l) = L.least j l

    last : (j : ℕ) → basic_at t best < basic_at t j → ((j ≡ i) ⊎ (j < i)) → IsPositive (excess t m best j)
    last j h (inl s) = subst (λ (j : ℕ). IsPositive (excess t m best j)) (sym s) (p (subst (λ (j : ℕ). basic_at t best < basic_at t j) s h))
    last j h (inr l) = L.last j l h

least_taken : (t : Table) (m i : ℕ) → ((j : ℕ) → j < i → IsNonnegative (excess t m i j))
    → ((j : ℕ) → j < i → basic_at t i < basic_at t j → IsPositive (excess t m i j)) → IsLeastRow t m i (i + 1)
least_taken t m i n p = least_to t m i i (omega arith) least last
  where
    least : (j : ℕ) → ((j ≡ i) ⊎ (j < i)) → IsNonnegative (excess t m i j)
    least j (inl s) = subst (λ (j : ℕ). IsNonnegative (excess t m i j)) (sym s) (itself t m i)
    least j (inr l) = n j l

    last : (j : ℕ) → basic_at t i < basic_at t j → ((j ≡ i) ⊎ (j < i)) → IsPositive (excess t m i j)
    last j h (inl s) = absurd (let e : basic_at t j ≡ basic_at t i = ap (basic_at t) s in omega arith)
    last j h (inr l) = p j l h

least_next : (t : Table) (m best i : ℕ) → IsLeastRow t m best i → IsLeastRow t m (if is_lower t m best i then i else best) (i + 1)
unfolding is_lower
least_next t m best i L =
    by (order_of (table_entry t i (target t m)) (table_entry t best (target t m)))
    (order_of_ranks (table_entry t i (target t m)) (table_entry t best (target t m)) _ refl)
  where
    lower : table_entry t i (target t m) <ℚ table_entry t best (target t m) → (j : ℕ) → j < i → IsPositive (excess t m i j)
    lower r j l =
        subst IsPositive
        (ring_ℚ (table_entry t i (target t m) ∷ table_entry t best (target t m) ∷ table_entry t j (target t m) ∷ []) ((v1 ⊕ neg v0) ⊕ (v2 ⊕ neg v1))
        (v2 ⊕ neg v0) refl)
        (positive_add (excess t m i best) (excess t m best j) ((lt-positive (table_entry t i (target t m)) (table_entry t best (target t m))).0 r)
        (L.least j l))

    equal : table_entry t i (target t m) ≡ table_entry t best (target t m) → (j : ℕ) → excess t m best j ≡ excess t m i j
    equal e j = ap (λ x. table_entry t j (target t m) +ℚ neg_ℚ x) (sym e)

    by_column : (b : Bool) → nat_lt (basic_at t best) (basic_at t i) ≡ b → table_entry t i (target t m) ≡ table_entry t best (target t m)
        → IsLeastRow t m (if b then i else best) (i + 1)
    by_column true h e = least_taken t m i
        (λ j l. subst IsNonnegative (equal e j) (L.least j l))
        (λ j l a. subst IsPositive (equal e j) (L.last j l (let b = below_of_test (basic_at t best) (basic_at t i) h in omega arith)))
    by_column false h e =
        least_kept t m best i L (subst IsNonnegative (sym (equal e i)) (itself t m i)) (λ a. absurd (of_false (basic_at t best) (basic_at t i) h a))
      where
        of_false : (a b : ℕ) → nat_lt a b ≡ false → a < b → ⊥
        of_false a b e l = grind arith

    by : (o : Ordering)
        → MatchOrdering o (table_entry t i (target t m) <ℚ table_entry t best (target t m)) (table_entry t i (target t m) ≡ table_entry t best (target t m))
        (table_entry t best (target t m) <ℚ table_entry t i (target t m))
        → IsLeastRow t m (if (elim o as (λ _. Bool) [ Less ↦ true | Equal ↦ nat_lt (basic_at t best) (basic_at t i) | Greater ↦ false ]) then i else best)
        (i + 1)
    by Less r = least_taken t m i (λ j l. positive_nonneg _ (lower r j l)) (λ j l h. lower r j l)
    by Equal e = by_column (nat_lt (basic_at t best) (basic_at t i)) refl e
    by Greater r = let p = (lt-positive (table_entry t best (target t m)) (table_entry t i (target t m))).0 r in
        least_kept t m best i L (positive_nonneg _ p) (λ h. p)

least_so_far : (t : Table) (m best i n : ℕ) → IsLeastRow t m best i → IsLeastRow t m (least_row t m best i n) (i + n)
unfolding least_row
least_so_far t m best i zero L = subst (λ (i : ℕ). IsLeastRow t m best i) (let e : i ≡ i + 0 = omega arith in e) L
least_so_far t m best i (suc n) L =
    subst (λ (k : ℕ). IsLeastRow t m (least_row t m (if is_lower t m best i then i else best) (i + 1) n) k) (let e : i + 1 + n ≡ i + suc n = omega arith in e)
    (least_so_far t m (if is_lower t m best i then i else best) (i + 1) n (least_next t m best i L))

pub least_is : (t : Table) (m : ℕ) → 1 ≤ rows_of t → IsLeastRow t m (least_row t m 0 1 (rows_of t - 1)) (rows_of t)
least_is t m h =
    subst (λ (k : ℕ). IsLeastRow t m (least_row t m 0 1 (rows_of t - 1)) k) (let e : 1 + (rows_of t - 1) ≡ rows_of t = omega arith in e)
    (least_so_far t m 0 1 (rows_of t - 1) (least_taken t m 0 (λ j l. absurd (omega arith)) (λ j l h. absurd (omega arith))))

-- ---- the first state
module _ (vectors : List (List ℕ)) (s : Symmetric) (d : ℤ) (g : IsPlaceable vectors s) (F : IsFirst vectors s d) where
  abbrev f : Table
  f = the_first vectors s d g F

  abbrev P : Program
  P = the_program vectors s d g F

  abbrev start : ℕ → ℕ → Rational
  start = first_coord vectors s d g F

  R : IsProgram P start
  R = is_program vectors s d g F

  abbrev pub open_row : ℕ
  open_row = least_row f (length vectors) 0 1 (rows_of f - 1)

  -- the column that t takes the place of
  abbrev pub open_column : ℕ
  open_column = basic_at f open_row

  some_rows : 1 ≤ rows_of f
  some_rows =
      let S : IsStart (problem_of vectors s d).start (length vectors) = start_is vectors s (problem_of vectors s d).start g.some refl in
      let a = S.row in
      let b = F.rows in
      let w = S.width in
      let c = count_is vectors s in
      omega arith

  pub row_is : IsLeastRow f (length vectors) open_row (rows_of f)
  row_is = least_is f (length vectors) some_rows

  pub place : (i : ℕ) × (i < P.rank) × (P.first i ≡ open_column)
  place = R.chosen_is_first open_column (F.shown.within open_row row_is.before) (F.shown.in_basis open_row row_is.before)

  -- the target's coordinate at a basic column
  pub at_basic : (i : ℕ) → i < rows_of f → start P.target (basic_at f i) ≡ table_entry f i (target f (length vectors))
  at_basic i l =
      coord_other (start_columns vectors s) f (first_coordinates (start_columns vectors s) (low_of s) (low_of s + length vectors) f F)
      (first_free vectors s d g F) P.target (basic_at f i) (let c = count_is vectors s in omega arith)
      ∙ sym (F.shown.entry i P.target l (let c = count_is vectors s in omega arith))
      ∙ ap (λ (r : ℕ). table_entry f i (r + length vectors)) (sym F.rows)

  pub is_least_place : IsLeastPlace P start place.0
  is_least_place = record {
    within = place.1;
    least = λ j l. let i = row_at j l in subst IsNonnegative (excess_is j i) (row_is.least i.0 i.1);
    last = λ j h l.
        let i = row_at j l in
        let a : P.first place.0 < P.first j = R.increasing place.0 j h l in
        let b : P.first place.0 ≡ open_column = place.2 in
        let c : basic_at f i.0 ≡ P.first j = i.2 in
        subst IsPositive (excess_is j i) (row_is.last i.0 i.1 (omega arith));
  }
    where
      row_at : (j : ℕ) → j < P.rank → (i : ℕ) × (i < rows_of f) × (basic_at f i ≡ P.first j)
      row_at j l = let v = (R.first_is_vector j l).1 in F.shown.every (P.first j) (let c = count_is vectors s in omega arith) (R.first_is_chosen j l)

      excess_is : (j : ℕ) (i : (i : ℕ) × (i < rows_of f) × (basic_at f i ≡ P.first j))
          → excess f (length vectors) open_row i.0 ≡ start P.target (P.first j) +ℚ neg_ℚ (start P.target (P.first place.0))
      excess_is j i =
          ap₂ (λ x y. x +ℚ neg_ℚ y) (sym (at_basic i.0 i.1)) (sym (at_basic open_row row_is.before))
          ∙ ap₂ (λ (a : ℕ) (b : ℕ). start P.target a +ℚ neg_ℚ (start P.target b)) i.2 (sym place.2)

  open_state : IsState P (swapped F.basis open_column P.top) (exchanged_coordinates start open_column P.top)
  open_state = subst (λ (k : ℕ). IsState P (swapped F.basis k P.top) (exchanged_coordinates start k P.top)) place.2
      (start_state P start R place.0 is_least_place)

  opened_is : opened f (length vectors) ≡ exchanged (with_sum f) open_row P.top
  unfolding opened
  opened_is = ap (λ (r : ℕ). exchanged (with_sum f) open_row (r + length vectors + 1)) F.rows

  open_shown : IsShown P.columns (swapped F.basis open_column P.top) (exchanged_coordinates start open_column P.top)
      (rows_of (exchanged (with_sum f) open_row P.top)) (table_entry (exchanged (with_sum f) open_row P.top)) (basic_at (exchanged (with_sum f) open_row P.top))
  open_shown =
      subst (λ (n : ℕ). IsShown P.columns (swapped F.basis open_column P.top) (exchanged_coordinates start open_column P.top) n
      (table_entry (exchanged (with_sum f) open_row P.top)) (basic_at (exchanged (with_sum f) open_row P.top)))
      (sym (exchanged_rows (with_sum f) open_row P.top))
      (exchange_shown P.columns F.basis start (rows_of f) (table_entry (with_sum f)) (basic_at f) R.basis
      (summed_shown (start_columns vectors s) f (first_coordinates (start_columns vectors s) (low_of s) (low_of s + length vectors) f F)
      (first_free vectors s d g F))
      open_row P.top row_is.before R.top_within (top_not_chosen P start R) (table_entry (exchanged (with_sum f) open_row P.top))
      (basic_at (exchanged (with_sum f) open_row P.top))
      (exchanged_is (with_sum f) P.columns.count open_row P.top (summed_rectangle f F.rectangle) F.width row_is.before (let a = R.top_within in
      let w = F.width in omega arith)))

  pub opened_tableau : IsTableau P (opened f (length vectors)) (length vectors) (firsts (problem_of vectors s d)) (swapped F.basis open_column P.top)
      (exchanged_coordinates start open_column P.top)
  opened_tableau =
      let er = exchanged_rows (with_sum f) open_row P.top in
      let ew = exchanged_width (with_sum f) open_row P.top in
      let r = F.rows in
      let w = F.width in
      let c = count_is vectors s in
      subst (λ (t : Table). IsTableau P t (length vectors) (firsts (problem_of vectors s d)) (swapped F.basis open_column P.top)
      (exchanged_coordinates start open_column P.top)) (sym opened_is)
      record {
        state = open_state;
        shown = open_shown;
        rectangle = exchanged_rectangle (with_sum f) open_row P.top (summed_rectangle f F.rectangle) row_is.before (let a = R.top_within in omega arith);
        wide = omega arith;
        count = omega arith;
        row = let o = some_rows in omega arith;
        low = omega arith;
        high = omega arith;
        target_is = omega arith;
        top_is = omega arith;
        rank = refl;
        ranks = λ j l. refl;
      }
