-- What the answer Outside names.
use Rattle.std.specs.Prelude.{◌≡◌, ◌≢◌, ℕ, zero, suc, ◌+◌, ◌-◌, ◌<◌, ◌≤◌, ◌⊎◌, pos, Bool, true, false, List, [], ◌∷◌, map, length, slice_index_or}
use Rattle.std.specs.Prelude.{if◌then◌else◌}
use Rattle.std.proofs.Common.{arith, sym, ◌∙◌, ap, refl, subst, inl, inr}
use Rattle.std.proofs.lemmas.List.{get_or-map, length-map}
use Rattle.commutative_ring.proofs.Ring.{neg, v0}
use Rattle.commutative_ring.proofs.SmallCases.{false_unless, same_or_not}
use Rattle.exact_forms.specs.Rational.{Rational, whole, neg_ℚ}
use Rattle.exact_forms.specs.Sums.{sum_ℚ}
use Rattle.exact_forms.specs.Signs.{IsPositive, IsNegative, IsNonnegative}
use Rattle.exact_forms.specs.Coordinates.{IsBasis, swapped, exchanged_coordinates}
use Rattle.exact_forms.proofs.Coordinates.{basis_mark, mark_off, read_off, exchange_keeps}
use Rattle.exact_forms.proofs.Rational.{ring_ℚ}
use Rattle.exact_forms.proofs.RationalSums.{sum_ℚ-neg}
use Rattle.exact_forms.proofs.Signs.{positive_not_zero, zero_not_positive, one_positive, not_both, total_nonneg, negative_or_nonneg, negative_opposite}
use Rattle.exact_forms.proofs.Slacks.{replaced_here}
use Rattle.exact_linear.proofs.Counts.{no_more}
use Rattle.exact_linear.proofs.Listed.{places_pass, places_increase, places_all, basic_row, row_basic}
use Rattle.exact_linear.specs.Squares.{name_at}
use Rattle.exact_linear.specs.Tables.{Table, rows_of, table_entry, basic_at, places_where, is_basic}
use Rattle.exact_lp.specs.Rule.{is_positive, top_row}
use Rattle.exact_lp.specs.Program.{Program, IsProgram}
use Rattle.exact_lp.specs.Placement.{zeros_of, is_basic_vector, first_above, outside_vector}
use Rattle.exact_lp.specs.Simplex.{IsNamed, IsOutsideOf}
use Rattle.exact_lp.proofs.Outcome.{times_first, sum_over_first}
use Rattle.exact_lp.proofs.Tableaux.{IsTableau}
use Rattle.exact_lp.proofs.TableFacts.{positive_fact, positive_test, top_within, vector_within, at_top}
use Rattle.exact_lp.proofs.Within.{first_within}

not_positive_fact : (x : Rational) → is_positive x ≡ false → IsNonnegative (neg_ℚ x)
not_positive_fact x h = by (negative_or_nonneg (neg_ℚ x))
  where
    by : (IsNegative (neg_ℚ x) ⊎ IsNonnegative (neg_ℚ x)) → IsNonnegative (neg_ℚ x)
    by (inr k) = k
    by (inl k) = absurd (let t = positive_test x (subst IsPositive (ring_ℚ (x ∷ []) (neg (neg v0)) v0 refl) ((negative_opposite (neg_ℚ x)).0 k)) in cc)

-- ---- the first column with a positive entry
pub record IsFirstAbove (t : Table) (r : ℕ) (cs : List ℕ) (place : ℕ) : Type 0 where
  pub within : place < length cs
  pub here : first_above t r cs ≡ slice_index_or cs place 0
  pub passes : is_positive (table_entry t r (slice_index_or cs place 0)) ≡ true
  pub before : (j : ℕ) → j < place → is_positive (table_entry t r (slice_index_or cs j 0)) ≡ false

above_is : (t : Table) (r c : ℕ) (cs : List ℕ) → first_above t r (c ∷ cs) ≡ (if is_positive (table_entry t r c) then c else first_above t r cs)
unfolding first_above
above_is t r c cs = refl

find_above : (t : Table) (r : ℕ) (cs : List ℕ)
    → ((place : ℕ) × (IsFirstAbove t r cs place)) ⊎ ((j : ℕ) → j < length cs → is_positive (table_entry t r (slice_index_or cs j 0)) ≡ false)
find_above t r [] = inr (λ j l. absurd (omega arith))
find_above t r (c ∷ cs) = by (is_positive (table_entry t r c)) refl (find_above t r cs)
  where
    both : is_positive (table_entry t r c) ≡ false → (n : ℕ) → ((j : ℕ) → j < n → is_positive (table_entry t r (slice_index_or cs j 0)) ≡ false) → (j : ℕ)
        → j < suc n → is_positive (table_entry t r (slice_index_or (c ∷ cs) j 0)) ≡ false
    both e n h zero l = e
    both e n h (suc j) l = h j (omega arith)

    by : (b : Bool) → is_positive (table_entry t r c) ≡ b
        → (((place : ℕ) × (IsFirstAbove t r cs place)) ⊎ ((j : ℕ) → j < length cs → is_positive (table_entry t r (slice_index_or cs j 0)) ≡ false))
        → ((place : ℕ) × (IsFirstAbove t r (c ∷ cs) place))
        ⊎ ((j : ℕ) → j < length (c ∷ cs) → is_positive (table_entry t r (slice_index_or (c ∷ cs) j 0)) ≡ false)
    by true e rest =
        inl (
          0,
          record {
            within = omega arith;
            here = above_is t r c cs ∙ ap (λ (b : Bool). if b then c else first_above t r cs) e;
            passes = e;
            before = λ j l. absurd (omega arith);
          },
        )
    by false e (inl f) = inl (
      suc f.0,
      record {
        within = let w = f.1.within in omega arith;
        here = above_is t r c cs ∙ ap (λ (b : Bool). if b then c else first_above t r cs) e ∙ f.1.here;
        passes = f.1.passes;
        before = both e f.0 f.1.before;
      },
    )
    by false e (inr n) = inr (both e (length cs) n)

module _ (P : Program) (t : Table) (m : ℕ) (cs : List ℕ) (B : ℕ → Bool) (coord start : ℕ → ℕ
    → Rational) (T : IsTableau P t m cs B coord) (R : IsProgram P start) where
  -- ---- the vectors of the basis
  vector_basic : (k : ℕ) → k < P.columns.count → B k ≡ true → is_basic t k ≡ true
  vector_basic k l b = let i = T.shown.every k l b in row_basic t k i.0 i.1 i.2

  basic_vector : (k : ℕ) → is_basic t k ≡ true → B k ≡ true
  basic_vector k h = let i = basic_row t k h in ap B (sym i.2) ∙ T.shown.in_basis i.0 i.1

  zero_high : (i : ℕ) → i < length (zeros_of t m) → P.low + name_at (zeros_of t m) i < P.high
  unfolding zeros_of
  zero_high i l = let p = (places_pass (is_basic_vector t) 0 m i l).below in let a = T.low in let b = T.high in omega arith

  zero_basic : (i : ℕ) → i < length (zeros_of t m) → B (P.low + name_at (zeros_of t m) i) ≡ true
  unfolding zeros_of
  zero_basic i l = ap (λ (r : ℕ). B (r + name_at (places_where (is_basic_vector t) 0 m) i)) T.low
      ∙ basic_vector (rows_of t + name_at (places_where (is_basic_vector t) 0 m) i) (places_pass (is_basic_vector t) 0 m i l).passes

  zeros_increase : (i j : ℕ) → i < j → j < length (zeros_of t m) → name_at (zeros_of t m) i < name_at (zeros_of t m) j
  unfolding zeros_of
  zeros_increase i j h l = places_increase (is_basic_vector t) 0 m i j h l

  zero_every : (k : ℕ) → k < P.columns.count → B k ≡ true → k ≢ P.top → IsNamed P (zeros_of t m) k
  unfolding zeros_of
  zero_every k l b n =
      let v = T.state.vectors k l b n in
      let low = v.0 in
      let high = v.1 in
      let a = T.low in
      let c = T.high in
      let s : rows_of t + (k - rows_of t) ≡ k = omega arith in
      let p = places_all (is_basic_vector t) 0 m (k - rows_of t) (ap (λ (k : ℕ). is_basic t k) s ∙ vector_basic k l b) (omega arith) (omega arith) in
      let e = p.2 in
      record { place = p.0; within = p.1; here = omega arith }

  -- the basic columns: t and those of the zeros
  abbrev named : List ℕ
  named = P.top ∷ map (λ (v : ℕ). P.low + v) (zeros_of t m)

  named_zero : (i : ℕ) → i < length (zeros_of t m) → slice_index_or (map (λ (v : ℕ). P.low + v) (zeros_of t m)) i 0 ≡ P.low + name_at (zeros_of t m) i
  named_zero i l = get_or-map (λ (v : ℕ). P.low + v) (zeros_of t m) i 0 0 l

  named_length : length named ≡ suc (length (zeros_of t m))
  named_length = ap (λ (n : ℕ). suc n) (length-map (zeros_of t m) (λ (v : ℕ). P.low + v))

  rows_apart : (i j : ℕ) → i < j → j < length t.basic → slice_index_or t.basic i 0 ≢ slice_index_or t.basic j 0
  rows_apart i j h l = T.shown.apart i j (omega arith) l (λ s. absurd (omega arith))

  zero_not_top : (i : ℕ) → i < length (zeros_of t m) → P.top ≢ P.low + name_at (zeros_of t m) i
  zero_not_top i l e = let h = zero_high i l in let a = T.top_is in let b = T.high in omega arith

  named_apart : (i j : ℕ) → i < j → j < length named → slice_index_or named i 0 ≢ slice_index_or named j 0
  named_apart i zero h l e = absurd (omega arith)
  named_apart zero (suc j) h l e = let s = named_length in let lj : j < length (zeros_of t m) = omega arith in zero_not_top j lj (e ∙ named_zero j lj)
  named_apart (suc i) (suc j) h l e =
      let s = named_length in
      let lj : j < length (zeros_of t m) = omega arith in
      let less = zeros_increase i j (omega arith) lj in
      let same : P.low + name_at (zeros_of t m) i ≡ P.low + name_at (zeros_of t m) j = sym (named_zero i (omega arith)) ∙ e ∙ named_zero j lj in
      omega arith

  row_named : (i : ℕ) → i < length t.basic → (j : ℕ) × (j < length named) × (slice_index_or named j 0 ≡ slice_index_or t.basic i 0)
  row_named i l = by (same_or_not (basic_at t i) P.top)
    where
      by : ((basic_at t i ≡ P.top) ⊎ (basic_at t i ≢ P.top)) → (j : ℕ) × (j < length named) × (slice_index_or named j 0 ≡ slice_index_or t.basic i 0)
      by (inl s) = (0, omega arith, sym s)
      by (inr n) =
          let z = zero_every (basic_at t i) (T.shown.within i l) (T.shown.in_basis i l) n in
          (suc z.place, (let s = named_length in let w = z.within in omega arith), named_zero z.place z.within ∙ z.here)

  named_row : (j : ℕ) → j < length named → (i : ℕ) × (i < length t.basic) × (slice_index_or t.basic i 0 ≡ slice_index_or named j 0)
  named_row zero l = T.shown.every P.top (top_within P t m cs B coord T) T.state.has_top
  named_row (suc j) l =
      let s = named_length in
      let lj : j < length (zeros_of t m) = omega arith in
      let i = T.shown.every (P.low + name_at (zeros_of t m) j) (vector_within P t m cs B coord T (P.low + name_at (zeros_of t m) j) (zero_high j lj))
      (zero_basic j lj) in
      (i.0, i.1, i.2 ∙ sym (named_zero j lj))

  zeros_number : length (zeros_of t m) + 1 ≡ P.low
  zeros_number =
      let a = no_more t.basic named rows_apart row_named in
      let b = no_more named t.basic named_apart named_row in
      let c = named_length in
      let d = T.low in
      omega arith

  -- ---- the vector that leaves
  entry_is : (j : ℕ) → j < P.rank → table_entry t (top_row t m) (slice_index_or cs j 0) ≡ coord (P.first j) P.top
  entry_is j l = ap (λ (c : ℕ). table_entry t (top_row t m) c) (T.ranks j l) ∙ at_top P t m cs B coord T (P.first j) (first_within P start R j l)

  -- the coordinates of the first basis at t sum to 1
  sum_at_top : sum_ℚ P.rank (λ j. coord (P.first j) P.top) ≡ whole (pos 1)
  sum_at_top =
      let l : P.top < P.columns.count = top_within P t m cs B coord T in
      sym (sum_over_first P start R (λ k. coord k P.top))
      ∙ sym (read_off P.columns B coord (times_first P) (coord P.top) (P.columns.entry P.top) T.state.basis (T.state.basis.written P.top l)
      (λ a b la lb. sum_over_first P start R (λ k. P.columns.entry k a b) ∙ sym (R.top_is_sum a b la lb)) P.top l)
      ∙ basis_mark P.columns B coord T.state.basis P.top l T.state.has_top P.top l
      ∙ replaced_here (λ k. whole (pos 0)) P.top (whole (pos 1)) P.top refl

  -- one of them is positive
  above_there : (place : ℕ) × (IsFirstAbove t (top_row t m) cs place)
  above_there = by (find_above t (top_row t m) cs)
    where
      by : (((place : ℕ) × (IsFirstAbove t (top_row t m) cs place))
          ⊎ ((j : ℕ) → j < length cs → is_positive (table_entry t (top_row t m) (slice_index_or cs j 0)) ≡ false))
          → (place : ℕ) × (IsFirstAbove t (top_row t m) cs place)
      by (inl f) = f
      by (inr n) = absurd (not_both (whole (pos 1)) one_positive
          (subst IsNonnegative (sum_ℚ-neg P.rank (λ j. coord (P.first j) P.top) ∙ ap neg_ℚ sum_at_top)
          (total_nonneg P.rank (λ j. neg_ℚ (coord (P.first j) P.top))
          (λ j l. subst (λ x. IsNonnegative (neg_ℚ x)) (entry_is j l)
          (not_positive_fact (table_entry t (top_row t m) (slice_index_or cs j 0)) (n j (let r = T.rank in omega arith)))))))

  positive_not_basic : (e : ℕ) → e < P.columns.count → e ≢ P.top → IsPositive (coord e P.top) → B e ≡ false
  positive_not_basic e le n h =
      false_unless (B e) (λ b. zero_not_positive (subst IsPositive
      (basis_mark P.columns B coord T.state.basis e le b P.top (top_within P t m cs B coord T)
      ∙ mark_off P.columns e P.top (λ (s : P.top ≡ e). n (sym s))) h))

  pub outside_names : IsOutsideOf P B coord (zeros_of t m) (outside_vector t m cs)
  outside_names =
      let f = above_there in
      let place : ℕ = f.0 in
      let lp : place < P.rank = (let w = f.1.within in let r = T.rank in omega arith) in
      let e : ℕ = P.first place in
      let le : e < P.columns.count = first_within P start R place lp in
      let low = (R.first_is_vector place lp).0 in
      let apart : e ≢ P.top = R.top_apart e low (R.first_is_vector place lp).1 in
      let units = T.low in
      let pos_e : IsPositive (coord e P.top) =
      subst IsPositive (entry_is place lp) (positive_fact (table_entry t (top_row t m) (slice_index_or cs place 0)) f.1.passes) in
      let is : first_above t (top_row t m) cs ≡ e = f.1.here ∙ T.ranks place lp in
      let v : P.low + outside_vector t m cs ≡ e = omega arith in
      let out : B e ≡ false = positive_not_basic e le apart pos_e in
      record {
        vectors = zero_high;
        basic = zero_basic;
        every = zero_every;
        increasing = zeros_increase;
        number = zeros_number;
        apart = λ i l s. absurd (let b = zero_basic i l in let u : B (P.low + name_at (zeros_of t m) i) ≡ B e = ap (λ (v : ℕ). B (P.low + v)) s ∙ ap B v in cc);
        place = place;
        within = lp;
        vector_is = v;
        positive = pos_e;
        before = λ j l. subst (λ x. IsNonnegative (neg_ℚ x)) (entry_is j (omega arith))
            (not_positive_fact (table_entry t (top_row t m) (slice_index_or cs j 0)) (f.1.before j l));
        is_basis = subst (λ (e : ℕ). IsBasis P.columns (swapped B P.top e) (exchanged_coordinates coord P.top e)) (sym v)
            (exchange_keeps P.columns B coord P.top e (top_within P t m cs B coord T) le T.state.has_top out (positive_not_zero (coord e P.top) pos_e)
            T.state.basis);
      }
