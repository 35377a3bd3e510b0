-- What the tests on a table say of the state that it shows.
use Rattle.std.specs.Prelude.{◌≡◌, ◌≢◌, ℕ, zero, suc, ◌<◌, ℤ, pos, negsuc, ◌≤ℤ◌, Bool, true, false, not, ◌&&◌, List, [], ◌∷◌, length, nat_eq, nat_lt}
use Rattle.std.specs.Prelude.{slice_index_or, Some, None}
use Rattle.std.specs.Ordering.{MatchOrdering}
use Rattle.std.specs.declared.cmp.Ordering.{Ordering}
use Rattle.std.specs.declared.cmp.Ordering.TheVariants.{Less, Equal, Greater}
use Rattle.std.proofs.Common.{arith, sym, ◌∙◌, ap, ap₂, refl, subst}
use Rattle.std.proofs.lemmas.Int.{ints}
use Rattle.exact_forms.specs.Rational.{Rational, ◌+ℚ◌, neg_ℚ, ◌<ℚ◌, ◌/ℚ◌}
use Rattle.commutative_ring.proofs.Ring.{num, ◌⊕◌, neg, v0, v1}
use Rattle.commutative_ring.proofs.SmallCases.{both_true, not_false, not_true}
use Rattle.exact_forms.proofs.Rational.{ring_ℚ}
use Rattle.exact_forms.proofs.RationalOrder.{lt-positive}
use Rattle.exact_forms.proofs.Lexicographic.{lex_head, lex_difference}
use Rattle.exact_forms.specs.Signs.{IsPositive, IsNegative, IsNonnegative}
use Rattle.exact_forms.proofs.Signs.{zero_not_positive, not_both}
use Rattle.exact_forms.specs.Lexicographic.{IsLexBelow}
use Rattle.fraction128.specs.Order.{order_of}
use Rattle.fraction128.proofs.Orders.{order_of_ranks}
use Rattle.exact_linear.specs.Tables.{Table, rows_of, table_entry, basic_at}
use Rattle.exact_linear.proofs.Places.{first_found, first_none}
use Rattle.exact_lp.specs.Rule.{target, top, is_negative, is_positive, ratio_at, beats, is_candidate, is_inside, entering, goes_down, top_row}
use Rattle.exact_lp.specs.Program.{Program, order, IsProgram, EndsInside, EndsOutside, IsEntering, MayLeave, ratios}
use Rattle.exact_lp.proofs.Meaning.{IsReady, top_row_is}
use Rattle.exact_lp.proofs.Right.{negative_fact, not_negative_fact}
use Rattle.exact_lp.proofs.Tableaux.{IsTableau}
use Rattle.exact_lp.proofs.Within.{order_within}

-- ---- numbers
pub positive_fact : (x : Rational) → is_positive x ≡ true → IsPositive x
positive_fact x h = record { numerator = by x.num h }
  where
    over_zero : (n : ℕ) → nat_lt 0 n ≡ true → 0 < n
    over_zero n e = grind arith

    by : (n : ℤ) → elim n as (λ _. Bool) [ pos n ↦ nat_lt 0 n | negsuc n ↦ false ] ≡ true → pos 1 ≤ℤ n
    by (pos n) h = let l = over_zero n h in omega (arith, ints)
    by (negsuc n) h = absurd cc

pub positive_test : (x : Rational) → IsPositive x → is_positive x ≡ true
positive_test x h = by x.num h.numerator
  where
    over_zero : (n : ℕ) → 0 < n → nat_lt 0 n ≡ true
    over_zero n e = grind arith

    by : (n : ℤ) → pos 1 ≤ℤ n → elim n as (λ _. Bool) [ pos n ↦ nat_lt 0 n | negsuc n ↦ false ] ≡ true
    by (pos n) h = over_zero n (omega (arith, ints))
    by (negsuc n) h = absurd (omega (arith, ints))

-- ---- lists of ratios
abbrev pub quotients : Table → ℕ → ℕ → List ℕ → ℕ → Rational
quotients t e i cs j = ratio_at t e i (slice_index_or cs j 0)

same_before : (f g : ℕ → Rational) (k : ℕ) → f 0 ≡ g 0 → ((j : ℕ) → j < k → f (suc j) ≡ g (suc j)) → (j : ℕ) → j < suc k → f j ≡ g j
same_before f g k e h zero l = e
same_before f g k e h (suc j) l = h j (omega arith)

pub lex_later : (n : ℕ) (f g : ℕ → Rational) → f 0 ≡ g 0 → IsLexBelow n (λ j. f (suc j)) (λ j. g (suc j)) → IsLexBelow (suc n) f g
lex_later n f g e h = record { place = suc h.place; within = let w = h.within in omega arith; before = same_before f g h.place e h.before; there = h.there }

-- not below at the first place
pub lex_tail : (n : ℕ) (f g : ℕ → Rational) → f 0 ≡ g 0 → IsLexBelow (suc n) f g → IsLexBelow n (λ j. f (suc j)) (λ j. g (suc j))
lex_tail n f g e h = by h.place h.within h.before h.there
  where
    by : (p : ℕ) → p < suc n → ((k : ℕ) → k < p → f k ≡ g k) → IsPositive (g p +ℚ neg_ℚ (f p)) → IsLexBelow n (λ j. f (suc j)) (λ j. g (suc j))
    by zero w b t = absurd (zero_not_positive (subst IsPositive (ap (λ x. g 0 +ℚ neg_ℚ x) e ∙ ring_ℚ (g 0 ∷ []) (v0 ⊕ neg v0) (num (pos 0)) refl) t))
    by (suc p) w b t = record { place = p; within = omega arith; before = λ k l. b (suc k) (omega arith); there = t }

-- the order of the ratios of two rows at a column
abbrev IsOrder : Table → ℕ → ℕ → ℕ → ℕ → Ordering → Type 0
IsOrder t e b i c o = MatchOrdering o (ratio_at t e i c <ℚ ratio_at t e b c) (ratio_at t e i c ≡ ratio_at t e b c) (ratio_at t e b c <ℚ ratio_at t e i c)

pub beats_is : (t : Table) (e b i : ℕ) (cs : List ℕ) → beats t e b i cs ≡ true → IsLexBelow (length cs) (quotients t e i cs) (quotients t e b cs)
unfolding beats
beats_is t e b i [] h = absurd cc
beats_is t e b i (c ∷ cs) h =
    by (order_of (ratio_at t e i c) (ratio_at t e b c)) (order_of_ranks (ratio_at t e i c) (ratio_at t e b c) _ refl) h (beats_is t e b i cs)
  where
    by : (o : Ordering) → IsOrder t e b i c o
        → elim o as (λ _. Bool) [ Less ↦ true | Equal ↦ beats t e b i cs | Greater ↦ false ] ≡ true
        → (beats t e b i cs ≡ true → IsLexBelow (length cs) (quotients t e i cs) (quotients t e b cs))
        → IsLexBelow (length (c ∷ cs)) (quotients t e i (c ∷ cs)) (quotients t e b (c ∷ cs))
    by Less r h rec =
        record { place = 0; within = omega arith; before = λ k l. absurd (omega arith); there = (lt-positive (ratio_at t e i c) (ratio_at t e b c)).0 r }
    by Equal r h rec = lex_later (length cs) (quotients t e i (c ∷ cs)) (quotients t e b (c ∷ cs)) r (rec h)
    by Greater r h rec = absurd cc

pub beats_not : (t : Table) (e b i : ℕ) (cs : List ℕ) → beats t e b i cs ≡ false → IsLexBelow (length cs) (quotients t e i cs) (quotients t e b cs) → ⊥
unfolding beats
beats_not t e b i [] h w = let l = w.within in omega arith
beats_not t e b i (c ∷ cs) h w =
    by (order_of (ratio_at t e i c) (ratio_at t e b c)) (order_of_ranks (ratio_at t e i c) (ratio_at t e b c) _ refl) h (beats_not t e b i cs)
  where
    by : (o : Ordering) → IsOrder t e b i c o
        → elim o as (λ _. Bool) [ Less ↦ true | Equal ↦ beats t e b i cs | Greater ↦ false ] ≡ false
        → (beats t e b i cs ≡ false → IsLexBelow (length cs) (quotients t e i cs) (quotients t e b cs) → ⊥) → ⊥
    by Less r h rec = absurd cc
    by Equal r h rec = rec h (lex_tail (length cs) (quotients t e i (c ∷ cs)) (quotients t e b (c ∷ cs)) r w)
    by Greater r h rec =
        not_both (ratio_at t e i c +ℚ neg_ℚ (ratio_at t e b c)) ((lt-positive (ratio_at t e b c) (ratio_at t e i c)).0 r)
        (subst IsNonnegative (ring_ℚ (ratio_at t e b c ∷ ratio_at t e i c ∷ []) (v0 ⊕ neg v1) (neg (v1 ⊕ neg v0)) refl)
        (lex_head (suc (length cs)) _ (lex_difference (suc (length cs)) (quotients t e i (c ∷ cs)) (quotients t e b (c ∷ cs)) w)))

-- ---- a candidate row
not_same : (a b : ℕ) → not (nat_eq a b) ≡ true → a ≢ b
not_same a b h e = grind arith

is_other : (a b : ℕ) → a ≢ b → not (nat_eq a b) ≡ true
is_other a b n = grind arith

pub candidate_parts : (t : Table) (m e i : ℕ) → is_candidate t m e i ≡ true → (basic_at t i ≢ top t m) × (IsPositive (table_entry t i e))
candidate_parts t m e i h =
    let p = both_true (not (nat_eq (basic_at t i) (top t m))) (is_positive (table_entry t i e)) h in
    (not_same (basic_at t i) (top t m) p.0, positive_fact (table_entry t i e) p.1)

pub candidate_test : (t : Table) (m e i : ℕ) → basic_at t i ≢ top t m → IsPositive (table_entry t i e) → is_candidate t m e i ≡ true
candidate_test t m e i n h = ap₂ (λ (x : Bool) (y : Bool). x && y) (is_other (basic_at t i) (top t m) n) (positive_test (table_entry t i e) h)

module _ (P : Program) (t : Table) (m : ℕ) (cs : List ℕ) (B : ℕ → Bool) (coord : ℕ → ℕ → Rational) (T : IsTableau P t m cs B coord) where
  pub top_within : P.top < P.columns.count
  top_within = let a = T.top_is in let b = T.wide in let c = T.count in omega arith

  pub vector_within : (k : ℕ) → k < P.high → k < P.columns.count
  vector_within k l = let a = T.high in let b = T.wide in let c = T.count in omega arith

  pub target_within : P.target < P.columns.count
  target_within = let a = T.target_is in let b = T.wide in let c = T.count in omega arith

  pub ready : IsReady P.columns t m
  ready =
      let i = T.shown.every P.top top_within T.state.has_top in
      record {
        good = record {
          coordinates = record { basis = B; coord = coord; width = T.count; is_basis = T.state.basis; shown = T.shown };
          rectangle = T.rectangle;
        };
        width = T.wide;
        row = T.row;
        top_is = (i.0, i.1, i.2 ∙ T.top_is);
      }

  -- the row of t
  pub at_top : (j : ℕ) → j < P.columns.count → table_entry t (top_row t m) j ≡ coord j P.top
  at_top j l = let r = top_row_is P.columns t m ready in T.shown.entry (top_row t m) j r.0 l ∙ ap (coord j) (r.1 ∙ sym T.top_is)

  at_target : table_entry t (top_row t m) (target t m) ≡ coord P.target P.top
  at_target = ap (λ (c : ℕ). table_entry t (top_row t m) c) (sym T.target_is) ∙ at_top P.target target_within

  pub inside_fact : is_inside t m ≡ true → EndsInside P coord
  unfolding is_inside
  inside_fact h =
      record {
        here = subst IsNonnegative at_target
            (not_negative_fact (table_entry t (top_row t m) (target t m)) (not_true (is_negative (table_entry t (top_row t m) (target t m))) h));
      }

  pub not_inside_fact : is_inside t m ≡ false → IsNegative (coord P.target P.top)
  unfolding is_inside
  not_inside_fact h =
      subst IsNegative at_target
      (negative_fact (table_entry t (top_row t m) (target t m)) (not_false (is_negative (table_entry t (top_row t m) (target t m))) h))

  pub entering_fact : (e : ℕ) → entering t m ≡ Some e → IsEntering P coord e
  unfolding entering
  entering_fact e h =
      let f = first_found (goes_down t m) (rows_of t) m e h in
      let a = T.low in
      let b = T.high in
      let from = f.from in
      let below = f.below in
      record {
        low = omega arith;
        high = omega arith;
        negative = subst IsNegative (at_top e (vector_within e (omega arith))) (negative_fact (table_entry t (top_row t m) e) f.passes);
        first = λ k l u. subst IsNonnegative (at_top k (vector_within k (omega arith)))
            (not_negative_fact (table_entry t (top_row t m) k) (f.before k (omega arith) u));
      }

  pub outside_fact : entering t m ≡ None → is_inside t m ≡ false → EndsOutside P coord
  unfolding entering
  outside_fact h n = record {
    here = not_inside_fact n;
    none = λ k l u.
        subst IsNonnegative (at_top k (vector_within k u))
        (not_negative_fact (table_entry t (top_row t m) k) (first_none (goes_down t m) (rows_of t) m h k (let a = T.low in omega arith) (let b = T.high in
        omega arith)));
  }

  -- ---- candidates
  pub candidate_fact : (e i : ℕ) → e < P.columns.count → i < rows_of t → is_candidate t m e i ≡ true → MayLeave P B coord e (basic_at t i)
  candidate_fact e i le li h =
      let p = candidate_parts t m e i h in
      record {
        within = T.shown.within i li;
        basic = T.shown.in_basis i li;
        other = λ s. p.0 (s ∙ T.top_is);
        positive = subst IsPositive (T.shown.entry i e li le) p.1;
      }

  pub candidate_row : (e k : ℕ) → e < P.columns.count → MayLeave P B coord e k → (i : ℕ) × (i < rows_of t) × (basic_at t i ≡ k) × (is_candidate t m e i ≡ true)
  candidate_row e k le C =
      let i = T.shown.every k C.within C.basic in (
        i.0,
        i.1,
        i.2,
        candidate_test t m e i.0 (λ s. C.other (sym i.2 ∙ s ∙ sym T.top_is))
            (subst IsPositive (ap (coord e) (sym i.2) ∙ sym (T.shown.entry i.0 e i.1 le)) C.positive),
      )

  -- the lists of a row and of its basic column
  ranked : (j : ℕ) → j < suc P.rank → slice_index_or (target t m ∷ cs) j 0 ≡ order P j
  unfolding order
  ranked zero l = sym T.target_is
  ranked (suc j) l = T.ranks j (omega arith)

module _ (P : Program) (t : Table) (m : ℕ) (cs : List ℕ) (B : ℕ → Bool) (coord start : ℕ → ℕ
    → Rational) (T : IsTableau P t m cs B coord) (R : IsProgram P start) where
  pub quotients_are : (e i j : ℕ) → e < P.columns.count → i < rows_of t → j < suc P.rank
      → quotients t e i (target t m ∷ cs) j ≡ ratios P coord e (basic_at t i) j
  quotients_are e i j le li lj =
      ap (λ (c : ℕ). ratio_at t e i c) (ranked P t m cs B coord T j lj)
      ∙ ap₂ (λ x y. x /ℚ y) (T.shown.entry i (order P j) li (order_within P start R j lj)) (T.shown.entry i e li le)
