-- The choices on a table, as loops make them.
use Rattle.std.specs.Prelude.{◌≡◌, ◌≢◌, ℕ, suc, ◌+◌, ◌-◌, ◌<◌, ◌≤◌, ℤ, pos, negsuc, Bool, true, false, not, ◌&&◌, List, [], ◌∷◌, ◌++◌, length, drop, get_or}
use Rattle.std.specs.Prelude.{Option, Some, None, IfSome, Result, Ok, Err, if◌then◌else◌, nat_eq, nat_lt}
use Rattle.std.proofs.Common.{arith, sym, ◌∙◌, ap, ap₂, subst, drop_of_length-le, append-nil}
use Rattle.std.specs.declared.cmp.Ordering.{Ordering}
use Rattle.std.specs.declared.cmp.Ordering.TheVariants.{Less, Equal, Greater}
use Rattle.exact_forms.specs.Rational.{Rational, whole}
use Rattle.fraction128.specs.Order.{order_of}
use Rattle.symmetric_matrix.specs.Owed.{answer}
use Rattle.symmetric_matrix.proofs.Owed.{answer-append_err, answer-append_ok, answer_nothing}
use Rattle.exact_linear.proofs.Seeking.{IsSeeking, seek_start, seek_start_zero, IsGathered, gather_start, drop_at}
use Rattle.exact_linear.specs.declared.entry.EntryOp.{EntryOp}
use Rattle.exact_linear.specs.Tables.{Table, rows_of, table_entry, basic_at, first_place, places_where, is_there, or_zero, holds, row_of, is_basic}
use Rattle.exact_linear.specs.Exchange.{entry_is_owed, divide_entry}
use Rattle.exact_linear.proofs.BringIn.{is_zero_of}
use Rattle.exact_linear.proofs.Places.{first_found}
use Rattle.exact_lp.specs.Rule.{target, top, is_negative, is_positive, is_inside, first_columns, is_below, is_settled, is_lower, least_row, goes_down, top_row}
use Rattle.exact_lp.specs.Rule.{entering, ratio_at, beats, versus_ops, is_candidate, better, better_ops, leaving_row, leaving_ops}

-- ---- tests of numbers
pub positive_not_zero_test : (x : Rational) → is_positive x ≡ true → x ≢ whole (pos 0)
positive_not_zero_test x h e = by x.num h (is_zero_of x e)
  where
    by : (n : ℤ) → elim n as (λ _. Bool) [ pos n ↦ nat_lt 0 n | negsuc n ↦ false ] ≡ true
        → elim n as (λ _. Bool) [ pos n ↦ nat_eq n 0 | negsuc n ↦ false ] ≡ true → ⊥
    by (pos n) h k = both n h k
      where
        both : (n : ℕ) → nat_lt 0 n ≡ true → nat_eq n 0 ≡ true → ⊥
        both n h k = grind arith
    by (negsuc n) h k = cc

-- ---- the first places
pub seek_below : (t : Table) (m : ℕ) → IsSeeking (first_place (is_below t m) 0 (rows_of t)) (is_below t m) 0 (rows_of t)
seek_below t m = seek_start_zero (is_below t m) (rows_of t)

pub settled_not : (t : Table) (m i : ℕ) → Some i ≡ first_place (is_below t m) 0 (rows_of t) → false ≡ is_settled t m
unfolding is_settled
settled_not t m i e = ap (λ (o : Option ℕ). not (is_there o)) e

pub settled_yes : (t : Table) (m : ℕ) → None ≡ first_place (is_below t m) 0 (rows_of t) → true ≡ is_settled t m
unfolding is_settled
settled_yes t m e = ap (λ (o : Option ℕ). not (is_there o)) e

pub seek_entering : (t : Table) (m : ℕ) → IsSeeking (entering t m) (goes_down t m) (rows_of t) (rows_of t + m)
unfolding entering
seek_entering t m = seek_start (goes_down t m) (rows_of t) m

-- ---- the least row
pub record IsLeastSoFar (t : Table) (m best i : ℕ) : Type 0 where
  pub same : least_row t m 0 1 (rows_of t - 1) ≡ least_row t m best i (rows_of t - i)
  pub within : best < rows_of t

least_next : (t : Table) (m best i : ℕ) (b : Bool) → i < rows_of t → is_lower t m best i ≡ b
    → least_row t m best i (rows_of t - i) ≡ least_row t m (if b then i else best) (i + 1) (rows_of t - (i + 1))
unfolding least_row
least_next t m best i b l h =
    ap (λ (k : ℕ). least_row t m best i k) (let e : rows_of t - i ≡ suc (rows_of t - (i + 1)) = omega arith in e)
    ∙ ap (λ (b : Bool). least_row t m (if b then i else best) (i + 1) (rows_of t - (i + 1))) h

pub least_lower : (t : Table) (m best i : ℕ) → IsLeastSoFar t m best i → i < rows_of t → is_lower t m best i ≡ true → IsLeastSoFar t m i (i + 1)
least_lower t m best i S l h = record { same = S.same ∙ least_next t m best i true l h; within = l }

pub least_kept : (t : Table) (m best i : ℕ) → IsLeastSoFar t m best i → i < rows_of t → is_lower t m best i ≡ false → IsLeastSoFar t m best (i + 1)
least_kept t m best i S l h = record { same = S.same ∙ least_next t m best i false l h; within = S.within }

pub least_done : (t : Table) (m best i : ℕ) → IsLeastSoFar t m best i → rows_of t ≤ i → best ≡ least_row t m 0 1 (rows_of t - 1)
unfolding least_row
least_done t m best i S l = sym (S.same ∙ ap (λ (k : ℕ). least_row t m best i k) (let e : rows_of t - i ≡ 0 = omega arith in e))

pub lower_is : (t : Table) (m b i : ℕ) (o : Ordering) → o ≡ order_of (table_entry t i (target t m)) (table_entry t b (target t m))
    → elim o as (λ _. Bool) [ Less ↦ true | Equal ↦ nat_lt (basic_at t b) (basic_at t i) | Greater ↦ false ] ≡ is_lower t m b i
unfolding is_lower
lower_is t m b i o e = ap (λ (o : Ordering). elim o as (λ _. Bool) [ Less ↦ true | Equal ↦ nat_lt (basic_at t b) (basic_at t i) | Greater ↦ false ]) e

-- ---- a comparison
pub record IsComparing (t : Table) (e b i : ℕ) (cs : List ℕ) (k : ℕ) : Type 0 where
  pub same : answer entry_is_owed (versus_ops t e b i cs) (beats t e b i cs) ≡ answer entry_is_owed (versus_ops t e b i (drop k cs)) (beats t e b i (drop k cs))

-- a row's ratio, or the operation that doesn't fit
abbrev quotient : Table → ℕ → ℕ → ℕ → Result Rational EntryOp
quotient t e i c = answer entry_is_owed (divide_entry i c (table_entry t i c) (table_entry t i e)) (ratio_at t e i c)

at_column : (t : Table) (e b i : ℕ) (cs : List ℕ) (k c : ℕ) → IsComparing t e b i cs k → k < length cs → c ≡ get_or cs k 0
    → answer entry_is_owed (versus_ops t e b i cs) (beats t e b i cs)
    ≡ answer entry_is_owed (versus_ops t e b i (c ∷ drop (k + 1) cs)) (beats t e b i (c ∷ drop (k + 1) cs))
at_column t e b i cs k c C l h = C.same ∙ ap (λ (cs : List ℕ). answer entry_is_owed (versus_ops t e b i cs) (beats t e b i cs)) (drop_at cs k c l h)

pub compare_refused_best : (t : Table) (e b i : ℕ) (cs : List ℕ) (k c : ℕ) (err : EntryOp) → IsComparing t e b i cs k → k < length cs → c ≡ get_or cs k 0
    → quotient t e b c ≡ Err err
    → answer entry_is_owed (versus_ops t e b i cs) (beats t e b i cs) ≡ Err err
unfolding versus_ops
compare_refused_best t e b i cs k c err C l h f =
    at_column t e b i cs k c C l h
    ∙ answer-append_err entry_is_owed (divide_entry b c (table_entry t b c) (table_entry t b e)) _ (ratio_at t e b c) (beats t e b i (c ∷ drop (k + 1) cs)) err
    f

-- the operations that an order leaves
abbrev pub ops_left : Table → ℕ → ℕ → ℕ → List ℕ → Ordering → List EntryOp
ops_left t e b i cs o = elim o as (λ _. List EntryOp) [ Less ↦ [] | Equal ↦ versus_ops t e b i cs | Greater ↦ [] ]

after_best : (t : Table) (e b i : ℕ) (cs : List ℕ) (k c : ℕ) (x : Rational) → IsComparing t e b i cs k → k < length cs → c ≡ get_or cs k 0
    → quotient t e b c ≡ Ok x
    → answer entry_is_owed (versus_ops t e b i cs) (beats t e b i cs)
    ≡ answer entry_is_owed (divide_entry i c (table_entry t i c) (table_entry t i e)
    ++ ops_left t e b i (drop (k + 1) cs) (order_of (ratio_at t e i c) (ratio_at t e b c))) (beats t e b i (c ∷ drop (k + 1) cs))
unfolding versus_ops
after_best t e b i cs k c x C l h f =
    at_column t e b i cs k c C l h
    ∙ (answer-append_ok entry_is_owed (divide_entry b c (table_entry t b c) (table_entry t b e)) _ (ratio_at t e b c) x (beats t e b i (c ∷ drop (k + 1) cs))
    f).0

pub compare_refused_own : (t : Table) (e b i : ℕ) (cs : List ℕ) (k c : ℕ) (x : Rational) (err : EntryOp) → IsComparing t e b i cs k → k < length cs
    → c ≡ get_or cs k 0
    → quotient t e b c ≡ Ok x
    → quotient t e i c ≡ Err err
    → answer entry_is_owed (versus_ops t e b i cs) (beats t e b i cs) ≡ Err err
compare_refused_own t e b i cs k c x err C l h f g =
    after_best t e b i cs k c x C l h f
    ∙ answer-append_err entry_is_owed (divide_entry i c (table_entry t i c) (table_entry t i e)) _ (ratio_at t e i c) (beats t e b i (c ∷ drop (k + 1) cs)) err
    g

-- the order of the two quotients decides, or the columns that are left
pub compare_both : (t : Table) (e b i : ℕ) (cs : List ℕ) (k c : ℕ) (x y : Rational) (o : Ordering) → IsComparing t e b i cs k → k < length cs
    → c ≡ get_or cs k 0
    → quotient t e b c ≡ Ok x
    → quotient t e i c ≡ Ok y
    → o ≡ order_of y x
    → answer entry_is_owed (versus_ops t e b i cs) (beats t e b i cs)
    ≡ answer entry_is_owed (ops_left t e b i (drop (k + 1) cs) o)
    (elim o as (λ _. Bool) [ Less ↦ true | Equal ↦ beats t e b i (drop (k + 1) cs) | Greater ↦ false ])
unfolding beats
compare_both t e b i cs k c x y o C l h f g r =
    let best = answer-append_ok entry_is_owed (divide_entry b c (table_entry t b c) (table_entry t b e)) [] (ratio_at t e b c) x (tt {0}) f in
    let own = answer-append_ok entry_is_owed (divide_entry i c (table_entry t i c) (table_entry t i e))
    (ops_left t e b i (drop (k + 1) cs) (order_of (ratio_at t e i c) (ratio_at t e b c)))
    (ratio_at t e i c) y (beats t e b i (c ∷ drop (k + 1) cs)) g in
    let same : order_of (ratio_at t e i c) (ratio_at t e b c) ≡ o = ap₂ (λ (y : Rational) (x : Rational). order_of y x) own.1 best.1 ∙ sym r in
    after_best t e b i cs k c x C l h f ∙ own.0
    ∙ ap (λ (o : Ordering). answer entry_is_owed (ops_left t e b i (drop (k + 1) cs) o)
    (elim o as (λ _. Bool) [ Less ↦ true | Equal ↦ beats t e b i (drop (k + 1) cs) | Greater ↦ false ])) same

pub compare_done : (t : Table) (e b i : ℕ) (cs : List ℕ) (k : ℕ) → IsComparing t e b i cs k → length cs ≤ k
    → Ok false ≡ answer entry_is_owed (versus_ops t e b i cs) (beats t e b i cs)
unfolding versus_ops beats answer
compare_done t e b i cs k C l =
    sym (C.same ∙ ap (λ (cs : List ℕ). answer entry_is_owed (versus_ops t e b i cs) (beats t e b i cs)) (drop_of_length-le cs {i = k} l))

-- ---- the leaving row
pub record IsCandidateRow (t : Table) (m e b : ℕ) : Type 0 where
  pub row : b < rows_of t
  pub candidate : is_candidate t m e b ≡ true

-- the answer of the rows from row i on
abbrev rows_from : Table → ℕ → ℕ → List ℕ → Option ℕ → ℕ → ℕ → Result (Option ℕ) EntryOp
rows_from t m e cs best i n = answer entry_is_owed (leaving_ops t m e cs best i n) (leaving_row t m e cs best i n)

-- the same, where row i is a candidate or isn't
abbrev rows_by : Table → ℕ → ℕ → List ℕ → Option ℕ → ℕ → Bool → Result (Option ℕ) EntryOp
rows_by t m e cs best i b =
    answer entry_is_owed ((if b then better_ops t e cs best i else [])
    ++ leaving_ops t m e cs (if b then better t e cs best i else best) (i + 1) (rows_of t - (i + 1)))
    (leaving_row t m e cs (if b then better t e cs best i else best) (i + 1) (rows_of t - (i + 1)))

pub record IsBestSoFar (t : Table) (m e : ℕ) (cs : List ℕ) (best : Option ℕ) (i : ℕ) : Type 0 where
  pub same : rows_from t m e cs None 0 (rows_of t) ≡ rows_from t m e cs best i (rows_of t - i)
  pub found : IfSome best (IsCandidateRow t m e)

at_row : (t : Table) (m e : ℕ) (cs : List ℕ) (best : Option ℕ) (i : ℕ) (b : Bool) → i < rows_of t → is_candidate t m e i ≡ b
    → rows_from t m e cs best i (rows_of t - i) ≡ rows_by t m e cs best i b
unfolding leaving_ops leaving_row
at_row t m e cs best i b l h =
    ap (λ (k : ℕ). rows_from t m e cs best i k) (let e : rows_of t - i ≡ suc (rows_of t - (i + 1)) = omega arith in e)
    ∙ ap (λ (b : Bool). rows_by t m e cs best i b) h

pub best_passed : (t : Table) (m e : ℕ) (cs : List ℕ) (best : Option ℕ) (i : ℕ) → IsBestSoFar t m e cs best i → i < rows_of t → is_candidate t m e i ≡ false
    → IsBestSoFar t m e cs best (i + 1)
best_passed t m e cs best i S l h = record { same = S.same ∙ at_row t m e cs best i false l h; found = S.found }

pub best_refused : (t : Table) (m e : ℕ) (cs : List ℕ) (best : Option ℕ) (i : ℕ) (err : EntryOp) → IsBestSoFar t m e cs best i → i < rows_of t
    → is_candidate t m e i ≡ true
    → answer entry_is_owed (better_ops t e cs best i) (better t e cs best i) ≡ Err err
    → answer entry_is_owed (leaving_ops t m e cs None 0 (rows_of t)) (leaving_row t m e cs None 0 (rows_of t)) ≡ Err err
best_refused t m e cs best i err S l h f =
    S.same ∙ at_row t m e cs best i true l h
    ∙ answer-append_err entry_is_owed (better_ops t e cs best i) _ (better t e cs best i) _ err f

pub better_found : (t : Table) (m e : ℕ) (cs : List ℕ) (best : Option ℕ) (i : ℕ) → IfSome best (IsCandidateRow t m e) → IsCandidateRow t m e i
    → IfSome (better t e cs best i) (IsCandidateRow t m e)
better_found t m e cs None i f c = c
better_found t m e cs (Some b) i f c = by (beats t e b i cs)
  where
    by : (x : Bool) → IfSome (if x then Some i else Some b) (IsCandidateRow t m e)
    by true = c
    by false = f

pub best_more : (t : Table) (m e : ℕ) (cs : List ℕ) (best new : Option ℕ) (i : ℕ) → IsBestSoFar t m e cs best i → i < rows_of t → is_candidate t m e i ≡ true
    → answer entry_is_owed (better_ops t e cs best i) (better t e cs best i) ≡ Ok new → IsBestSoFar t m e cs new (i + 1)
best_more t m e cs best new i S l h f =
    let made = answer-append_ok entry_is_owed (better_ops t e cs best i) (leaving_ops t m e cs (better t e cs best i) (i + 1) (rows_of t - (i + 1)))
    (better t e cs best i) new
    (leaving_row t m e cs (better t e cs best i) (i + 1) (rows_of t - (i + 1))) f in
    record {
      same = S.same ∙ at_row t m e cs best i true l h ∙ made.0
          ∙ ap (λ (b : Option ℕ). answer entry_is_owed (leaving_ops t m e cs b (i + 1) (rows_of t - (i + 1)))
          (leaving_row t m e cs b (i + 1) (rows_of t - (i + 1)))) made.1;
      found = subst (λ (b : Option ℕ). IfSome b (IsCandidateRow t m e)) made.1 (better_found t m e cs best i S.found record { row = l; candidate = h });
    }

pub best_done : (t : Table) (m e : ℕ) (cs : List ℕ) (best : Option ℕ) (i : ℕ) → IsBestSoFar t m e cs best i → rows_of t ≤ i
    → Ok best ≡ answer entry_is_owed (leaving_ops t m e cs None 0 (rows_of t)) (leaving_row t m e cs None 0 (rows_of t))
unfolding leaving_ops leaving_row answer
best_done t m e cs best i S l =
    sym (S.same ∙ ap (λ (k : ℕ). answer entry_is_owed (leaving_ops t m e cs best i k) (leaving_row t m e cs best i k))
    (let e : rows_of t - i ≡ 0 = omega arith in e))

pub candidate_not_zero : (t : Table) (m e b : ℕ) → is_candidate t m e b ≡ true → table_entry t b e ≢ whole (pos 0)
candidate_not_zero t m e b h = positive_not_zero_test (table_entry t b e) (second (not (nat_eq (basic_at t b) (top t m))) (is_positive (table_entry t b e)) h)
  where
    second : (x y : Bool) → (x && y) ≡ true → y ≡ true
    second true y h = h
    second false y h = absurd cc

-- ---- the better of two
other_value : {U V : Type 0} (ops : List EntryOp) (u z : U) (v : V) → answer entry_is_owed ops u ≡ Ok z → (answer entry_is_owed ops v ≡ Ok v) × (u ≡ z)
other_value ops u z v h =
    let r = answer-append_ok entry_is_owed ops [] u z v h in
    (ap (λ (ops : List EntryOp). answer entry_is_owed ops v) (sym (append-nil ops)) ∙ r.0 ∙ answer_nothing entry_is_owed v, r.1)

pub better_as : (t : Table) (e b i : ℕ) (cs : List ℕ) (best : Option ℕ) (x y : Bool) → best ≡ Some b
    → answer entry_is_owed (versus_ops t e b i cs) (beats t e b i cs) ≡ Ok x → x ≡ y
    → Ok (if y then Some i else Some b) ≡ answer entry_is_owed (better_ops t e cs best i) (better t e cs best i)
better_as t e b i cs best x y s h k =
    let o = other_value (versus_ops t e b i cs) (beats t e b i cs) x (if beats t e b i cs then Some i else Some b) h in
    sym (ap (λ (best : Option ℕ). answer entry_is_owed (better_ops t e cs best i) (better t e cs best i)) s ∙ o.0
    ∙ ap (λ (x : Bool). Ok (if x then Some i else Some b)) (o.1 ∙ k))

pub better_refused : (t : Table) (e b i : ℕ) (cs : List ℕ) (best : Option ℕ) (err : EntryOp) → best ≡ Some b
    → answer entry_is_owed (versus_ops t e b i cs) (beats t e b i cs) ≡ Err err
    → answer entry_is_owed (better_ops t e cs best i) (better t e cs best i) ≡ Err err
better_refused t e b i cs best err s h =
    ap (λ (best : Option ℕ). answer entry_is_owed (better_ops t e cs best i) (better t e cs best i)) s
    ∙ ap (λ (ops : List EntryOp). answer entry_is_owed ops (if beats t e b i cs then Some i else Some b)) (sym (append-nil (versus_ops t e b i cs)))
    ∙ answer-append_err entry_is_owed (versus_ops t e b i cs) [] (beats t e b i cs) (if beats t e b i cs then Some i else Some b) err h

-- ---- the row of t
pub top_some : (t : Table) (m i : ℕ) → Some i ≡ row_of t (top t m) → i ≡ top_row t m
unfolding top_row
top_some t m i e = ap or_zero e

pub top_none : (t : Table) (m : ℕ) → None ≡ row_of t (top t m) → 0 ≡ top_row t m
unfolding top_row
top_none t m e = ap or_zero e

pub row_within_table : (t : Table) (c i : ℕ) → Some i ≡ row_of t c → i < rows_of t
unfolding row_of
row_within_table t c i e = let f = first_found (holds t c) 0 (rows_of t) i (sym e) in let b = f.below in omega arith

pub inside_is : (t : Table) (m r c : ℕ) (x : Rational) → r ≡ top_row t m → c ≡ target t m → x ≡ table_entry t r c → not (is_negative x) ≡ is_inside t m
unfolding is_inside
inside_is t m r c x e f g = ap (λ (x : Rational). not (is_negative x)) (g ∙ ap₂ (λ (r : ℕ) (c : ℕ). table_entry t r c) e f)

pub down_is : (t : Table) (m r c : ℕ) (x : Rational) → r ≡ top_row t m → x ≡ table_entry t r c → is_negative x ≡ goes_down t m c
down_is t m r c x e g = ap (λ (x : Rational). is_negative x) (g ∙ ap (λ (r : ℕ). table_entry t r c) e)

pub below_is : (t : Table) (m c i : ℕ) (x : Rational) → c ≡ target t m → x ≡ table_entry t i c → is_negative x ≡ is_below t m i
below_is t m c i x e g = ap (λ (x : Rational). is_negative x) (g ∙ ap (λ (c : ℕ). table_entry t i c) e)

pub some_row : (t : Table) (m e : ℕ) (best : Option ℕ) → IfSome best (IsCandidateRow t m e) → IfSome best (λ b. b < rows_of t)
some_row t m e None h = tt
some_row t m e (Some b) h = h.row

pub some_not_zero : (t : Table) (m e : ℕ) (best : Option ℕ) → IfSome best (IsCandidateRow t m e) → IfSome best (λ b. table_entry t b e ≢ whole (pos 0))
some_not_zero t m e None h = tt
some_not_zero t m e (Some b) h = candidate_not_zero t m e b h.candidate

pub columns_start : (t : Table) (m u : ℕ) (xs : List ℕ) → u ≡ rows_of t → xs ≡ [] → IsGathered (first_columns t m) xs (is_basic t) u (rows_of t + m)
unfolding first_columns
columns_start t m u xs e f =
    subst (λ (u : ℕ). IsGathered (places_where (is_basic t) (rows_of t) m) xs (is_basic t) u (rows_of t + m)) (sym e)
    (gather_start (is_basic t) (rows_of t) m xs f)
