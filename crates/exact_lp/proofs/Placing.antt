-- The answer of the linear program, from the state of its loop.
use Rattle.std.specs.Prelude.{◌≡◌, ◌≢◌, ℕ, zero, suc, ◌+◌, ◌-◌, ◌<◌, ◌≤◌, ◌⊎◌, pos, Bool, true, false, ◌||◌, List, [], ◌∷◌, ◌++◌, map, length, get_or, Option}
use Rattle.std.specs.Prelude.{Some, None, IfSome, IfOk, Result, Ok, Err, if◌then◌else◌, nat_eq}
use Rattle.std.proofs.Common.{arith, sym, ◌∙◌, ap, ap₂, refl, subst, inl, inr, length-append}
use Rattle.commutative_ring.proofs.SmallCases.{last_or_before, same_or_below, same_or_not, test_of_same}
use Rattle.exact_forms.specs.Rational.{Rational, whole}
use Rattle.exact_forms.proofs.Signs.{positive_not_zero, one_positive}
use Rattle.symmetric_matrix.specs.Owed.{answer, first_owed}
use Rattle.symmetric_matrix.proofs.Owed.{answer_is_first_owed, none_of_ok, some_of_err, first_owed-append_none, first_owed-append_some, first_owed-map}
use Rattle.exact_linear.specs.declared.entry.EntryOp.{EntryOp}
use Rattle.exact_linear.specs.Tables.{Table, rows_of, table_entry, basic_at, places_where, or_zero, is_there, is_basic}
use Rattle.exact_linear.specs.Columns.{with_sum, IsLastFree}
use Rattle.exact_linear.specs.Exchange.{entry_is_owed, exchange_ops, exchanged, first_row, brought_in, first_bases, first_ops}
use Rattle.exact_linear.proofs.Exchanges.{exchanged_rows, exchanged_width, exchanged_basic_here, exchanged_basic_other}
use Rattle.exact_linear.proofs.BringIn.{bring_some, bring_none, first_bases_none, first_bases_more, first_shape, row_taken}
use Rattle.exact_linear.proofs.Fill.{cells_at}
use Rattle.exact_linear.proofs.Places.{first_found}
use Rattle.exact_lp.specs.declared.placed.Exchange.{Exchange}
use Rattle.exact_lp.specs.declared.placed.PlaceOp.{PlaceOp}
use Rattle.exact_lp.specs.declared.placed.PlaceOp.TheVariants.{Tableau}
use Rattle.exact_lp.specs.declared.placed.Placed.{Placed}
use Rattle.exact_lp.specs.declared.placed.Placed.TheVariants.{Inside, Outside, Pivots, Wide, OutOfMemory}
use Rattle.exact_lp.specs.Rule.{target, top, first_columns, is_settled, least_row, is_inside, goes_down, entering, leaving_row, leaving_ops, is_candidate}
use Rattle.exact_lp.specs.Rule.{better, AreColumns}
use Rattle.exact_lp.specs.Placement.{Problem, place_is_owed, first_owed_in, first_table, firsts, leaving, stepped, step_ops, exchange_of, opened, opened_ops}
use Rattle.exact_lp.specs.Placement.{table_after, is_settled_first, IsLeft, IsStepped, steps_of, is_last, IsStepDue, HasLeavingRows, weight_ops, weights}
use Rattle.exact_lp.specs.Placement.{last_table, zeros_of, outside_vector, opening_ops, closing_ops, leg_ops, legs, IsRun, IsInsideAfter, IsOutsideAfter}
use Rattle.exact_lp.specs.Placement.{IsOwedAfter, IsPlaceAnswer, IsWeightsAnswer, IsOutsideAnswer}
use Rattle.exact_lp.proofs.Budgets.{owed_after}
use Rattle.exact_lp.proofs.Choices.{IsCandidateRow, better_found}

abbrev pub problem : Table → ℕ → Rational → Problem
problem start vectors d = record { start = start; vectors = vectors; d = d }

pub same_exchange : (a b c d : ℕ) → a ≡ b → c ≡ d → (let x : Exchange = record { entering = a; leaving = c } in x) ≡ record { entering = b; leaving = d }
same_exchange a b c d e f = ap₂ (λ (a : ℕ) (c : ℕ). (let x : Exchange = record { entering = a; leaving = c } in x)) e f

-- ---- operations on the tableau
tableau_some : (ops : List EntryOp) (op : EntryOp) → first_owed entry_is_owed ops ≡ Some op → first_owed_in (map Tableau ops) ≡ Some (Tableau op)
tableau_some ops op h =
    first_owed-map entry_is_owed place_is_owed Tableau ops (λ o. refl)
    ∙ ap (λ (o : Option EntryOp). elim o as (λ _. Option PlaceOp) [ None ↦ None | Some op ↦ Some (Tableau op) ]) h

tableau_none : (ops : List EntryOp) → first_owed entry_is_owed ops ≡ None → first_owed_in (map Tableau ops) ≡ None
tableau_none ops h =
    first_owed-map entry_is_owed place_is_owed Tableau ops (λ o. refl)
    ∙ ap (λ (o : Option EntryOp). elim o as (λ _. Option PlaceOp) [ None ↦ None | Some op ↦ Some (Tableau op) ]) h

pub nothing_owed : first_owed_in [] ≡ None
unfolding first_owed
nothing_owed = refl

-- ---- the opening
opening_zero : (p : Problem) → opening_ops p 0 ≡ map Tableau (first_ops p.start p.vectors)
    ++ (if is_settled_first p then [] else map Tableau (opened_ops (first_table p) p.vectors))
unfolding opening_ops
opening_zero p = refl

opening_later : (p : Problem) (k : ℕ) → first_owed_in (opening_ops p (suc k)) ≡ None
unfolding opening_ops
opening_later p k = nothing_owed

pub opening_refused : (p : Problem) (op : EntryOp) → first_owed entry_is_owed (first_ops p.start p.vectors) ≡ Some op
    → first_owed_in (opening_ops p 0) ≡ Some (Tableau op)
opening_refused p op h =
    ap (λ (ops : List PlaceOp). first_owed_in ops) (opening_zero p)
    ∙ first_owed-append_some place_is_owed (map Tableau (first_ops p.start p.vectors))
    (if is_settled_first p then [] else map Tableau (opened_ops (first_table p) p.vectors)) (Tableau op) (tableau_some _ op h)

opening_then : (p : Problem) → first_owed entry_is_owed (first_ops p.start p.vectors) ≡ None
    → first_owed_in (opening_ops p 0) ≡ first_owed_in (if is_settled_first p then [] else map Tableau (opened_ops (first_table p) p.vectors))
opening_then p h =
    ap (λ (ops : List PlaceOp). first_owed_in ops) (opening_zero p)
    ∙ first_owed-append_none place_is_owed (map Tableau (first_ops p.start p.vectors))
    (if is_settled_first p then [] else map Tableau (opened_ops (first_table p) p.vectors)) (tableau_none _ h)

pub opening_settled : (p : Problem) → first_owed entry_is_owed (first_ops p.start p.vectors) ≡ None → is_settled_first p ≡ true
    → first_owed_in (opening_ops p 0) ≡ None
opening_settled p h s = opening_then p h ∙ ap (λ (b : Bool). first_owed_in (if b then [] else map Tableau (opened_ops (first_table p) p.vectors))) s
    ∙ nothing_owed

opening_unsettled : (p : Problem) → first_owed entry_is_owed (first_ops p.start p.vectors) ≡ None → is_settled_first p ≡ false
    → first_owed_in (opening_ops p 0) ≡ first_owed_in (map Tableau (opened_ops (first_table p) p.vectors))
opening_unsettled p h s = opening_then p h ∙ ap (λ (b : Bool). first_owed_in (if b then [] else map Tableau (opened_ops (first_table p) p.vectors))) s

-- ---- the closing
-- the operations of a step that is due
abbrev ops_of_step : Problem → ℕ → Option ℕ → List PlaceOp
ops_of_step p k o = elim o as (λ _. List PlaceOp) [ None ↦ [] | Some e ↦ map Tableau (step_ops (table_after p k) p.vectors (firsts p) e) ]

closing_as : (p : Problem) (k : ℕ) (b : Bool) → is_last p k ≡ b
    → closing_ops p k
    ≡ (if b then weight_ops (last_table p k) p.vectors (firsts p) p.d 0 p.vectors else ops_of_step p k (entering (table_after p k) p.vectors))
unfolding closing_ops
closing_as p k b h =
    ap (λ (b : Bool). if b then weight_ops (last_table p k) p.vectors (firsts p) p.d 0 p.vectors
    else ops_of_step p k (entering (table_after p k) p.vectors)) h

closing_last : (p : Problem) (k : ℕ) → is_last p k ≡ true → closing_ops p k ≡ weight_ops (last_table p k) p.vectors (firsts p) p.d 0 p.vectors
closing_last p k h = closing_as p k true h

closing_step : (p : Problem) (k : ℕ) (o : Option ℕ) → is_last p k ≡ false → entering (table_after p k) p.vectors ≡ o → closing_ops p k ≡ ops_of_step p k o
closing_step p k o h e = closing_as p k false h ∙ ap (λ (o : Option ℕ). ops_of_step p k o) e

leg_then : (p : Problem) (k : ℕ) (ops : List PlaceOp) → first_owed_in (opening_ops p k) ≡ None → closing_ops p k ≡ ops
    → first_owed_in (leg_ops p k) ≡ first_owed_in ops
leg_then p k ops h e = first_owed-append_none place_is_owed (opening_ops p k) (closing_ops p k) h ∙ ap (λ (ops : List PlaceOp). first_owed_in ops) e

-- ---- the beginning
pub run_none : (p : Problem) (budget : ℕ) (steps : List Exchange) → steps ≡ [] → IsRun p budget steps
unfolding steps_of legs
run_none p budget steps e = subst (λ (steps : List Exchange). IsRun p budget steps) (sym e)
    record { are = refl; due = λ k l. absurd (omega arith); owes = nothing_owed; within = omega arith }

pub not_due : (p : Problem) (k : ℕ) → is_last p k ≡ true → IsStepDue p k → ⊥
not_due p k h d = let n = d.not_last in cc

pub wide_first : (p : Problem) (budget : ℕ) (steps : List Exchange) (op : EntryOp) → steps ≡ []
    → first_owed entry_is_owed (first_ops p.start p.vectors) ≡ Some op → IsPlaceAnswer p budget (Wide (Tableau op) steps)
wide_first p budget steps op e h = (
  run_none p budget steps e,
  subst (λ (steps : List Exchange). IsOwedAfter p budget (Tableau op) (length steps)) (sym e)
      (owed_after p budget 0 (Tableau op)
      (first_owed-append_some place_is_owed (opening_ops p 0) (closing_ops p 0) (Tableau op) (opening_refused p op h)) (λ b d. opening_refused p op h)),
)

pub wide_open : (p : Problem) (budget : ℕ) (steps : List Exchange) (op : EntryOp) → steps ≡ [] → first_owed entry_is_owed (first_ops p.start p.vectors) ≡ None
    → is_settled_first p ≡ false
    → first_owed entry_is_owed (opened_ops (first_table p) p.vectors) ≡ Some op → IsPlaceAnswer p budget (Wide (Tableau op) steps)
wide_open p budget steps op e n s h =
    let o : first_owed_in (opening_ops p 0) ≡ Some (Tableau op) = opening_unsettled p n s ∙ tableau_some _ op h in (
      run_none p budget steps e,
      subst (λ (steps : List Exchange). IsOwedAfter p budget (Tableau op) (length steps)) (sym e)
          (owed_after p budget 0 (Tableau op) (first_owed-append_some place_is_owed (opening_ops p 0) (closing_ops p 0) (Tableau op) o) (λ b d. o)),
    )

-- ---- the weights
pub weighed : (p : Problem) (budget : ℕ) (t : Table) (cs : List ℕ) (steps : List Exchange) (r : Placed) → IsRun p budget steps → is_last p (length steps) ≡ true
    → first_owed_in (opening_ops p (length steps)) ≡ None → t ≡ last_table p (length steps) → cs ≡ firsts p → IsWeightsAnswer t p.vectors cs p.d steps r
    → IsPlaceAnswer p budget r
weighed p budget t cs steps (Inside found made) R l o e f W =
    subst (λ (made : List Exchange). IsRun p budget made × IsInsideAfter p found (length made)) (sym W.0) (
      R,
      record {
        last = l;
        owes = leg_then p (length steps) _ o (closing_last p (length steps) l)
            ∙ sym (ap₂ (λ (t : Table) (cs : List ℕ). first_owed_in (weight_ops t p.vectors cs p.d 0 p.vectors)) e f) ∙ W.1.0;
        found_are = W.1.1 ∙ ap₂ (λ (t : Table) (cs : List ℕ). weights t p.vectors cs p.d p.vectors) e f;
      },
    )
weighed p budget t cs steps (Outside zeros vector made) R l o e f W = absurd W
weighed p budget t cs steps (Pivots made) R l o e f W = absurd W
weighed p budget t cs steps (Wide op made) R l o e f W =
    subst (λ (made : List Exchange). IsRun p budget made × IsOwedAfter p budget op (length made)) (sym W.0) (
      R,
      (owed_after p budget (length steps) op
          (leg_then p (length steps) _ o (closing_last p (length steps) l)
          ∙ sym (ap₂ (λ (t : Table) (cs : List ℕ). first_owed_in (weight_ops t p.vectors cs p.d 0 p.vectors)) e f)
          ∙ W.1) (λ b d. absurd (not_due p (length steps) l d))),
    )
weighed p budget t cs steps OutOfMemory R l o e f W = tt

settled_last : (p : Problem) (k : ℕ) → is_settled_first p ≡ true → (is_last p k ≡ true) × (last_table p k ≡ first_table p)
unfolding is_last
settled_last p k h = (ap (λ (b : Bool). b || is_inside (table_after p k) p.vectors) h, ap (λ (b : Bool). if b then first_table p else table_after p k) h)

pub settled_weighed : (p : Problem) (budget : ℕ) (t : Table) (cs : List ℕ) (steps : List Exchange) (r : Placed) → steps ≡ []
    → first_owed entry_is_owed (first_ops p.start p.vectors) ≡ None
    → t ≡ first_table p → is_settled t p.vectors ≡ true → cs ≡ first_columns t p.vectors → IsWeightsAnswer t p.vectors cs p.d steps r → IsPlaceAnswer p budget r
settled_weighed p budget t cs steps r e n f s g W =
    let h : is_settled_first p ≡ true = ap (λ (t : Table). is_settled t p.vectors) (sym f) ∙ s in
    let l = settled_last p (length steps) h in
    weighed p budget t cs steps r (run_none p budget steps e) l.0
    (subst (λ (steps : List Exchange). first_owed_in (opening_ops p (length steps)) ≡ None) (sym e) (opening_settled p n h)) (f ∙ sym l.1)
    (g ∙ ap (λ (t : Table). first_columns t p.vectors) f) W

-- ---- the state of the loop
pub stepped_shape : (t : Table) (m : ℕ) (cs : List ℕ) (e : ℕ) → ((stepped t m cs e).width ≡ t.width) × (rows_of (stepped t m cs e) ≡ rows_of t)
unfolding stepped
stepped_shape t m cs e = by (leaving t m cs e) refl
  where
    by : (o : Option ℕ) → leaving t m cs e ≡ o → ((elim (leaving t m cs e) as (λ _. Table) [ None ↦ t | Some r ↦ exchanged t r e ]).width ≡ t.width)
        × (rows_of (elim (leaving t m cs e) as (λ _. Table) [ None ↦ t | Some r ↦ exchanged t r e ]) ≡ rows_of t)
    by None h = let f = ap (λ (o : Option ℕ). elim o as (λ _. Table) [ None ↦ t | Some r ↦ exchanged t r e ]) h in
        (ap (λ (t : Table). t.width) f, ap (λ (t : Table). rows_of t) f)
    by (Some r) h = let f = ap (λ (o : Option ℕ). elim o as (λ _. Table) [ None ↦ t | Some r ↦ exchanged t r e ]) h in
        (ap (λ (t : Table). t.width) f ∙ exchanged_width t r e, ap (λ (t : Table). rows_of t) f ∙ exchanged_rows t r e)

pub record IsAt (p : Problem) (budget : ℕ) (t : Table) (cs rs : List ℕ) (steps : List Exchange) : Type 0 where
  pub table : t ≡ table_after p (length steps)
  pub run : IsRun p budget steps
  pub unsettled : is_settled_first p ≡ false
  pub firsts_are : cs ≡ firsts p
  pub ranks_are : rs ≡ (rows_of p.start + p.vectors) ∷ cs
  pub opening : first_owed_in (opening_ops p (length steps)) ≡ None
  pub rows : rows_of t ≡ rows_of p.start
  pub width : t.width ≡ p.start.width

pub opened_shape : (t : Table) (m : ℕ) → ((opened t m).width ≡ t.width) × (rows_of (opened t m) ≡ rows_of t)
unfolding opened
opened_shape t m =
    (exchanged_width (with_sum t) (least_row t m 0 1 (rows_of t - 1)) (top t m), exchanged_rows (with_sum t) (least_row t m 0 1 (rows_of t - 1)) (top t m))

table_zero : (p : Problem) → table_after p 0 ≡ opened (first_table p) p.vectors
unfolding table_after
table_zero p = refl

pub at_start : (p : Problem) (budget : ℕ) (f t : Table) (cs rs : List ℕ) (steps : List Exchange) → steps ≡ []
    → first_owed entry_is_owed (first_ops p.start p.vectors) ≡ None
    → f ≡ first_table p → is_settled f p.vectors ≡ false → cs ≡ first_columns f p.vectors → rs ≡ target f p.vectors ∷ cs
    → first_owed entry_is_owed (opened_ops f p.vectors) ≡ None → t ≡ opened f p.vectors → IsAt p budget t cs rs steps
at_start p budget f t cs rs steps e n g s h r o m =
    let u : is_settled_first p ≡ false = ap (λ (t : Table). is_settled t p.vectors) (sym g) ∙ s in
    let shape = first_shape p.start p.vectors in
    let op = opened_shape f p.vectors in
    let fw : f.width ≡ p.start.width = ap (λ (t : Table). t.width) g ∙ shape.0 in
    let fr : rows_of f ≡ rows_of p.start = ap (λ (t : Table). rows_of t) g ∙ shape.1 in
    subst (λ (steps : List Exchange). IsAt p budget t cs rs steps) (sym e) record {
      table = m ∙ ap (λ (t : Table). opened t p.vectors) g ∙ sym (table_zero p);
      run = run_none p budget [] refl;
      unsettled = u;
      firsts_are = h ∙ ap (λ (t : Table). first_columns t p.vectors) g;
      ranks_are = r ∙ ap (λ (n : ℕ). (n + p.vectors) ∷ cs) fr;
      opening = opening_unsettled p n u ∙ tableau_none _ (ap (λ (t : Table). first_owed entry_is_owed (opened_ops t p.vectors)) (sym g) ∙ o);
      rows = ap (λ (t : Table). rows_of t) m ∙ op.1 ∙ fr;
      width = ap (λ (t : Table). t.width) m ∙ op.0 ∙ fw;
    }

module _ (p : Problem) (budget : ℕ) (t : Table) (cs rs : List ℕ) (steps : List Exchange) (A : IsAt p budget t cs rs steps) where
  last_is : (b : Bool) → is_inside t p.vectors ≡ b → is_last p (length steps) ≡ b
  unfolding is_last
  last_is b h = ap (λ (b : Bool). b || is_inside (table_after p (length steps)) p.vectors) A.unsettled ∙ ap (λ (t : Table). is_inside t p.vectors) (sym A.table)
      ∙ h

  entering_is : (o : Option ℕ) → entering t p.vectors ≡ o → entering (table_after p (length steps)) p.vectors ≡ o
  entering_is o h = ap (λ (t : Table). entering t p.vectors) (sym A.table) ∙ h

  pub at_inside : (r : Placed) → is_inside t p.vectors ≡ true → IsWeightsAnswer t p.vectors cs p.d steps r → IsPlaceAnswer p budget r
  at_inside r h W =
      weighed p budget t cs steps r A.run (last_is true h) A.opening (A.table
      ∙ sym (ap (λ (b : Bool). if b then first_table p else table_after p (length steps)) A.unsettled)) A.firsts_are W

  pub at_outside : (r : Placed) → is_inside t p.vectors ≡ false → entering t p.vectors ≡ None → IsOutsideAnswer t p.vectors cs steps r
      → IsPlaceAnswer p budget r
  at_outside (Inside found made) h e W = absurd W
  at_outside (Outside zeros vector made) h e W =
      subst (λ (made : List Exchange). IsRun p budget made × IsOutsideAfter p zeros vector (length made)) (sym W.0) (
        A.run,
        record {
          not_last = last_is false h;
          none = entering_is None e;
          owes = leg_then p (length steps) _ A.opening (closing_step p (length steps) None (last_is false h) (entering_is None e)) ∙ nothing_owed;
          zeros_are = W.1.0 ∙ ap (λ (t : Table). zeros_of t p.vectors) A.table;
          vector_is = W.1.1 ∙ ap₂ (λ (t : Table) (cs : List ℕ). outside_vector t p.vectors cs) A.table A.firsts_are;
        },
      )
  at_outside (Pivots made) h e W = absurd W
  at_outside (Wide op made) h e W = absurd W
  at_outside OutOfMemory h e W = tt

  due : (e : ℕ) → is_inside t p.vectors ≡ false → entering t p.vectors ≡ Some e → IsStepDue p (length steps)
  due e h k = record { not_last = last_is false h; vector = ap (λ (o : Option ℕ). is_there o) (entering_is (Some e) k) }

  due_upto : (e : ℕ) → is_inside t p.vectors ≡ false → entering t p.vectors ≡ Some e → (j : ℕ) → ((j ≡ length steps) ⊎ (j < length steps)) → IsStepDue p j
  due_upto e h k j (inl i) = subst (λ (j : ℕ). IsStepDue p j) (sym i) (due e h k)
  due_upto e h k j (inr l) = A.run.due j l

  pub at_pivots : (e : ℕ) → is_inside t p.vectors ≡ false → entering t p.vectors ≡ Some e → length steps ≡ budget → IsPlaceAnswer p budget (Pivots steps)
  at_pivots e h k b = (A.run, record { used = b; due = due e h k; owes = A.opening })

  pub at_row : (e : ℕ) (xs : List ℕ) → HasLeavingRows p → is_inside t p.vectors ≡ false → entering t p.vectors ≡ Some e → xs ≡ cs
      → leaving t p.vectors xs e ≢ None
  at_row e xs H h k f n =
      H.row (length steps) (λ j l. due_upto e h k j (same_or_below j (length steps) l))
      (ap (λ (o : Option ℕ). leaving (table_after p (length steps)) p.vectors (firsts p) (or_zero o)) (entering_is (Some e) k)
      ∙ sym (ap (λ (xs : List ℕ). leaving t p.vectors xs e) f ∙ ap₂ (λ (t : Table) (cs : List ℕ). leaving t p.vectors cs e) A.table A.firsts_are)
      ∙ n)

  step_list : (e : ℕ) → is_inside t p.vectors ≡ false → entering t p.vectors ≡ Some e
      → first_owed_in (leg_ops p (length steps)) ≡ first_owed_in (map Tableau (step_ops t p.vectors cs e))
  step_list e h k =
      leg_then p (length steps) _ A.opening (closing_step p (length steps) (Some e) (last_is false h) (entering_is (Some e) k))
      ∙ sym (ap₂ (λ (t : Table) (cs : List ℕ). first_owed_in (map Tableau (step_ops t p.vectors cs e))) A.table A.firsts_are)

  pub at_wide : (e : ℕ) (op : EntryOp) → is_inside t p.vectors ≡ false → entering t p.vectors ≡ Some e → length steps ≢ budget
      → first_owed entry_is_owed (step_ops t p.vectors cs e) ≡ Some op
      → IsPlaceAnswer p budget (Wide (Tableau op) steps)
  at_wide e op h k n f = (A.run, owed_after p budget (length steps) (Tableau op) (step_list e h k ∙ tableau_some _ op f) (λ b d. absurd (n b)))

  pub at_more : (e : ℕ) (x : Exchange) (new : Table) (more : List Exchange) → is_inside t p.vectors ≡ false → entering t p.vectors ≡ Some e
      → length steps ≢ budget
      → first_owed entry_is_owed (step_ops t p.vectors cs e) ≡ None → x ≡ exchange_of t p.vectors cs e → new ≡ stepped t p.vectors cs e → more ≡ steps ++ x ∷ []
      → IsAt p budget new cs rs more
  unfolding table_after steps_of legs
  at_more e x new more h k n f g m s =
      let size : length more ≡ suc (length steps) = ap length s ∙ (let a = length-append steps (x ∷ []) in omega arith) in
      let zero_is : or_zero (entering (table_after p (length steps)) p.vectors) ≡ e = ap or_zero (entering_is (Some e) k) in
      record {
        table = m ∙ ap₂ (λ (t : Table) (cs : List ℕ). stepped t p.vectors cs e) A.table A.firsts_are
            ∙ ap (λ (e : ℕ). stepped (table_after p (length steps)) p.vectors (firsts p) e) (sym zero_is)
            ∙ ap (λ (n : ℕ). table_after p n) (sym size);
        run = record {
          are = s ∙ ap₂ (λ (xs : List Exchange) (x : Exchange). xs ++ x ∷ []) A.run.are
              (g ∙ ap₂ (λ (t : Table) (cs : List ℕ). exchange_of t p.vectors cs e) A.table A.firsts_are
              ∙ ap (λ (e : ℕ). exchange_of (table_after p (length steps)) p.vectors (firsts p) e) (sym zero_is))
              ∙ ap (λ (n : ℕ). steps_of p n) (sym size);
          due = λ j l. due_upto e h k j (last_or_before j (length steps) (omega arith));
          owes = ap (λ (n : ℕ). first_owed_in (legs p n)) size
              ∙ first_owed-append_none place_is_owed (legs p (length steps)) (leg_ops p (length steps)) A.run.owes
              ∙ step_list e h k ∙ tableau_none _ f;
          within = let w = A.run.within in omega arith;
        };
        unsettled = A.unsettled;
        firsts_are = A.firsts_are;
        ranks_are = A.ranks_are;
        opening = ap (λ (n : ℕ). first_owed_in (opening_ops p n)) size ∙ opening_later p (length steps);
        rows = ap (λ (t : Table). rows_of t) m ∙ (stepped_shape t p.vectors cs e).1 ∙ A.rows;
        width = ap (λ (t : Table). t.width) m ∙ (stepped_shape t p.vectors cs e).0 ∙ A.width;
      }

-- ---- the opening in code
pub sum_pivot : (t new : Table) (m i j : ℕ) → new ≡ with_sum t → i < rows_of t → j ≡ top t m → rows_of t + m + 2 ≡ t.width → table_entry new i j ≢ whole (pos 0)
sum_pivot t new m i j e l f w z =
    positive_not_zero (whole (pos 1)) one_positive (sym (
    ap (λ (t : Table). table_entry t i j) e
    ∙ cells_at (rows_of t) t.width (λ i j. if nat_eq (j + 1) t.width then whole (pos 1) else table_entry t i j) i j l (omega arith)
    ∙ ap (λ (b : Bool). if b then whole (pos 1) else table_entry t i j) (test_of_same (j + 1) t.width (omega arith))) ∙ z)

pub open_ops_is : (t new : Table) (m r c : ℕ) → new ≡ with_sum t → r ≡ least_row t m 0 1 (rows_of t - 1) → c ≡ top t m → exchange_ops new r c ≡ opened_ops t m
unfolding opened_ops
open_ops_is t new m r c e f g = ap (λ (t : Table). exchange_ops t r c) e ∙ ap₂ (λ (r : ℕ) (c : ℕ). exchange_ops (with_sum t) r c) f g

pub open_is : (t new : Table) (m r c : ℕ) → new ≡ with_sum t → r ≡ least_row t m 0 1 (rows_of t - 1) → c ≡ top t m → exchanged new r c ≡ opened t m
unfolding opened
open_is t new m r c e f g = ap (λ (t : Table). exchanged t r c) e ∙ ap₂ (λ (r : ℕ) (c : ℕ). exchanged (with_sum t) r c) f g

-- ---- the step in code
pub leaving_found : (t : Table) (m e : ℕ) (cs : List ℕ) (best : Option ℕ) (i n r : ℕ) → IfSome best (IsCandidateRow t m e)
    → leaving_row t m e cs best i n ≡ Some r → i + n ≤ rows_of t → IsCandidateRow t m e r
unfolding leaving_row
leaving_found t m e cs best i zero r f h l = subst (λ (o : Option ℕ). IfSome o (IsCandidateRow t m e)) h f
leaving_found t m e cs best i (suc n) r f h l =
    leaving_found t m e cs (if is_candidate t m e i then better t e cs best i else best) (i + 1) n r (by (is_candidate t m e i) refl) h (omega arith)
  where
    by : (b : Bool) → is_candidate t m e i ≡ b → IfSome (if b then better t e cs best i else best) (IsCandidateRow t m e)
    by true c = better_found t m e cs best i f record { row = omega arith; candidate = c }
    by false c = f

pub leaving_with : (t : Table) (m e : ℕ) (cs rs : List ℕ) → rs ≡ target t m ∷ cs → leaving_row t m e rs None 0 (rows_of t) ≡ leaving t m cs e
unfolding leaving
leaving_with t m e cs rs h = ap (λ (rs : List ℕ). leaving_row t m e rs None 0 (rows_of t)) h

step_ops_is : (t : Table) (m e : ℕ) (cs : List ℕ) (o : Option ℕ) → leaving t m cs e ≡ o
    → step_ops t m cs e ≡ leaving_ops t m e (target t m ∷ cs) None 0 (rows_of t) ++ elim o as (λ _. List EntryOp) [ None ↦ [] | Some r ↦ exchange_ops t r e ]
unfolding step_ops
step_ops_is t m e cs o h =
    ap (λ (o : Option ℕ). leaving_ops t m e (target t m ∷ cs) None 0 (rows_of t) ++ elim o as (λ _. List EntryOp) [ None ↦ [] | Some r ↦ exchange_ops t r e ]) h

pub step_refused : (t : Table) (m e : ℕ) (cs rs : List ℕ) (op : EntryOp) → rs ≡ target t m ∷ cs
    → answer entry_is_owed (leaving_ops t m e rs None 0 (rows_of t)) (leaving_row t m e rs None 0 (rows_of t)) ≡ Err op
    → first_owed entry_is_owed (step_ops t m cs e) ≡ Some op
step_refused t m e cs rs op h f =
    ap (λ (ops : List EntryOp). first_owed entry_is_owed ops) (step_ops_is t m e cs (leaving t m cs e) refl)
    ∙ first_owed-append_some entry_is_owed (leaving_ops t m e (target t m ∷ cs) None 0 (rows_of t)) _ op
    (ap (λ (rs : List ℕ). first_owed entry_is_owed (leaving_ops t m e rs None 0 (rows_of t))) (sym h)
    ∙ some_of_err entry_is_owed (leaving_ops t m e rs None 0 (rows_of t)) (leaving_row t m e rs None 0 (rows_of t)) op f)

pub step_row : (t : Table) (m e : ℕ) (cs rs : List ℕ) (r : ℕ) → rs ≡ target t m ∷ cs
    → answer entry_is_owed (leaving_ops t m e rs None 0 (rows_of t)) (leaving_row t m e rs None 0 (rows_of t)) ≡ Ok (Some r)
    → (first_owed entry_is_owed (leaving_ops t m e (target t m ∷ cs) None 0 (rows_of t)) ≡ None) × (leaving t m cs e ≡ Some r) × (IsCandidateRow t m e r)
step_row t m e cs rs r h f =
    let k = none_of_ok entry_is_owed (leaving_ops t m e rs None 0 (rows_of t)) (leaving_row t m e rs None 0 (rows_of t)) (Some r) f in (
      ap (λ (rs : List ℕ). first_owed entry_is_owed (leaving_ops t m e rs None 0 (rows_of t))) (sym h) ∙ k.0,
      sym (leaving_with t m e cs rs h)
          ∙ k.1,
      leaving_found t m e rs None 0 (rows_of t) r tt k.1 (omega arith),
    )

pub step_has_row : (t : Table) (m e : ℕ) (cs rs : List ℕ) → leaving t m cs e ≢ None → rs ≡ target t m ∷ cs
    → answer entry_is_owed (leaving_ops t m e rs None 0 (rows_of t)) (leaving_row t m e rs None 0 (rows_of t)) ≡ Ok None → ⊥
step_has_row t m e cs rs s h f =
    s (sym (leaving_with t m e cs rs h)
    ∙ (none_of_ok entry_is_owed (leaving_ops t m e rs None 0 (rows_of t)) (leaving_row t m e rs None 0 (rows_of t)) None f).1)

stepped_is : (t : Table) (m e : ℕ) (cs : List ℕ) (r : ℕ) → leaving t m cs e ≡ Some r
    → (stepped t m cs e ≡ exchanged t r e) × (exchange_of t m cs e ≡ record { entering = e - rows_of t; leaving = basic_at t r - rows_of t })
unfolding stepped exchange_of
stepped_is t m e cs r h = (
  ap (λ (o : Option ℕ). elim o as (λ _. Table) [ None ↦ t | Some r ↦ exchanged t r e ]) h,
  ap (λ (o : Option ℕ). (let x : Exchange = record { entering = e - rows_of t; leaving = basic_at t (or_zero o) - rows_of t } in x)) h,
)

pub step_left : (t new : Table) (m e : ℕ) (cs : List ℕ) (r : ℕ) (answered : Result Exchange EntryOp)
    → first_owed entry_is_owed (leaving_ops t m e (target t m ∷ cs) None 0 (rows_of t)) ≡ None → leaving t m cs e ≡ Some r
    → IsLeft t r e new answered → IsStepped t m cs e new answered
step_left t new m e cs r (Err op) n h L =
    ap (λ (ops : List EntryOp). first_owed entry_is_owed ops) (step_ops_is t m e cs (Some r) h)
    ∙ first_owed-append_none entry_is_owed (leaving_ops t m e (target t m ∷ cs) None 0 (rows_of t)) (exchange_ops t r e) n ∙ L
step_left t new m e cs r (Ok made) n h L =
    let s = stepped_is t m e cs r h in (
      ap (λ (ops : List EntryOp). first_owed entry_is_owed ops) (step_ops_is t m e cs (Some r) h)
          ∙ first_owed-append_none entry_is_owed (leaving_ops t m e (target t m ∷ cs) None 0 (rows_of t)) (exchange_ops t r e) n ∙ L.0,
      (L.1.0 ∙ sym s.1, L.1.1 ∙ sym s.0),
    )

pub err_owed : (ops : List EntryOp) (op : EntryOp) → answer entry_is_owed ops (tt {0}) ≡ Err op → first_owed entry_is_owed ops ≡ Some op
err_owed ops op h = some_of_err entry_is_owed ops (tt {0}) op h

pub ok_owed : (ops : List EntryOp) → answer entry_is_owed ops (tt {0}) ≡ Ok (tt {0}) → first_owed entry_is_owed ops ≡ None
ok_owed ops h = (none_of_ok entry_is_owed ops (tt {0}) (tt {0}) h).0

-- ---- the reserved column stays free
brought_within : (t : Table) (c n : ℕ) → ((i : ℕ) → i < rows_of t → basic_at t i < n) → c < n → (i : ℕ) → i < rows_of t → basic_at (brought_in t c) i < n
brought_within t c n h l i li = by (first_row t c) refl
  where
    at : (r : ℕ) → first_row t c ≡ Some r → ((i ≡ r) ⊎ (i ≢ r)) → basic_at (exchanged t r c) i < n
    at r e (inl s) = subst (λ (k : ℕ). k < n) (sym (ap (λ (i : ℕ). basic_at (exchanged t r c) i) s ∙ exchanged_basic_here t r c (row_taken t c r e).row)) l
    at r e (inr d) = subst (λ (k : ℕ). k < n) (sym (exchanged_basic_other t r c i d)) (h i li)

    by : (o : Option ℕ) → first_row t c ≡ o → basic_at (brought_in t c) i < n
    by None e = subst (λ (t : Table). basic_at t i < n) (sym (bring_none t c e).1) (h i li)
    by (Some r) e = subst (λ (t : Table). basic_at t i < n) (sym (bring_some t c r e).1) (at r e (same_or_not i r))

first_within : (t : Table) (k n : ℕ) → ((i : ℕ) → i < rows_of t → basic_at t i < n) → rows_of t + k ≤ n → (i : ℕ) → i < rows_of t
    → basic_at (first_bases t k) i < n
first_within t zero n h l i li = subst (λ (t : Table). basic_at t i < n) (sym (first_bases_none t).0) (h i li)
first_within t (suc k) n h l i li =
    let rec = first_within t k n h (omega arith) in
    let rows = (first_shape t k).1 in
    let s : suc k ≡ k + 1 = omega arith in
    subst (λ (t : Table). basic_at t i < n) (sym (ap (first_bases t) s ∙ (first_bases_more t k).0))
    (brought_within (first_bases t k) (rows_of t + k) n (λ i l. rec i (omega arith)) (omega arith) i (omega arith))

pub last_free : (start t : Table) (m : ℕ) → t ≡ first_bases start m → ((i : ℕ) → i < rows_of start → basic_at start i < rows_of start)
    → rows_of start + m + 2 ≡ start.width → IsLastFree t
last_free start t m e h w =
    let shape = first_shape start m in
    subst (λ (t : Table). IsLastFree t) (sym e) record {
      free = λ i l s.
          let b = first_within start m (rows_of start + m) (λ i l. let a = h i l in omega arith) (omega arith) i (omega arith) in
          let x = shape.0 in omega arith;
    }

-- ---- the columns of the first basis are columns
pub ranks_columns : (t : Table) (m : ℕ) (cs rs : List ℕ) → rs ≡ target t m ∷ cs → AreColumns t cs → rows_of t + m + 2 ≤ t.width → AreColumns t rs
ranks_columns t m cs rs e C w = subst (λ (rs : List ℕ). AreColumns t rs) (sym e) record { within = λ k l. by k l }
  where
    by : (k : ℕ) → k < length (target t m ∷ cs) → get_or (target t m ∷ cs) k 0 < t.width
    by zero l = omega arith
    by (suc k) l = C.within k (omega arith)

places_bound : (test : ℕ → Bool) (i n k : ℕ) → k < length (places_where test i n) → get_or (places_where test i n) k 0 < i + n
unfolding places_where
places_bound test i zero k l = absurd (omega arith)
places_bound test i (suc n) k l = by (test i) k (λ k l. let r = places_bound test (i + 1) n k l in omega arith) l
  where
    by : (b : Bool) (k : ℕ) → ((k : ℕ) → k < length (places_where test (i + 1) n) → get_or (places_where test (i + 1) n) k 0 < i + suc n)
        → k < length (if b then i ∷ places_where test (i + 1) n else places_where test (i + 1) n)
        → get_or (if b then i ∷ places_where test (i + 1) n else places_where test (i + 1) n) k 0 < i + suc n
    by true zero rec l = omega arith
    by true (suc k) rec l = rec k (omega arith)
    by false k rec l = rec k l

pub firsts_columns : (f t : Table) (m : ℕ) (cs : List ℕ) → cs ≡ first_columns f m → rows_of f + m + 2 ≤ f.width → t.width ≡ f.width → AreColumns t cs
unfolding first_columns
firsts_columns f t m cs e w s = record {
  within = λ k l.
      let b = places_bound (is_basic f) (rows_of f) m k (subst (λ (cs : List ℕ). k < length cs) e l) in
      let g : get_or cs k 0 ≡ get_or (places_where (is_basic f) (rows_of f) m) k 0 = ap (λ (cs : List ℕ). get_or cs k 0) e in
      omega arith;
}

-- ---- what the calls gave
pub no_error : (r : Result (Unit {0}) EntryOp) (ops : List EntryOp) → r ≡ answer entry_is_owed ops (tt {0}) → ((e : EntryOp) → r ≡ Err e → ⊥)
    → (first_owed entry_is_owed ops ≡ None) × (r ≡ Ok (tt {0}))
no_error r ops h n = by (first_owed entry_is_owed ops) (h ∙ answer_is_first_owed entry_is_owed ops (tt {0}))
  where
    by : (o : Option EntryOp) → r ≡ elim o as (λ _. Result (Unit {0}) EntryOp) [ None ↦ Ok (tt {0}) | Some op ↦ Err op ] → (o ≡ None) × (r ≡ Ok (tt {0}))
    by None e = (refl, e)
    by (Some op) e = absurd (n op e)

pub if_ok_made : (r : Result (Unit {0}) EntryOp) (P : Type 0) → r ≡ Ok (tt {0}) → IfOk r (λ _. P) → P
if_ok_made r P e h = subst (λ (r : Result (Unit {0}) EntryOp). IfOk r (λ _. P)) e h

pub is_none : (o : Option ℕ) → ((e : ℕ) → o ≡ Some e → ⊥) → o ≡ None
is_none None n = refl
is_none (Some e) n = absurd (n e refl)

pub record IsFirstDone (start new : Table) (m : ℕ) : Type 0 where
  pub owes : first_owed entry_is_owed (first_ops start m) ≡ None
  pub table : new ≡ first_bases start m
  pub rows : rows_of new ≡ rows_of start
  pub width : new.width ≡ start.width

pub first_done : (start new : Table) (m : ℕ) → Ok new ≡ answer entry_is_owed (first_ops start m) (first_bases start m) → IsFirstDone start new m
first_done start new m h =
    let o = none_of_ok entry_is_owed (first_ops start m) (first_bases start m) new (sym h) in
    let s = first_shape start m in
    let t : new ≡ first_bases start m = sym o.1 in
    record { owes = o.0; table = t; rows = ap (λ (t : Table). rows_of t) t ∙ s.1; width = ap (λ (t : Table). t.width) t ∙ s.0 }

pub entering_within : (t : Table) (m e : ℕ) → entering t m ≡ Some e → e < rows_of t + m
unfolding entering
entering_within t m e h = (first_found (goes_down t m) (rows_of t) m e h).below

pub stepped_facts : (t new : Table) (m e : ℕ) (xs cs : List ℕ) (r : Result Exchange EntryOp) (x : Exchange) → xs ≡ cs → r ≡ Ok x → IsStepped t m xs e new r
    → (first_owed entry_is_owed (step_ops t m cs e) ≡ None) × (x ≡ exchange_of t m cs e) × (new ≡ stepped t m cs e)
stepped_facts t new m e xs cs r x h k S =
    let s = subst (λ (cs : List ℕ). IsStepped t m cs e new (Ok x)) h (subst (λ (r : Result Exchange EntryOp). IsStepped t m xs e new r) k S) in
    (s.0, s.1.0, s.1.1)

pub step_owed : (t new : Table) (m e : ℕ) (xs cs : List ℕ) (r : Result Exchange EntryOp) (op : EntryOp) → xs ≡ cs → r ≡ Err op → IsStepped t m xs e new r
    → first_owed entry_is_owed (step_ops t m cs e) ≡ Some op
step_owed t new m e xs cs r op h k S =
    subst (λ (cs : List ℕ). IsStepped t m cs e new (Err op)) h (subst (λ (r : Result Exchange EntryOp). IsStepped t m xs e new r) k S)
