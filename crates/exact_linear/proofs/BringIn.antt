-- The columns that are brought in, one after the other.
use Rattle.std.specs.Prelude.{◌≡◌, ◌≢◌, ℕ, zero, suc, ◌+◌, ◌-◌, ◌<◌, ◌≤◌, ◌⊎◌, ℤ, pos, negsuc, Bool, true, false, not, ◌&&◌, nat_eq, nat_lt, List, [], ◌++◌}
use Rattle.std.specs.Prelude.{Option, Some, None, Ok, Err, Result}
use Rattle.std.proofs.Common.{arith, sym, ◌∙◌, ap, refl, subst, inl, inr}
use Rattle.commutative_ring.proofs.SmallCases.{below_of_test, next_or_within}
use Rattle.exact_forms.specs.Rational.{Rational, whole}
use Rattle.exact_forms.proofs.Lowest.{zero_num}
use Rattle.symmetric_matrix.specs.Owed.{answer}
use Rattle.symmetric_matrix.proofs.Owed.{answer-append_err, answer-append_ok, answer_nothing, none_of_ok, some_of_err, answer_is_first_owed}
use Rattle.exact_linear.specs.declared.entry.EntryOp.{EntryOp}
use Rattle.exact_linear.specs.Tables.{Table, rows_of, table_entry, basic_at, first_place}
use Rattle.exact_forms.specs.Coordinates.{Columns}
use Rattle.exact_linear.specs.Columns.{HasCoordinates}
use Rattle.exact_linear.specs.Exchange.{entry_is_owed, exchange_ops, exchanged, is_zero, takes, first_row, brought_in, bring_ops, first_bases, first_ops}
use Rattle.exact_linear.proofs.Places.{first_found, first_none}
use Rattle.exact_linear.proofs.Exchanges.{exchanged_width, exchanged_rows}

pub zero_is : (x : Rational) → is_zero x ≡ true → x ≡ whole (pos 0)
zero_is x h = (zero_num x).0 (by x.num h)
  where
    by : (n : ℤ) → elim n as (λ _. Bool) [ pos n ↦ nat_eq n 0 | negsuc n ↦ false ] ≡ true → n ≡ pos 0
    by (pos n) h = ap pos (let e : n ≡ 0 = grind arith in e)
    by (negsuc n) h = absurd cc

pub is_zero_of : (x : Rational) → x ≡ whole (pos 0) → is_zero x ≡ true
is_zero_of x e = by x.num ((zero_num x).1 e)
  where
    by : (n : ℤ) → n ≡ pos 0 → elim n as (λ _. Bool) [ pos n ↦ nat_eq n 0 | negsuc n ↦ false ] ≡ true
    by n e = ap (λ (n : ℤ). elim n as (λ _. Bool) [ pos n ↦ nat_eq n 0 | negsuc n ↦ false ]) e

pub not_zero_is : (x : Rational) → is_zero x ≡ false → x ≢ whole (pos 0)
not_zero_is x h e = absurd (let t = is_zero_of x e in cc)

pub is_zero_not : (x : Rational) → x ≢ whole (pos 0) → is_zero x ≡ false
is_zero_not x n = by (is_zero x) refl
  where
    by : (b : Bool) → is_zero x ≡ b → is_zero x ≡ false
    by true h = absurd (n (zero_is x h))
    by false h = h

-- ---- the row
pub takes_yes : (t : Table) (c i : ℕ) → basic_at t i < rows_of t → table_entry t i c ≢ whole (pos 0) → takes t c i ≡ true
takes_yes t c i l n = let a : nat_lt (basic_at t i) (rows_of t) ≡ true = grind arith in let b = is_zero_not (table_entry t i c) n in rw (a, b) refl

pub takes_no_unit : (t : Table) (c i : ℕ) → rows_of t ≤ basic_at t i → takes t c i ≡ false
takes_no_unit t c i l = let a : nat_lt (basic_at t i) (rows_of t) ≡ false = grind arith in rw a refl

pub takes_zero : (t : Table) (c i : ℕ) → table_entry t i c ≡ whole (pos 0) → takes t c i ≡ false
takes_zero t c i e = let b = is_zero_of (table_entry t i c) e in rw b (by (nat_lt (basic_at t i) (rows_of t)))
  where
    by : (b : Bool) → (b && not true) ≡ false
    by true = refl
    by false = refl

pub record IsTaken (t : Table) (c i : ℕ) : Type 0 where
  pub row : i < rows_of t
  pub unit : basic_at t i < rows_of t
  pub not_zero : table_entry t i c ≢ whole (pos 0)

pub takes_is : (t : Table) (c i : ℕ) → takes t c i ≡ true → (basic_at t i < rows_of t) × (table_entry t i c ≢ whole (pos 0))
takes_is t c i h = by (nat_lt (basic_at t i) (rows_of t)) refl (is_zero (table_entry t i c)) refl h
  where
    by : (a : Bool) → nat_lt (basic_at t i) (rows_of t) ≡ a → (b : Bool) → is_zero (table_entry t i c) ≡ b → (a && not b) ≡ true
        → (basic_at t i < rows_of t) × (table_entry t i c ≢ whole (pos 0))
    by true e true f h = absurd cc
    by true e false f h = (below_of_test _ _ e, not_zero_is (table_entry t i c) f)
    by false e b f h = absurd cc

pub row_taken : (t : Table) (c i : ℕ) → first_row t c ≡ Some i → IsTaken t c i
unfolding first_row
row_taken t c i h =
    let f = first_found (takes t c) 0 (rows_of t) i h in
    let s = takes_is t c i f.passes in
    record { row = let b = f.below in omega arith; unit = s.0; not_zero = s.1 }

pub none_taken : (t : Table) (c i : ℕ) → first_row t c ≡ None → i < rows_of t → basic_at t i < rows_of t → table_entry t i c ≡ whole (pos 0)
unfolding first_row
none_taken t c i h l u = by (is_zero (table_entry t i c)) refl (first_none (takes t c) 0 (rows_of t) h i (omega arith) (omega arith))
  where
    by : (b : Bool) → is_zero (table_entry t i c) ≡ b → takes t c i ≡ false → table_entry t i c ≡ whole (pos 0)
    by true e f = zero_is (table_entry t i c) e
    by false e f = absurd (let g = takes_yes t c i u (not_zero_is (table_entry t i c) e) in cc)

-- ---- what is brought in
pub bring_some : (t : Table) (c i : ℕ) → first_row t c ≡ Some i → (bring_ops t c ≡ exchange_ops t i c) × (brought_in t c ≡ exchanged t i c)
unfolding bring_ops brought_in
bring_some t c i h = (rw (bring_ops, h) refl, rw (brought_in, h) refl)

pub bring_none : (t : Table) (c : ℕ) → first_row t c ≡ None → (bring_ops t c ≡ []) × (brought_in t c ≡ t)
unfolding bring_ops brought_in
bring_none t c h = (rw (bring_ops, h) refl, rw (brought_in, h) refl)

pub brought_shape : (t : Table) (c : ℕ) → ((brought_in t c).width ≡ t.width) × (rows_of (brought_in t c) ≡ rows_of t)
brought_shape t c = by (first_row t c) refl
  where
    by : (o : Option ℕ) → first_row t c ≡ o → ((brought_in t c).width ≡ t.width) × (rows_of (brought_in t c) ≡ rows_of t)
    by (Some i) h = let e = (bring_some t c i h).1 in
        (ap (λ (t : Table). t.width) e ∙ exchanged_width t i c, ap (λ (t : Table). rows_of t) e ∙ exchanged_rows t i c)
    by None h = let e = (bring_none t c h).1 in (ap (λ (t : Table). t.width) e, ap (λ (t : Table). rows_of t) e)

pub first_bases_none : (t : Table) → (first_bases t 0 ≡ t) × (first_ops t 0 ≡ [])
unfolding first_bases first_ops
first_bases_none t = (refl, refl)

pub first_bases_more : (t : Table) (k : ℕ) → (first_bases t (k + 1) ≡ brought_in (first_bases t k) (rows_of t + k))
    × (first_ops t (k + 1) ≡ first_ops t k ++ bring_ops (first_bases t k) (rows_of t + k))
unfolding first_bases first_ops
first_bases_more t k = let e : k + 1 ≡ suc k = omega arith in (rw e refl, rw e refl)

pub first_shape : (t : Table) (k : ℕ) → ((first_bases t k).width ≡ t.width) × (rows_of (first_bases t k) ≡ rows_of t)
first_shape t zero = let e = (first_bases_none t).0 in (ap (λ (t : Table). t.width) e, ap (λ (t : Table). rows_of t) e)
first_shape t (suc k) =
    let n : suc k ≡ k + 1 = omega arith in
    let e : first_bases t (suc k) ≡ brought_in (first_bases t k) (rows_of t + k) = ap (first_bases t) n ∙ (first_bases_more t k).0 in
    let s = brought_shape (first_bases t k) (rows_of t + k) in
    let r = first_shape t k in
    (ap (λ (t : Table). t.width) e ∙ s.0 ∙ r.0, ap (λ (t : Table). rows_of t) e ∙ s.1 ∙ r.1)

-- what refuses a beginning refuses the whole
pub first_refused : (t : Table) (k n : ℕ) (err : EntryOp) → answer entry_is_owed (first_ops t k) (tt {0}) ≡ Err err → k ≤ n
    → answer entry_is_owed (first_ops t n) (tt {0}) ≡ Err err
first_refused t k zero err h l = subst (λ (k : ℕ). answer entry_is_owed (first_ops t k) (tt {0}) ≡ Err err) (let e : k ≡ 0 = omega arith in e) h
first_refused t k (suc n) err h l = by (next_or_within k n l) (λ m. first_refused t k n err h m)
  where
    by : ((k ≡ suc n) ⊎ (k ≤ n)) → (k ≤ n → answer entry_is_owed (first_ops t n) (tt {0}) ≡ Err err)
        → answer entry_is_owed (first_ops t (suc n)) (tt {0}) ≡ Err err
    by (inl e) rec = subst (λ (k : ℕ). answer entry_is_owed (first_ops t k) (tt {0}) ≡ Err err) e h
    by (inr m) rec =
        let s : suc n ≡ n + 1 = omega arith in
        ap (λ (ops : List EntryOp). answer entry_is_owed ops (tt {0})) (ap (first_ops t) s ∙ (first_bases_more t n).1)
        ∙ answer-append_err entry_is_owed (first_ops t n) (bring_ops (first_bases t n) (rows_of t + n)) (tt {0}) (tt {0}) err (rec m)

pub record IsSoFar (t now : Table) (k : ℕ) : Type 0 where
  pub table : now ≡ first_bases t k
  pub owes : answer entry_is_owed (first_ops t k) (tt {0}) ≡ Ok (tt {0})
  pub coordinates : (A : Columns) → HasCoordinates A t → HasCoordinates A now

pub so_far_none : (t : Table) → IsSoFar t t 0
so_far_none t =
    let e = first_bases_none t in
    record {
      table = sym e.0;
      owes = ap (λ (ops : List EntryOp). answer entry_is_owed ops (tt {0})) e.1 ∙ answer_nothing entry_is_owed (tt {0});
      coordinates = λ A h. h;
    }

pub so_far_ops : (t now : Table) (k : ℕ) → IsSoFar t now k
    → answer entry_is_owed (first_ops t (k + 1)) (tt {0}) ≡ answer entry_is_owed (bring_ops now (rows_of t + k)) (tt {0})
so_far_ops t now k S =
    ap (λ (ops : List EntryOp). answer entry_is_owed ops (tt {0})) (first_bases_more t k).1
    ∙ (answer-append_ok entry_is_owed (first_ops t k) (bring_ops (first_bases t k) (rows_of t + k)) (tt {0}) (tt {0}) (tt {0}) S.owes).0
    ∙ ap (λ (now : Table). answer entry_is_owed (bring_ops now (rows_of t + k)) (tt {0})) (sym S.table)

pub so_far_refused : (t now : Table) (k n : ℕ) (err : EntryOp) → IsSoFar t now k → k < n
    → answer entry_is_owed (bring_ops now (rows_of t + k)) (tt {0}) ≡ Err err → answer entry_is_owed (first_ops t n) (tt {0}) ≡ Err err
so_far_refused t now k n err S l h = first_refused t (k + 1) n err (so_far_ops t now k S ∙ h) (omega arith)

pub so_far_more : (t now new : Table) (k : ℕ) → IsSoFar t now k → answer entry_is_owed (bring_ops now (rows_of t + k)) (tt {0}) ≡ Ok (tt {0})
    → new ≡ brought_in now (rows_of t + k)
    → ((A : Columns) → HasCoordinates A now → HasCoordinates A new) → IsSoFar t new (k + 1)
so_far_more t now new k S h e c = record {
  table = e ∙ ap (λ (now : Table). brought_in now (rows_of t + k)) S.table ∙ sym (first_bases_more t k).0;
  owes = so_far_ops t now k S ∙ h;
  coordinates = λ A H. c A (S.coordinates A H);
}

-- the whole answer
answer_none : {V : Type 0} (ops : List EntryOp) (v : V) → answer entry_is_owed ops (tt {0}) ≡ Ok (tt {0}) → Ok v ≡ answer entry_is_owed ops v
answer_none {V} ops v h =
    sym (answer_is_first_owed entry_is_owed ops v
    ∙ ap (λ (o : Option EntryOp). elim o as (λ _. Result V EntryOp) [ None ↦ Ok v | Some op ↦ Err op ]) (none_of_ok entry_is_owed ops (tt {0}) (tt {0}) h).0)

pub answer_some : {V : Type 0} (ops : List EntryOp) (v : V) (err : EntryOp) → answer entry_is_owed ops (tt {0}) ≡ Err err → Err err ≡ answer entry_is_owed ops v
answer_some {V} ops v err h =
    sym (answer_is_first_owed entry_is_owed ops v
    ∙ ap (λ (o : Option EntryOp). elim o as (λ _. Result V EntryOp) [ None ↦ Ok v | Some op ↦ Err op ]) (some_of_err entry_is_owed ops (tt {0}) err h))

pub so_far_all : (t now : Table) (k n : ℕ) → IsSoFar t now k → k ≡ n → Ok now ≡ answer entry_is_owed (first_ops t n) (first_bases t n)
so_far_all t now k n S e =
    subst (λ (n : ℕ). Ok now ≡ answer entry_is_owed (first_ops t n) (first_bases t n)) e
    (ap (λ (t : Table). Ok t) S.table ∙ answer_none (first_ops t k) (first_bases t k) S.owes)

pub so_far_rows : (t now : Table) (k : ℕ) → IsSoFar t now k → (now.width ≡ t.width) × (rows_of now ≡ rows_of t)
so_far_rows t now k S = let r = first_shape t k in (ap (λ (t : Table). t.width) S.table ∙ r.0, ap (λ (t : Table). rows_of t) S.table ∙ r.1)

pub row_from_start : (t : Table) (c : ℕ) → first_row t c ≡ first_place (takes t c) 0 (rows_of t - 0)
unfolding first_row
row_from_start t c = ap (λ (n : ℕ). first_place (takes t c) 0 n) (let e : rows_of t ≡ rows_of t - 0 = omega arith in e)
