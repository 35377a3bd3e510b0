-- The answers of the steps are the answer of the ray.
use Rattle.std.specs.Prelude.{◌≡◌, ℕ, zero, suc, ◌/◌, ◌<◌, Bool, true, false, if◌then◌else◌, ℤ, pos, nat_abs, ◌*ℤ◌, List, [], ◌∷◌, ◌++◌, map, length}
use Rattle.std.specs.Prelude.{slice_index_or, Option, Some, None, Result, Ok, Err, IfErr, take}
use Rattle.std.proofs.Common.{arith, sym, ◌∙◌, ap, refl}
use Rattle.symmetric_matrix.specs.declared.operation.IntOp.{IntOp}
use Rattle.symmetric_matrix.specs.Owed.{answer, first_owed}
use Rattle.symmetric_matrix.specs.Operations.{is_owed, mul_op}
use Rattle.symmetric_matrix.specs.Symmetric.{FitsInt}
use Rattle.symmetric_matrix.proofs.Owed.{answer-append_err, answer-append_ok, answer_is_first_owed, none_of_ok, some_of_err, first_owed-append_some}
use Rattle.symmetric_matrix.proofs.Owed.{first_owed-append_none, first_owed-map}
use Rattle.symmetric_matrix.proofs.FormSteps.{both_fit}
use Rattle.exact_linear.specs.declared.entry.EntryOp.{EntryOp}
use Rattle.exact_linear.specs.Tables.{Table}
use Rattle.exact_linear.specs.Exchange.{entry_is_owed, first_bases, first_ops}
use Rattle.extreme_ray.specs.declared.clearing.Coefficient.{Coefficient}
use Rattle.extreme_ray.specs.declared.ray.RayFail.{RayFail}
use Rattle.extreme_ray.specs.declared.ray.RayFail.TheVariants as fail
use Rattle.extreme_ray.specs.Clearing.{denominator_over, ray_denominator_ops, over_denominator, numerator, one_numerator_ops, numerators, ray_numerator_ops}
use Rattle.extreme_ray.specs.Clearing.{cleared_coefficients, ray_clear_ops}
use Rattle.extreme_ray.specs.Rays.{Entry, Clear, ray_is_owed, ray_names, ray_start, ray_coefficients, ray_ops, IsRayAnswer}
use Rattle.extreme_ray.specs.Steps.{NoEntryOwed, NothingOwed, IsEntryFail, IsClearFail}
use Rattle.extreme_ray.proofs.Clearings.{mul_narrow}

-- ---- clearing
pub clear_first : (cs : List Coefficient) (err : IntOp) → answer is_owed (ray_denominator_ops 1 cs) (pos (denominator_over 1 cs)) ≡ Err err
    → answer is_owed (ray_clear_ops cs) (tt {0}) ≡ Err err
clear_first cs err h =
    answer-append_err is_owed (ray_denominator_ops 1 cs) (ray_numerator_ops (denominator_over 1 cs) cs) (pos (denominator_over 1 cs)) (tt {0}) err h

-- after the denominator is made
pub clear_then : (cs : List Coefficient) (e : ℤ) → answer is_owed (ray_denominator_ops 1 cs) (pos (denominator_over 1 cs)) ≡ Ok e
    → (answer is_owed (ray_clear_ops cs) (tt {0}) ≡ answer is_owed (ray_numerator_ops (nat_abs e) cs) (tt {0})) × (denominator_over 1 cs ≡ nat_abs e)
clear_then cs e h =
    let a = answer-append_ok is_owed (ray_denominator_ops 1 cs) (ray_numerator_ops (denominator_over 1 cs) cs) (pos (denominator_over 1 cs)) e (tt {0}) h in
    let same : denominator_over 1 cs ≡ nat_abs e = ap nat_abs a.1 in
    (a.0 ∙ ap (λ (n : ℕ). answer is_owed (ray_numerator_ops n cs) (tt {0})) same, same)

pub cleared_ok : (cs : List Coefficient) (e : ℤ) (zs : List ℤ) → answer is_owed (ray_denominator_ops 1 cs) (pos (denominator_over 1 cs)) ≡ Ok e
    → (NothingOwed (ray_numerator_ops (nat_abs e) cs) × (zs ≡ numerators (nat_abs e) cs))
    → NothingOwed (ray_clear_ops cs) × (zs ≡ cleared_coefficients cs)
cleared_ok cs e zs h k = let c = clear_then cs e h in (c.0 ∙ k.0, k.1 ∙ ap (λ (n : ℕ). numerators n cs) (sym c.1))

pub cleared_fail : (cs : List Coefficient) (e : ℤ) (f : RayFail) → answer is_owed (ray_denominator_ops 1 cs) (pos (denominator_over 1 cs)) ≡ Ok e
    → IsClearFail (ray_numerator_ops (nat_abs e) cs) f → IsClearFail (ray_clear_ops cs) f
cleared_fail cs e (fail.Entry op) h k = k
cleared_fail cs e (fail.Clear op) h k = (clear_then cs e h).0 ∙ k
cleared_fail cs e fail.OutOfMemory h k = tt

-- ---- the numerators are narrow
one_narrow : (e : ℕ) (c : Coefficient) → first_owed is_owed (one_numerator_ops e c) ≡ None → FitsInt (numerator e c)
unfolding one_numerator_ops numerator first_owed
one_narrow e c h = by c.diagonal h (is_owed (mul_op c.value.num (pos (e / c.value.den)))) refl
  where
    by : (b : Bool) → first_owed is_owed (mul_op c.value.num (pos (e / c.value.den)) ∷ (if b then mul_op (over_denominator e c) (pos 2) ∷ [] else [])) ≡ None
        → (o : Bool) → is_owed (mul_op c.value.num (pos (e / c.value.den))) ≡ o → FitsInt (if b then over_denominator e c *ℤ pos 2 else over_denominator e c)
    by b h true o =
        absurd (let f : first_owed is_owed (mul_op c.value.num (pos (e / c.value.den)) ∷ (if b then mul_op (over_denominator e c) (pos 2) ∷ [] else []))
        ≡ Some (mul_op c.value.num (pos (e / c.value.den))) = rw o refl in cc)
    by false h false o = mul_narrow c.value.num (pos (e / c.value.den)) o
    by true h false o = last (is_owed (mul_op (over_denominator e c) (pos 2))) refl
      where
        last : (p : Bool) → is_owed (mul_op (over_denominator e c) (pos 2)) ≡ p → FitsInt (over_denominator e c *ℤ pos 2)
        last false p = mul_narrow (over_denominator e c) (pos 2) p
        last true p =
            absurd (let f : first_owed is_owed (mul_op c.value.num (pos (e / c.value.den)) ∷ mul_op (over_denominator e c) (pos 2) ∷ [])
            ≡ Some (mul_op (over_denominator e c) (pos 2)) = rw (o, p) refl in cc)

numerators_narrow_from : (e : ℕ) (cs : List Coefficient) → first_owed is_owed (ray_numerator_ops e cs) ≡ None → (k : ℕ) → k < length (numerators e cs)
    → FitsInt (slice_index_or (numerators e cs) k (pos 0))
unfolding numerators ray_numerator_ops
numerators_narrow_from e [] h k l = absurd (omega arith)
numerators_narrow_from e (c ∷ cs) h zero l = one_narrow e c (both_fit (one_numerator_ops e c) (ray_numerator_ops e cs) h).0
numerators_narrow_from e (c ∷ cs) h (suc k) l = numerators_narrow_from e cs (both_fit (one_numerator_ops e c) (ray_numerator_ops e cs) h).1 k (omega arith)

pub cleared_narrow : (cs : List Coefficient) → NothingOwed (ray_clear_ops cs) → (k : ℕ) → k < length (cleared_coefficients cs)
    → FitsInt (slice_index_or (cleared_coefficients cs) k (pos 0))
cleared_narrow cs h =
    numerators_narrow_from (denominator_over 1 cs) cs
    (both_fit (ray_denominator_ops 1 cs) (ray_numerator_ops (denominator_over 1 cs) cs) (none_of_ok is_owed (ray_clear_ops cs) (tt {0}) (tt {0}) h).0).1

-- ---- the vectors come in
-- an answer with another value
answer_of_none : {O V : Type 0} (owed : O → Bool) (ops : List O) (v : V) → first_owed owed ops ≡ None → answer owed ops v ≡ Ok v
answer_of_none {O} {V} owed ops v h = answer_is_first_owed owed ops v ∙ ap (λ (o : Option O). elim o as (λ _. Result V O) [ None ↦ Ok v | Some op ↦ Err op ]) h

answer_of_some : {O V : Type 0} (owed : O → Bool) (ops : List O) (v : V) (op : O) → first_owed owed ops ≡ Some op → answer owed ops v ≡ Err op
answer_of_some {O} {V} owed ops v op h = answer_is_first_owed owed ops v
    ∙ ap (λ (o : Option O). elim o as (λ _. Result V O) [ None ↦ Ok v | Some op ↦ Err op ]) h

pub entries_made : (start t : Table) (k : ℕ) → answer entry_is_owed (first_ops start k) (first_bases start k) ≡ Ok t
    → NoEntryOwed (first_ops start k) × (t ≡ first_bases start k)
entries_made start t k h =
    let made = none_of_ok entry_is_owed (first_ops start k) (first_bases start k) t h in
    (answer_of_none entry_is_owed (first_ops start k) (tt {0}) made.0, sym made.1)

pub entry_refused : (start : Table) (k : ℕ) (op : EntryOp) → answer entry_is_owed (first_ops start k) (first_bases start k) ≡ Err op
    → answer entry_is_owed (first_ops start k) (tt {0}) ≡ Err op
entry_refused start k op h =
    answer_of_some entry_is_owed (first_ops start k) (tt {0}) op (some_of_err entry_is_owed (first_ops start k) (first_bases start k) op h)

-- ---- the whole answer
abbrev pub ray_entries_of : List (List ℕ) → List ℕ → ℕ → List EntryOp
ray_entries_of vectors zeros l = first_ops (ray_start vectors zeros l) (length (ray_names vectors zeros l))

map_none : {O Q : Type 0} (owed : O → Bool) (owed' : Q → Bool) (tag : O → Q) (xs : List O) → ((o : O) → owed' (tag o) ≡ owed o) → first_owed owed xs ≡ None
    → first_owed owed' (map tag xs) ≡ None
map_none {O} {Q} owed owed' tag xs same h = first_owed-map owed owed' tag xs same
    ∙ ap (λ (o : Option O). elim o as (λ _. Option Q) [ None ↦ None | Some op ↦ Some (tag op) ]) h

map_some : {O Q : Type 0} (owed : O → Bool) (owed' : Q → Bool) (tag : O → Q) (xs : List O) (op : O) → ((o : O) → owed' (tag o) ≡ owed o)
    → first_owed owed xs ≡ Some op → first_owed owed' (map tag xs) ≡ Some (tag op)
map_some {O} {Q} owed owed' tag xs op same h = first_owed-map owed owed' tag xs same
    ∙ ap (λ (o : Option O). elim o as (λ _. Option Q) [ None ↦ None | Some op ↦ Some (tag op) ]) h

front_none : (vectors : List (List ℕ)) (zeros : List ℕ) (l : ℕ) → NoEntryOwed (ray_entries_of vectors zeros l)
    → first_owed ray_is_owed (ray_ops vectors zeros l) ≡ first_owed ray_is_owed (map Clear (ray_clear_ops (ray_coefficients vectors zeros l)))
unfolding ray_ops
front_none vectors zeros l h =
    first_owed-append_none ray_is_owed (map Entry (ray_entries_of vectors zeros l)) (map Clear (ray_clear_ops (ray_coefficients vectors zeros l)))
    (map_none entry_is_owed ray_is_owed Entry (ray_entries_of vectors zeros l) (λ o. refl)
    (none_of_ok entry_is_owed (ray_entries_of vectors zeros l) (tt {0}) (tt {0}) h).0)

pub entry_answer : (vectors : List (List ℕ)) (zeros : List ℕ) (l : ℕ) (f : RayFail) → IsEntryFail (ray_entries_of vectors zeros l) f
    → IsRayAnswer vectors zeros l (Err f)
unfolding ray_ops
entry_answer vectors zeros l (fail.Entry op) h =
    first_owed-append_some ray_is_owed (map Entry (ray_entries_of vectors zeros l)) (map Clear (ray_clear_ops (ray_coefficients vectors zeros l))) (Entry op)
    (map_some entry_is_owed ray_is_owed Entry (ray_entries_of vectors zeros l) op (λ o. refl)
    (some_of_err entry_is_owed (ray_entries_of vectors zeros l) (tt {0}) op h))
entry_answer vectors zeros l (fail.Clear op) h = absurd h
entry_answer vectors zeros l fail.OutOfMemory h = tt

pub clear_answer : (vectors : List (List ℕ)) (zeros : List ℕ) (l : ℕ) (f : RayFail) → NoEntryOwed (ray_entries_of vectors zeros l)
    → IsClearFail (ray_clear_ops (ray_coefficients vectors zeros l)) f → IsRayAnswer vectors zeros l (Err f)
clear_answer vectors zeros l (fail.Entry op) n h = absurd h
clear_answer vectors zeros l (fail.Clear op) n h = front_none vectors zeros l n
    ∙ map_some is_owed ray_is_owed Clear (ray_clear_ops (ray_coefficients vectors zeros l)) op (λ o. refl)
    (some_of_err is_owed (ray_clear_ops (ray_coefficients vectors zeros l)) (tt {0}) op h)
clear_answer vectors zeros l fail.OutOfMemory n h = tt

pub none_answer : (vectors : List (List ℕ)) (zeros : List ℕ) (l : ℕ) → NoEntryOwed (ray_entries_of vectors zeros l)
    → NothingOwed (ray_clear_ops (ray_coefficients vectors zeros l)) → first_owed ray_is_owed (ray_ops vectors zeros l) ≡ None
none_answer vectors zeros l n h = front_none vectors zeros l n
    ∙ map_none is_owed ray_is_owed Clear (ray_clear_ops (ray_coefficients vectors zeros l)) (λ o. refl)
    (none_of_ok is_owed (ray_clear_ops (ray_coefficients vectors zeros l)) (tt {0}) (tt {0}) h).0

pub if_err_map : {V E : Type 0} {P Q : E → Type 0} (r : Result V E) → ((f : E) → P f → Q f) → IfErr r P → IfErr r Q
if_err_map (Ok x) g h = h
if_err_map (Err f) g h = g f h

pub take_front : (len : ℕ) (xs ys : List ℤ) → len ≡ length xs → take len (xs ++ ys) ≡ xs
take_front len [] ys e = ap (λ (k : ℕ). take k ys) e
take_front zero (x ∷ xs) ys e = absurd (omega arith)
take_front (suc len) (x ∷ xs) ys e = ap (λ (zs : List ℤ). x ∷ zs) (take_front len xs ys (omega arith))
