-- Clearing, coefficient by coefficient.
use Rattle.std.specs.Prelude.{◌≡◌, ℕ, zero, suc, ◌+◌, ◌-◌, ◌/◌, ◌<◌, ◌≤◌, ◌^◌, Bool, true, false, if◌then◌else◌, ℤ, pos, nat_abs, ◌*ℤ◌, ◌≤ℤ◌, List, [], ◌∷◌}
use Rattle.std.specs.Prelude.{◌++◌, length, take, drop, get_or, set, Result, Ok, Err}
use Rattle.std.proofs.Common.{arith, refl, sym, ◌∙◌, ap, subst, drop_of_length-le, take_all, append-nil}
use Rattle.commutative_ring.specs.Gcd.{gcd_of}
use Rattle.commutative_ring.proofs.Lowest.{gcd_positive, part_above}
use Rattle.commutative_ring.proofs.SmallCases.{at_least_of_test, at_least_one, pos_abs, positive_abs, positive_product}
use Rattle.exact_forms.proofs.Rational.{den_positive}
use Rattle.exact_forms.proofs.Lists.{drop_at}
use Rattle.symmetric_matrix.specs.declared.operation.IntOp.{IntOp}
use Rattle.symmetric_matrix.specs.Owed.{answer}
use Rattle.symmetric_matrix.specs.Operations.{is_owed, mul_op}
use Rattle.symmetric_matrix.specs.Symmetric.{FitsInt}
use Rattle.symmetric_matrix.proofs.Owed.{answer-append_err, answer-append_ok}
use Rattle.exact_linear.proofs.Rows.{joined}
use Rattle.extreme_ray.specs.declared.clearing.Coefficient.{Coefficient}
use Rattle.extreme_ray.specs.Clearing.{factor, lifted, lift_ops, denominator_over, ray_denominator_ops, over_denominator, numerator, one_numerator_ops}
use Rattle.extreme_ray.specs.Clearing.{numerators, ray_numerator_ops}

pub gcd_some : (e d : ℕ) → 0 < d → pos 1 ≤ℤ pos (gcd_of e d)
gcd_some e zero h = absurd (omega arith)
gcd_some e (suc d) h = at_least_one (gcd_of e (suc d)) (gcd_positive e d)

-- ---- one operation
pub one_fits : (op : IntOp) (value z : ℤ) → answer is_owed (op ∷ []) value ≡ Ok z → (is_owed op ≡ false) × (value ≡ z)
unfolding answer
one_fits op value z e = by (is_owed op) refl e
  where
    by : (b : Bool) → is_owed op ≡ b → ◌≡◌ {A = Result ℤ IntOp} (if b then Err op else Ok value) (Ok z) → (is_owed op ≡ false) × (value ≡ z)
    by true is e = absurd cc
    by false is e = (is, cc)

pub mul_narrow : (x y : ℤ) → is_owed (mul_op x y) ≡ false → FitsInt (x *ℤ y)
mul_narrow x y h = at_least_of_test (2 ^ 127 - 1) (nat_abs (x *ℤ y)) h

-- ---- a step of the common denominator
factor_some : (e : ℕ) (c : Coefficient) → 0 < factor e c
factor_some e c = part_above e c.value.den (den_positive c.value)

pub lifted_some : (e : ℕ) (c : Coefficient) → 0 < e → 0 < lifted e c
lifted_some e c h = positive_product e (factor e c) h (factor_some e c)

pub lifted_positive : (e : ℤ) (c : Coefficient) (z : ℤ) → pos 1 ≤ℤ e → answer is_owed (lift_ops (nat_abs e) c) (pos (lifted (nat_abs e) c)) ≡ Ok z → pos 1 ≤ℤ z
lifted_positive e c z h k =
    let s : 0 < nat_abs e = (let p = pos_abs e h in positive_abs e h) in
    subst (λ (z : ℤ). pos 1 ≤ℤ z) (one_fits (mul_op (pos (nat_abs e)) (pos (factor (nat_abs e) c))) (pos (lifted (nat_abs e) c)) z k).1
    (at_least_one (lifted (nat_abs e) c) (lifted_some (nat_abs e) c s))

pub lifted_narrow : (e : ℕ) (c : Coefficient) (z : ℤ) → answer is_owed (lift_ops e c) (pos (lifted e c)) ≡ Ok z → FitsInt z
lifted_narrow e c z k =
    let f = one_fits (mul_op (pos e) (pos (factor e c))) (pos (lifted e c)) z k in
    subst (λ (z : ℤ). FitsInt z) f.1 (mul_narrow (pos e) (pos (factor e c)) f.0)

-- what is left to multiply
abbrev pub denominator_left : ℕ → List Coefficient → Result ℤ IntOp
denominator_left e cs = answer is_owed (ray_denominator_ops e cs) (pos (denominator_over e cs))

pub denominator_refused : (e k : ℕ) (c : Coefficient) (cs : List Coefficient) (err : IntOp) → k < length cs → c ≡ get_or cs k c
    → answer is_owed (lift_ops e c) (pos (lifted e c)) ≡ Err err → denominator_left e (drop k cs) ≡ Err err
unfolding ray_denominator_ops denominator_over
denominator_refused e k c cs err l is h =
    rw (drop_at cs k c l is)
    (answer-append_err is_owed (lift_ops e c) (ray_denominator_ops (lifted e c) (drop (k + 1) cs)) (pos (lifted e c))
    (pos (denominator_over (lifted e c) (drop (k + 1) cs))) err h)

pub denominator_done : (e k : ℕ) (c : Coefficient) (cs : List Coefficient) (z : ℤ) → k < length cs → c ≡ get_or cs k c
    → answer is_owed (lift_ops e c) (pos (lifted e c)) ≡ Ok z
    → denominator_left e (drop k cs) ≡ denominator_left (nat_abs z) (drop (k + 1) cs)
unfolding ray_denominator_ops denominator_over
denominator_done e k c cs z l is h =
    let a = answer-append_ok is_owed (lift_ops e c) (ray_denominator_ops (lifted e c) (drop (k + 1) cs)) (pos (lifted e c)) z
    (pos (denominator_over (lifted e c) (drop (k + 1) cs))) h in
    ap (λ (ds : List Coefficient). denominator_left e ds) (drop_at cs k c l is) ∙ a.0 ∙ ap (λ (z : ℤ). denominator_left (nat_abs z) (drop (k + 1) cs)) a.1

pub denominator_end : (e : ℤ) (k : ℕ) (cs : List Coefficient) → pos 1 ≤ℤ e → length cs ≤ k → denominator_left (nat_abs e) (drop k cs) ≡ Ok e
unfolding ray_denominator_ops denominator_over answer
denominator_end e k cs h l = let d : drop k cs ≡ [] = drop_of_length-le cs {i = k} l in rw d (ap ok (pos_abs e h))
  where
    ok : ℤ → Result ℤ IntOp
    ok z = Ok z

-- ---- one numerator
pub numerator_first : (e : ℕ) (c : Coefficient) (err : IntOp)
    → answer is_owed (mul_op c.value.num (pos (e / c.value.den)) ∷ []) (over_denominator e c) ≡ Err err
    → answer is_owed (one_numerator_ops e c) (numerator e c) ≡ Err err
unfolding one_numerator_ops
numerator_first e c err h =
    answer-append_err is_owed (mul_op c.value.num (pos (e / c.value.den)) ∷ []) (if c.diagonal then mul_op (over_denominator e c) (pos 2) ∷ [] else [])
    (over_denominator e c) (numerator e c) err h

pub numerator_twice : (e : ℕ) (c : Coefficient) (z : ℤ) → c.diagonal ≡ true
    → answer is_owed (mul_op c.value.num (pos (e / c.value.den)) ∷ []) (over_denominator e c) ≡ Ok z
    → answer is_owed (mul_op z (pos 2) ∷ []) (z *ℤ pos 2) ≡ answer is_owed (one_numerator_ops e c) (numerator e c)
unfolding one_numerator_ops numerator
numerator_twice e c z d h =
    let a = answer-append_ok is_owed (mul_op c.value.num (pos (e / c.value.den)) ∷ []) (mul_op (over_denominator e c) (pos 2) ∷ []) (over_denominator e c) z
    (over_denominator e c *ℤ pos 2) h in
    rw d (sym (a.0 ∙ ap (λ (z : ℤ). answer is_owed (mul_op z (pos 2) ∷ []) (z *ℤ pos 2)) a.1))

pub numerator_once : (e : ℕ) (c : Coefficient) (z : ℤ) → c.diagonal ≡ false
    → answer is_owed (mul_op c.value.num (pos (e / c.value.den)) ∷ []) (over_denominator e c) ≡ Ok z
    → Ok z ≡ answer is_owed (one_numerator_ops e c) (numerator e c)
unfolding one_numerator_ops numerator
numerator_once e c z d h = rw d (sym (h))

-- ---- the numerators, from one on
pub numerators_refused : (e k : ℕ) (c : Coefficient) (cs : List Coefficient) (err : IntOp) → k < length cs → c ≡ get_or cs k c
    → answer is_owed (one_numerator_ops e c) (numerator e c) ≡ Err err
    → answer is_owed (ray_numerator_ops e (drop k cs)) (tt {0}) ≡ Err err
unfolding ray_numerator_ops
numerators_refused e k c cs err l is h =
    rw (drop_at cs k c l is) (answer-append_err is_owed (one_numerator_ops e c) (ray_numerator_ops e (drop (k + 1) cs)) (numerator e c) (tt {0}) err h)

pub numerators_done : (e k : ℕ) (c : Coefficient) (cs : List Coefficient) (z : ℤ) → k < length cs → c ≡ get_or cs k c
    → answer is_owed (one_numerator_ops e c) (numerator e c) ≡ Ok z
    → answer is_owed (ray_numerator_ops e (drop k cs)) (tt {0}) ≡ answer is_owed (ray_numerator_ops e (drop (k + 1) cs)) (tt {0})
unfolding ray_numerator_ops
numerators_done e k c cs z l is h =
    rw (drop_at cs k c l is) (answer-append_ok is_owed (one_numerator_ops e c) (ray_numerator_ops e (drop (k + 1) cs)) (numerator e c) z (tt {0}) h).0

pub numerators_made : (e k : ℕ) (c : Coefficient) (cs : List Coefficient) (into : List ℤ) (z : ℤ) → k < length cs → length into ≡ length cs → c ≡ get_or cs k c
    → answer is_owed (one_numerator_ops e c) (numerator e c) ≡ Ok z
    → take k into ++ numerators e (drop k cs) ≡ take (k + 1) (set into k z) ++ numerators e (drop (k + 1) cs)
unfolding numerators
numerators_made e k c cs into z l s is h =
    let v : numerator e c ≡ z = (answer-append_ok is_owed (one_numerator_ops e c) [] (numerator e c) z (numerator e c) h).1 in
    rw (drop_at cs k c l is, v) (joined into k z (numerators e (drop (k + 1) cs)) (omega arith))

pub numerators_nothing : (e k : ℕ) (cs : List Coefficient) → length cs ≤ k → answer is_owed (ray_numerator_ops e (drop k cs)) (tt {0}) ≡ Ok (tt {0})
unfolding ray_numerator_ops answer
numerators_nothing e k cs l = let d : drop k cs ≡ [] = drop_of_length-le cs {i = k} l in rw d

pub numerators_whole : (e k : ℕ) (cs : List Coefficient) (into : List ℤ) → length cs ≤ k → length into ≡ length cs
    → take k into ++ numerators e (drop k cs) ≡ into
unfolding numerators
numerators_whole e k cs into l s = let d : drop k cs ≡ [] = drop_of_length-le cs {i = k} l in rw d (append-nil (take k into) ∙ take_all k into (omega arith))
