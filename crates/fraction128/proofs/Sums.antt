-- The recipe of a sum of fractions.
use Rattle.std.specs.Prelude.{◌≡◌, ℕ, ◌*◌, ◌/◌, ◌<◌, ◌^◌, ℤ, pos, nat_abs, ◌+ℤ◌, ◌*ℤ◌, Bool, true, false, List, [], ◌∷◌, ◌++◌, Result, Ok, Err, if◌then◌else◌}
use Rattle.std.proofs.Common.{arith, sym, ◌∙◌, ap, ap₂, refl, subst, mul-pos, lt_of_le_of_lt}
use Rattle.std.proofs.lemmas.Int.{ints}
use Prim.Native.Nat.{◌∣◌}
use mir.Syntax.{w128}
use mir.Val.{SFits}
use native.Mathlib.Nat.{div-mul_cancel, div-le_self, div_self}
use Rattle.std.proofs.lemmas.Nat.Gcd.{dvd_trans}
use Rattle.commutative_ring.specs.Gcd.{gcd_of, divided}
use Rattle.commutative_ring.proofs.Gcd.{gcd_of_is}
use Rattle.commutative_ring.proofs.Coprime.{sum_lowest}
use Rattle.commutative_ring.proofs.Expand.{times_one}
use Rattle.commutative_ring.proofs.Laws.{one_mul_ℤ}
use Rattle.commutative_ring.proofs.Lowest.{nat_abs-divided}
use Rattle.commutative_ring.proofs.Ring.{ring, v0, v1, v2, v3, v4, v5, ◌⊗◌, ◌⊕◌}
use Rattle.exact_forms.specs.Rational.{Rational, ratio, ◌+ℚ◌}
use Rattle.exact_forms.specs.Lowest.{IsLowest}
use Rattle.exact_forms.proofs.Rational.{ratio_same, den_positive, num_den_lowest}
use Rattle.symmetric_matrix.specs.declared.operation.IntOp.{IntOp}
use Rattle.symmetric_matrix.specs.Owed.{answer}
use Rattle.symmetric_matrix.specs.Operations.{is_owed, exact_result, mul_op, add_op}
use Rattle.symmetric_matrix.proofs.Owed.{answer-append_err, answer-append_ok}
use Rattle.fraction128.specs.Recipes.{cross_sum_ops, add_ops}
use Rattle.symmetric_matrix.proofs.BinaryDivisors.{gcd_of_same}
use Rattle.fraction128.proofs.Operations.{IsMade, made, refused, passed_over, beyond, den_fits}
use Rattle.fraction128.proofs.Products.{both_parts, divided_back, part_positive}

-- ---- a·x + b·y
pub record IsSum (a x b y s : ℤ) : Type 0 where
  pub is : s ≡ a *ℤ x +ℤ b *ℤ y
  pub fits : nat_abs s < 2 ^ 127

head_made : {V : Type 0} (op : IntOp) (ops : List IntOp) (u z : V) → answer is_owed (op ∷ ops) u ≡ Ok z
    → (nat_abs (exact_result op) < 2 ^ 127) × (answer is_owed ops u ≡ Ok z)
unfolding answer
head_made {V} op ops u z h = by (is_owed op) refl h
  where
    by : (b : Bool) → is_owed op ≡ b → (if b then Err op else answer is_owed ops u) ≡ Ok z
        → (nat_abs (exact_result op) < 2 ^ 127) × (answer is_owed ops u ≡ Ok z)
    by true e k = absurd cc
    by false e k = (beyond (nat_abs (exact_result op)) e, k)

pub sum_made : (a x b y s : ℤ) → answer is_owed (cross_sum_ops a x b y) (a *ℤ x +ℤ b *ℤ y) ≡ Ok s → IsSum a x b y s
unfolding answer
sum_made a x b y s h =
    let total : ℤ = a *ℤ x +ℤ b *ℤ y in
    let first = head_made (mul_op a x) (mul_op b y ∷ add_op (a *ℤ x) (b *ℤ y) ∷ []) total s h in
    let second = head_made (mul_op b y) (add_op (a *ℤ x) (b *ℤ y) ∷ []) total s first.1 in
    let third = head_made (add_op (a *ℤ x) (b *ℤ y)) [] total s second.1 in
    let is : s ≡ total = cc (third.1) in
    record { is = is; fits = (rw is third.0) }

pub left_refused : (a x b y : ℤ) (err : IntOp) → answer is_owed (mul_op a x ∷ []) (a *ℤ x) ≡ Err err
    → answer is_owed (cross_sum_ops a x b y) (a *ℤ x +ℤ b *ℤ y) ≡ Err err
left_refused a x b y err h = refused (mul_op a x) err (mul_op b y ∷ add_op (a *ℤ x) (b *ℤ y) ∷ []) (a *ℤ x +ℤ b *ℤ y) h

pub right_refused : (a x b y u : ℤ) (err : IntOp) → answer is_owed (mul_op a x ∷ []) (a *ℤ x) ≡ Ok u → answer is_owed (mul_op b y ∷ []) (b *ℤ y) ≡ Err err
    → answer is_owed (cross_sum_ops a x b y) (a *ℤ x +ℤ b *ℤ y) ≡ Err err
right_refused a x b y u err h k =
    (made (mul_op a x) u (mul_op b y ∷ add_op (a *ℤ x) (b *ℤ y) ∷ []) (a *ℤ x +ℤ b *ℤ y) h).rest
    ∙ refused (mul_op b y) err (add_op (a *ℤ x) (b *ℤ y) ∷ []) (a *ℤ x +ℤ b *ℤ y) k

pub both_made : (a x b y u v : ℤ) → answer is_owed (mul_op a x ∷ []) (a *ℤ x) ≡ Ok u → answer is_owed (mul_op b y ∷ []) (b *ℤ y) ≡ Ok v
    → answer is_owed (add_op u v ∷ []) (u +ℤ v) ≡ answer is_owed (cross_sum_ops a x b y) (a *ℤ x +ℤ b *ℤ y)
both_made a x b y u v h k =
    let total : ℤ = a *ℤ x +ℤ b *ℤ y in
    let left = made (mul_op a x) u (mul_op b y ∷ add_op (a *ℤ x) (b *ℤ y) ∷ []) total h in
    let right = made (mul_op b y) v (add_op (a *ℤ x) (b *ℤ y) ∷ []) total k in
    ap₂ (λ (u : ℤ) (v : ℤ). answer is_owed (add_op u v ∷ []) (u +ℤ v)) left.is right.is ∙ sym right.rest ∙ sym left.rest

-- ---- the parts of the recipe
abbrev pub shared : Rational → Rational → ℕ
shared x y = gcd_of x.den y.den

abbrev pub own : Rational → Rational → ℕ
own x y = x.den / shared x y

abbrev pub its : Rational → Rational → ℕ
its x y = y.den / shared x y

abbrev pub total : Rational → Rational → ℤ
total x y = x.num *ℤ pos (its x y) +ℤ y.num *ℤ pos (own x y)

abbrev pub last : Rational → Rational → ℕ
last x y = gcd_of (nat_abs (total x y)) (shared x y)

abbrev pub last_op : Rational → Rational → IntOp
last_op x y = mul_op (pos (own x y)) (pos (y.den / last x y))

-- what the sum of the products and the last operation answered
abbrev pub IsSummed : Rational → Rational → Result ℤ IntOp → Type 0
IsSummed x y r = answer is_owed (cross_sum_ops x.num (pos (its x y)) y.num (pos (own x y))) (total x y) ≡ r

abbrev pub IsLastMade : Rational → Rational → Result ℤ IntOp → Type 0
IsLastMade x y r = answer is_owed (last_op x y ∷ []) (exact_result (last_op x y)) ≡ r

pub total_made : (x y : Rational) (s : ℤ) → IsSummed x y (Ok s) → IsSum x.num (pos (its x y)) y.num (pos (own x y)) s
total_made x y s h = sum_made x.num (pos (its x y)) y.num (pos (own x y)) s h

last_divides : (x y : Rational) → last x y ∣ y.den
last_divides x y = dvd_trans (last x y) (gcd_of_is (nat_abs (total x y)) (shared x y)).1 (gcd_of_is x.den y.den).1

den_parts : (x y : Rational) → 0 < own x y * (y.den / last x y)
den_parts x y =
    mul-pos (part_positive x.den (shared x y) (den_positive x) (gcd_of_is x.den y.den).0) (part_positive y.den (last x y) (den_positive y) (last_divides x y))

-- what the recipe makes is the sum
sum_is : (x y : Rational) → ratio (divided (total x y) (last x y)) (own x y * (y.den / last x y)) ≡ x +ℚ y
unfolding ◌+ℚ◌
sum_is x y =
    let g : ℕ = shared x y in
    let h : ℕ = last x y in
    let b : ℕ = own x y in
    let d : ℕ = its x y in
    let e : ℕ = y.den / h in
    let t : ℤ = divided (total x y) h in
    let t_back : t *ℤ pos h ≡ total x y = divided_back (total x y) h (gcd_of_is (nat_abs (total x y)) g).0 in
    let b_back : b * g ≡ x.den = div-mul_cancel g (gcd_of_is x.den y.den).0 in
    let d_back : d * g ≡ y.den = div-mul_cancel g (gcd_of_is x.den y.den).1 in
    let e_back : e * h ≡ y.den = div-mul_cancel h (last_divides x y) in
    ratio_same t (x.num *ℤ pos y.den +ℤ y.num *ℤ pos x.den) (b * e) (x.den * y.den) (den_parts x y) (mul-pos (den_positive x) (den_positive y))
    (ap₂ (λ (m : ℕ) (n : ℕ). t *ℤ pos (m * n)) (sym b_back) (sym e_back)
    ∙ ring (t ∷ pos b ∷ pos g ∷ pos e ∷ pos h ∷ []) (v0 ⊗ (v1 ⊗ v2 ⊗ (v3 ⊗ v4))) (v0 ⊗ v4 ⊗ (v1 ⊗ v2 ⊗ v3)) refl
    ∙ ap (λ (z : ℤ). z *ℤ (pos b *ℤ pos g *ℤ pos e)) t_back
    ∙ ring (x.num ∷ pos d ∷ y.num ∷ pos b ∷ pos g ∷ pos e ∷ []) ((v0 ⊗ v1 ⊕ v2 ⊗ v3) ⊗ (v3 ⊗ v4 ⊗ v5)) ((v0 ⊗ (v1 ⊗ v4) ⊕ v2 ⊗ (v3 ⊗ v4)) ⊗ (v3 ⊗ v5)) refl
    ∙ ap₂ (λ (m : ℕ) (n : ℕ). (x.num *ℤ pos m +ℤ y.num *ℤ pos n) *ℤ pos (b * e)) d_back b_back)

-- in lowest terms
sum_is_lowest : (x y : Rational) → gcd_of (nat_abs (divided (total x y) (last x y))) (own x y * (y.den / last x y)) ≡ 1
sum_is_lowest x y =
    ap (λ (n : ℕ). gcd_of n (own x y * (y.den / last x y))) (nat_abs-divided (total x y) (last x y))
    ∙ sum_lowest x.num y.num x.den y.den (den_positive x) (den_positive y) (num_den_lowest x) (num_den_lowest y)

pub record IsSumOf (x y : Rational) (n e : ℤ) : Type 0 where
  pub lowest : IsLowest n e
  pub answered : answer is_owed (add_ops x y) (x +ℚ y) ≡ Ok (ratio n (nat_abs e))

pub sum_done : (x y : Rational) (s e : ℤ) → IsSummed x y (Ok s) → IsLastMade x y (Ok e)
    → IsSumOf x y (divided s (gcd_of (nat_abs s) (shared x y))) e
unfolding add_ops answer
sum_done x y s e h k =
    let sum = total_made x y s h in
    let rest = answer-append_ok is_owed (cross_sum_ops x.num (pos (its x y)) y.num (pos (own x y))) (last_op x y ∷ []) (total x y) s (x +ℚ y) h in
    let den : IsMade (last_op x y) e [] (x +ℚ y) = made (last_op x y) e [] (x +ℚ y) k in
    let some = den_parts x y in
    let small : nat_abs (divided (total x y) (last x y)) < 2 ^ 127 =
    rw (nat_abs-divided (total x y) (last x y))
    (lt_of_le_of_lt (div-le_self (nat_abs (total x y)) (last x y)) (subst (λ (z : ℤ). nat_abs z < 2 ^ 127) sum.is sum.fits)) in
    let num_is : divided s (gcd_of (nat_abs s) (shared x y)) ≡ divided (total x y) (last x y) =
    ap (λ (z : ℤ). divided z (gcd_of (nat_abs z) (shared x y))) sum.is in
    record {
      lowest = (rw (num_is, den.is) (record { positive = (omega (arith, ints)); lowest = sum_is_lowest x y; fits = small }));
      answered = rest.0 ∙ den.rest ∙ ap Ok (sym (sum_is x y) ∙ ap₂ (λ (n : ℤ) (e : ℤ). ratio n (nat_abs e)) (sym num_is) (sym den.is));
    }

pub sum_refused : (x y : Rational) (err : IntOp) → IsSummed x y (Err err) → answer is_owed (add_ops x y) (x +ℚ y) ≡ Err err
unfolding add_ops
sum_refused x y err h = answer-append_err is_owed (cross_sum_ops x.num (pos (its x y)) y.num (pos (own x y))) (last_op x y ∷ []) (total x y) (x +ℚ y) err h

pub last_refused : (x y : Rational) (s : ℤ) (err : IntOp) → IsSummed x y (Ok s) → IsLastMade x y (Err err)
    → answer is_owed (add_ops x y) (x +ℚ y) ≡ Err err
unfolding add_ops
last_refused x y s err h k =
    (answer-append_ok is_owed (cross_sum_ops x.num (pos (its x y)) y.num (pos (own x y))) (last_op x y ∷ []) (total x y) s (x +ℚ y) h).0
    ∙ refused (last_op x y) err [] (x +ℚ y) k

-- ---- one denominator
before_fitting : {V : Type 0} (op next : IntOp) (v : V) → nat_abs (exact_result next) < 2 ^ 127 → answer is_owed (op ∷ next ∷ []) v ≡ answer is_owed (op ∷ []) v
unfolding answer
before_fitting op next v h = ap (λ r. if is_owed op then Err op else r) (passed_over next [] v h)

over_one : (a c w : ℤ) (v : Rational) → nat_abs a < 2 ^ 127 → nat_abs c < 2 ^ 127 → nat_abs w < 2 ^ 127
    → answer is_owed (cross_sum_ops a (pos 1) c (pos 1) ++ mul_op (pos 1) w ∷ []) v ≡ answer is_owed (add_op a c ∷ []) v
unfolding answer
over_one a c w v ha hc hw =
    let a_is : a *ℤ pos 1 ≡ a = times_one a in
    let c_is : c *ℤ pos 1 ≡ c = times_one c in
    let w_is : pos 1 *ℤ w ≡ w = one_mul_ℤ w in
    passed_over (mul_op a (pos 1)) (mul_op c (pos 1) ∷ add_op (a *ℤ pos 1) (c *ℤ pos 1) ∷ mul_op (pos 1) w ∷ []) v (rw a_is ha)
    ∙ passed_over (mul_op c (pos 1)) (add_op (a *ℤ pos 1) (c *ℤ pos 1) ∷ mul_op (pos 1) w ∷ []) v (rw c_is hc)
    ∙ ap₂ (λ (m : ℤ) (n : ℤ). answer is_owed (add_op m n ∷ mul_op (pos 1) w ∷ []) v) a_is c_is
    ∙ before_fitting (add_op a c) (mul_op (pos 1) w) v (rw w_is hw)

same_parts : (x y : Rational) → x.den ≡ y.den → (own x y ≡ 1) × (its x y ≡ 1)
same_parts x y e =
    let own_is : own x y ≡ 1 = ap (λ (n : ℕ). x.den / gcd_of x.den n) (sym e) ∙ ap (λ (n : ℕ). x.den / n) (gcd_of_same x.den) ∙ div_self (den_positive x) in
    (own_is, ap (λ (n : ℕ). n / shared x y) (sym e) ∙ own_is)

-- two fractions over one denominator, whose numbers fit
pub record AreOverOne (x y : Rational) : Type 0 where
  pub same : x.den ≡ y.den
  pub left : nat_abs x.num < 2 ^ 127
  pub right : nat_abs y.num < 2 ^ 127
  pub den : y.den < 2 ^ 127

pub both_over_one : {n d m e : ℤ} {x y : Rational} → IsLowest n d → ratio n (nat_abs d) ≡ x → IsLowest m e → ratio m (nat_abs e) ≡ y → SFits w128 e
    → x.den ≡ y.den → (n ≡ x.num) × (m ≡ y.num) × AreOverOne x y
both_over_one {n} {d} {m} {e} {x} {y} h i k j f same =
    let p = both_parts h i k j in (
      p.0,
      p.2,
      record {
        same = same;
        left = subst (λ (z : ℤ). nat_abs z < 2 ^ 127) p.0 h.fits;
        right = subst (λ (z : ℤ). nat_abs z < 2 ^ 127) p.2 k.fits;
        den = subst (λ (z : ℤ). nat_abs z < 2 ^ 127) p.3 (den_fits e f k.positive);
      },
    )

abbrev pub IsAdded : Rational → Rational → Result ℤ IntOp → Type 0
IsAdded x y r = answer is_owed (add_op x.num y.num ∷ []) (x.num +ℤ y.num) ≡ r

-- of the recipe only the sum of the numerators is left
same_den : (x y : Rational) → AreOverOne x y → answer is_owed (add_ops x y) (x +ℚ y) ≡ answer is_owed (add_op x.num y.num ∷ []) (x +ℚ y)
unfolding add_ops
same_den x y o =
    let p = same_parts x y o.same in
    let small : y.den / last x y < 2 ^ 127 = lt_of_le_of_lt (div-le_self y.den (last x y)) o.den in
    ap₂ (λ (m : ℕ) (n : ℕ). answer is_owed (cross_sum_ops x.num (pos n) y.num (pos m) ++ mul_op (pos m) (pos (y.den / last x y)) ∷ []) (x +ℚ y)) p.0 p.1
    ∙ over_one x.num y.num (pos (y.den / last x y)) (x +ℚ y) o.left o.right small

pub same_den_sum : (x y : Rational) → x.den ≡ y.den → ratio (x.num +ℤ y.num) x.den ≡ x +ℚ y
unfolding ◌+ℚ◌
same_den_sum x y e =
    ratio_same (x.num +ℤ y.num) (x.num *ℤ pos y.den +ℤ y.num *ℤ pos x.den) x.den (x.den * y.den) (den_positive x) (mul-pos (den_positive x) (den_positive y))
    (ap (λ (n : ℕ). (x.num +ℤ y.num) *ℤ pos (x.den * n)) (sym e)
    ∙ ring (x.num ∷ y.num ∷ pos x.den ∷ []) ((v0 ⊕ v1) ⊗ (v2 ⊗ v2)) ((v0 ⊗ v2 ⊕ v1 ⊗ v2) ⊗ v2) refl
    ∙ ap (λ (n : ℕ). (x.num *ℤ pos n +ℤ y.num *ℤ pos x.den) *ℤ pos x.den) e)

-- the two answers over one denominator
pub same_den_refused : (x y : Rational) (err : IntOp) → AreOverOne x y → IsAdded x y (Err err) → answer is_owed (add_ops x y) (x +ℚ y) ≡ Err err
same_den_refused x y err o h = same_den x y o ∙ refused (add_op x.num y.num) err [] (x +ℚ y) h

pub record IsSumOver (x y : Rational) (s : ℤ) : Type 0 where
  pub fits : nat_abs s < 2 ^ 127
  pub answered : answer is_owed (add_ops x y) (x +ℚ y) ≡ Ok (ratio s x.den)

pub same_den_made : (x y : Rational) (s : ℤ) → AreOverOne x y → IsAdded x y (Ok s) → IsSumOver x y s
unfolding answer
same_den_made x y s o h =
    let m : IsMade (add_op x.num y.num) s [] (x +ℚ y) = made (add_op x.num y.num) s [] (x +ℚ y) h in
    record { fits = m.fits; answered = same_den x y o ∙ m.rest ∙ ap Ok (sym (same_den_sum x y o.same) ∙ ap (λ (z : ℤ). ratio z x.den) (sym m.is)) }
