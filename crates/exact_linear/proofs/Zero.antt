-- An exchange where a factor is zero: none of the operations is owed, and the entry stays.
use Rattle.std.specs.Prelude.{◌≡◌, ℕ, ◌/◌, ◌<◌, ◌^◌, ◌⊎◌, ℤ, pos, ◌*ℤ◌, ◌+ℤ◌, nat_abs, [], ◌∷◌, Ok}
use Rattle.std.proofs.Common.{arith, sym, ◌∙◌, ap, ap₂, refl, subst, inl, inr, lit<}
use Rattle.std.proofs.lemmas.Int.{ints}
use native.Mathlib.Nat.{zero-div, div-one, div_self}
use Rattle.commutative_ring.specs.Gcd.{gcd_of, gcd_steps, divided}
use Rattle.commutative_ring.proofs.Ring.{num, ◌⊕◌, ◌⊗◌, neg, v0}
use Rattle.commutative_ring.proofs.Laws.{mul_zero_ℤ, zero_mul_ℤ}
use Rattle.exact_forms.specs.Rational.{Rational, ratio, whole, neg_ℚ, ◌*ℚ◌, ◌-ℚ◌, ◌+ℚ◌}
use Rattle.exact_forms.proofs.Rational.{ring_ℚ, den_positive}
use Rattle.fraction128.specs.Recipes.{mul_ops, add_ops, sub_ops}
use Rattle.symmetric_matrix.proofs.BinaryDivisors.{gcd_of_one, zero_gcd_of}
use Rattle.fraction128.proofs.Operations.{passed_over}
use Rattle.symmetric_matrix.specs.Operations.{is_owed, mul_op, add_op}
use Rattle.symmetric_matrix.specs.Owed.{answer}
use Rattle.symmetric_matrix.proofs.Owed.{answer-map_ok, answer-append_ok, answer_nothing}
use Rattle.exact_linear.specs.Exchange.{entry_is_owed, placed, multiply_entry, subtract_entry, clear_entry}
use Rattle.exact_linear.specs.declared.entry.EntryPart.TheVariants.{Multiply, Subtract}

zero_num : (whole (pos 0)).num ≡ pos 0
unfolding whole ratio gcd_of gcd_steps
zero_num = refl

zero_den : (whole (pos 0)).den ≡ 1
unfolding whole ratio gcd_of gcd_steps
zero_den = refl

neg_zero : neg_ℚ (whole (pos 0)) ≡ whole (pos 0)
neg_zero = ring_ℚ [] (neg (num (pos 0))) (num (pos 0)) refl

-- two operations that fit
both_fit : {V : Type 0} (a b c d : ℤ) (v : V) → nat_abs (a *ℤ b) < 2 ^ 127 → nat_abs (c *ℤ d) < 2 ^ 127 → answer is_owed (mul_op a b ∷ mul_op c d ∷ []) v ≡ Ok v
both_fit a b c d v h k = passed_over (mul_op a b) (mul_op c d ∷ []) v h ∙ passed_over (mul_op c d) [] v k ∙ answer_nothing is_owed v

one : nat_abs (pos 1) < 2 ^ 127
one = lit< tt

none : nat_abs (pos 0) < 2 ^ 127
none = lit< tt

over_one : (n h : ℕ) → n ≡ 1 → h ≡ 1 → n / h ≡ 1
over_one n h e k = ap₂ (λ (a : ℕ) (b : ℕ). a / b) e k

over_same : (n g : ℕ) → 0 < n → g ≡ n → n / g ≡ 1
over_same n g p e = ap (λ (m : ℕ). n / m) e ∙ div_self p

ones : (a b : ℕ) → a ≡ 1 → b ≡ 1 → pos a *ℤ pos b ≡ pos 1
ones a b e k = ap₂ (λ (a : ℕ) (b : ℕ). pos a *ℤ pos b) e k

moved : (x y : ℤ) → x ≡ y → nat_abs y < 2 ^ 127 → nat_abs x < 2 ^ 127
moved x y e h = subst (λ (z : ℤ). nat_abs z < 2 ^ 127) (sym e) h

zero_left : (n w : ℤ) (g : ℕ) → n ≡ pos 0 → divided n g *ℤ w ≡ pos 0
zero_left n w g e = ap (λ (n : ℤ). divided n g *ℤ w) e ∙ ap (λ (m : ℕ). pos m *ℤ w) (zero-div g) ∙ zero_mul_ℤ w

zero_right : (n w : ℤ) (g : ℕ) → n ≡ pos 0 → w *ℤ divided n g ≡ pos 0
zero_right n w g e = ap (λ (n : ℤ). w *ℤ divided n g) e ∙ ap (λ (m : ℕ). w *ℤ pos m) (zero-div g) ∙ mul_zero_ℤ w

pub zero_product : {V : Type 0} (y : Rational) (v : V) → answer is_owed (mul_ops (whole (pos 0)) y) v ≡ Ok v
unfolding mul_ops
zero_product y v =
    let g : gcd_of (nat_abs (whole (pos 0)).num) y.den ≡ y.den = ap (λ (z : ℤ). gcd_of (nat_abs z) y.den) zero_num ∙ zero_gcd_of y.den in
    let h : gcd_of (nat_abs y.num) (whole (pos 0)).den ≡ 1 = ap (λ (n : ℕ). gcd_of (nat_abs y.num) n) zero_den ∙ gcd_of_one (nat_abs y.num) in
    both_fit _ _ _ _ v
    (moved _ (pos 0) (zero_left (whole (pos 0)).num _ _ zero_num) none)
    (moved _ (pos 1) (ones _ _ (over_one _ _ zero_den h) (over_same y.den _ (den_positive y) g)) one)

pub product_zero : {V : Type 0} (x : Rational) (v : V) → answer is_owed (mul_ops x (whole (pos 0))) v ≡ Ok v
unfolding mul_ops
product_zero x v =
    let g : gcd_of (nat_abs x.num) (whole (pos 0)).den ≡ 1 = ap (λ (n : ℕ). gcd_of (nat_abs x.num) n) zero_den ∙ gcd_of_one (nat_abs x.num) in
    let h : gcd_of (nat_abs (whole (pos 0)).num) x.den ≡ x.den = ap (λ (z : ℤ). gcd_of (nat_abs z) x.den) zero_num ∙ zero_gcd_of x.den in
    both_fit _ _ _ _ v
    (moved _ (pos 0) (zero_right (whole (pos 0)).num _ _ zero_num) none)
    (moved _ (pos 1) (ones _ _ (over_same x.den _ (den_positive x) h) (over_one _ _ zero_den g)) one)

-- a sum with zero
sum_fits : {V : Type 0} (a : ℤ) (d : ℕ) (v : V) → nat_abs a < 2 ^ 127 → d < 2 ^ 127
    → answer is_owed (mul_op a (pos 1) ∷ mul_op (pos 0) (pos d) ∷ add_op (a *ℤ pos 1) (pos 0 *ℤ pos d) ∷ mul_op (pos d) (pos 1) ∷ []) v ≡ Ok v
sum_fits a d v ha hd =
    let one : a *ℤ pos 1 ≡ a = omega (arith, ints) in
    let zero : pos 0 *ℤ pos d ≡ pos 0 = zero_mul_ℤ (pos d) in
    let total : a *ℤ pos 1 +ℤ pos 0 *ℤ pos d ≡ a = ap₂ (λ (x : ℤ) (y : ℤ). x +ℤ y) one zero ∙ (let e : a +ℤ pos 0 ≡ a = omega (arith, ints) in e) in
    let last : pos d *ℤ pos 1 ≡ pos d = omega (arith, ints) in
    passed_over (mul_op a (pos 1)) _ v (moved _ a one ha)
    ∙ passed_over (mul_op (pos 0) (pos d)) _ v (moved _ (pos 0) zero none)
    ∙ passed_over (add_op (a *ℤ pos 1) (pos 0 *ℤ pos d)) _ v (moved _ a total ha)
    ∙ passed_over (mul_op (pos d) (pos 1)) [] v (moved _ (pos d) last hd)
    ∙ answer_nothing is_owed v

sum_list : {V : Type 0} (a z : ℤ) (d own its h : ℕ) (v : V) → nat_abs a < 2 ^ 127 → d < 2 ^ 127 → z ≡ pos 0 → own ≡ d → its ≡ 1 → h ≡ 1
    → answer is_owed (mul_op a (pos its) ∷ mul_op z (pos own) ∷ add_op (a *ℤ pos its) (z *ℤ pos own) ∷ mul_op (pos own) (pos h) ∷ []) v ≡ Ok v
sum_list a z d own its h v ha hd ez eo ei eh =
    ap₂ (λ (z : ℤ) (own : ℕ). answer is_owed (mul_op a (pos its) ∷ mul_op z (pos own) ∷ add_op (a *ℤ pos its) (z *ℤ pos own) ∷ mul_op (pos own) (pos h) ∷ []) v)
    ez eo
    ∙ ap₂ (λ (its : ℕ) (h : ℕ). answer is_owed (mul_op a (pos its) ∷ mul_op (pos 0) (pos d) ∷ add_op (a *ℤ pos its) (pos 0 *ℤ pos d) ∷ mul_op (pos d) (pos h)
    ∷ []) v) ei eh
    ∙ sum_fits a d v ha hd

pub sum_zero : {V : Type 0} (x : Rational) (v : V) → nat_abs x.num < 2 ^ 127 → x.den < 2 ^ 127 → answer is_owed (add_ops x (whole (pos 0))) v ≡ Ok v
unfolding add_ops
sum_zero x v ha hd =
    let g : gcd_of x.den (whole (pos 0)).den ≡ 1 = ap (λ (n : ℕ). gcd_of x.den n) zero_den ∙ gcd_of_one x.den in
    sum_list x.num (whole (pos 0)).num x.den _ _ _ v ha hd zero_num
    (ap (λ (n : ℕ). x.den / n) g ∙ div-one x.den)
    (over_one _ _ zero_den g)
    (over_one _ _ zero_den (ap (λ (n : ℕ). gcd_of (nat_abs (x.num *ℤ pos ((whole (pos 0)).den / n) +ℤ (whole (pos 0)).num *ℤ pos (x.den / n))) n) g
    ∙ gcd_of_one _))

pub difference_zero : {V : Type 0} (x : Rational) (v : V) → nat_abs x.num < 2 ^ 127 → x.den < 2 ^ 127 → answer is_owed (sub_ops x (whole (pos 0))) v ≡ Ok v
unfolding sub_ops
difference_zero x v ha hd = ap (λ (y : Rational). answer is_owed (add_ops x y) v) neg_zero ∙ sum_zero x v ha hd

-- ---- of an entry
kept_product : (i j : ℕ) (x f y z : Rational) → nat_abs x.num < 2 ^ 127 → x.den < 2 ^ 127 → answer is_owed (mul_ops f y) (tt {0}) ≡ Ok (tt {0})
    → f *ℚ y ≡ whole (pos 0)
    → Ok x ≡ answer entry_is_owed (clear_entry i j x f y) (x -ℚ f *ℚ y)
unfolding clear_entry multiply_entry subtract_entry ◌-ℚ◌
kept_product i j x f y z ha hd none e =
    let m = answer-map_ok is_owed entry_is_owed (placed i j Multiply f y) (mul_ops f y) (tt {0}) (tt {0}) (tt {0}) (λ o. refl) none in
    let s = answer-map_ok is_owed entry_is_owed (placed i j Subtract x (f *ℚ y)) (sub_ops x (f *ℚ y)) (tt {0}) (tt {0}) (x +ℚ neg_ℚ (f *ℚ y)) (λ o. refl)
    (ap (λ (w : Rational). answer is_owed (sub_ops x w) (tt {0})) e ∙ difference_zero x (tt {0}) ha hd) in
    let same : x +ℚ neg_ℚ (f *ℚ y) ≡ x = ap (λ (w : Rational). x +ℚ neg_ℚ w) e ∙ ring_ℚ (x ∷ []) (v0 ⊕ neg (num (pos 0))) v0 refl in
    sym ((answer-append_ok entry_is_owed _ _ (tt {0}) (tt {0}) (x +ℚ neg_ℚ (f *ℚ y)) m.0).0 ∙ s.0 ∙ ap Ok same)

pub clear_kept : (i j : ℕ) (x f y : Rational) → nat_abs x.num < 2 ^ 127 → x.den < 2 ^ 127 → ((f ≡ whole (pos 0)) ⊎ (y ≡ whole (pos 0)))
    → Ok x ≡ answer entry_is_owed (clear_entry i j x f y) (x -ℚ f *ℚ y)
clear_kept i j x f y ha hd (inl e) =
    kept_product i j x f y y ha hd (ap (λ (w : Rational). answer is_owed (mul_ops w y) (tt {0})) e ∙ zero_product y (tt {0}))
    (ap (λ (w : Rational). w *ℚ y) e ∙ ring_ℚ (y ∷ []) (num (pos 0) ⊗ v0) (num (pos 0)) refl)
clear_kept i j x f y ha hd (inr e) =
    kept_product i j x f y y ha hd (ap (λ (w : Rational). answer is_owed (mul_ops f w) (tt {0})) e ∙ product_zero f (tt {0}))
    (ap (λ (w : Rational). f *ℚ w) e ∙ ring_ℚ (f ∷ []) (v0 ⊗ num (pos 0)) (num (pos 0)) refl)
