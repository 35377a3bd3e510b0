-- Over one denominator no operation of an exchange is owed, where the whole numbers and the denominator are small.
use Rattle.std.specs.Prelude.{◌≡◌, ◌≢◌, ℕ, zero, suc, ◌+◌, ◌*◌, ◌<◌, ◌≤◌, ◌^◌, ℤ, pos, negsuc, neg_ℤ, nat_abs, ◌*ℤ◌, nat_eq, Bool, true, false, List, [], ◌∷◌}
use Rattle.std.specs.Prelude.{◌++◌, take, drop, ◌-◌, length, Ok, if◌then◌else◌}
use Rattle.std.proofs.Common.{arith, sym, ◌∙◌, ap, ap₂, refl, subst, mul-pos, mul-le-mul, get_or-drop}
use Rattle.std.proofs.lemmas.Int.{ints, unsigned_abs-mul}
use Rattle.commutative_ring.proofs.Ring.{ring, num, neg, v0, v1, v2, ◌⊗◌}
use Rattle.commutative_ring.proofs.SmallCases.{nat_abs-neg}
use Rattle.exact_forms.specs.Rational.{Rational, ratio, whole, inverse, neg_ℚ, ◌*ℚ◌, ◌/ℚ◌}
use Rattle.exact_forms.proofs.Rational.{ratio_same, mul-ratio, neg-ratio, mul-inverse, one_mul_ℚ, ring_ℚ}
use Rattle.symmetric_matrix.specs.Owed.{answer}
use Rattle.symmetric_matrix.specs.Operations.{is_owed}
use Rattle.symmetric_matrix.proofs.Owed.{answer-append_ok, answer-map_ok}
use Rattle.fraction128.specs.Recipes.{div_ops, mul_ops, add_ops, sub_ops}
use Rattle.exact_linear.proofs.CommonDenominators.{ratios_product_fits, ratios_sum_fits}
use Rattle.exact_linear.specs.declared.entry.EntryPart.TheVariants.{Divide, Multiply, Subtract}
use Rattle.exact_linear.specs.Tables.{entry_of}
use Rattle.exact_linear.specs.Whole.{turned}
use Rattle.exact_linear.specs.Exchange.{entry_is_owed, placed, divide_entry, multiply_entry, subtract_entry, clear_entry, divide_ops, divided_row, cell_ops}
use Rattle.exact_linear.specs.Exchange.{rest_ops, next_row, next_column, table_row, pivot_row, table_ops}

-- ---- x = w/d with w small
pub record IsOver (d : ℕ) (x : Rational) : Type 0 where
  pub num : ℤ
  pub is : x ≡ ratio num d
  pub small : nat_abs num < 2 ^ 63

-- a denominator that is small and not zero
pub record IsScale (d : ℕ) : Type 0 where
  pub positive : 0 < d
  pub small : d < 2 ^ 63

pub zero_over : (d : ℕ) → 0 < d → IsOver d (whole (pos 0))
unfolding whole
zero_over d h = record {
  num = pos 0;
  is = ratio_same (pos 0) (pos 0) 1 d (let o : 0 < 1 = omega arith in o) h (ring (pos d ∷ []) (num (pos 0) ⊗ v0) (num (pos 0) ⊗ num (pos 1)) refl);
  small = omega arith;
}

small_product : (a b : ℕ) → a < 2 ^ 63 → b < 2 ^ 63 → a * b ≤ (2 ^ 63 - 1) * (2 ^ 63 - 1)
small_product a b la lb = mul-le-mul (let h : a ≤ 2 ^ 63 - 1 = omega arith in h) (let h : b ≤ 2 ^ 63 - 1 = omega arith in h)

product_below : (a b : ℕ) → a < 2 ^ 63 → b < 2 ^ 63 → a * b < 2 ^ 127
product_below a b la lb = let h = small_product a b la lb in omega arith

products_below : (a b c d : ℕ) → a < 2 ^ 63 → b < 2 ^ 63 → c < 2 ^ 63 → d < 2 ^ 63 → a * b + c * d < 2 ^ 127
products_below a b c d la lb lc ld = let h = small_product a b la lb in let k = small_product c d lc ld in omega arith

pub abs_product : (a b : ℤ) → nat_abs a < 2 ^ 63 → nat_abs b < 2 ^ 63 → nat_abs (a *ℤ b) ≤ (2 ^ 63 - 1) * (2 ^ 63 - 1)
abs_product a b la lb = rw (unsigned_abs-mul a b) (small_product (nat_abs a) (nat_abs b) la lb)

-- ---- p = P/d turned over
pub abs_positive : (p : ℤ) → p ≢ pos 0 → 0 < nat_abs p
abs_positive p h = grind (arith, ints)

pub abs_turned : (p z : ℤ) → nat_abs (turned p z) ≡ nat_abs z
abs_turned (pos n) z = refl
abs_turned (negsuc n) z = let h : nat_abs (neg_ℤ z) ≡ nat_abs z = grind (arith, ints) in h

turned_times : (p : ℤ) (d : ℕ) → p *ℤ turned p (pos d) *ℤ pos 1 ≡ pos 1 *ℤ pos (d * nat_abs p)
turned_times (pos n) d = ring (pos n ∷ pos d ∷ []) (v0 ⊗ v1 ⊗ num (pos 1)) (num (pos 1) ⊗ (v1 ⊗ v0)) refl
turned_times (negsuc n) d = ring (pos (suc n) ∷ pos d ∷ []) (neg v0 ⊗ neg v1 ⊗ num (pos 1)) (num (pos 1) ⊗ (v1 ⊗ v0)) refl

turned_over : (p : ℤ) (d : ℕ) → 0 < d → 0 < nat_abs p → ratio p d *ℚ ratio (turned p (pos d)) (nat_abs p) ≡ whole (pos 1)
unfolding whole
turned_over p d hd hp =
    mul-ratio p (turned p (pos d)) d (nat_abs p) hd hp
    ∙ ratio_same _ (pos 1) (d * nat_abs p) 1 (mul-pos hd hp) (let o : 0 < 1 = omega arith in o) (turned_times p d)

pub inverse_ratio : (p : ℤ) (d : ℕ) → 0 < d → 0 < nat_abs p → ratio p d ≢ whole (pos 0)
    → inverse (ratio p d).num (ratio p d).den ≡ ratio (turned p (pos d)) (nat_abs p)
inverse_ratio p d hd hp ne =
    let x : Rational = ratio p d in
    let i : Rational = inverse x.num x.den in
    let o : Rational = ratio (turned p (pos d)) (nat_abs p) in
    sym (one_mul_ℚ i)
    ∙ ap (λ (w : Rational). w *ℚ i) (sym (turned_over p d hd hp))
    ∙ ring_ℚ (x ∷ o ∷ i ∷ []) (v0 ⊗ v1 ⊗ v2) (v0 ⊗ v2 ⊗ v1) refl
    ∙ ap (λ (w : Rational). w *ℚ o) (mul-inverse x ne)
    ∙ one_mul_ℚ o

-- the denominators of an entry: p is P/d, and not zero
pub record IsPivot (d : ℕ) (p : Rational) (P : ℤ) : Type 0 where
  pub is : p ≡ ratio P d
  pub some : p ≢ whole (pos 0)
  pub scale : IsScale d
  pub size : IsScale (nat_abs P)

pivot_inverse : (d : ℕ) (p : Rational) (P : ℤ) → IsPivot d p P → inverse p.num p.den ≡ ratio (turned P (pos d)) (nat_abs P)
pivot_inverse d p P h =
    ap (λ (x : Rational). inverse x.num x.den) h.is
    ∙ inverse_ratio P d h.scale.positive h.size.positive (λ (z : ratio P d ≡ whole (pos 0)). h.some (h.is ∙ z))

-- (w/d) / (P/d)
quotient_times : (P w : ℤ) (d : ℕ) → (w *ℤ turned P (pos d)) *ℤ pos (nat_abs P) ≡ turned P w *ℤ pos (d * nat_abs P)
quotient_times (pos n) w d = ring (w ∷ pos d ∷ pos n ∷ []) (v0 ⊗ v1 ⊗ v2) (v0 ⊗ (v1 ⊗ v2)) refl
quotient_times (negsuc n) w d = ring (w ∷ pos d ∷ pos (suc n) ∷ []) (v0 ⊗ neg v1 ⊗ v2) (neg v0 ⊗ (v1 ⊗ v2)) refl

pub quotient_is : (d : ℕ) (p : Rational) (P w : ℤ) → IsPivot d p P → ratio w d /ℚ p ≡ ratio (turned P w) (nat_abs P)
unfolding ◌/ℚ◌
quotient_is d p P w h =
    ap (λ (i : Rational). ratio w d *ℚ i) (pivot_inverse d p P h)
    ∙ mul-ratio w (turned P (pos d)) d (nat_abs P) h.scale.positive h.size.positive
    ∙ ratio_same _ _ (d * nat_abs P) (nat_abs P) (mul-pos h.scale.positive h.size.positive) h.size.positive (quotient_times P w d)

quotient_over : (d : ℕ) (p : Rational) (P : ℤ) (x : Rational) → IsPivot d p P → IsOver d x → IsOver (nat_abs P) (x /ℚ p)
quotient_over d p P x h o = record {
  num = turned P o.num;
  is = ap (λ (x : Rational). x /ℚ p) o.is ∙ quotient_is d p P o.num h;
  small = rw (abs_turned P o.num) o.small;
}

-- ---- the operations of one entry
divide_fits : (i j d : ℕ) (p : Rational) (P : ℤ) (x : Rational) → IsPivot d p P → IsOver d x
    → answer entry_is_owed (divide_entry i j x p) (tt {0}) ≡ Ok (tt {0})
unfolding divide_entry div_ops
divide_fits i j d p P x h o =
    (answer-map_ok is_owed entry_is_owed (placed i j Divide x p) (mul_ops x (inverse p.num p.den)) (tt {0}) (tt {0}) (tt {0}) (λ op. refl)
    (ap₂ (λ (a : Rational) (b : Rational). answer is_owed (mul_ops a b) (tt {0})) o.is (pivot_inverse d p P h)
    ∙ ratios_product_fits o.num (turned P (pos d)) d (nat_abs P) (tt {0}) h.scale.positive h.size.positive
    (product_below (nat_abs o.num) (nat_abs (turned P (pos d))) o.small (rw (abs_turned P (pos d)) h.scale.small))
    (product_below d (nat_abs P) h.scale.small h.size.small))).0

multiply_fits : (i j d e : ℕ) (f y : Rational) → IsScale d → IsScale e → IsOver d f → IsOver e y
    → answer entry_is_owed (multiply_entry i j f y) (tt {0}) ≡ Ok (tt {0})
unfolding multiply_entry
multiply_fits i j d e f y hd he a b =
    (answer-map_ok is_owed entry_is_owed (placed i j Multiply f y) (mul_ops f y) (tt {0}) (tt {0}) (tt {0}) (λ op. refl)
    (ap₂ (λ (a : Rational) (b : Rational). answer is_owed (mul_ops a b) (tt {0})) a.is b.is
    ∙ ratios_product_fits a.num b.num d e (tt {0}) hd.positive he.positive
    (product_below (nat_abs a.num) (nat_abs b.num) a.small b.small)
    (product_below d e hd.small he.small))).0

-- x/d over d·e
widened : (w : ℤ) (d e : ℕ) → 0 < d → 0 < e → ratio w d ≡ ratio (w *ℤ pos e) (d * e)
widened w d e hd he = ratio_same w (w *ℤ pos e) d (d * e) hd (mul-pos hd he) (ring (w ∷ pos d ∷ pos e ∷ []) (v0 ⊗ (v1 ⊗ v2)) (v0 ⊗ v2 ⊗ v1) refl)

-- the opposite of f·y over d·e
opposite_product : (f y : ℤ) (d e : ℕ) → 0 < d → 0 < e → neg_ℚ (ratio f d *ℚ ratio y e) ≡ ratio (neg_ℤ (f *ℤ y)) (d * e)
opposite_product f y d e hd he = ap neg_ℚ (mul-ratio f y d e hd he) ∙ neg-ratio (f *ℤ y) (d * e) (mul-pos hd he)

subtract_fits : (i j d e : ℕ) (x f y : Rational) → IsScale d → IsScale e → IsOver d x → IsOver d f → IsOver e y
    → answer entry_is_owed (subtract_entry i j x (f *ℚ y)) (tt {0}) ≡ Ok (tt {0})
unfolding subtract_entry sub_ops
subtract_fits i j d e x f y hd he a b c =
    (answer-map_ok is_owed entry_is_owed (placed i j Subtract x (f *ℚ y)) (add_ops x (neg_ℚ (f *ℚ y))) (tt {0}) (tt {0}) (tt {0}) (λ op. refl)
    (ap₂ (λ (a : Rational) (b : Rational). answer is_owed (add_ops a b) (tt {0}))
    (a.is ∙ widened a.num d e hd.positive he.positive)
    (ap₂ (λ (f : Rational) (y : Rational). neg_ℚ (f *ℚ y)) b.is c.is ∙ opposite_product b.num c.num d e hd.positive he.positive)
    ∙ ratios_sum_fits (a.num *ℤ pos e) (neg_ℤ (b.num *ℤ c.num)) (d * e) (tt {0}) (mul-pos hd.positive he.positive)
    (rw (nat_abs-neg (b.num *ℤ c.num), unsigned_abs-mul a.num (pos e), unsigned_abs-mul b.num c.num)
    (products_below (nat_abs a.num) e (nat_abs b.num) (nat_abs c.num) a.small he.small b.small c.small))
    (product_below d e hd.small he.small))).0

cell_fits : (r i j d e : ℕ) (x f y : Rational) → IsScale d → IsScale e → IsOver d x → IsOver d f → IsOver e y
    → answer entry_is_owed (cell_ops r i j x f y) (tt {0}) ≡ Ok (tt {0})
unfolding cell_ops clear_entry answer
cell_fits r i j d e x f y hd he a b c = by (nat_eq i r)
  where
    by : (t : Bool) → answer entry_is_owed (if t then [] else multiply_entry i j f y ++ subtract_entry i j x (f *ℚ y)) (tt {0}) ≡ Ok (tt {0})
    by true = refl
    by false =
        (answer-append_ok entry_is_owed (multiply_entry i j f y) (subtract_entry i j x (f *ℚ y)) (tt {0}) (tt {0}) (tt {0})
        (multiply_fits i j d e f y hd he b c)).0
        ∙ subtract_fits i j d e x f y hd he a b c

-- ---- the operations of a row and of the table
divide_ops_fit : (i j d : ℕ) (p : Rational) (P : ℤ) (xs : List Rational) → IsPivot d p P → ((k : ℕ) → k < length xs → IsOver d (entry_of xs k))
    → answer entry_is_owed (divide_ops i j p xs) (tt {0}) ≡ Ok (tt {0})
unfolding divide_ops answer
divide_ops_fit i j d p P [] h o = refl
divide_ops_fit i j d p P (x ∷ xs) h o =
    (answer-append_ok entry_is_owed (divide_entry i j x p) (divide_ops i (j + 1) p xs) (tt {0}) (tt {0}) (tt {0})
    (divide_fits i j d p P x h (o 0 (omega arith)))).0
    ∙ divide_ops_fit i (j + 1) d p P xs h (λ k l. o (suc k) (omega arith))

rest_ops_fit : (r c w d e : ℕ) (new old xs : List Rational) (i j : ℕ) → IsScale d → IsScale e → ((k : ℕ) → IsOver d (entry_of old k))
    → ((k : ℕ) → IsOver e (entry_of new k)) → ((k : ℕ) → k < length xs → IsOver d (entry_of xs k))
    → answer entry_is_owed (rest_ops r c w new old xs i j) (tt {0}) ≡ Ok (tt {0})
unfolding rest_ops answer
rest_ops_fit r c w d e new old [] i j hd he a b o = refl
rest_ops_fit r c w d e new old (x ∷ xs) i j hd he a b o =
    (answer-append_ok entry_is_owed (cell_ops r i j x (entry_of old (i * w + c)) (entry_of new j))
    (rest_ops r c w new old xs (next_row w i j) (next_column w i j)) (tt {0}) (tt {0}) (tt {0})
    (cell_fits r i j d e x (entry_of old (i * w + c)) (entry_of new j) hd he (o 0 (omega arith)) (a (i * w + c)) (b j))).0
    ∙ rest_ops_fit r c w d e new old xs (next_row w i j) (next_column w i j) hd he a b (λ k l. o (suc k) (omega arith))

-- each entry of the new row is over the size of the pivot
divided_over : (d : ℕ) (p : Rational) (P : ℤ) (xs : List Rational) → IsPivot d p P → ((k : ℕ) → k < length xs → IsOver d (entry_of xs k)) → (k : ℕ)
    → IsOver (nat_abs P) (entry_of (divided_row p xs) k)
unfolding divided_row
divided_over d p P [] h o k = zero_over (nat_abs P) h.size.positive
divided_over d p P (x ∷ xs) h o zero = quotient_over d p P x h (o 0 (omega arith))
divided_over d p P (x ∷ xs) h o (suc k) = divided_over d p P xs h (λ k l. o (suc k) (omega arith)) k

taken_over : (d n : ℕ) (xs : List Rational) → ((k : ℕ) → IsOver d (entry_of xs k)) → (k : ℕ) → k < length (take n xs) → IsOver d (entry_of (take n xs) k)
taken_over d zero xs o k l = absurd (omega arith)
taken_over d (suc n) [] o k l = absurd (omega arith)
taken_over d (suc n) (x ∷ xs) o zero l = o 0
taken_over d (suc n) (x ∷ xs) o (suc k) l = taken_over d n xs (λ k. o (suc k)) k (omega arith)

row_over : (w r d : ℕ) (old : List Rational) → IsScale d → ((k : ℕ) → IsOver d (entry_of old k)) → (k : ℕ) → k < length (table_row w old r)
    → IsOver d (entry_of (table_row w old r) k)
row_over w r d old hd o =
    taken_over d ((r * w + w) - r * w) (drop (r * w) old)
    (λ k. subst (λ (x : Rational). IsOver d x) (sym (get_or-drop (r * w) old k (whole (pos 0)))) (o (r * w + k)))

pub row_divided_over : (w r c d : ℕ) (P : ℤ) (old : List Rational) → IsPivot d (entry_of old (r * w + c)) P → ((k : ℕ) → IsOver d (entry_of old k))
    → (k : ℕ) → IsOver (nat_abs P) (entry_of (pivot_row w old r c) k)
unfolding pivot_row
row_divided_over w r c d P old h o = divided_over d (entry_of old (r * w + c)) P (table_row w old r) h (row_over w r d old h.scale o)

pub nothing_owed : (w r c d : ℕ) (P : ℤ) (old : List Rational) → IsPivot d (entry_of old (r * w + c)) P → ((k : ℕ) → IsOver d (entry_of old k))
    → answer entry_is_owed (table_ops w old r c) (tt {0}) ≡ Ok (tt {0})
unfolding table_ops
nothing_owed w r c d P old h o =
    (answer-append_ok entry_is_owed (divide_ops r 0 (entry_of old (r * w + c)) (table_row w old r)) (rest_ops r c w (pivot_row w old r c) old old 0 0)
    (tt {0}) (tt {0}) (tt {0})
    (divide_ops_fit r 0 d (entry_of old (r * w + c)) P (table_row w old r) h (row_over w r d old h.scale o))).0
    ∙ rest_ops_fit r c w d (nat_abs P) (pivot_row w old r c) old old 0 0 h.scale h.size o (row_divided_over w r c d P old h o) (λ k l. o k)
