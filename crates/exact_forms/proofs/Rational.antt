-- Laws of rational numbers.
use Rattle.std.specs.Prelude.{◌≡◌, ◌≢◌, ℕ, zero, suc, ◌*◌, ◌/◌, ◌<◌, ℤ, pos, negsuc, neg_ℤ, nat_abs, ◌+ℤ◌, ◌-ℤ◌, ◌*ℤ◌, T, ltb, eqb, List, [], ◌∷◌}
use Rattle.std.proofs.Common.{arith, sym, ◌∙◌, ap, ap₂, refl, subst, ltb→lt, eqb→eq, mul-pos}
use Rattle.std.proofs.lemmas.Int.{ints, unsigned_abs-mul}
use lib.Dec.{T_prop}
use lib.IntN.{*ℤ_comm, +ℤ_comm}
use mathlib.Core.HLevel.{is_prop→PathP}
use Prim.Native.Nat.{◌∣◌}
use native.Mathlib.Nat.{dvd-mul_left, dvd_antisymm, mul_comm}
use Rattle.commutative_ring.specs.Gcd.{gcd_of, divided}
use Rattle.commutative_ring.proofs.Gcd.{dvd_of_dvd-mul}
use Rattle.commutative_ring.proofs.Lowest.{part_times, above_times}
use Rattle.commutative_ring.proofs.Laws.{neg_mul_ℤ}
use Rattle.commutative_ring.proofs.Expand.{expand, linear}
use Rattle.commutative_ring.proofs.Ring.{ring, ring_in, normal, expr_value, at, CommutativeRing, Expr, num, ◌⊕◌, ◌⊗◌, neg, v0, v1, v2, v3, v4, v5}
use Rattle.exact_forms.specs.Rational.{Rational, ratio, whole, ◌+ℚ◌, ◌*ℚ◌, ◌/ℚ◌, neg_ℚ, inverse}

-- the two numbers decide
pub same_parts : (x y : Rational) → x.num ≡ y.num → x.den ≡ y.den → x ≡ y
same_parts x y p q = λ i. record {
  num = p i;
  den = q i;
  positive = is_prop→PathP (λ i. T (ltb 0 (q i))) (λ i. T_prop (ltb 0 (q i))) x.positive y.positive i;
  lowest = is_prop→PathP (λ i. T (eqb (gcd_of (nat_abs (p i)) (q i)) 1)) (λ i. T_prop (eqb (gcd_of (nat_abs (p i)) (q i)) 1)) x.lowest y.lowest i;
}

pub den_positive : (x : Rational) → 0 < x.den
den_positive x = ltb→lt 0 x.den x.positive

pub num_den_lowest : (x : Rational) → gcd_of (nat_abs x.num) x.den ≡ 1
num_den_lowest x = eqb→eq _ 1 x.lowest

-- a positive factor is cancelled
no_zero_factor : (d : ℕ) (w : ℤ) → w *ℤ pos (suc d) ≡ pos 0 → w ≡ pos 0
no_zero_factor d (pos zero) e = refl
no_zero_factor d (pos (suc n)) e = absurd (omega (arith, ints))
no_zero_factor d (negsuc n) e = absurd (omega (arith, ints))

pub cancel_pos : (d : ℕ) (x y : ℤ) → 0 < d → x *ℤ pos d ≡ y *ℤ pos d → x ≡ y
cancel_pos zero x y p e = absurd (omega arith)
cancel_pos (suc d) x y p e =
    let w : x -ℤ y ≡ pos 0 = no_zero_factor d (x -ℤ y) (apart (pos (suc d)) x y e) in
    omega (arith, linear)
  where
    apart : (c x y : ℤ) → x *ℤ c ≡ y *ℤ c → (x -ℤ y) *ℤ c ≡ pos 0
    apart c x y e = simp expand (omega (arith, linear, *ℤ_comm x c, *ℤ_comm y c))

-- equal fractions in lowest terms are the same
pub same_rational : (x y : Rational) → x.num *ℤ pos y.den ≡ y.num *ℤ pos x.den → x ≡ y
same_rational x y e =
    let a : nat_abs x.num * y.den ≡ nat_abs y.num * x.den = sym (unsigned_abs-mul x.num (pos y.den)) ∙ ap nat_abs e ∙ unsigned_abs-mul y.num (pos x.den) in
    let to : x.den ∣ y.den = dvd_of_dvd-mul (nat_abs x.num) x.den y.den (num_den_lowest x) (rw a (dvd-mul_left x.den (nat_abs y.num))) in
    let from : y.den ∣ x.den = dvd_of_dvd-mul (nat_abs y.num) y.den x.den (num_den_lowest y) (rw (← a) (dvd-mul_left y.den (nat_abs x.num))) in
    let d : x.den ≡ y.den = dvd_antisymm to from in
    same_parts x y (cancel_pos y.den x.num y.num (den_positive y) (e ∙ ap (λ (n : ℕ). y.num *ℤ pos n) d)) d

-- ---- what `ratio` keeps
pub divided_times : (z : ℤ) (g : ℕ) → nat_abs z / g * g ≡ nat_abs z → divided z g *ℤ pos g ≡ z
divided_times (pos a) g e = ap pos e
divided_times (negsuc a) g e = neg_times (suc a / g) g ∙ ap (λ (n : ℕ). neg_ℤ (pos n)) e
  where
    neg_times : (q g : ℕ) → neg_ℤ (pos q) *ℤ pos g ≡ neg_ℤ (pos (q * g))
    neg_times q g = neg_mul_ℤ (pos q) (pos g)

-- p over d, and its lowest terms
pub ratio_value : (p : ℤ) (d : ℕ) → 0 < d → (ratio p d).num *ℤ pos d ≡ p *ℤ pos (ratio p d).den
unfolding ratio
ratio_value p zero h = absurd (omega arith)
ratio_value p (suc d) h =
    join (divided p (gcd_of (nat_abs p) (suc d))) p (pos (suc d / gcd_of (nat_abs p) (suc d))) (pos (gcd_of (nat_abs p) (suc d))) (pos (suc d))
    (divided_times p (gcd_of (nat_abs p) (suc d)) (above_times (nat_abs p) d))
    (ap pos (part_times (nat_abs p) d))
  where
    -- n·g = p and e·g = d, so n·d = p·e
    join : (n p e g d : ℤ) → n *ℤ g ≡ p → e *ℤ g ≡ d → n *ℤ d ≡ p *ℤ e
    join n p e g d h k = ap (λ (w : ℤ). n *ℤ w) (sym k) ∙ turn n e g ∙ ap (λ (w : ℤ). w *ℤ e) h
      where
        turn : (n e g : ℤ) → n *ℤ (e *ℤ g) ≡ (n *ℤ g) *ℤ e
        turn n e g = simp expand

pub ratio_parts : (x : Rational) → ratio x.num x.den ≡ x
ratio_parts x = same_rational (ratio x.num x.den) x (ratio_value x.num x.den (den_positive x))

pub ratio_same : (p r : ℤ) (d e : ℕ) → 0 < d → 0 < e → p *ℤ pos e ≡ r *ℤ pos d → ratio p d ≡ ratio r e
ratio_same p r d e hd he same =
    same_rational (ratio p d) (ratio r e)
    (cancel_pos d _ _ hd (cancel_pos e _ _ he
    (join (ratio p d).num (pos (ratio p d).den) (ratio r e).num (pos (ratio r e).den) p r (pos d) (pos e) (ratio_value p d hd) (ratio_value r e he) same)))
  where
    join : (n k m l p r d e : ℤ) → n *ℤ d ≡ p *ℤ k → m *ℤ e ≡ r *ℤ l → p *ℤ e ≡ r *ℤ d → ((n *ℤ l) *ℤ d) *ℤ e ≡ ((m *ℤ k) *ℤ d) *ℤ e
    join n k m l p r d e h i j =
        ring (n ∷ l ∷ d ∷ e ∷ []) (v0 ⊗ v1 ⊗ v2 ⊗ v3) (v0 ⊗ v2 ⊗ (v1 ⊗ v3)) refl
        ∙ ap (λ (w : ℤ). w *ℤ (l *ℤ e)) h
        ∙ ring (p ∷ k ∷ l ∷ e ∷ []) (v0 ⊗ v1 ⊗ (v2 ⊗ v3)) (v0 ⊗ v3 ⊗ (v1 ⊗ v2)) refl
        ∙ ap (λ (w : ℤ). w *ℤ (k *ℤ l)) j
        ∙ ring (r ∷ d ∷ k ∷ l ∷ []) (v0 ⊗ v1 ⊗ (v2 ⊗ v3)) (v0 ⊗ v3 ⊗ (v1 ⊗ v2)) refl
        ∙ ap (λ (w : ℤ). w *ℤ (d *ℤ k)) (sym i)
        ∙ ring (m ∷ e ∷ d ∷ k ∷ []) (v0 ⊗ v1 ⊗ (v2 ⊗ v3)) (v0 ⊗ v3 ⊗ v2 ⊗ v1) refl

-- what holds of each fraction holds of each rational number
pub by_ratio : (P : Rational → Type 0) → ((p : ℤ) (d : ℕ) → 0 < d → P (ratio p d)) → (x : Rational) → P x
by_ratio P h x = subst P (ratio_parts x) (h x.num x.den (den_positive x))

-- ---- the operations at fractions
-- both parts of a result, whatever fractions the operands were
at_fractions : (f : ℤ → ℤ → ℤ → ℤ → ℤ)
    → ((n k m l p r d e : ℤ) → n *ℤ d ≡ p *ℤ k → m *ℤ e ≡ r *ℤ l → f n k m l *ℤ (d *ℤ e) ≡ f p d r e *ℤ (k *ℤ l))
    → (p r : ℤ) (d e : ℕ) → 0 < d → 0 < e
    → ratio (f (ratio p d).num (pos (ratio p d).den) (ratio r e).num (pos (ratio r e).den)) ((ratio p d).den * (ratio r e).den)
    ≡ ratio (f p (pos d) r (pos e)) (d * e)
at_fractions f join p r d e hd he =
    let x : Rational = ratio p d in
    let y : Rational = ratio r e in
    ratio_same _ _ (x.den * y.den) (d * e) (mul-pos (den_positive x) (den_positive y)) (mul-pos hd he)
    (join x.num (pos x.den) y.num (pos y.den) p r (pos d) (pos e) (ratio_value p d hd) (ratio_value r e he))

pub add-ratio : (p r : ℤ) (d e : ℕ) → 0 < d → 0 < e → ratio p d +ℚ ratio r e ≡ ratio (p *ℤ pos e +ℤ r *ℤ pos d) (d * e)
unfolding ◌+ℚ◌
add-ratio = at_fractions (λ n k m l. n *ℤ l +ℤ m *ℤ k) join
  where
    join : (n k m l p r d e : ℤ) → n *ℤ d ≡ p *ℤ k → m *ℤ e ≡ r *ℤ l → (n *ℤ l +ℤ m *ℤ k) *ℤ (d *ℤ e) ≡ (p *ℤ e +ℤ r *ℤ d) *ℤ (k *ℤ l)
    join n k m l p r d e h i =
        ring (n ∷ k ∷ m ∷ l ∷ d ∷ e ∷ []) ((v0 ⊗ v3 ⊕ v2 ⊗ v1) ⊗ (v4 ⊗ v5)) (v0 ⊗ v4 ⊗ (v3 ⊗ v5) ⊕ v2 ⊗ v5 ⊗ (v1 ⊗ v4)) refl
        ∙ ap₂ (λ (a : ℤ) (b : ℤ). a *ℤ (l *ℤ e) +ℤ b *ℤ (k *ℤ d)) h i
        ∙ ring (p ∷ k ∷ r ∷ l ∷ d ∷ e ∷ []) (v0 ⊗ v1 ⊗ (v3 ⊗ v5) ⊕ v2 ⊗ v3 ⊗ (v1 ⊗ v4)) ((v0 ⊗ v5 ⊕ v2 ⊗ v4) ⊗ (v1 ⊗ v3)) refl

pub mul-ratio : (p r : ℤ) (d e : ℕ) → 0 < d → 0 < e → ratio p d *ℚ ratio r e ≡ ratio (p *ℤ r) (d * e)
unfolding ◌*ℚ◌
mul-ratio = at_fractions (λ n k m l. n *ℤ m) join
  where
    join : (n k m l p r d e : ℤ) → n *ℤ d ≡ p *ℤ k → m *ℤ e ≡ r *ℤ l → (n *ℤ m) *ℤ (d *ℤ e) ≡ (p *ℤ r) *ℤ (k *ℤ l)
    join n k m l p r d e h i =
        ring (n ∷ m ∷ d ∷ e ∷ []) (v0 ⊗ v1 ⊗ (v2 ⊗ v3)) (v0 ⊗ v2 ⊗ (v1 ⊗ v3)) refl
        ∙ ap₂ (λ (a : ℤ) (b : ℤ). a *ℤ b) h i
        ∙ ring (p ∷ k ∷ r ∷ l ∷ []) (v0 ⊗ v1 ⊗ (v2 ⊗ v3)) (v0 ⊗ v2 ⊗ (v1 ⊗ v3)) refl

pub neg-ratio : (p : ℤ) (d : ℕ) → 0 < d → neg_ℚ (ratio p d) ≡ ratio (neg_ℤ p) d
unfolding neg_ℚ
neg-ratio p d hd =
    let x : Rational = ratio p d in
    ratio_same (neg_ℤ x.num) (neg_ℤ p) x.den d (den_positive x) hd
    (neg_mul_ℤ x.num (pos d) ∙ ap neg_ℤ (ratio_value p d hd) ∙ sym (neg_mul_ℤ p (pos x.den)))

-- ---- a commutative ring
pub add_comm_ℚ : (x y : Rational) → x +ℚ y ≡ y +ℚ x
unfolding ◌+ℚ◌
add_comm_ℚ x y = ap₂ ratio (+ℤ_comm (x.num *ℤ pos y.den) (y.num *ℤ pos x.den)) (mul_comm x.den y.den)

pub mul_comm_ℚ : (x y : Rational) → x *ℚ y ≡ y *ℚ x
unfolding ◌*ℚ◌
mul_comm_ℚ x y = ap₂ ratio (*ℤ_comm x.num y.num) (mul_comm x.den y.den)

-- over a product of three denominators
over_three : (a b : ℤ) (d e f : ℕ) → 0 < d → 0 < e → 0 < f → a *ℤ pos (d * (e * f)) ≡ b *ℤ pos (d * e * f) → ratio a (d * e * f) ≡ ratio b (d * (e * f))
over_three a b d e f hd he hf h = ratio_same a b (d * e * f) (d * (e * f)) (mul-pos (mul-pos hd he) hf) (mul-pos hd (mul-pos he hf)) h

pub add_assoc_ℚ : (x y z : Rational) → (x +ℚ y) +ℚ z ≡ x +ℚ (y +ℚ z)
add_assoc_ℚ x y z =
    by_ratio (λ x. (x +ℚ y) +ℚ z ≡ x +ℚ (y +ℚ z)) (λ p d hd.
    by_ratio (λ y. (ratio p d +ℚ y) +ℚ z ≡ ratio p d +ℚ (y +ℚ z)) (λ r e he.
    by_ratio (λ z. (ratio p d +ℚ ratio r e) +ℚ z ≡ ratio p d +ℚ (ratio r e +ℚ z)) (λ s f hf. at_parts p r s d e f hd he hf) z) y) x
  where
    at_parts : (p r s : ℤ) (d e f : ℕ) → 0 < d → 0 < e → 0 < f → (ratio p d +ℚ ratio r e) +ℚ ratio s f ≡ ratio p d +ℚ (ratio r e +ℚ ratio s f)
    at_parts p r s d e f hd he hf =
        ap (λ w. w +ℚ ratio s f) (add-ratio p r d e hd he)
        ∙ add-ratio _ s (d * e) f (mul-pos hd he) hf
        ∙ over_three _ _ d e f hd he hf
        (ring (p ∷ r ∷ s ∷ pos d ∷ pos e ∷ pos f ∷ []) (((v0 ⊗ v4 ⊕ v1 ⊗ v3) ⊗ v5 ⊕ v2 ⊗ (v3 ⊗ v4)) ⊗ (v3 ⊗ (v4 ⊗ v5)))
        ((v0 ⊗ (v4 ⊗ v5) ⊕ (v1 ⊗ v5 ⊕ v2 ⊗ v4) ⊗ v3) ⊗ (v3 ⊗ v4 ⊗ v5)) refl)
        ∙ sym (add-ratio p _ d (e * f) hd (mul-pos he hf))
        ∙ ap (λ w. ratio p d +ℚ w) (sym (add-ratio r s e f he hf))

pub mul_assoc_ℚ : (x y z : Rational) → (x *ℚ y) *ℚ z ≡ x *ℚ (y *ℚ z)
mul_assoc_ℚ x y z =
    by_ratio (λ x. (x *ℚ y) *ℚ z ≡ x *ℚ (y *ℚ z)) (λ p d hd.
    by_ratio (λ y. (ratio p d *ℚ y) *ℚ z ≡ ratio p d *ℚ (y *ℚ z)) (λ r e he.
    by_ratio (λ z. (ratio p d *ℚ ratio r e) *ℚ z ≡ ratio p d *ℚ (ratio r e *ℚ z)) (λ s f hf. at_parts p r s d e f hd he hf) z) y) x
  where
    at_parts : (p r s : ℤ) (d e f : ℕ) → 0 < d → 0 < e → 0 < f → (ratio p d *ℚ ratio r e) *ℚ ratio s f ≡ ratio p d *ℚ (ratio r e *ℚ ratio s f)
    at_parts p r s d e f hd he hf =
        ap (λ w. w *ℚ ratio s f) (mul-ratio p r d e hd he)
        ∙ mul-ratio _ s (d * e) f (mul-pos hd he) hf
        ∙ over_three _ _ d e f hd he hf
        (ring (p ∷ r ∷ s ∷ pos d ∷ pos e ∷ pos f ∷ []) ((v0 ⊗ v1 ⊗ v2) ⊗ (v3 ⊗ (v4 ⊗ v5))) ((v0 ⊗ (v1 ⊗ v2)) ⊗ (v3 ⊗ v4 ⊗ v5)) refl)
        ∙ sym (mul-ratio p _ d (e * f) hd (mul-pos he hf))
        ∙ ap (λ w. ratio p d *ℚ w) (sym (mul-ratio r s e f he hf))

pub add_mul_ℚ : (x y z : Rational) → (x +ℚ y) *ℚ z ≡ x *ℚ z +ℚ y *ℚ z
add_mul_ℚ x y z =
    by_ratio (λ x. (x +ℚ y) *ℚ z ≡ x *ℚ z +ℚ y *ℚ z) (λ p d hd.
    by_ratio (λ y. (ratio p d +ℚ y) *ℚ z ≡ ratio p d *ℚ z +ℚ y *ℚ z) (λ r e he.
    by_ratio (λ z. (ratio p d +ℚ ratio r e) *ℚ z ≡ ratio p d *ℚ z +ℚ ratio r e *ℚ z) (λ s f hf. at_parts p r s d e f hd he hf) z) y) x
  where
    at_parts : (p r s : ℤ) (d e f : ℕ) → 0 < d → 0 < e → 0 < f → (ratio p d +ℚ ratio r e) *ℚ ratio s f ≡ ratio p d *ℚ ratio s f +ℚ ratio r e *ℚ ratio s f
    at_parts p r s d e f hd he hf =
        ap (λ w. w *ℚ ratio s f) (add-ratio p r d e hd he)
        ∙ mul-ratio _ s (d * e) f (mul-pos hd he) hf
        ∙ ratio_same _ _ (d * e * f) (d * f * (e * f)) (mul-pos (mul-pos hd he) hf) (mul-pos (mul-pos hd hf) (mul-pos he hf))
        (ring (p ∷ r ∷ s ∷ pos d ∷ pos e ∷ pos f ∷ []) ((v0 ⊗ v4 ⊕ v1 ⊗ v3) ⊗ v2 ⊗ (v3 ⊗ v5 ⊗ (v4 ⊗ v5)))
        ((v0 ⊗ v2 ⊗ (v4 ⊗ v5) ⊕ v1 ⊗ v2 ⊗ (v3 ⊗ v5)) ⊗ (v3 ⊗ v4 ⊗ v5)) refl)
        ∙ sym (add-ratio _ _ (d * f) (e * f) (mul-pos hd hf) (mul-pos he hf))
        ∙ ap₂ (λ v w. v +ℚ w) (sym (mul-ratio p s d f hd hf)) (sym (mul-ratio r s e f he hf))

one_positive : 0 < 1
one_positive = omega arith

pub zero_add_ℚ : (x : Rational) → whole (pos 0) +ℚ x ≡ x
unfolding whole
zero_add_ℚ x = by_ratio (λ x. whole (pos 0) +ℚ x ≡ x) (λ p d hd.
    add-ratio (pos 0) p 1 d one_positive hd
    ∙ ratio_same _ _ (1 * d) d (mul-pos one_positive hd) hd (ring (p ∷ pos d ∷ []) ((num (pos 0) ⊗ v1 ⊕ v0 ⊗ num (pos 1)) ⊗ v1) (v0 ⊗ (num (pos 1) ⊗ v1)) refl))
    x

pub one_mul_ℚ : (x : Rational) → whole (pos 1) *ℚ x ≡ x
unfolding whole
one_mul_ℚ x = by_ratio (λ x. whole (pos 1) *ℚ x ≡ x) (λ p d hd.
    mul-ratio (pos 1) p 1 d one_positive hd
    ∙ ratio_same _ _ (1 * d) d (mul-pos one_positive hd) hd (ring (p ∷ pos d ∷ []) (num (pos 1) ⊗ v0 ⊗ v1) (v0 ⊗ (num (pos 1) ⊗ v1)) refl)) x

pub zero_mul_ℚ : (x : Rational) → whole (pos 0) *ℚ x ≡ whole (pos 0)
unfolding whole
zero_mul_ℚ x = by_ratio (λ x. whole (pos 0) *ℚ x ≡ whole (pos 0)) (λ p d hd.
    mul-ratio (pos 0) p 1 d one_positive hd
    ∙ ratio_same _ _ (1 * d) 1 (mul-pos one_positive hd) one_positive
    (ring (p ∷ pos d ∷ []) (num (pos 0) ⊗ v0 ⊗ num (pos 1)) (num (pos 0) ⊗ (num (pos 1) ⊗ v1)) refl)) x

pub neg_is_mul_ℚ : (x : Rational) → neg_ℚ x ≡ whole (negsuc 0) *ℚ x
unfolding whole
neg_is_mul_ℚ x = by_ratio (λ x. neg_ℚ x ≡ whole (negsuc 0) *ℚ x) (λ p d hd.
    neg-ratio p d hd
    ∙ ratio_same _ _ d (1 * d) hd (mul-pos one_positive hd) (ring (p ∷ pos d ∷ []) (neg v0 ⊗ (num (pos 1) ⊗ v1)) (num (negsuc 0) ⊗ v0 ⊗ v1) refl)
    ∙ sym (mul-ratio (negsuc 0) p 1 d one_positive hd)) x

pub whole-add : (a b : ℤ) → whole (a +ℤ b) ≡ whole a +ℚ whole b
unfolding whole
whole-add a b =
    ratio_same _ _ 1 (1 * 1) one_positive (mul-pos one_positive one_positive)
    (ring (a ∷ b ∷ []) ((v0 ⊕ v1) ⊗ num (pos 1)) ((v0 ⊗ num (pos 1) ⊕ v1 ⊗ num (pos 1)) ⊗ num (pos 1)) refl)
    ∙ sym (add-ratio a b 1 1 one_positive one_positive)

pub whole-mul : (a b : ℤ) → whole (a *ℤ b) ≡ whole a *ℚ whole b
unfolding whole
whole-mul a b =
    ratio_same _ _ 1 (1 * 1) one_positive (mul-pos one_positive one_positive) (ring (a ∷ b ∷ []) (v0 ⊗ v1 ⊗ num (pos 1)) (v0 ⊗ v1 ⊗ num (pos 1)) refl)
    ∙ sym (mul-ratio a b 1 1 one_positive one_positive)

abbrev pub rational_ring : CommutativeRing Rational
rational_ring = record {
  of_int = whole;
  add = λ x y. x +ℚ y;
  mul = λ x y. x *ℚ y;
  neg = neg_ℚ;
  add_assoc = add_assoc_ℚ;
  add_comm = add_comm_ℚ;
  zero_add = zero_add_ℚ;
  mul_assoc = mul_assoc_ℚ;
  mul_comm = mul_comm_ℚ;
  one_mul = one_mul_ℚ;
  zero_mul = zero_mul_ℚ;
  add_mul = add_mul_ℚ;
  neg_is_mul = neg_is_mul_ℚ;
  of_int_add = whole-add;
  of_int_mul = whole-mul;
}

-- an identity of polynomials over ℚ
pub ring_ℚ : (xs : List Rational) (e f : Expr) → normal e ≡ normal f
    → expr_value rational_ring (at rational_ring xs) e ≡ expr_value rational_ring (at rational_ring xs) f
ring_ℚ xs e f same_form = ring_in rational_ring xs e f same_form

-- x - y = 0
pub same_by_difference : (x y : Rational) → x +ℚ whole (negsuc 0) *ℚ y ≡ whole (pos 0) → x ≡ y
same_by_difference x y e =
    ring_ℚ (x ∷ y ∷ []) v0 ((v0 ⊕ num (negsuc 0) ⊗ v1) ⊕ v1) refl ∙ ap (λ w. w +ℚ y) e ∙ ring_ℚ (y ∷ []) (num (pos 0) ⊕ v0) v0 refl

-- 1/x times x
pub mul-inverse : (x : Rational) → x ≢ whole (pos 0) → x *ℚ inverse x.num x.den ≡ whole (pos 1)
unfolding whole inverse
mul-inverse x ne = by x.num refl
  where
    by : (n : ℤ) → x.num ≡ n → x *ℚ inverse n x.den ≡ whole (pos 1)
    by (pos zero) e =
        absurd (ne (sym (ratio_parts x) ∙ ap (λ (n : ℤ). ratio n x.den) e
        ∙ ratio_same (pos 0) (pos 0) x.den 1 (den_positive x) one_positive (ring (pos x.den ∷ []) (num (pos 0) ⊗ num (pos 1)) (num (pos 0) ⊗ v0) refl)))
    by (pos (suc n)) e =
        ap (λ w. w *ℚ ratio (pos x.den) (suc n)) (sym (ratio_parts x) ∙ ap (λ (n : ℤ). ratio n x.den) e)
        ∙ mul-ratio (pos (suc n)) (pos x.den) x.den (suc n) (den_positive x) (omega arith)
        ∙ ratio_same _ _ (x.den * suc n) 1 (mul-pos (den_positive x) (omega arith)) one_positive
        (ring (pos (suc n) ∷ pos x.den ∷ []) (v0 ⊗ v1 ⊗ num (pos 1)) (num (pos 1) ⊗ (v1 ⊗ v0)) refl)
    by (negsuc n) e =
        ap (λ w. w *ℚ ratio (neg_ℤ (pos x.den)) (suc n)) (sym (ratio_parts x) ∙ ap (λ (n : ℤ). ratio n x.den) e)
        ∙ mul-ratio (negsuc n) (neg_ℤ (pos x.den)) x.den (suc n) (den_positive x) (omega arith)
        ∙ ratio_same _ _ (x.den * suc n) 1 (mul-pos (den_positive x) (omega arith)) one_positive
        (ring (pos (suc n) ∷ pos x.den ∷ []) (neg v0 ⊗ neg v1 ⊗ num (pos 1)) (num (pos 1) ⊗ (v1 ⊗ v0)) refl)

-- x/y times y
pub div-mul : (x y : Rational) → y ≢ whole (pos 0) → (x /ℚ y) *ℚ y ≡ x
unfolding ◌/ℚ◌
div-mul x y ne =
    ring_ℚ (x ∷ inverse y.num y.den ∷ y ∷ []) (v0 ⊗ v1 ⊗ v2) ((v2 ⊗ v1) ⊗ v0) refl
    ∙ ap (λ w. w *ℚ x) (mul-inverse y ne)
    ∙ one_mul_ℚ x

-- whole numbers differ as rational numbers
pub whole_same : (a b : ℤ) → whole a ≡ whole b → a ≡ b
unfolding whole
whole_same a b e =
    let one : 0 < 1 = omega arith in
    cancel_pos (ratio a 1).den a b (den_positive (ratio a 1))
    (sym (ratio_value a 1 one) ∙ ap (λ (x : Rational). x.num *ℤ pos 1) e ∙ ratio_value b 1 one ∙ ap (λ (x : Rational). b *ℤ pos x.den) (sym e))
