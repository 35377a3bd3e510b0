-- The order of rational numbers.
use Rattle.std.specs.Prelude.{◌≡◌, ◌⊎◌, ◌↔◌, ℕ, ◌*◌, ◌<◌, ℤ, pos, ◌+ℤ◌, ◌-ℤ◌, ◌*ℤ◌, ◌≤ℤ◌, ◌<ℤ◌, neg_ℤ, [], ◌∷◌}
use Rattle.std.proofs.Common.{arith, sym, ◌∙◌, ap, ap₂, refl, subst, mul-pos, inl, inr}
use Rattle.std.proofs.lemmas.Int.{ints}
use Rattle.commutative_ring.proofs.Expand.{expand, linear}
use Rattle.commutative_ring.proofs.Ring.{ring, ◌⊕◌, ◌⊗◌, neg, v0, v1, v2, v3}
use Rattle.commutative_ring.proofs.SmallCases.{at_least_one, at_most_itself_ℤ, both_at_most}
use Rattle.exact_forms.specs.Rational.{Rational, ratio, whole, ◌+ℚ◌, neg_ℚ, ◌≤ℚ◌, ◌<ℚ◌}
use Rattle.exact_forms.specs.Signs.{IsPositive, IsNonnegative}
use Rattle.exact_forms.proofs.Rational.{ring_ℚ, ratio_value, ratio_parts, ratio_same, den_positive, neg-ratio, add-ratio}
use Rattle.exact_forms.proofs.Order.{mul_le_left, le_of_mul_le_left, positive_mul}
use Rattle.exact_forms.proofs.Signs.{positive-ratio, nonneg-ratio, positive_add, nonneg_add}

-- n/k and p/d are one number, so they compare alike
carried : (n k m l p r d e : ℤ) → pos 1 ≤ℤ d → pos 1 ≤ℤ e → pos 1 ≤ℤ k → pos 1 ≤ℤ l
    → n *ℤ d ≡ p *ℤ k → m *ℤ e ≡ r *ℤ l → (n *ℤ l) ≤ℤ (m *ℤ k) → (p *ℤ e) ≤ℤ (r *ℤ d)
carried n k m l p r d e hd he hk hl h i le =
    let de : pos 1 ≤ℤ (d *ℤ e) = positive_mul d e hd he in
    let kl : pos 1 ≤ℤ (k *ℤ l) = positive_mul k l hk hl in
    let scaled : ((d *ℤ e) *ℤ (n *ℤ l)) ≤ℤ ((d *ℤ e) *ℤ (m *ℤ k)) = mul_le_left (d *ℤ e) (n *ℤ l) (m *ℤ k) (omega (arith, linear)) le in
    let left : (d *ℤ e) *ℤ (n *ℤ l) ≡ (k *ℤ l) *ℤ (p *ℤ e) =
    ring (n ∷ l ∷ d ∷ e ∷ []) (v2 ⊗ v3 ⊗ (v0 ⊗ v1)) (v0 ⊗ v2 ⊗ (v1 ⊗ v3)) refl ∙ ap (λ (w : ℤ). w *ℤ (l *ℤ e)) h
    ∙ ring (p ∷ k ∷ l ∷ e ∷ []) (v0 ⊗ v1 ⊗ (v2 ⊗ v3)) (v1 ⊗ v2 ⊗ (v0 ⊗ v3)) refl in
    let right : (d *ℤ e) *ℤ (m *ℤ k) ≡ (k *ℤ l) *ℤ (r *ℤ d) =
    ring (m ∷ k ∷ d ∷ e ∷ []) (v2 ⊗ v3 ⊗ (v0 ⊗ v1)) (v0 ⊗ v3 ⊗ (v1 ⊗ v2)) refl ∙ ap (λ (w : ℤ). w *ℤ (k *ℤ d)) i
    ∙ ring (r ∷ l ∷ k ∷ d ∷ []) (v0 ⊗ v1 ⊗ (v2 ⊗ v3)) (v2 ⊗ v1 ⊗ (v0 ⊗ v3)) refl in
    le_of_mul_le_left (k *ℤ l) (p *ℤ e) (r *ℤ d) kl (omega (arith, linear))

carried_back : (p r d e n m k l : ℤ) → pos 1 ≤ℤ d → pos 1 ≤ℤ e → pos 1 ≤ℤ k → pos 1 ≤ℤ l
    → n *ℤ d ≡ p *ℤ k → m *ℤ e ≡ r *ℤ l → (p *ℤ e) ≤ℤ (r *ℤ d) → (n *ℤ l) ≤ℤ (m *ℤ k)
carried_back p r d e n m k l hd he hk hl h i le = carried p d r e n m k l hk hl hd he (sym h) (sym i) le

pub le-ratio : (p r : ℤ) (d e : ℕ) → 0 < d → 0 < e → (ratio p d ≤ℚ ratio r e) ↔ ((p *ℤ pos e) ≤ℤ (r *ℤ pos d))
le-ratio p r d e hd he =
    let x : Rational = ratio p d in
    let y : Rational = ratio r e in
    let xd = at_least_one x.den (den_positive x) in
    let yd = at_least_one y.den (den_positive y) in
    let pd = at_least_one d hd in
    let pe = at_least_one e he in (
      λ h. carried x.num (pos x.den) y.num (pos y.den) p r (pos d) (pos e) pd pe xd yd (ratio_value p d hd) (ratio_value r e he) h.crosswise,
      λ h. record { crosswise = carried_back p r (pos d) (pos e) x.num y.num (pos x.den) (pos y.den) pd pe xd yd (ratio_value p d hd) (ratio_value r e he) h },
    )

below_or_at_least : (a b : ℤ) → (a <ℤ b) ⊎ (b ≤ℤ a)
below_or_at_least a b = grind (arith, ints)

pub lt_not_le : (x y : Rational) → x <ℚ y → y ≤ℚ x → ⊥
lt_not_le x y h k = let a = h.crosswise in let b = k.crosswise in omega (arith, ints)

pub lt_or_le : (x y : Rational) → (x <ℚ y) ⊎ (y ≤ℚ x)
lt_or_le x y = by (below_or_at_least (x.num *ℤ pos y.den) (y.num *ℤ pos x.den))
  where
    by : (((x.num *ℤ pos y.den) <ℤ (y.num *ℤ pos x.den)) ⊎ ((y.num *ℤ pos x.den) ≤ℤ (x.num *ℤ pos y.den))) → (x <ℚ y) ⊎ (y ≤ℚ x)
    by (inl h) = inl record { crosswise = h }
    by (inr h) = inr record { crosswise = h }

pub lt-ratio : (p r : ℤ) (d e : ℕ) → 0 < d → 0 < e → (ratio p d <ℚ ratio r e) ↔ ((p *ℤ pos e) <ℤ (r *ℤ pos d))
lt-ratio p r d e hd he = (
  λ h. there h (below_or_at_least (p *ℤ pos e) (r *ℤ pos d)),
  λ h. back h (lt_or_le (ratio p d) (ratio r e)),
)
  where
    there : ratio p d <ℚ ratio r e → (((p *ℤ pos e) <ℤ (r *ℤ pos d)) ⊎ ((r *ℤ pos d) ≤ℤ (p *ℤ pos e))) → (p *ℤ pos e) <ℤ (r *ℤ pos d)
    there h (inl l) = l
    there h (inr l) = absurd (lt_not_le (ratio p d) (ratio r e) h ((le-ratio r p e d he hd).1 l))

    back : (p *ℤ pos e) <ℤ (r *ℤ pos d) → ((ratio p d <ℚ ratio r e) ⊎ (ratio r e ≤ℚ ratio p d)) → ratio p d <ℚ ratio r e
    back h (inl l) = l
    back h (inr l) = absurd (let a = (le-ratio r p e d he hd).0 l in omega (arith, ints))

-- two fractions are equal exactly where the products crosswise are
pub same-ratio : (p r : ℤ) (d e : ℕ) → 0 < d → 0 < e → (ratio p d ≡ ratio r e) ↔ (p *ℤ pos e ≡ r *ℤ pos d)
same-ratio p r d e hd he = (
  λ h. both_at_most (p *ℤ pos e) (r *ℤ pos d) ((le-ratio p r d e hd he).0 (le_of_same h)) ((le-ratio r p e d he hd).0 (le_of_same (sym h))),
  ratio_same p r d e hd he,
)
  where
    le_of_same : {x y : Rational} → x ≡ y → x ≤ℚ y
    le_of_same {x} e = subst (λ z. x ≤ℚ z) e record { crosswise = at_most_itself_ℤ (x.num *ℤ pos x.den) }

-- ---- the order by the sign of the difference
cross_difference : (x y : Rational) → y +ℚ neg_ℚ x ≡ ratio (y.num *ℤ pos x.den -ℤ x.num *ℤ pos y.den) (y.den * x.den)
cross_difference x y =
    ap₂ (λ a b. a +ℚ neg_ℚ b) (sym (ratio_parts y)) (sym (ratio_parts x))
    ∙ ap (λ b. ratio y.num y.den +ℚ b) (neg-ratio x.num x.den (den_positive x))
    ∙ add-ratio y.num (neg_ℤ x.num) y.den x.den (den_positive y) (den_positive x)
    ∙ ap (λ (z : ℤ). ratio z (y.den * x.den)) (minus (y.num *ℤ pos x.den) x.num (pos y.den))
  where
    minus : (a b c : ℤ) → a +ℤ neg_ℤ b *ℤ c ≡ a -ℤ b *ℤ c
    minus a b c = simp expand

pub lt-positive : (x y : Rational) → (x <ℚ y) ↔ IsPositive (y +ℚ neg_ℚ x)
lt-positive x y =
    let d : 0 < y.den * x.den = mul-pos (den_positive y) (den_positive x) in
    let s = positive-ratio (y.num *ℤ pos x.den -ℤ x.num *ℤ pos y.den) (y.den * x.den) d in (
      λ h. subst IsPositive (sym (cross_difference x y)) (s.1 (let a = h.crosswise in omega (arith, linear))),
      λ h. record { crosswise = let a = s.0 (subst IsPositive (cross_difference x y) h) in omega (arith, linear) },
    )

pub le-nonneg : (x y : Rational) → (x ≤ℚ y) ↔ IsNonnegative (y +ℚ neg_ℚ x)
le-nonneg x y =
    let d : 0 < y.den * x.den = mul-pos (den_positive y) (den_positive x) in
    let s = nonneg-ratio (y.num *ℤ pos x.den -ℤ x.num *ℤ pos y.den) (y.den * x.den) d in (
      λ h. subst IsNonnegative (sym (cross_difference x y)) (s.1 (let a = h.crosswise in omega (arith, linear))),
      λ h. record { crosswise = let a = s.0 (subst IsNonnegative (cross_difference x y) h) in omega (arith, linear) },
    )

pub le_reflexive : (x : Rational) → x ≤ℚ x
le_reflexive x = record { crosswise = at_most_itself_ℤ (x.num *ℤ pos x.den) }

pub le_transitive : (x y z : Rational) → x ≤ℚ y → y ≤ℚ z → x ≤ℚ z
le_transitive x y z h k =
    (le-nonneg x z).1
    (subst IsNonnegative (ring_ℚ (z ∷ y ∷ x ∷ []) ((v0 ⊕ neg v1) ⊕ (v1 ⊕ neg v2)) (v0 ⊕ neg v2) refl)
    (nonneg_add (z +ℚ neg_ℚ y) (y +ℚ neg_ℚ x) ((le-nonneg y z).0 k) ((le-nonneg x y).0 h)))

pub lt_transitive : (x y z : Rational) → x <ℚ y → y ≤ℚ z → x <ℚ z
lt_transitive x y z h k =
    (lt-positive x z).1
    (subst IsPositive (ring_ℚ (y ∷ x ∷ z ∷ []) ((v0 ⊕ neg v1) ⊕ (v2 ⊕ neg v0)) (v2 ⊕ neg v1) refl)
    (positive_add (y +ℚ neg_ℚ x) (z +ℚ neg_ℚ y) ((lt-positive x y).0 h) ((le-nonneg y z).0 k)))

pub le_antisymmetric : (x y : Rational) → x ≤ℚ y → y ≤ℚ x → x ≡ y
le_antisymmetric x y h k =
    sym (ratio_parts x)
    ∙ ratio_same x.num y.num x.den y.den (den_positive x) (den_positive y) (both_at_most (x.num *ℤ pos y.den) (y.num *ℤ pos x.den) h.crosswise k.crosswise)
    ∙ ratio_parts y

pub lt_le : (x y : Rational) → x <ℚ y → x ≤ℚ y
lt_le x y h = record { crosswise = let a = h.crosswise in omega (arith, ints) }

pub le_total : (x y : Rational) → (x ≤ℚ y) ⊎ (y ≤ℚ x)
le_total x y = by (lt_or_le x y)
  where
    by : ((x <ℚ y) ⊎ (y ≤ℚ x)) → (x ≤ℚ y) ⊎ (y ≤ℚ x)
    by (inl h) = inl (lt_le x y h)
    by (inr h) = inr h

-- one of three
pub data Order (x y : Rational) : Type 0 where
  less : x <ℚ y → Order x y
  equal : x ≡ y → Order x y
  greater : y <ℚ x → Order x y

pub trichotomy : (x y : Rational) → Order x y
trichotomy x y = by (lt_or_le x y) (lt_or_le y x)
  where
    by : ((x <ℚ y) ⊎ (y ≤ℚ x)) → ((y <ℚ x) ⊎ (x ≤ℚ y)) → Order x y
    by (inl h) k = less h
    by (inr h) (inl k) = greater k
    by (inr h) (inr k) = equal (le_antisymmetric x y k h)

-- ---- whole numbers
pub le-whole : (a b : ℤ) → (whole a ≤ℚ whole b) ↔ (a ≤ℤ b)
unfolding whole
le-whole a b = (
  λ h. let k = (le-ratio a b 1 1 one_at_least one_at_least).0 h in omega (arith, ints),
  λ h. (le-ratio a b 1 1 one_at_least one_at_least).1 (omega (arith, ints)),
)
  where
    one_at_least : 0 < 1
    one_at_least = omega arith
