-- A common denominator of finitely many fractions.
use Rattle.std.specs.Prelude.{◌≡◌, ℕ, zero, suc, ◌*◌, ◌<◌, ℤ, pos, ◌*ℤ◌, ◌≤ℤ◌, ◌⊎◌, cond, eqb, [], ◌∷◌}
use Rattle.std.proofs.Common.{arith, sym, ◌∙◌, ap, ap₂, refl, inl, inr}
use Rattle.std.proofs.lemmas.Int.{ints}
use Rattle.commutative_ring.proofs.Ring.{◌⊗◌, v0, v1, v2}
use Rattle.commutative_ring.proofs.SmallCases.{last_or_before, same_or_not}
use Rattle.exact_forms.specs.Slacks.{replaced}
use Rattle.exact_forms.specs.Rational.{Rational, ratio, whole, ◌*ℚ◌}
use Rattle.exact_forms.proofs.Order.{positive_mul}
use Rattle.exact_forms.proofs.Rational.{ring_ℚ, ratio_parts, ratio_same, mul-ratio, whole-mul, den_positive}
use Rattle.exact_forms.proofs.Slacks.{replaced_here, replaced_other}

-- the denominator times the fraction is its numerator
pub den_times : (x : Rational) → whole (pos x.den) *ℚ x ≡ whole x.num
unfolding whole
den_times x =
    ap (λ y. ratio (pos x.den) 1 *ℚ y) (sym (ratio_parts x))
    ∙ mul-ratio (pos x.den) x.num 1 x.den (omega arith) (den_positive x)
    ∙ ratio_same (pos x.den *ℤ x.num) x.num (1 * x.den) 1 (let d = den_positive x in omega arith) (omega arith) (turn x.den x.num)
  where
    turn : (d : ℕ) (n : ℤ) → (pos d *ℤ n) *ℤ pos 1 ≡ n *ℤ pos (1 * d)
    turn d n = omega (arith, ints)

pub record HasCommonDenominator (m : ℕ) (f : ℕ → Rational) : Type 0 where
  pub common : ℤ
  pub whole_numbers : ℕ → ℤ
  pub positive : pos 1 ≤ℤ common
  pub same : (k : ℕ) → k < m → whole (whole_numbers k) ≡ whole common *ℚ f k

pub cleared : (m : ℕ) (f : ℕ → Rational) → HasCommonDenominator m f
cleared zero f = record { common = pos 1; whole_numbers = λ k. pos 0; positive = omega (arith, ints); same = λ k l. absurd (omega arith) }
cleared (suc m) f =
    let r = cleared m f in
    record {
      common = r.common *ℤ pos (f m).den;
      whole_numbers = replaced (λ k. r.whole_numbers k *ℤ pos (f m).den) m (r.common *ℤ (f m).num);
      positive = positive_mul r.common (pos (f m).den) r.positive (let d = den_positive (f m) in omega (arith, ints));
      same = λ k l. each r k (last_or_before k m l) (same_or_not k m);
    }
  where
    each : (r : HasCommonDenominator m f) (k : ℕ) → ((k ≡ m) ⊎ (k < m)) → ((k ≡ m) ⊎ ((k ≡ m) → ⊥))
        → whole (replaced (λ k. r.whole_numbers k *ℤ pos (f m).den) m (r.common *ℤ (f m).num) k) ≡ whole (r.common *ℤ pos (f m).den) *ℚ f k
    each r k s (inl e) =
        ap whole (replaced_here (λ k. r.whole_numbers k *ℤ pos (f m).den) m (r.common *ℤ (f m).num) k e)
        ∙ whole-mul r.common (f m).num
        ∙ ap (λ y. whole r.common *ℚ y) (sym (den_times (f m)))
        ∙ ring_ℚ (whole r.common ∷ whole (pos (f m).den) ∷ f m ∷ []) (v0 ⊗ (v1 ⊗ v2)) (v0 ⊗ v1 ⊗ v2) refl
        ∙ ap₂ (λ x y. x *ℚ y) (sym (whole-mul r.common (pos (f m).den))) (ap f (sym e))
    each r k (inl e) (inr n) = absurd (n e)
    each r k (inr l) (inr n) =
        ap whole (replaced_other (λ k. r.whole_numbers k *ℤ pos (f m).den) m (r.common *ℤ (f m).num) k n)
        ∙ whole-mul (r.whole_numbers k) (pos (f m).den)
        ∙ ap (λ y. y *ℚ whole (pos (f m).den)) (r.same k l)
        ∙ ring_ℚ (whole r.common ∷ whole (pos (f m).den) ∷ f k ∷ []) (v0 ⊗ v2 ⊗ v1) (v0 ⊗ v1 ⊗ v2) refl
        ∙ ap (λ y. y *ℚ f k) (sym (whole-mul r.common (pos (f m).den)))

-- of a square of fractions
pub record IsClearedSquare (n m : ℕ) (f : ℕ → ℕ → Rational) : Type 0 where
  pub common : ℤ
  pub whole_numbers : ℕ → ℕ → ℤ
  pub positive : pos 1 ≤ℤ common
  pub same : (i j : ℕ) → i < n → j < m → whole (whole_numbers i j) ≡ whole common *ℚ f i j

pub cleared_square : (n m : ℕ) (f : ℕ → ℕ → Rational) → IsClearedSquare n m f
cleared_square zero m f = record { common = pos 1; whole_numbers = λ i j. pos 0; positive = omega (arith, ints); same = λ i j li lj. absurd (omega arith) }
cleared_square (suc n) m f =
    let r = cleared_square n m f in
    let s = cleared m (f n) in
    record {
      common = r.common *ℤ s.common;
      whole_numbers = λ i j. cond (eqb i n) (r.common *ℤ s.whole_numbers j) (r.whole_numbers i j *ℤ s.common);
      positive = positive_mul r.common s.common r.positive s.positive;
      same = λ i j li lj. each r s i j lj (last_or_before i n li) (same_or_not i n);
    }
  where
    each : (r : IsClearedSquare n m f) (s : HasCommonDenominator m (f n)) (i j : ℕ) → j < m → ((i ≡ n) ⊎ (i < n)) → ((i ≡ n) ⊎ ((i ≡ n) → ⊥))
        → whole (cond (eqb i n) (r.common *ℤ s.whole_numbers j) (r.whole_numbers i j *ℤ s.common)) ≡ whole (r.common *ℤ s.common) *ℚ f i j
    each r s i j lj a (inl e) =
        ap whole (replaced_here (λ i. r.whole_numbers i j *ℤ s.common) n (r.common *ℤ s.whole_numbers j) i e)
        ∙ whole-mul r.common (s.whole_numbers j)
        ∙ ap (λ y. whole r.common *ℚ y) (s.same j lj)
        ∙ ring_ℚ (whole r.common ∷ whole s.common ∷ f n j ∷ []) (v0 ⊗ (v1 ⊗ v2)) (v0 ⊗ v1 ⊗ v2) refl
        ∙ ap₂ (λ x y. x *ℚ y) (sym (whole-mul r.common s.common)) (ap (λ (i : ℕ). f i j) (sym e))
    each r s i j lj (inl e) (inr k) = absurd (k e)
    each r s i j lj (inr l) (inr k) =
        ap whole (replaced_other (λ i. r.whole_numbers i j *ℤ s.common) n (r.common *ℤ s.whole_numbers j) i k)
        ∙ whole-mul (r.whole_numbers i j) s.common
        ∙ ap (λ y. y *ℚ whole s.common) (r.same i j l lj)
        ∙ ring_ℚ (whole r.common ∷ whole s.common ∷ f i j ∷ []) (v0 ⊗ v2 ⊗ v1) (v0 ⊗ v1 ⊗ v2) refl
        ∙ ap (λ y. y *ℚ f i j) (sym (whole-mul r.common s.common))
