-- The coefficients of a row, and their numerators over the common denominator.
use Rattle.std.specs.Prelude.{◌≡◌, ℕ, zero, suc, ◌+◌, ◌*◌, ◌/◌, ◌<◌, ◌≤◌, ◌⊎◌, Bool, true, false, if◌then◌else◌, pos, ◌*ℤ◌, List, [], ◌∷◌, ◌++◌, length, get_or}
use Rattle.std.proofs.Common.{arith, sym, ◌∙◌, ap, ap₂, refl, subst, inl, inr, length-append, get_or-append-add}
use Rattle.std.proofs.Math.ListN.{get_or-append}
use Rattle.std.proofs.lemmas.List.FromFn.{length-map-range_with_len, get_or-map-range_with_len}
use Rattle.std.proofs.Math.Nat.{dvd-mul_right, div-mul_cancel}
use Rattle.std.proofs.lemmas.Nat.Gcd.{dvd_refl, dvd_trans}
use Prim.Native.Nat.{◌∣◌}
use Rattle.commutative_ring.specs.Gcd.{gcd_of}
use Rattle.commutative_ring.proofs.Lowest.{part_times, above_times, cross_parts}
use Rattle.commutative_ring.proofs.Ring.{num, ◌⊗◌, v0, v1, v2}
use Rattle.commutative_ring.proofs.SmallCases.{last_or_before}
use Rattle.exact_forms.specs.Rational.{Rational, whole, ◌*ℚ◌}
use Rattle.exact_forms.specs.Triangles.{triangle}
use Rattle.exact_forms.proofs.Rational.{den_positive, ring_ℚ, whole-mul}
use Rattle.exact_forms.proofs.Denominators.{den_times}
use Rattle.exact_forms.proofs.Triangles.{entry_before}
use Rattle.exact_linear.specs.Tables.{Table}
use Rattle.extreme_ray.specs.declared.clearing.Coefficient.{Coefficient}
use Rattle.extreme_ray.specs.Clearing.{factor, lifted, denominator_over, over_denominator, numerator, numerators}
use Rattle.extreme_ray.specs.Rays.{coefficient_at, row_coefficients, coefficients}
use Rattle.extreme_ray.proofs.Clearings.{lifted_some}

-- ---- the coefficients
pub length-coefficients : (t : Table) (r n : ℕ) → length (coefficients t r n) ≡ triangle n
unfolding coefficients triangle
length-coefficients t r zero = refl
length-coefficients t r (suc n) = length-append (coefficients t r n) (row_coefficients t r n)
    ∙ ap₂ (λ (a : ℕ) (b : ℕ). a + b) (length-coefficients t r n) (length-map-range_with_len (coefficient_at t r n) 0 (n + 1)
    ∙ (let e : n + 1 ≡ suc n = omega arith in e))

pub coefficient_is : (t : Table) (r n a b : ℕ) (d : Coefficient) → b ≤ a → a < n → get_or (coefficients t r n) (triangle a + b) d ≡ coefficient_at t r a b
unfolding coefficients
coefficient_is t r zero a b d h l = absurd (omega arith)
coefficient_is t r (suc n) a b d h l = by (last_or_before a n l) (λ m. coefficient_is t r n a b d h m)
  where
    by : ((a ≡ n) ⊎ (a < n)) → (a < n → get_or (coefficients t r n) (triangle a + b) d ≡ coefficient_at t r a b)
        → get_or (coefficients t r n ++ row_coefficients t r n) (triangle a + b) d ≡ coefficient_at t r a b
    by (inl e) rec =
        ap (λ (k : ℕ). get_or (coefficients t r n ++ row_coefficients t r n) (k + b) d) (ap triangle e ∙ sym (length-coefficients t r n))
        ∙ get_or-append-add (coefficients t r n) (row_coefficients t r n) b d
        ∙ get_or-map-range_with_len (coefficient_at t r n) 0 (n + 1) b b d (omega arith) (omega arith)
        ∙ ap (λ (a : ℕ). coefficient_at t r a b) (sym e)
    by (inr m) rec =
        let size = length-coefficients t r n in
        let before = entry_before a b n h m in
        get_or-append (coefficients t r n) (row_coefficients t r n) d (triangle a + b) (omega arith) ∙ rec m

-- ---- the numerators
pub length-numerators : (e : ℕ) (cs : List Coefficient) → length (numerators e cs) ≡ length cs
unfolding numerators
length-numerators e [] = refl
length-numerators e (c ∷ cs) = ap suc (length-numerators e cs)

pub numerators_at : (e : ℕ) (cs : List Coefficient) (k : ℕ) (d : Coefficient) → k < length cs → get_or (numerators e cs) k (pos 0) ≡ numerator e (get_or cs k d)
unfolding numerators
numerators_at e [] k d l = absurd (omega arith)
numerators_at e (c ∷ cs) zero d l = refl
numerators_at e (c ∷ cs) (suc k) d l = numerators_at e cs k d (omega arith)

-- ---- the common denominator
pub denominator_some : (e : ℕ) (cs : List Coefficient) → 0 < e → 0 < denominator_over e cs
unfolding denominator_over
denominator_some e [] h = h
denominator_some e (c ∷ cs) h = denominator_some (lifted e c) cs (lifted_some e c h)

den_divides : (e : ℕ) (c : Coefficient) → c.value.den ∣ lifted e c
den_divides e c = by c.value.den (den_positive c.value)
  where
    by : (d : ℕ) → 0 < d → d ∣ e * (d / gcd_of e d)
    by zero h = absurd (omega arith)
    by (suc d) h =
        subst (λ (n : ℕ). suc d ∣ n)
        (sym (cross_parts e (suc d) (e / gcd_of e (suc d)) (suc d / gcd_of e (suc d)) (gcd_of e (suc d)) (above_times e d) (part_times e d)))
        (dvd-mul_right (suc d) (e / gcd_of e (suc d)))

pub denominator_first : (e : ℕ) (cs : List Coefficient) → e ∣ denominator_over e cs
unfolding denominator_over
denominator_first e [] = dvd_refl e
denominator_first e (c ∷ cs) = dvd_trans e (dvd-mul_right e (factor e c)) (denominator_first (lifted e c) cs)

pub denominator_each : (e : ℕ) (cs : List Coefficient) (k : ℕ) (d : Coefficient) → k < length cs → (get_or cs k d).value.den ∣ denominator_over e cs
unfolding denominator_over
denominator_each e [] k d l = absurd (omega arith)
denominator_each e (c ∷ cs) zero d l = dvd_trans c.value.den (den_divides e c) (denominator_first (lifted e c) cs)
denominator_each e (c ∷ cs) (suc k) d l = denominator_each (lifted e c) cs k d (omega arith)

abbrev pub times_of : Bool → Rational
times_of b = if b then whole (pos 2) else whole (pos 1)

over_value : (e : ℕ) (c : Coefficient) → c.value.den ∣ e → whole (over_denominator e c) ≡ whole (pos e) *ℚ c.value
over_value e c h =
    let q : e / c.value.den * c.value.den ≡ e = div-mul_cancel c.value.den h in
    whole-mul c.value.num (pos (e / c.value.den))
    ∙ ap (λ w. w *ℚ whole (pos (e / c.value.den))) (sym (den_times c.value))
    ∙ ring_ℚ (whole (pos c.value.den) ∷ c.value ∷ whole (pos (e / c.value.den)) ∷ []) (v0 ⊗ v1 ⊗ v2) (v2 ⊗ v0 ⊗ v1) refl
    ∙ ap (λ w. w *ℚ c.value) (sym (whole-mul (pos (e / c.value.den)) (pos c.value.den)) ∙ ap (λ (n : ℕ). whole (pos n)) q)

pub numerator_value : (e : ℕ) (c : Coefficient) → c.value.den ∣ e → whole (numerator e c) ≡ whole (pos e) *ℚ (times_of c.diagonal *ℚ c.value)
unfolding numerator
numerator_value e c h = by c.diagonal
  where
    by : (b : Bool) → whole (if b then over_denominator e c *ℤ pos 2 else over_denominator e c) ≡ whole (pos e) *ℚ (times_of b *ℚ c.value)
    by true = whole-mul (over_denominator e c) (pos 2) ∙ ap (λ w. w *ℚ whole (pos 2)) (over_value e c h)
        ∙ ring_ℚ (whole (pos e) ∷ c.value ∷ whole (pos 2) ∷ []) (v0 ⊗ v1 ⊗ v2) (v0 ⊗ (v2 ⊗ v1)) refl
    by false = over_value e c h ∙ ring_ℚ (whole (pos e) ∷ c.value ∷ []) (v0 ⊗ v1) (v0 ⊗ (num (pos 1) ⊗ v1)) refl
