-- The least of the first values, and codes.
use Rattle.std.specs.Prelude.{◌≡◌, ◌≢◌, ℕ, zero, suc, ◌<◌, ◌≤◌, ◌+◌, ◌-◌, ◌^◌, min, ℤ, pos, negsuc, ◌*ℤ◌, ◌≤ℤ◌, nat_abs, ◌⊎◌}
use Rattle.std.specs.Int.{int_min}
use Rattle.std.proofs.Common.{arith, sym, ◌∙◌, ap, refl, inl, inr, subst}
use Rattle.std.proofs.lemmas.Int.{ints, clamps}
use Rattle.commutative_ring.proofs.Laws.{zero_mul_ℤ, mul_zero_ℤ}
use Rattle.commutative_ring.proofs.Expand.{times_one}
use Rattle.exact_forms.specs.Forms.{bilinear}
use Rattle.exact_forms.proofs.Sums.{sum_to_one, sum_to_none}
use Rattle.exact_forms.proofs.Slacks.{replaced_here, replaced_other}
use Rattle.unimodular_cone.specs.Cones.{Matrix, Generators, value, unit_vectors}
use Rattle.unimodular_cone.specs.declared.Mode.{Mode}
use Rattle.unimodular_cone.specs.declared.Mode.TheVariants.{Sign, Least}
use Rattle.search_core.specs.Fair.{least_upto, code_of, start_of, bound_under}
use Rattle.search_core.specs.Fates.{least_value, least_diagonal}

pub least_upto_le : (n : ℕ) (f : ℕ → ℤ) (k : ℕ) → k ≤ n → least_upto n f ≤ℤ f k
least_upto_le zero f k l = let e : k ≡ 0 = omega arith in subst (λ (i : ℕ). f 0 ≤ℤ f i) (sym e) (omega (arith, ints))
least_upto_le (suc n) f k l = by (last k l) (least_upto_le n f)
  where
    last : (k : ℕ) → k ≤ suc n → (k ≤ n) ⊎ (k ≡ suc n)
    last k l = grind arith

    by : ((k ≤ n) ⊎ (k ≡ suc n)) → ((k : ℕ) → k ≤ n → least_upto n f ≤ℤ f k) → int_min (least_upto n f) (f (suc n)) ≤ℤ f k
    by (inl le) rec = let h : least_upto n f ≤ℤ f k = rec k le in omega (arith, ints, clamps)
    by (inr e) rec = subst (λ (i : ℕ). int_min (least_upto n f) (f (suc n)) ≤ℤ f i) (sym e) (omega (arith, ints, clamps))

pub least_upto_attained : (n : ℕ) (f : ℕ → ℤ) → (k : ℕ) × (k ≤ n) × (f k ≡ least_upto n f)
least_upto_attained zero f = (0, omega arith, refl)
least_upto_attained (suc n) f = by (either (least_upto n f) (f (suc n))) (least_upto_attained n f)
  where
    either : (x y : ℤ) → (int_min x y ≡ x) ⊎ (int_min x y ≡ y)
    either x y = grind (arith, ints)

    by : ((int_min (least_upto n f) (f (suc n)) ≡ least_upto n f) ⊎ (int_min (least_upto n f) (f (suc n)) ≡ f (suc n)))
        → ((k : ℕ) × (k ≤ n) × (f k ≡ least_upto n f))
        → (k : ℕ) × (k ≤ suc n) × (f k ≡ int_min (least_upto n f) (f (suc n)))
    by (inl e) (k, l, h) = (k, omega arith, h ∙ sym e)
    by (inr e) r = (suc n, omega arith, sym e)

pub least_value_le : (n : ℕ) (q : Matrix) (v : Generators) (k : ℕ) → k < n → least_value n q v ≤ℤ value n q v k
unfolding least_value
least_value_le n q v k l = least_upto_le (n - 1) (value n q v) k (omega arith)

pub least_value_attained : (n : ℕ) (q : Matrix) (v : Generators) → 0 < n → (k : ℕ) × (k < n) × (value n q v k ≡ least_value n q v)
unfolding least_value
least_value_attained n q v some = let r = least_upto_attained (n - 1) (value n q v) in let l : r.0 ≤ n - 1 = r.1 in (r.0, omega arith, r.2)

pub least_diagonal_le : (n : ℕ) (q : Matrix) (k : ℕ) → k < n → least_diagonal n q ≤ℤ q k k
unfolding least_diagonal
least_diagonal_le n q k l = least_upto_le (n - 1) (λ k. q k k) k (omega arith)

pub least_diagonal_attained : (n : ℕ) (q : Matrix) → 0 < n → (k : ℕ) × (k < n) × (q k k ≡ least_diagonal n q)
unfolding least_diagonal
least_diagonal_attained n q some = let r = least_upto_attained (n - 1) (λ k. q k k) in let l : r.0 ≤ n - 1 = r.1 in (r.0, omega arith, r.2)

-- ---- the root's values are the diagonal
pub root_value : (n : ℕ) (q : Matrix) (k : ℕ) → k < n → value n q unit_vectors k ≡ q k k
unfolding bilinear
root_value n q k l =
    sum_to_one n _ k l (λ i li ne. sum_to_none n _ (λ j lj. ap (λ (w : ℤ). q i j *ℤ (w *ℤ e j)) (off i ne) ∙ ap (λ (w : ℤ). q i j *ℤ w) (zero_mul_ℤ (e j))
    ∙ mul_zero_ℤ (q i j)))
    ∙ sum_to_one n _ k l (λ j lj ne. ap (λ (w : ℤ). q k j *ℤ (e k *ℤ w)) (off j ne) ∙ ap (λ (w : ℤ). q k j *ℤ w) (mul_zero_ℤ (e k)) ∙ mul_zero_ℤ (q k j))
    ∙ ap (λ (w : ℤ). q k k *ℤ (w *ℤ w)) (replaced_here (λ i. pos 0) k (pos 1) k refl)
    ∙ times_one (q k k)
  where
    e : ℕ → ℤ
    e = unit_vectors k

    off : (i : ℕ) → i ≢ k → unit_vectors k i ≡ pos 0
    off i ne = replaced_other (λ j. pos 0) i (pos 1) k (λ h. ne (sym h))

-- ---- codes of cones that are not low
pub code_not_low : (depth : ℕ) (z : ℤ) → pos 1 ≤ℤ z → code_of Least depth z ≡ min (256 + nat_abs z) (2 ^ 64 - 1)
code_not_low depth (pos zero) h = absurd (omega (arith, ints))
code_not_low depth (pos (suc z)) h = refl
code_not_low depth (negsuc z) h = absurd (omega (arith, ints))

pub start_not_low : (z : ℤ) → pos 1 ≤ℤ z → start_of Least z ≡ 256 + nat_abs z
start_not_low (pos zero) h = absurd (omega (arith, ints))
start_not_low (pos (suc z)) h = refl
start_not_low (negsuc z) h = absurd (omega (arith, ints))

pub start_is_large : (m : Mode) (z : ℤ) → 256 ≤ start_of m z
start_is_large Sign z = omega arith
start_is_large Least (pos zero) = omega arith
start_is_large Least (pos (suc z)) = omega arith
start_is_large Least (negsuc z) = omega arith

pub bound_at : (final : ℕ) (z : ℤ) → pos 1 ≤ℤ z → final ≡ 256 + nat_abs z → bound_under Least final ≡ z
bound_at final (pos zero) h e = absurd (omega (arith, ints))
bound_at final (pos (suc z)) h e = ap pos (omega arith)
bound_at final (negsuc z) h e = absurd (omega (arith, ints))

pub bound_within : (final : ℕ) (z : ℤ) → pos 1 ≤ℤ z → final ≤ 256 + nat_abs z → bound_under Least final ≤ℤ z
bound_within final (pos zero) h e = absurd (omega (arith, ints))
bound_within final (pos (suc z)) h e = omega (arith, ints)
bound_within final (negsuc z) h e = absurd (omega (arith, ints))

pub abs_le : (x y : ℤ) → pos 0 ≤ℤ x → x ≤ℤ y → nat_abs x ≤ nat_abs y
abs_le (pos x) (pos y) h k = omega (arith, ints)
abs_le (pos x) (negsuc y) h k = absurd (omega (arith, ints))
abs_le (negsuc x) y h k = absurd (omega (arith, ints))
