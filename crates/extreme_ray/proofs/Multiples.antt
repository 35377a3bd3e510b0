-- Two primitive matrices of which positive multiples agree are one.
use Rattle.std.specs.Prelude.{◌≡◌, ℕ, suc, ◌*◌, ◌/◌, ◌<◌, ℤ, pos, negsuc, neg_ℤ, nat_abs, ◌*ℤ◌, List, length, map, slice_index_or}
use Rattle.std.proofs.Common.{arith, sym, ◌∙◌, ap, subst}
use Rattle.std.proofs.lemmas.Int.{ints}
use Rattle.std.proofs.lemmas.List.{length-map, get_or-map, get_or_default}
use Rattle.std.proofs.Math.Nat.{dvd-mul_right, dvd_of_mul-dvd-mul_right}
use native.Mathlib.Nat.{div-mul_cancel, eq-one_of_dvd-one, one-mul}
use Prim.Native.Nat.{◌∣◌}
use Rattle.std.proofs.lemmas.Nat.Gcd.{dvd_antisymm}
use Rattle.commutative_ring.proofs.Expand.{mul_neg_ℤ}
use Rattle.commutative_ring.proofs.SmallCases.{at_least_one}
use Rattle.exact_linear.proofs.SquareLists.{product_is}
use Rattle.exact_forms.proofs.Order.{cancel_positive}
use Rattle.symmetric_matrix.specs.Divisors.{divisor_from, IsGreatestDivisor}
use Rattle.symmetric_matrix.proofs.Divisors.{divisor_is_greatest}

abs_product : (n : ℕ) (z : ℤ) → nat_abs (pos n *ℤ z) ≡ n * nat_abs z
abs_product n (pos m) = ap nat_abs (product_is n m)
abs_product n (negsuc m) = abs_opposite (pos n *ℤ pos (suc m)) (pos n *ℤ negsuc m) (mul_neg_ℤ (pos n) (pos (suc m))) ∙ ap nat_abs (product_is n (suc m))
  where
    abs_opposite : (x y : ℤ) → y ≡ neg_ℤ x → nat_abs y ≡ nat_abs x
    abs_opposite x y e = omega (arith, ints)

abbrev scaled : ℕ → List ℤ → List ℤ
scaled a ys = map (λ z. pos a *ℤ z) ys

scaled_at : (a : ℕ) (ys : List ℤ) (k : ℕ) (d : ℤ) → k < length ys → nat_abs (slice_index_or (scaled a ys) k d) ≡ a * nat_abs (slice_index_or ys k (pos 0))
scaled_at a ys k d l = ap nat_abs (get_or-map (λ (z : ℤ). pos a *ℤ z) ys k (pos 0) d l) ∙ abs_product a (slice_index_or ys k (pos 0))

-- a times numbers with no common divisor but 1 have the greatest common divisor a
scaled_divisor : (a : ℕ) (ys : List ℤ) → 0 < a → divisor_from 0 ys ≡ 1 → divisor_from 0 (scaled a ys) ≡ a
scaled_divisor a ys some primitive = by (divisor_from 0 (scaled a ys)) (divisor_is_greatest (scaled a ys))
  where
    long : length (scaled a ys) ≡ length ys
    long = length-map ys (λ (z : ℤ). pos a *ℤ z)

    swap : (m n : ℕ) → m * n ≡ n * m
    swap m n = omega arith

    by : (h : ℕ) → IsGreatestDivisor h (scaled a ys) → h ≡ a
    by h greatest =
        let a_divides : a ∣ h =
        greatest.greatest a (λ k d l. let s = long in rw (scaled_at a ys k d (omega arith)) (dvd-mul_right a (nat_abs (slice_index_or ys k (pos 0))))) in
        let whole : h / a * a ≡ h = div-mul_cancel a a_divides in
        let each : (k : ℕ) (d : ℤ) → k < length ys → h / a ∣ nat_abs (slice_index_or ys k d) =
        λ k d l. part h k d l whole (greatest.divides k (pos 0) (let s = long in omega arith)) in
        let one : h / a ≡ 1 = eq-one_of_dvd-one (subst (λ (n : ℕ). h / a ∣ n) primitive ((divisor_is_greatest ys).greatest (h / a) each)) in
        sym whole ∙ ap (λ (n : ℕ). n * a) one ∙ one-mul a
      where
        part : (h k : ℕ) (d : ℤ) → k < length ys → h / a * a ≡ h → h ∣ nat_abs (slice_index_or (scaled a ys) k (pos 0))
            → h / a ∣ nat_abs (slice_index_or ys k d)
        part h k d l whole e =
            dvd_of_mul-dvd-mul_right (h / a) some
            (subst (λ (n : ℕ). n ∣ nat_abs (slice_index_or ys k d) * a) (sym whole)
            (subst (λ (n : ℕ). h ∣ n) (scaled_at a ys k (pos 0) l ∙ swap a (nat_abs (slice_index_or ys k (pos 0)))
            ∙ ap (λ (z : ℤ). nat_abs z * a) (get_or_default ys k (pos 0) d l)) e))

-- where b·x = a·y, entry by entry, b divides a
divides : (a b : ℕ) (xs ys : List ℤ) → 0 < a → length xs ≡ length ys → divisor_from 0 ys ≡ 1
    → ((k : ℕ) → k < length ys → pos b *ℤ slice_index_or xs k (pos 0) ≡ pos a *ℤ slice_index_or ys k (pos 0)) → b ∣ a
divides a b xs ys some long primitive same =
    subst (λ (n : ℕ). b ∣ n) (scaled_divisor a ys some primitive)
    ((divisor_is_greatest (scaled a ys)).greatest b (λ k d l. at k d (let s = length-map ys (λ (z : ℤ). pos a *ℤ z) in omega arith)))
  where
    at : (k : ℕ) (d : ℤ) → k < length ys → b ∣ nat_abs (slice_index_or (scaled a ys) k d)
    at k d l =
        subst (λ (n : ℕ). b ∣ n) (sym (abs_product b (slice_index_or xs k (pos 0))) ∙ ap nat_abs (same k l) ∙ abs_product a (slice_index_or ys k (pos 0))
        ∙ sym (scaled_at a ys k d l))
        (dvd-mul_right b (nat_abs (slice_index_or xs k (pos 0))))

pub same_multiples : (a b : ℕ) (xs ys : List ℤ) → 0 < a → 0 < b → length xs ≡ length ys → divisor_from 0 xs ≡ 1 → divisor_from 0 ys ≡ 1
    → ((k : ℕ) → k < length ys → pos b *ℤ slice_index_or xs k (pos 0) ≡ pos a *ℤ slice_index_or ys k (pos 0)) → (k : ℕ) → k < length ys
    → slice_index_or xs k (pos 0) ≡ slice_index_or ys k (pos 0)
same_multiples a b xs ys some_a some_b long px py same k l =
    let equal : b ≡ a = dvd_antisymm (divides a b xs ys some_a long py same) (divides b a ys xs some_b (sym long) px (λ k l. sym (same k (omega arith)))) in
    cancel_positive (pos b) (slice_index_or xs k (pos 0)) (slice_index_or ys k (pos 0)) (at_least_one b some_b) (same k l
    ∙ ap (λ (n : ℕ). pos n *ℤ slice_index_or ys k (pos 0)) (sym equal))
