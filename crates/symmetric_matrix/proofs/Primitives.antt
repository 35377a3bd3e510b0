-- Matrices in primitive form.
use Rattle.std.specs.Prelude.{◌≡◌, ◌≢◌, ℕ, zero, suc, ◌*◌, ◌/◌, ◌<◌, ℤ, pos, nat_abs, ◌*ℤ◌, List, map, length, slice_index_or, min, max}
use Rattle.std.proofs.Common.{arith, sym, ◌∙◌, ap, refl, subst}
use Rattle.std.proofs.lemmas.List.{length-map, get_or-map}
use Rattle.std.proofs.Math.Nat.{dvd_of_mul-dvd-mul_right, mul-dvd-mul_right}
use native.Mathlib.Nat.{div-mul_cancel, div-le_self, zero-div, eq-one_of_dvd-one, one-mul}
use Prim.Native.Nat.{◌∣◌}
use lib.IntN.{*ℤ_comm}
use Rattle.commutative_ring.proofs.Lowest.{nat_abs-divided}
use Rattle.commutative_ring.specs.Gcd.{divided}
use Rattle.exact_forms.specs.Triangles.{triangle, entry_in}
use Rattle.exact_forms.proofs.Rational.{divided_times}
use Rattle.exact_forms.proofs.Triangles.{entry_in-map, entry_before}
use Rattle.symmetric_matrix.specs.Divisors.{divisor_from, IsGreatestDivisor}
use Rattle.symmetric_matrix.specs.Symmetric.{Symmetric, IsLower, FitsInt, entry}
use Rattle.symmetric_matrix.specs.Combining.{divisor_of, primitive_of}
use Rattle.symmetric_matrix.proofs.Divisors.{divisor_is_greatest}
use Rattle.symmetric_matrix.proofs.Places.{entry_sorted}

divided_zero : (g : ℕ) → divided (pos 0) g ≡ pos 0
divided_zero g = ap pos (zero-div g)

pub part_at : (xs : List ℤ) (g k : ℕ) (d : ℤ) → k < length xs → slice_index_or (map (λ z. divided z g) xs) k d ≡ divided (slice_index_or xs k (pos 0)) g
part_at xs g k d l = get_or-map (λ z. divided z g) xs k (pos 0) d l

-- parts of entries that fit do
pub parts_lower : (n g : ℕ) (xs : List ℤ) → IsLower n xs → IsLower n (map (λ z. divided z g) xs)
parts_lower n g xs h =
    let long : length (map (λ z. divided z g) xs) ≡ length xs = length-map xs (λ z. divided z g) in
    record {
      entries = long ∙ h.entries;
      fits = λ k l. small k (omega (arith, long));
    }
  where
    small : (k : ℕ) → k < length xs → FitsInt (slice_index_or (map (λ z. divided z g) xs) k (pos 0))
    small k l =
        let small = div-le_self (nat_abs (slice_index_or xs k (pos 0))) g in
        let whole = h.fits k l in
        rw (part_at xs g k (pos 0) l, nat_abs-divided) (omega arith)

-- the parts have no common divisor but 1
lowest_of : (xs : List ℤ) (g h : ℕ) → g ≢ 0 → IsGreatestDivisor g xs → IsGreatestDivisor h (map (λ z. divided z g) xs) → h ≡ 1
lowest_of xs g h some whole parts =
    eq-one_of_dvd-one
    (dvd_of_mul-dvd-mul_right h (positive g some) (subst (λ (m : ℕ). h * g ∣ m) (sym (one-mul g)) (whole.greatest (h * g) (λ k d l. at k d l))))
  where
    positive : (n : ℕ) → n ≢ 0 → 0 < n
    positive zero e = absurd (e refl)
    positive (suc n) e = omega arith

    at : (k : ℕ) (d : ℤ) → k < length xs → h * g ∣ nat_abs (slice_index_or xs k d)
    at k d l =
        let long : length (map (λ z. divided z g) xs) ≡ length xs = length-map xs (λ z. divided z g) in
        let part : h ∣ nat_abs (slice_index_or xs k d) / g =
        subst (λ (n : ℕ). h ∣ n) (ap nat_abs (get_or-map (λ z. divided z g) xs k d (pos 0) l)
        ∙ nat_abs-divided (slice_index_or xs k d) g) (parts.divides k (pos 0) (omega (arith, long))) in
        subst (λ (n : ℕ). h * g ∣ n) (div-mul_cancel g (whole.divides k d l)) (mul-dvd-mul_right h part g)

pub parts_lowest : (xs : List ℤ) → divisor_from 0 xs ≢ 0 → divisor_from 0 (map (λ z. divided z (divisor_from 0 xs)) xs) ≡ 1
parts_lowest xs some =
    lowest_of xs (divisor_from 0 xs) (divisor_from 0 (map (λ z. divided z (divisor_from 0 xs)) xs)) some (divisor_is_greatest xs)
    (divisor_is_greatest (map (λ z. divided z (divisor_from 0 xs)) xs))

-- ---- a matrix
pub primitive_is : (m : Symmetric) → record { size = m.size; lower = map (λ z. divided z (divisor_from 0 m.lower)) m.lower } ≡ primitive_of m
unfolding primitive_of
primitive_is m = refl

pub primitive_size : (m : Symmetric) → (primitive_of m).size ≡ m.size
unfolding primitive_of
primitive_size m = refl

pub primitive_lowest : (m : Symmetric) → divisor_of m ≢ 0 → divisor_of (primitive_of m) ≡ 1
unfolding primitive_of
primitive_lowest m some = parts_lowest m.lower some

pub primitive_entry : (m : Symmetric) (i j : ℕ) → entry (primitive_of m) i j ≡ divided (entry m i j) (divisor_of m)
unfolding primitive_of entry
primitive_entry m i j =
    ap (λ (z : ℤ). entry_at_zero z) (sym (divided_zero (divisor_of m))) ∙ entry_in-map (λ z. divided z (divisor_of m)) (pos 0) m.lower i j
  where
    entry_at_zero : ℤ → ℤ
    entry_at_zero z = entry_in z (map (λ z. divided z (divisor_of m)) m.lower) i j

-- the divisor times an entry of the primitive form is the entry
pub primitive_times : (m : Symmetric) (i j : ℕ) → length m.lower ≡ triangle m.size → i < m.size → j < m.size
    → pos (divisor_of m) *ℤ entry (primitive_of m) i j ≡ entry m i j
primitive_times m i j long li lj =
    ap (λ (z : ℤ). pos (divisor_of m) *ℤ z) (primitive_entry m i j)
    ∙ *ℤ_comm (pos (divisor_of m)) (divided (entry m i j) (divisor_of m))
    ∙ divided_times (entry m i j) (divisor_of m) (div-mul_cancel (divisor_of m) divides)
  where
    divides : divisor_of m ∣ nat_abs (entry m i j)
    divides = rw (entry_sorted m i j)
        ((divisor_is_greatest m.lower).divides _ (pos 0) (omega (arith, long, entry_before (max i j) (min i j) m.size (omega arith) (omega arith))))
