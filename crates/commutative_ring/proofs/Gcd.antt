-- The greatest common divisor: what it is, and that a divisor of a product that has nothing in common with one factor divides the other.
use Rattle.std.specs.Prelude.{◌≡◌, ℕ, zero, suc, ◌+◌, ◌*◌, ◌%◌, ◌/◌, ◌<◌, ◌≤◌}
use Rattle.std.proofs.Common.{refl, arith, ◌∙◌, ap, mod-lt}
use Rattle.std.specs.Int.{IsGcd}
use Rattle.std.proofs.lemmas.Nat.Gcd.{IsGcd-from_zero, IsGcd-from_mod, same_from_IsGcd, le_of_dvd, dvd-zero}
use Prim.Native.Nat.{◌∣◌}
use native.Mathlib.Nat.{div-add-mod', mul-add-mod_self_right, mod-eq_of_lt, mul-lt-mul_of_pos_right, dvd-mul_right, zero-mul, one-mul}
use Rattle.commutative_ring.specs.Gcd.{gcd_steps, gcd_of}

-- (a·c) mod (b·c) = (a mod b)·c
mul-mod-mul : (a b c : ℕ) → 0 < b → 0 < c → (a * c) % (b * c) ≡ (a % b) * c
mul-mod-mul a b c pb pc =
    let e : a / b * b + a % b ≡ a = div-add-mod' a b in
    let split : a * c ≡ a / b * (b * c) + (a % b) * c = spread (a / b) b (a % b) c e in
    rw split (mul-add-mod_self_right (a / b) (b * c) ((a % b) * c) ∙ mod-eq_of_lt (mul-lt-mul_of_pos_right (mod-lt a pb) pc))
  where
    spread : (q b r c : ℕ) → q * b + r ≡ a → a * c ≡ q * (b * c) + r * c
    spread q b r c e = let d : (q * b + r) * c ≡ a * c = ap (λ (n : ℕ). n * c) e in omega arith

-- the steps find the divisor, at any scale
gcd_steps_scaled : (k a b c : ℕ) → b ≤ k → 0 < c → IsGcd (a * c) (b * c) (gcd_steps k a b * c)
unfolding gcd_steps
gcd_steps_scaled zero a b c le pc = IsGcd-from_zero (a * c) (b * c) (let e : b ≡ 0 = omega arith in rw (e, zero-mul))
gcd_steps_scaled (suc k) a zero c le pc = IsGcd-from_zero (a * c) (0 * c) (zero-mul c)
gcd_steps_scaled (suc k) a (suc b) c le pc =
    let some : 0 < suc b = omega arith in
    let less : a % suc b < suc b = mod-lt a some in
    IsGcd-from_mod (a * c) (suc b * c) _
    (rw (mul-mod-mul a (suc b) c some pc) (gcd_steps_scaled k (suc b) (a % suc b) c (omega arith) pc))

pub gcd_of_scaled : (a b c : ℕ) → 0 < c → IsGcd (a * c) (b * c) (gcd_of a b * c)
unfolding gcd_of
gcd_of_scaled a b c pc = gcd_steps_scaled b a b c (omega arith) pc

pub gcd_of_is : (a b : ℕ) → IsGcd a b (gcd_of a b)
gcd_of_is a b = simp mul-one at (gcd_of_scaled a b 1 (omega arith))
  where
    mul-one : (n : ℕ) → n * 1 ≡ n
    mul-one n = omega arith

-- Gauss: if b divides a·c and has nothing in common with a, it divides c
pub dvd_of_dvd-mul : (a b c : ℕ) → gcd_of a b ≡ 1 → b ∣ a * c → b ∣ c
dvd_of_dvd-mul a b zero e h = dvd-zero b
dvd_of_dvd-mul a b (suc c) e h =
    let g : IsGcd (a * suc c) (b * suc c) (gcd_of a b * suc c) = gcd_of_scaled a b (suc c) (omega arith) in
    let d : b ∣ gcd_of a b * suc c = g.2 b h (dvd-mul_right b (suc c)) in
    rw (e, one-mul) at d

pub gcd_of-zero : (a : ℕ) → gcd_of a 0 ≡ a
gcd_of-zero a = same_from_IsGcd a 0 (gcd_of a 0) a (gcd_of_is a 0) (IsGcd-from_zero a 0 refl)

-- a step of Euclid's algorithm
pub gcd_of-step : (a b : ℕ) → gcd_of a b ≡ gcd_of b (a % b)
gcd_of-step a b = same_from_IsGcd a b (gcd_of a b) (gcd_of b (a % b)) (gcd_of_is a b) (IsGcd-from_mod a b (gcd_of b (a % b)) (gcd_of_is b (a % b)))

-- it is no greater than the number that it divides
pub gcd_of-le_left : (a b : ℕ) → 0 < a → gcd_of a b ≤ a
gcd_of-le_left a b h = le_of_dvd h (gcd_of_is a b).0

pub gcd_of-le_right : (a b : ℕ) → 0 < b → gcd_of a b ≤ b
gcd_of-le_right a b h = le_of_dvd h (gcd_of_is a b).1
