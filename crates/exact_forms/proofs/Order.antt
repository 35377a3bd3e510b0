-- The order of ℤ and its products.
use Rattle.std.specs.Prelude.{◌≡◌, ◌≢◌, zero, suc, ℤ, pos, negsuc, ◌*ℤ◌, ◌-ℤ◌, ◌≤ℤ◌, ◌⊎◌}
use Rattle.std.proofs.Common.{arith, refl, inl, inr}
use lib.IntN.{*ℤ_comm}
use Rattle.std.proofs.lemmas.Int.{ints}
use Rattle.commutative_ring.proofs.Expand.{expand, linear}

pub nonneg_mul : (x y : ℤ) → pos 0 ≤ℤ x → pos 0 ≤ℤ y → pos 0 ≤ℤ (x *ℤ y)
nonneg_mul (pos a) (pos b) h k = omega (arith, ints)
nonneg_mul (pos a) (negsuc b) h k = absurd (omega (arith, ints))
nonneg_mul (negsuc a) y h k = absurd (omega (arith, ints))

pub nonneg_square : (x : ℤ) → pos 0 ≤ℤ (x *ℤ x)
nonneg_square (pos a) = omega (arith, ints)
nonneg_square (negsuc a) = omega (arith, ints)

pub mul_le_left : (c x y : ℤ) → pos 0 ≤ℤ c → x ≤ℤ y → (c *ℤ x) ≤ℤ (c *ℤ y)
mul_le_left c x y h k =
    let d : pos 0 ≤ℤ (y -ℤ x) = omega (arith, linear) in
    let e : pos 0 ≤ℤ (c *ℤ y -ℤ c *ℤ x) = simp expand at (nonneg_mul c (y -ℤ x) h d) in
    omega (arith, linear)

pub one_le_square : (x : ℤ) → x ≢ pos 0 → pos 1 ≤ℤ (x *ℤ x)
one_le_square (pos zero) h = absurd (h refl)
one_le_square (pos (suc a)) h = omega (arith, ints)
one_le_square (negsuc a) h = omega (arith, ints)

pub positive_mul : (x y : ℤ) → pos 1 ≤ℤ x → pos 1 ≤ℤ y → pos 1 ≤ℤ (x *ℤ y)
positive_mul (pos zero) y h k = absurd (omega (arith, ints))
positive_mul (pos (suc a)) (pos zero) h k = absurd (omega (arith, ints))
positive_mul (pos (suc a)) (pos (suc b)) h k = omega (arith, ints)
positive_mul (pos (suc a)) (negsuc b) h k = absurd (omega (arith, ints))
positive_mul (negsuc a) y h k = absurd (omega (arith, ints))

-- a positive factor is cancelled
pub le_of_mul_le_left : (c x y : ℤ) → pos 1 ≤ℤ c → (c *ℤ x) ≤ℤ (c *ℤ y) → x ≤ℤ y
le_of_mul_le_left c x y h k = by (split x y)
  where
    split : (x y : ℤ) → (x ≤ℤ y) ⊎ (pos 1 ≤ℤ (x -ℤ y))
    split x y = grind (arith, ints)

    by : ((x ≤ℤ y) ⊎ (pos 1 ≤ℤ (x -ℤ y))) → x ≤ℤ y
    by = elim [
      | inl e ↦ e
      | inr d ↦ absurd (let p : pos 1 ≤ℤ (c *ℤ x -ℤ c *ℤ y) = simp expand at (positive_mul c (x -ℤ y) h d) in omega (arith, linear))
    ]

-- ---- factors
pub no_zero_divisor : (x y : ℤ) → x ≢ pos 0 → x *ℤ y ≡ pos 0 → y ≡ pos 0
no_zero_divisor (pos zero) y ne e = absurd (ne refl)
no_zero_divisor (pos (suc a)) (pos zero) ne e = refl
no_zero_divisor (pos (suc a)) (pos (suc b)) ne e = absurd (omega (arith, ints))
no_zero_divisor (pos (suc a)) (negsuc b) ne e = absurd (omega (arith, ints))
no_zero_divisor (negsuc a) (pos zero) ne e = refl
no_zero_divisor (negsuc a) (pos (suc b)) ne e = absurd (omega (arith, ints))
no_zero_divisor (negsuc a) (negsuc b) ne e = absurd (omega (arith, ints))

pub positive_factor : (g x : ℤ) → pos 1 ≤ℤ g → pos 1 ≤ℤ (g *ℤ x) → pos 1 ≤ℤ x
positive_factor (pos g) (pos zero) h k = absurd (omega (arith, ints))
positive_factor (pos g) (pos (suc x)) h k = omega (arith, ints)
positive_factor (pos g) (negsuc x) h k = absurd (omega (arith, ints))
positive_factor (negsuc g) x h k = absurd (omega (arith, ints))

-- a positive factor of both sides
pub cancel_positive : (g x y : ℤ) → pos 1 ≤ℤ g → g *ℤ x ≡ g *ℤ y → x ≡ y
cancel_positive g x y h e =
    let d : g *ℤ (x -ℤ y) ≡ pos 0 = apart g x y e in
    let z : x -ℤ y ≡ pos 0 = no_zero_divisor g (x -ℤ y) (λ (s : g ≡ pos 0). absurd (omega (arith, ints))) d in
    omega (arith, linear)
  where
    apart : (g x y : ℤ) → g *ℤ x ≡ g *ℤ y → g *ℤ (x -ℤ y) ≡ pos 0
    apart g x y e = simp expand (omega (arith, linear, *ℤ_comm g x, *ℤ_comm g y))
