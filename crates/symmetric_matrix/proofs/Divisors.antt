-- Laws of greatest common divisors.
use Rattle.std.specs.Prelude.{◌≡◌, ℕ, zero, suc, ◌+◌, ◌<◌, ◌≤◌, ◌⊎◌, ℤ, pos, nat_abs, List, [], ◌∷◌, length, drop, slice_index_or}
use Rattle.std.specs.List.{All}
use Rattle.std.proofs.Common.{arith, ◌∙◌, ap, ap₂, refl, inl, inr, lt_of_le_of_lt, add-one, drop-cons, drop_of_length-le}
use Rattle.std.proofs.lemmas.Nat.Gcd.{dvd-zero, dvd_trans, dvd_refl}
use Prim.Native.Nat.{◌∣◌}
use native.Mathlib.Nat.{zero-mod}
use Rattle.commutative_ring.specs.Gcd.{gcd_of}
use Rattle.commutative_ring.proofs.Gcd.{gcd_of_is, gcd_of-le_left, gcd_of-zero, gcd_of-step}
use Rattle.commutative_ring.proofs.SmallCases.{zero_or_some}
use Rattle.symmetric_matrix.specs.Divisors.{divisor_from, IsGreatestDivisor}

-- a divisor of two numbers below a bound is below it
pub gcd_of_below : (a b w : ℕ) → a < w → b < w → gcd_of a b < w
gcd_of_below a b w ha hb = by (zero_or_some a)
  where
    by : ((a ≡ 0) ⊎ (0 < a)) → gcd_of a b < w
    by (inr p) = lt_of_le_of_lt (gcd_of-le_left a b p) ha
    by (inl e) =
        let swap : gcd_of a b ≡ b = ap (λ (n : ℕ). gcd_of n b) e ∙ gcd_of-step 0 b ∙ ap (λ (n : ℕ). gcd_of b n) (zero-mod b) ∙ gcd_of-zero b in
        rw swap hb

-- the divisor of two magnitudes, as it comes back from a call
pub gcd_of_abs : (g a b l r : ℕ) → g ≡ gcd_of a b → a ≡ l → b ≡ r → g ≡ gcd_of l r
gcd_of_abs g a b l r h e f = h ∙ ap₂ gcd_of e f

-- ---- the divisor of a list
pub divisor_more : (g : ℕ) (entries : List ℤ) (k : ℕ) → k < length entries
    → divisor_from g (drop k entries) ≡ divisor_from (gcd_of g (nat_abs (slice_index_or entries k (pos 0)))) (drop (k + 1) entries)
unfolding divisor_from
divisor_more g entries k h = rw (add-one, drop-cons entries k (pos 0)) refl

pub divisor_ends : (g : ℕ) (entries : List ℤ) (k : ℕ) → length entries ≤ k → divisor_from g (drop k entries) ≡ g
unfolding divisor_from
divisor_ends g entries k h = let e : drop k entries ≡ [] = drop_of_length-le entries {i = k} h in rw e refl

cons_all : (P : ℤ → Type 0) (z : ℤ) (zs : List ℤ) → P z → All P zs → All P (z ∷ zs)
cons_all P z zs h hs zero d l = h
cons_all P z zs h hs (suc k) d l = hs k d (omega arith)

head_of : (P : ℤ → Type 0) (z : ℤ) (zs : List ℤ) → All P (z ∷ zs) → P z
head_of P z zs h = h 0 z (omega arith)

tail_of : (P : ℤ → Type 0) (z : ℤ) (zs : List ℤ) → All P (z ∷ zs) → All P zs
tail_of P z zs h k d l = h (suc k) d (omega arith)

divides_start : (g : ℕ) (entries : List ℤ) → divisor_from g entries ∣ g
unfolding divisor_from
divides_start g [] = dvd_refl g
divides_start g (z ∷ rest) = dvd_trans (divisor_from (gcd_of g (nat_abs z)) rest) (divides_start (gcd_of g (nat_abs z)) rest) (gcd_of_is g (nat_abs z)).0

divides_all : (g : ℕ) (entries : List ℤ) → All (λ z. divisor_from g entries ∣ nat_abs z) entries
unfolding divisor_from
divides_all g [] = λ k d l. absurd (omega arith)
divides_all g (z ∷ rest) =
    cons_all (λ y. divisor_from (gcd_of g (nat_abs z)) rest ∣ nat_abs y) z rest
    (dvd_trans (divisor_from (gcd_of g (nat_abs z)) rest) (divides_start (gcd_of g (nat_abs z)) rest) (gcd_of_is g (nat_abs z)).1)
    (divides_all (gcd_of g (nat_abs z)) rest)

greatest_from : (g : ℕ) (entries : List ℤ) (d : ℕ) → d ∣ g → All (λ z. d ∣ nat_abs z) entries → d ∣ divisor_from g entries
unfolding divisor_from
greatest_from g [] d h hs = h
greatest_from g (z ∷ rest) d h hs =
    greatest_from (gcd_of g (nat_abs z)) rest d ((gcd_of_is g (nat_abs z)).2 d h (head_of (λ z. d ∣ nat_abs z) z rest hs))
    (tail_of (λ z. d ∣ nat_abs z) z rest hs)

pub divisor_is_greatest : (entries : List ℤ) → IsGreatestDivisor (divisor_from 0 entries) entries
divisor_is_greatest entries = record { divides = divides_all 0 entries; greatest = λ d h. greatest_from 0 entries d (dvd-zero d) h }
