-- Sums of narrow numbers, in 64 bits.
use Rattle.std.specs.Prelude.{◌≡◌, ◌⊎◌, ◌↔◌, ◌≤◌, ◌<◌, ◌^◌, ℕ, ℤ, pos, ◌+ℤ◌, nat_abs, FitsSigned, Bool, true, false, not, IsTrue, List, slice_index_or}
use Rattle.std.specs.Int.{w64, w128}
use Rattle.std.proofs.Common.{arith, to_z, of_z, sym, ap₂, refl, inl, inr, subst}
use Rattle.std.proofs.lemmas.Int.{ints, to_z-of_z}
use Rattle.unimodular_cone.specs.Mediant.{AreProducts}
use Rattle.unimodular_cone.specs.Narrow.{HasNarrowMediant}
use Rattle.unimodular_cone.specs.Shown.{ShownCone, shown_gram}
use Rattle.unimodular_cone.proofs.Limits.{int_swap}

small_fits : (a : ℤ) → nat_abs a ≤ 2 ^ 62 → FitsSigned w64 a
small_fits a h = omega (arith, ints)

-- a number that was read
pub read_64 : (z y : ℤ) → z ≡ y → nat_abs y ≤ 2 ^ 59 → to_z w64 (of_z w64 z) ≡ y
read_64 z y e h = rw e (to_z-of_z w64 y (small_fits y (omega arith)))

sum_small : (a b : ℤ) → nat_abs a ≤ 2 ^ 59 → nat_abs b ≤ 2 ^ 59 → nat_abs (a +ℤ b) ≤ 2 ^ 62
sum_small a b h k = omega (arith, ints)

-- one that was read in 128 bits before
pub read_from_128 : (z y : ℤ) → z ≡ y → nat_abs y ≤ 2 ^ 59 → to_z w64 (of_z w64 (to_z w128 (of_z w128 z))) ≡ y
read_from_128 z y e h = rw e (read_64 (to_z w128 (of_z w128 y)) y (to_z-of_z w128 y in_128) h)
  where
    in_128 : FitsSigned w128 y
    in_128 = omega (arith, ints)

-- two narrow numbers that were read, and their sum
pub sum_fits_64 : (x y a b : ℤ) → x ≡ a → y ≡ b → nat_abs a ≤ 2 ^ 59 → nat_abs b ≤ 2 ^ 59 → FitsSigned w64 (to_z w64 (of_z w64 x) +ℤ to_z w64 (of_z w64 y))
sum_fits_64 x y a b e f h k = rw (read_64 x a e h, read_64 y b f k) (small_fits (a +ℤ b) (sum_small a b h k))

pub sum_64 : (x y a b : ℤ) → x ≡ a → y ≡ b → nat_abs a ≤ 2 ^ 59 → nat_abs b ≤ 2 ^ 59
    → to_z w64 (of_z w64 (to_z w64 (of_z w64 x) +ℤ to_z w64 (of_z w64 y))) ≡ a +ℤ b
sum_64 x y a b e f h k = rw (read_64 x a e h, read_64 y b f k) (to_z-of_z w64 (a +ℤ b) (small_fits (a +ℤ b) (sum_small a b h k)))

-- the mediant of r and s is that of s and r
pub mediant_narrow_mirror : (c : ShownCone) (r s : ℕ) → HasNarrowMediant c r s → HasNarrowMediant c s r
mediant_narrow_mirror c r s h = record {
  products = λ k l. rw (int_swap (shown_gram c s k) (shown_gram c r k)) (h.products k l);
  square = rw (across (shown_gram c s s) (shown_gram c r s) (shown_gram c s r) (shown_gram c r r)) h.square;
}
  where
    across : (a b d e : ℤ) → (a +ℤ b) +ℤ (d +ℤ e) ≡ (e +ℤ d) +ℤ (b +ℤ a)
    across a b d e = omega (arith, ints)

-- ---- the test of a mediant's products
module _ (c : ShownCone) (r s : ℕ) (xs : List ℤ) (lr : r < c.size) (ls : s < c.size) (h : AreProducts c r s xs) where
  square : slice_index_or xs r (pos 0) +ℤ slice_index_or xs s (pos 0) ≡ (shown_gram c r r +ℤ shown_gram c s r) +ℤ (shown_gram c r s +ℤ shown_gram c s s)
  square = ap₂ (λ (a : ℤ) (b : ℤ). a +ℤ b) (h r lr) (h s ls)

  pub mediant_narrow : ((k : ℕ) → k < c.size → nat_abs (slice_index_or xs k (pos 0)) ≤ 2 ^ 59)
      → nat_abs (slice_index_or xs r (pos 0) +ℤ slice_index_or xs s (pos 0)) ≤ 2 ^ 59 → HasNarrowMediant c r s
  mediant_narrow all corner = record {
    products = λ k l. subst (λ (z : ℤ). nat_abs z ≤ 2 ^ 59) (h k l) (all k l);
    square = subst (λ (z : ℤ). nat_abs z ≤ 2 ^ 59) square corner;
  }

  pub square_narrow : HasNarrowMediant c r s → nat_abs (slice_index_or xs r (pos 0) +ℤ slice_index_or xs s (pos 0)) ≤ 2 ^ 59
  square_narrow m = subst (λ (z : ℤ). nat_abs z ≤ 2 ^ 59) (sym square) m.square

pub not_too_wide : (b : Bool) (n : ℕ) → (IsTrue b ↔ (2 ^ 59 < n)) → IsTrue (not b) → n ≤ 2 ^ 59
not_too_wide true n h t = absurd (cc)
not_too_wide false n h t = by (order n)
  where
    order : (n : ℕ) → (n ≤ 2 ^ 59) ⊎ (2 ^ 59 < n)
    order n = grind arith

    by : ((n ≤ 2 ^ 59) ⊎ (2 ^ 59 < n)) → n ≤ 2 ^ 59
    by (inl l) = l
    by (inr l) = let e : false ≡ true = h.1 l in absurd (cc)

pub is_not_too_wide : (b : Bool) (n : ℕ) → (IsTrue b ↔ (2 ^ 59 < n)) → n ≤ 2 ^ 59 → IsTrue (not b)
is_not_too_wide true n h l = let over : 2 ^ 59 < n = h.0 refl in absurd (omega arith)
is_not_too_wide false n h l = refl
