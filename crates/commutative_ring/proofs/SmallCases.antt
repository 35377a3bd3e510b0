-- Small cases of order and equality, for proofs by cases.
--
-- | of two natural numbers | |
-- |---|---|
-- | three_ways, below_or_not, at_least_or_below, at_least_or_at_most | how they stand to each other |
-- | same_or_not, apart_ways, zero_or_some, same_unless_apart, names_apart | whether they are the same |
-- | last_or_before, before_or_last, here_or_before, before_or_here | one below a successor: of suc n, and of n + 1 |
-- | next_or_within, same_or_below, here_or_after | one within a bound |
-- | below_unless_same, at_most_itself, zero_plus, mod_one, positive_product | order and arithmetic |
-- | same_of_test, test_of_same, test_of_apart | `nat_eq` as a test |
-- | below_of_test, at_most_of_test, at_least_of_test, test_of_below, test_of_at_least | `nat_lt` as a test |
-- | both_true, not_false, not_true, true_or_false, false_unless | tests in general |
--
-- | of integers | |
-- |---|---|
-- | at_most_itself_ℤ, at_most_trans_ℤ, at_most_of_less_ℤ, pos_less, less_self_ℤ, both_at_most | the order |
-- | zero_or_not, below_zero_or_not, low_or_positive | how one stands to 0 |
-- | positive_of_test, at_least_one, pos_abs, positive_abs | one that is at least 1 |
-- | nat_abs-neg, zero_within, minus_twice | arithmetic |
use Rattle.std.specs.Prelude.{◌≡◌, ◌≢◌, ◌⊎◌, ℕ, suc, ◌+◌, ◌*◌, ◌%◌, ◌<◌, ◌≤◌, nat_eq, nat_lt, Bool, true, false, not, ◌&&◌}
use Rattle.std.specs.Prelude.{ℤ, pos, negsuc, nat_abs, neg_ℤ, ◌-ℤ◌, ◌+ℤ◌, ◌*ℤ◌, ◌≤ℤ◌, ◌<ℤ◌, int_lt}
use Rattle.std.proofs.Common.{arith, refl, sym, inl, inr}
use Rattle.std.proofs.lemmas.Bool.Decides.{nat_tests}
use Rattle.std.proofs.lemmas.Int.{ints}
use Rattle.commutative_ring.proofs.Expand.{expand}

-- ---- how two numbers stand to each other
pub three_ways : (i j : ℕ) → (i < j) ⊎ ((i ≡ j) ⊎ (j < i))
three_ways i j = grind arith

pub below_or_not : (i n : ℕ) → (i < n) ⊎ (n ≤ i)
below_or_not i n = grind arith

pub at_least_or_below : (i j : ℕ) → (j ≤ i) ⊎ (i < j)
at_least_or_below i j = grind arith

pub at_least_or_at_most : (i j : ℕ) → (j ≤ i) ⊎ (i ≤ j)
at_least_or_at_most i j = grind arith

pub same_or_not : (i j : ℕ) → (i ≡ j) ⊎ (i ≢ j)
same_or_not i j = grind arith

pub apart_ways : (i j : ℕ) → i ≢ j → (i < j) ⊎ (j < i)
apart_ways i j n = grind arith

pub zero_or_some : (n : ℕ) → (n ≡ 0) ⊎ (0 < n)
zero_or_some n = grind arith

pub same_unless_apart : (i j : ℕ) → (i < j → ⊥) → (j < i → ⊥) → i ≡ j
same_unless_apart i j h k = by (three_ways i j)
  where
    by : ((i < j) ⊎ ((i ≡ j) ⊎ (j < i))) → i ≡ j
    by (inl l) = absurd (h l)
    by (inr (inl e)) = e
    by (inr (inr l)) = absurd (k l)

-- names that differ for a smaller place and a greater one differ for any two
pub names_apart : (name : ℕ → ℕ) (n : ℕ) → ((i j : ℕ) → i < j → j < n → name i ≢ name j)
    → (i j : ℕ) → i < n → j < n → i ≢ j → name i ≢ name j
names_apart name n h i j li lj ne e = by (apart_ways i j ne)
  where
    by : ((i < j) ⊎ (j < i)) → ⊥
    by (inl l) = h i j l lj e
    by (inr l) = h j i l li (sym e)

-- ---- one below a successor
pub last_or_before : (i n : ℕ) → i < suc n → (i ≡ n) ⊎ (i < n)
last_or_before i n l = grind arith

pub before_or_last : (i n : ℕ) → i < suc n → (i < n) ⊎ (i ≡ n)
before_or_last i n l = grind arith

pub here_or_before : (i n : ℕ) → i < n + 1 → (i ≡ n) ⊎ (i < n)
here_or_before i n l = grind arith

pub before_or_here : (i n : ℕ) → i < n + 1 → (i < n) ⊎ (i ≡ n)
before_or_here i n l = grind arith

-- ---- one within a bound
pub next_or_within : (i n : ℕ) → i ≤ suc n → (i ≡ suc n) ⊎ (i ≤ n)
next_or_within i n l = grind arith

pub same_or_below : (i n : ℕ) → i ≤ n → (i ≡ n) ⊎ (i < n)
same_or_below i n l = grind arith

pub here_or_after : (i n : ℕ) → i ≤ n → (n ≡ i) ⊎ (i + 1 ≤ n)
here_or_after i n l = grind arith

-- ---- order and arithmetic
pub below_unless_same : (i n : ℕ) → i ≤ n → i ≢ n → i < n
below_unless_same i n l ne = grind arith

pub at_most_itself : (n : ℕ) → n ≤ n
at_most_itself n = omega arith

pub zero_plus : (n : ℕ) → 0 + n ≡ n
zero_plus n = omega arith

pub mod_one : (n : ℕ) → n % 1 ≡ 0
mod_one n = omega arith

pub positive_product : (a b : ℕ) → 0 < a → 0 < b → 0 < a * b
positive_product a b h k = grind arith

-- ---- tests of two numbers
pub same_of_test : (i j : ℕ) → nat_eq i j ≡ true → i ≡ j
same_of_test i j t = grind arith

pub test_of_same : (i j : ℕ) → i ≡ j → nat_eq i j ≡ true
test_of_same i j e = grind arith

pub test_of_apart : (i j : ℕ) → i ≢ j → nat_eq i j ≡ false
test_of_apart i j n = grind arith

pub below_of_test : (i j : ℕ) → nat_lt i j ≡ true → i < j
below_of_test i j t = grind (arith, nat_tests)

pub at_most_of_test : (i j : ℕ) → nat_lt i j ≡ true → i ≤ j
at_most_of_test i j t = grind (arith, nat_tests)

pub at_least_of_test : (i j : ℕ) → nat_lt i j ≡ false → j ≤ i
at_least_of_test i j t = grind (arith, nat_tests)

pub test_of_below : (i j : ℕ) → i < j → nat_lt i j ≡ true
test_of_below i j l = grind (arith, nat_tests)

pub test_of_at_least : (i j : ℕ) → j ≤ i → nat_lt i j ≡ false
test_of_at_least i j l = grind (arith, nat_tests)

-- ---- tests in general
pub both_true : (a b : Bool) → (a && b) ≡ true → (a ≡ true) × (b ≡ true)
both_true true b t = (refl, t)
both_true false b t = absurd cc

pub not_false : (b : Bool) → not b ≡ false → b ≡ true
not_false true t = refl
not_false false t = absurd cc

pub not_true : (b : Bool) → not b ≡ true → b ≡ false
not_true true t = absurd cc
not_true false t = refl

pub true_or_false : (b : Bool) → (b ≡ true) ⊎ (b ≡ false)
true_or_false true = inl refl
true_or_false false = inr refl

pub false_unless : (b : Bool) → (b ≡ true → ⊥) → b ≡ false
false_unless true h = absurd (h refl)
false_unless false h = refl

-- ---- the order of integers
pub at_most_itself_ℤ : (z : ℤ) → z ≤ℤ z
at_most_itself_ℤ z = omega (arith, ints)

pub at_most_trans_ℤ : {x y z : ℤ} → x ≤ℤ y → y ≤ℤ z → x ≤ℤ z
at_most_trans_ℤ h k = omega (arith, ints)

pub pos_less : (m n : ℕ) → m < n → pos m <ℤ pos n
pos_less m n l = omega (arith, ints)

pub at_most_of_less_ℤ : (x y : ℤ) → x <ℤ y → x ≤ℤ y
at_most_of_less_ℤ x y l = omega (arith, ints)

pub less_self_ℤ : (z : ℤ) → z <ℤ z → ⊥
less_self_ℤ z l = omega (arith, ints)

pub both_at_most : (x y : ℤ) → x ≤ℤ y → y ≤ℤ x → x ≡ y
both_at_most x y h k = omega (arith, ints)

-- ---- an integer and 0
pub zero_or_not : (z : ℤ) → (z ≡ pos 0) ⊎ (z ≢ pos 0)
zero_or_not z = grind (arith, ints)

pub below_zero_or_not : (z : ℤ) → (z <ℤ pos 0) ⊎ (pos 0 ≤ℤ z)
below_zero_or_not z = grind (arith, ints)

pub low_or_positive : (z : ℤ) → (z ≤ℤ pos 0) ⊎ (pos 1 ≤ℤ z)
low_or_positive z = grind (arith, ints)

-- ---- an integer that is at least 1
pub positive_of_test : (z : ℤ) → int_lt (pos 0) z ≡ true → pos 1 ≤ℤ z
positive_of_test z t = grind (arith, ints)

pub at_least_one : (n : ℕ) → 0 < n → pos 1 ≤ℤ pos n
at_least_one n h = omega (arith, ints)

pub pos_abs : (z : ℤ) → pos 1 ≤ℤ z → pos (nat_abs z) ≡ z
pos_abs (pos n) h = refl
pos_abs (negsuc n) h = absurd (omega (arith, ints))

pub positive_abs : (z : ℤ) → pos 1 ≤ℤ z → 0 < nat_abs z
positive_abs z h = omega (arith, ints)

-- ---- arithmetic of integers
pub nat_abs-neg : (z : ℤ) → nat_abs (neg_ℤ z) ≡ nat_abs z
nat_abs-neg z = omega (arith, ints)

pub zero_within : (x y : ℤ) → x *ℤ (pos 0 *ℤ y) ≡ pos 0
zero_within x y = simp expand

pub minus_twice : (x y z : ℤ) → (x -ℤ y) -ℤ z ≡ x -ℤ (y +ℤ z)
minus_twice x y z = omega (arith, ints)
