-- The scan of the pair rule.
use Rattle.std.specs.Prelude.{◌≡◌, ℕ, zero, suc, ◌<◌, ◌≤◌, ◌+◌, ◌-◌, ℤ, pos, ◌≤ℤ◌, ◌<ℤ◌, int_lt, FitsSigned, ltb, cond, Bool, true, false, Option, Some, None}
use Rattle.std.specs.Int.{w64, w128}
use Rattle.std.proofs.Common.{arith, to_z, of_z, sym, ◌∙◌, ap, ap₂, refl, subst}
use Rattle.std.proofs.lemmas.Int.{ints, to_z-of_z}
use Rattle.std.proofs.lemmas.Bool.Decides.{nat_tests}
use Rattle.commutative_ring.proofs.SmallCases.{at_most_of_less_ℤ}
use Rattle.unimodular_cone.specs.declared.pair_rule.Best.{Best}
use Rattle.unimodular_cone.specs.BestPair.{best_pair, IsBestOf, better_best}
use Rattle.unimodular_cone.specs.Cones.{Matrix, lesser_pair, best_in_row, best_in_rows, pair_of, IsPair}
use Rattle.unimodular_cone.specs.Shown.{ShownCone, shown_gram}
use Rattle.unimodular_cone.proofs.Pairs.{test_true, test_false, pair_of_some, pair_of_none}

less_true : (x y : ℤ) → x <ℤ y → int_lt x y ≡ true
less_true x y h = grind (arith, ints)

less_false : (x y : ℤ) → y ≤ℤ x → int_lt x y ≡ false
less_false x y h = grind (arith, ints)

below_trans : (x y z : ℤ) → x <ℤ y → y ≤ℤ z → x <ℤ z
below_trans x y z h k = omega (arith, ints)

-- one more entry
pub better_is_best : (g : Matrix) (b : Best) (z : ℤ) (i j : ℕ) → z ≡ g i j → IsBestOf g b → IsBestOf g (better_best b z i j)
better_is_best g b z i j e h = by (int_lt z b.value) refl
  where
    by : (t : Bool) → int_lt z b.value ≡ t → IsBestOf g (cond t (record { value = z; row = i; column = j }) b)
    by true f = record { at_most = at_most_of_less_ℤ z (pos 0) (below_trans z b.value (pos 0) (test_true z b.value f) h.at_most); entry = λ k. e }
    by false f = h

pub better_pair : (g : Matrix) (b : Best) (z : ℤ) (i j : ℕ) → z ≡ g i j → IsBestOf g b → best_pair (better_best b z i j) ≡ lesser_pair g (best_pair b) i j
better_pair g b z i j e h = by (int_lt b.value (pos 0)) refl
  where
    -- the best so far is none
    without : b.value ≡ pos 0 → (t : Bool) → int_lt z b.value ≡ t → best_pair (cond t (record { value = z; row = i; column = j }) b) ≡ cond t (Some (i, j)) None
    without none true f = ap (λ (w : Bool). cond w (Some (i, j)) None) (less_true z (pos 0) (subst (λ (w : ℤ). z <ℤ w) none (test_true z b.value f)))
    without none false f = ap (λ (w : ℤ). cond (int_lt w (pos 0)) (Some (b.row, b.column)) None) none

    with_one : b.value <ℤ pos 0 → (t : Bool) → int_lt z b.value ≡ t
        → best_pair (cond t (record { value = z; row = i; column = j }) b) ≡ cond t (Some (i, j)) (Some (b.row, b.column))
    with_one negative true f =
        ap (λ (w : Bool). cond w (Some (i, j)) None)
        (less_true z (pos 0) (below_trans z b.value (pos 0) (test_true z b.value f) (at_most_of_less_ℤ b.value (pos 0) negative)))
    with_one negative false f = ap (λ (w : Bool). cond w (Some (b.row, b.column)) None) (less_true b.value (pos 0) negative)

    at_zero : (x : ℤ) → x ≤ℤ pos 0 → pos 0 ≤ℤ x → x ≡ pos 0
    at_zero x a c = omega (arith, ints)

    by : (t : Bool) → int_lt b.value (pos 0) ≡ t → best_pair (better_best b z i j) ≡ lesser_pair g (cond t (Some (b.row, b.column)) None) i j
    by true f = let negative : b.value <ℤ pos 0 = test_true b.value (pos 0) f in
        with_one negative (int_lt z b.value) refl ∙ ap₂ (λ (x : ℤ) (y : ℤ). cond (int_lt x y) (Some (i, j)) (Some (b.row, b.column))) e (h.entry negative)
    by false f = let none : b.value ≡ pos 0 = at_zero b.value h.at_most (test_false b.value (pos 0) f) in
        without none (int_lt z b.value) refl ∙ ap₂ (λ (x : ℤ) (y : ℤ). cond (int_lt x y) (Some (i, j)) None) e none

-- ---- a row
pub row_start : (g : Matrix) (i j : ℕ) (b : Option (ℕ × ℕ)) → j ≤ i + 1 → best_in_row g i j b ≡ b
row_start g i zero b h = refl
row_start g i (suc j) b h = by (ltb i j) (grind (arith, nat_tests)) (row_start g i j b (omega arith))
  where
    by : (t : Bool) → t ≡ false → best_in_row g i j b ≡ b → cond t (lesser_pair g (best_in_row g i j b) i j) (best_in_row g i j b) ≡ b
    by true e f = (cc)
    by false e f = f

pub row_more : (g : Matrix) (i j : ℕ) (b : Option (ℕ × ℕ)) → i < j → best_in_row g i (j + 1) b ≡ lesser_pair g (best_in_row g i j b) i j
row_more g i j b h =
    let e : j + 1 ≡ suc j = omega arith in
    let t : ltb i j ≡ true = grind (arith, nat_tests) in
    ap (λ (w : ℕ). best_in_row g i w b) e ∙ ap (λ (w : Bool). cond w (lesser_pair g (best_in_row g i j b) i j) (best_in_row g i j b)) t

-- ---- the best so far, and the pair that it names
pub record IsBestSoFar (g : Matrix) (b : Best) (pair' : Option (ℕ × ℕ)) : Type 0 where
  pub best : IsBestOf g b
  pub pair : best_pair b ≡ pair'

pub best_more : (g : Matrix) (b b' : Best) (z : ℤ) (i j : ℕ) (before : Option (ℕ × ℕ)) → b' ≡ better_best b z i j → z ≡ g i j → i < j
    → IsBestSoFar g b (best_in_row g i j before) → IsBestSoFar g b' (best_in_row g i (j + 1) before)
best_more g b b' z i j before is e l h = record {
  best = subst (IsBestOf g) (sym is) (better_is_best g b z i j e h.best);
  pair = ap best_pair is ∙ better_pair g b z i j e h.best ∙ ap (λ (o : Option (ℕ × ℕ)). lesser_pair g o i j) h.pair ∙ sym (row_more g i j before l);
}

pub rows_more : (g : Matrix) (n i : ℕ) → best_in_rows g n (i + 1) ≡ best_in_row g i n (best_in_rows g n i)
rows_more g n i = let e : i + 1 ≡ suc i = omega arith in ap (best_in_rows g n) e

-- ---- the end
pub best_is_pair : (c : ShownCone) (n : ℕ) (b : Best) → n ≡ c.size → best_pair b ≡ best_in_rows (shown_gram c) n n → b.value <ℤ pos 0
    → IsPair c.size (shown_gram c) b.row b.column
unfolding pair_of
best_is_pair c n b e f negative = pair_of_some c.size (shown_gram c) b.row b.column
    (ap (λ (w : ℕ). best_in_rows (shown_gram c) w w) (sym e) ∙ sym f
    ∙ ap (λ (w : Bool). cond w (Some (b.row, b.column)) None) (less_true b.value (pos 0) negative))

pub best_is_none : (c : ShownCone) (n : ℕ) (b : Best) → n ≡ c.size → best_pair b ≡ best_in_rows (shown_gram c) n n → pos 0 ≤ℤ b.value → (k l : ℕ) → k < l
    → l < c.size → pos 0 ≤ℤ shown_gram c k l
unfolding pair_of
best_is_none c n b e f nonneg = pair_of_none c.size (shown_gram c)
    (ap (λ (w : ℕ). best_in_rows (shown_gram c) w w) (sym e) ∙ sym f
    ∙ ap (λ (w : Bool). cond w (Some (b.row, b.column)) None) (less_false b.value (pos 0) nonneg))

-- generators that are named by the numbers from 1
pub named_from_one : (n : ℕ) (g : Matrix) (i j : ℕ) → IsPair n g i j → IsPair n g (i + 1 - 1) (j + 1 - 1)
named_from_one n g i j p = let a : i + 1 - 1 ≡ i = omega arith in let b : j + 1 - 1 ≡ j = omega arith in rw (a, b) p

-- the test at the end
pub tested_negative : (z : ℤ) → FitsSigned w128 z → int_lt (to_z w128 (of_z w128 z)) (pos 0) ≡ true → z <ℤ pos 0
tested_negative z f t = test_true z (pos 0) (ap (λ (w : ℤ). int_lt w (pos 0)) (sym (to_z-of_z w128 z f)) ∙ t)

pub tested_not_negative : (z : ℤ) → FitsSigned w128 z → int_lt (to_z w128 (of_z w128 z)) (pos 0) ≡ false → pos 0 ≤ℤ z
tested_not_negative z f t = test_false z (pos 0) (ap (λ (w : ℤ). int_lt w (pos 0)) (sym (to_z-of_z w128 z f)) ∙ t)

pub tested_negative_64 : (z : ℤ) → FitsSigned w64 z → int_lt (to_z w64 (of_z w64 z)) (pos 0) ≡ true → z <ℤ pos 0
tested_negative_64 z f t = test_true z (pos 0) (ap (λ (w : ℤ). int_lt w (pos 0)) (sym (to_z-of_z w64 z f)) ∙ t)

pub tested_not_negative_64 : (z : ℤ) → FitsSigned w64 z → int_lt (to_z w64 (of_z w64 z)) (pos 0) ≡ false → pos 0 ≤ℤ z
tested_not_negative_64 z f t = test_false z (pos 0) (ap (λ (w : ℤ). int_lt w (pos 0)) (sym (to_z-of_z w64 z f)) ∙ t)
