-- A slack of a narrow cone as a loop over the columns makes it, in 64 bits.
use Rattle.std.specs.Prelude.{◌≡◌, ◌≢◌, ℕ, ◌<◌, ◌≤◌, ◌+◌, ◌*◌, ◌^◌, ℤ, pos, ◌+ℤ◌, ◌-ℤ◌, ◌≤ℤ◌, ◌<ℤ◌, neg_ℤ, nat_abs, int_lt, true, false, FitsSigned, ◌⊎◌}
use Rattle.std.specs.Int.{w64, w128}
use Rattle.std.proofs.Common.{arith, to_z, of_z, sym, ◌∙◌, ap, inl, inr, subst}
use Rattle.std.proofs.lemmas.Int.{ints, to_z-of_z}
use Rattle.exact_forms.specs.Sums.{sum_to}
use Rattle.exact_forms.specs.Slacks.{shortfall, slack, IsClosed}
use Rattle.exact_forms.proofs.Sums.{sum_to_nonneg}
use Rattle.exact_forms.proofs.Slacks.{same_or_not, replaced_here, replaced_other, shortfall_nonneg, slack_is_diagonal_less}
use Rattle.unimodular_cone.specs.PartSlack.{beside, IsPartSlack}
use Rattle.unimodular_cone.specs.Narrow.{IsNarrowPart}
use Rattle.unimodular_cone.proofs.Pairs.{test_true, test_false}
use Rattle.unimodular_cone.proofs.PartSlack.{part_start, part_added, part_kept, part_whole}

-- it is a part of a slack as of any cone
as_part : (g : ℕ → ℕ → ℤ) (i j : ℕ) (left : ℤ) → IsNarrowPart g i j left → IsPartSlack g i j left
as_part g i j left p =
    let h : left ≤ℤ pos (2 ^ 59) = p.high in
    let l : neg_ℤ (pos (2 ^ 59 * (j + 1))) ≤ℤ left = p.low in
    record { value = p.value; high = omega (arith, ints); low = omega (arith, ints) }

wider : (z : ℤ) → nat_abs z ≤ 2 ^ 59 → nat_abs z ≤ 2 ^ 100
wider z h = omega arith

pub narrow_start : (g : ℕ → ℕ → ℤ) (i : ℕ) → nat_abs (g i i) ≤ 2 ^ 59 → IsNarrowPart g i 0 (g i i)
narrow_start g i small = record {
  value = let p : IsPartSlack g i 0 (g i i) = part_start g i (wider (g i i) small) in p.value;
  high = omega (arith, ints);
  low = omega (arith, ints);
}

narrow_added : (g : ℕ → ℕ → ℤ) (i j : ℕ) (left : ℤ) → IsNarrowPart g i j left → j ≢ i → g i j <ℤ pos 0 → nat_abs (g i j) ≤ 2 ^ 59
    → IsNarrowPart g i (j + 1) (left +ℤ g i j)
narrow_added g i j left p ne negative small =
    let q : IsPartSlack g i (j + 1) (left +ℤ g i j) = part_added g i j left (as_part g i j left p) ne negative (wider (g i j) small) in
    let h : left ≤ℤ pos (2 ^ 59) = p.high in
    let l : neg_ℤ (pos (2 ^ 59 * (j + 1))) ≤ℤ left = p.low in
    record { value = q.value; high = omega (arith, ints); low = omega (arith, ints) }

pub narrow_kept : (g : ℕ → ℕ → ℤ) (i j : ℕ) (left : ℤ) → IsNarrowPart g i j left → ((j ≡ i) ⊎ (pos 0 ≤ℤ g i j)) → IsNarrowPart g i (j + 1) left
narrow_kept g i j left p none =
    let q : IsPartSlack g i (j + 1) left = part_kept g i j left (as_part g i j left p) none in
    let l : neg_ℤ (pos (2 ^ 59 * (j + 1))) ≤ℤ left = p.low in
    record { value = q.value; high = p.high; low = omega (arith, ints) }

pub narrow_whole : (g : ℕ → ℕ → ℤ) (i n : ℕ) (left : ℤ) → IsNarrowPart g i n left → left ≡ slack n g i
narrow_whole g i n left p = part_whole g i n left (as_part g i n left p)

-- ---- as the code has them
pub narrow_fits : (g : ℕ → ℕ → ℤ) (i j : ℕ) (left y : ℤ) → IsNarrowPart g i j left → j < 8 → nat_abs y ≤ 2 ^ 59 → FitsSigned w64 (left +ℤ y)
narrow_fits g i j left y p few small =
    let h : left ≤ℤ pos (2 ^ 59) = p.high in
    let l : neg_ℤ (pos (2 ^ 59 * (j + 1))) ≤ℤ left = p.low in
    omega (arith, ints)

pub narrow_back : (g : ℕ → ℕ → ℤ) (i j : ℕ) (left : ℤ) → IsNarrowPart g i j left → j ≤ 8 → to_z w64 (of_z w64 left) ≡ left
narrow_back g i j left p few =
    let h : left ≤ℤ pos (2 ^ 59) = p.high in
    let l : neg_ℤ (pos (2 ^ 59 * (j + 1))) ≤ℤ left = p.low in
    let f : FitsSigned w64 left = omega (arith, ints) in
    to_z-of_z w64 left f

pub narrow_added_read : (g : ℕ → ℕ → ℤ) (i j : ℕ) (left y z : ℤ) → IsNarrowPart g i j left → j < 8 → y ≡ g i j → nat_abs (g i j) ≤ 2 ^ 59 → j ≢ i
    → int_lt y (pos 0) ≡ true
    → z ≡ to_z w64 (of_z w64 (left +ℤ y)) → IsNarrowPart g i (j + 1) z
narrow_added_read g i j left y z p few e small ne negative is =
    let sum : left +ℤ y ≡ left +ℤ g i j = ap (λ (w : ℤ). left +ℤ w) e in
    let back : to_z w64 (of_z w64 (left +ℤ g i j)) ≡ left +ℤ g i j = to_z-of_z w64 (left +ℤ g i j) (narrow_fits g i j left (g i j) p few small) in
    subst (IsNarrowPart g i (j + 1)) (sym (is ∙ ap (λ (w : ℤ). to_z w64 (of_z w64 w)) sum ∙ back))
    (narrow_added g i j left p ne (subst (λ (w : ℤ). w <ℤ pos 0) e (test_true y (pos 0) negative)) small)

pub narrow_kept_read : (g : ℕ → ℕ → ℤ) (i j : ℕ) (left y z : ℤ) → IsNarrowPart g i j left → y ≡ g i j → int_lt y (pos 0) ≡ false → z ≡ left
    → IsNarrowPart g i (j + 1) z
narrow_kept_read g i j left y z p e none is =
    subst (IsNarrowPart g i (j + 1)) (sym is) (narrow_kept g i j left p (inr (subst (λ (w : ℤ). pos 0 ≤ℤ w) e (test_false y (pos 0) none))))

-- ---- no slack is above the value on the diagonal
pub beside_nonneg : (g : ℕ → ℕ → ℤ) (i k : ℕ) → pos 0 ≤ℤ beside g i k
beside_nonneg g i k = by (same_or_not k i)
  where
    by : ((k ≡ i) ⊎ (k ≢ i)) → pos 0 ≤ℤ beside g i k
    by (inl e) = rw (replaced_here (λ k. shortfall (g i k)) i (pos 0) k e) (omega (arith, ints))
    by (inr ne) = rw (replaced_other (λ k. shortfall (g i k)) i (pos 0) k ne) (shortfall_nonneg (g i k))

pub not_closed_above : (n : ℕ) (g : ℕ → ℕ → ℤ) (b : ℤ) → 0 < n → nat_abs (g 0 0) ≤ 2 ^ 59 → pos (2 ^ 59) <ℤ b → ¬ IsClosed n g b
not_closed_above n g b some small above closed =
    let at_least : b ≤ℤ slack n g 0 = closed 0 some in
    let is : slack n g 0 ≡ g 0 0 -ℤ sum_to n (beside g 0) = slack_is_diagonal_less n g 0 in
    let nonneg : pos 0 ≤ℤ sum_to n (beside g 0) = sum_to_nonneg n (beside g 0) (λ k l. beside_nonneg g 0 k) in
    omega (arith, ints)

-- a bound that was read
pub above_read : (b : ℤ) → FitsSigned w128 b → int_lt (pos (2 ^ 59)) (to_z w128 (of_z w128 b)) ≡ true → pos (2 ^ 59) <ℤ b
above_read b f t = test_true (pos (2 ^ 59)) b (ap (λ (w : ℤ). int_lt (pos (2 ^ 59)) w) (sym (to_z-of_z w128 b f)) ∙ t)
