-- A slack as a loop over the columns makes it.
use Rattle.std.specs.Prelude.{◌≡◌, ◌≢◌, ℕ, ◌<◌, ◌≤◌, ◌+◌, ◌*◌, ◌^◌, ℤ, pos, ◌+ℤ◌, ◌≤ℤ◌, ◌<ℤ◌, neg_ℤ, nat_abs, int_lt, true, false, FitsSigned, ◌⊎◌}
use Rattle.std.specs.Int.{w128}
use Rattle.std.proofs.Common.{arith, to_z, of_z, sym, ◌∙◌, ap, inl, inr, subst}
use Rattle.std.proofs.lemmas.Int.{ints, to_z-of_z}
use Rattle.commutative_ring.proofs.Expand.{linear}
use Rattle.commutative_ring.proofs.SmallCases.{same_or_not}
use Rattle.exact_forms.specs.Sums.{sum_to}
use Rattle.exact_forms.specs.Slacks.{shortfall, slack}
use Rattle.unimodular_cone.specs.PartSlack.{beside, IsPartSlack}
use Rattle.exact_forms.proofs.Sums.{sum_to-zero, sum_to_more}
use Rattle.exact_forms.proofs.Slacks.{replaced_here, replaced_other, shortfall_of_negative, shortfall_of_nonneg}
use Rattle.unimodular_cone.proofs.Pairs.{test_true, test_false}

pub part_start : (g : ℕ → ℕ → ℤ) (i : ℕ) → nat_abs (g i i) ≤ 2 ^ 100 → IsPartSlack g i 0 (g i i)
part_start g i small = record {
  value = (let z : sum_to 0 (beside g i) ≡ pos 0 = sum_to-zero (beside g i) in omega (arith, linear));
  high = omega (arith, ints);
  low = omega (arith, ints);
}

pub part_added : (g : ℕ → ℕ → ℤ) (i j : ℕ) (left : ℤ) → IsPartSlack g i j left → j ≢ i → g i j <ℤ pos 0 → nat_abs (g i j) ≤ 2 ^ 100
    → IsPartSlack g i (j + 1) (left +ℤ g i j)
part_added g i j left p ne negative small =
    let more : sum_to (j + 1) (beside g i) ≡ sum_to j (beside g i) +ℤ beside g i j = sum_to_more j (beside g i) in
    let here : beside g i j ≡ neg_ℤ (g i j) = replaced_other (λ k. shortfall (g i k)) i (pos 0) j ne ∙ shortfall_of_negative (g i j) negative in
    let v : left +ℤ sum_to j (beside g i) ≡ g i i = p.value in
    let h : left ≤ℤ pos (2 ^ 100) = p.high in
    let l : neg_ℤ (pos (2 ^ 100 * (j + 1))) ≤ℤ left = p.low in
    record {
      value = omega (arith, linear);
      high = omega (arith, ints);
      low = omega (arith, ints);
    }

pub part_kept : (g : ℕ → ℕ → ℤ) (i j : ℕ) (left : ℤ) → IsPartSlack g i j left → ((j ≡ i) ⊎ (pos 0 ≤ℤ g i j)) → IsPartSlack g i (j + 1) left
part_kept g i j left p none =
    let more : sum_to (j + 1) (beside g i) ≡ sum_to j (beside g i) +ℤ beside g i j = sum_to_more j (beside g i) in
    let here : beside g i j ≡ pos 0 = nothing (same_or_not j i) none in
    let v : left +ℤ sum_to j (beside g i) ≡ g i i = p.value in
    let l : neg_ℤ (pos (2 ^ 100 * (j + 1))) ≤ℤ left = p.low in
    record {
      value = omega (arith, linear);
      high = p.high;
      low = omega (arith, ints);
    }
  where
    nothing : ((j ≡ i) ⊎ (j ≢ i)) → ((j ≡ i) ⊎ (pos 0 ≤ℤ g i j)) → beside g i j ≡ pos 0
    nothing (inl e) h = replaced_here (λ k. shortfall (g i k)) i (pos 0) j e
    nothing (inr ne) (inl e) = absurd (ne e)
    nothing (inr ne) (inr h) = replaced_other (λ k. shortfall (g i k)) i (pos 0) j ne ∙ shortfall_of_nonneg (g i j) h

pub part_whole : (g : ℕ → ℕ → ℤ) (i n : ℕ) (left : ℤ) → IsPartSlack g i n left → left ≡ slack n g i
unfolding slack
part_whole g i n left p = let v : left +ℤ sum_to n (beside g i) ≡ g i i = p.value in omega (arith, linear)

pub part_fits : (g : ℕ → ℕ → ℤ) (i j : ℕ) (left : ℤ) → IsPartSlack g i j left → j < 8 → nat_abs (g i j) ≤ 2 ^ 100 → FitsSigned w128 (left +ℤ g i j)
part_fits g i j left p few small =
    let h : left ≤ℤ pos (2 ^ 100) = p.high in
    let l : neg_ℤ (pos (2 ^ 100 * (j + 1))) ≤ℤ left = p.low in
    omega (arith, ints)

-- ---- as the code has them
-- a Gram entry that was read
pub read_back : (z y : ℤ) → z ≡ y → nat_abs y ≤ 2 ^ 100 → to_z w128 (of_z w128 z) ≡ y
read_back z y e small = let f : FitsSigned w128 z = omega (arith, ints) in to_z-of_z w128 z f ∙ e

pub part_back : (g : ℕ → ℕ → ℤ) (i j : ℕ) (left : ℤ) → IsPartSlack g i j left → j ≤ 8 → to_z w128 (of_z w128 left) ≡ left
part_back g i j left p few =
    let h : left ≤ℤ pos (2 ^ 100) = p.high in
    let l : neg_ℤ (pos (2 ^ 100 * (j + 1))) ≤ℤ left = p.low in
    let f : FitsSigned w128 left = omega (arith, ints) in
    to_z-of_z w128 left f

pub part_added_read : (g : ℕ → ℕ → ℤ) (i j : ℕ) (left y z : ℤ) → IsPartSlack g i j left → j < 8 → y ≡ g i j → nat_abs (g i j) ≤ 2 ^ 100 → j ≢ i
    → int_lt y (pos 0) ≡ true
    → z ≡ to_z w128 (of_z w128 (left +ℤ y)) → IsPartSlack g i (j + 1) z
part_added_read g i j left y z p few e small ne negative is =
    let sum : left +ℤ y ≡ left +ℤ g i j = ap (λ (w : ℤ). left +ℤ w) e in
    let back : to_z w128 (of_z w128 (left +ℤ g i j)) ≡ left +ℤ g i j = to_z-of_z w128 (left +ℤ g i j) (part_fits g i j left p few small) in
    subst (IsPartSlack g i (j + 1)) (sym (is ∙ ap (λ (w : ℤ). to_z w128 (of_z w128 w)) sum ∙ back))
    (part_added g i j left p ne (subst (λ (w : ℤ). w <ℤ pos 0) e (test_true y (pos 0) negative)) small)

pub part_kept_read : (g : ℕ → ℕ → ℤ) (i j : ℕ) (left y z : ℤ) → IsPartSlack g i j left → y ≡ g i j → ((j ≡ i) ⊎ (int_lt y (pos 0) ≡ false)) → z ≡ left
    → IsPartSlack g i (j + 1) z
part_kept_read g i j left y z p e none is = subst (IsPartSlack g i (j + 1)) (sym is) (part_kept g i j left p (by none))
  where
    by : ((j ≡ i) ⊎ (int_lt y (pos 0) ≡ false)) → (j ≡ i) ⊎ (pos 0 ≤ℤ g i j)
    by (inl h) = inl h
    by (inr h) = inr (subst (λ (w : ℤ). pos 0 ≤ℤ w) e (test_false y (pos 0) h))
