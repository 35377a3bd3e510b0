-- The slacks of a cone's child, by the slacks of the cone: the mediant of r and s takes the place of r.
use Rattle.std.specs.Prelude.{◌≡◌, ◌≢◌, ◌⊎◌, ℕ, zero, suc, ◌<◌, ◌≤◌, ◌+◌, ◌*◌, ◌^◌, ℤ, pos, negsuc, ◌+ℤ◌, ◌-ℤ◌, ◌≤ℤ◌, neg_ℤ, nat_abs, cond, eqb, FitsSigned}
use Rattle.std.specs.Int.{w64}
use Rattle.std.proofs.Common.{arith, to_z, of_z, sym, ◌∙◌, ap, ap₂, refl, inl, inr}
use Rattle.std.proofs.lemmas.Int.{ints, to_z-of_z}
use Rattle.commutative_ring.proofs.Expand.{linear}
use Rattle.exact_forms.specs.Sums.{sum_to}
use Rattle.exact_forms.specs.Slacks.{shortfall, slack}
use Rattle.exact_forms.proofs.Sums.{sum_to-zero, sum_to-suc, sum_to_more, sum_to_but_one, sum_to_nonneg}
use Rattle.exact_forms.proofs.Slacks.{same_or_not, replaced_here, replaced_other, shortfall_nonneg, slack_is_diagonal_less}
use Rattle.unimodular_cone.specs.Cones.{Matrix, child_gram}
use Rattle.unimodular_cone.specs.PartSlack.{beside}
use Rattle.unimodular_cone.proofs.Additions.{child_gram_other, child_gram_row, child_gram_column}
use Rattle.unimodular_cone.proofs.NarrowParts.{beside_nonneg}
use Rattle.unimodular_cone.proofs.NarrowSums.{read_64}

-- the shortfall of the mediant's product with a generator
abbrev pub short : Matrix → ℕ → ℕ → ℕ → ℤ
short g r s k = shortfall (g r k +ℤ g s k)

module _ (n : ℕ) (g : Matrix) (r s : ℕ) (lr : r < n) where
  -- ---- the law of a child's slacks
  pub slack_of_mediant : slack n (child_gram g r s) r ≡ (child_gram g r s r r -ℤ sum_to n (short g r s)) +ℤ short g r s r
  slack_of_mediant =
      let d : Matrix = child_gram g r s in
      let is : slack n d r ≡ d r r -ℤ sum_to n (beside d r) = slack_is_diagonal_less n d r in
      let one : sum_to n (beside d r) +ℤ short g r s r ≡ sum_to n (short g r s) +ℤ beside d r r =
      sum_to_but_one n (beside d r) (short g r s) r lr
      (λ k l ne. replaced_other (λ j. shortfall (d r j)) r (pos 0) k ne ∙ ap shortfall (child_gram_row g r s k ne)) in
      let none : beside d r r ≡ pos 0 = replaced_here (λ j. shortfall (d r j)) r (pos 0) r refl in
      omega (arith, linear)

  pub slack_of_other : ((a b : ℕ) → g a b ≡ g b a) → (k : ℕ) → k ≢ r
      → slack n (child_gram g r s) k ≡ (slack n g k +ℤ shortfall (g r k)) -ℤ short g r s k
  slack_of_other mirror k ne =
      let d : Matrix = child_gram g r s in
      let before : slack n g k ≡ g k k -ℤ sum_to n (beside g k) = slack_is_diagonal_less n g k in
      let after : slack n d k ≡ d k k -ℤ sum_to n (beside d k) = slack_is_diagonal_less n d k in
      let diagonal : d k k ≡ g k k = child_gram_other g r s k k ne ne in
      let one : sum_to n (beside g k) +ℤ beside d k r ≡ sum_to n (beside d k) +ℤ beside g k r =
      sum_to_but_one n (beside g k) (beside d k) r lr
      (λ j l nj. ap (λ (z : ℤ). cond (eqb j k) (pos 0) (shortfall z)) (sym (child_gram_other g r s k j ne nj))) in
      let old : beside g k r ≡ shortfall (g r k) = replaced_other (λ j. shortfall (g k j)) k (pos 0) r (λ e. ne (sym e)) ∙ ap shortfall (mirror k r) in
      let new : beside d k r ≡ short g r s k =
      replaced_other (λ j. shortfall (d k j)) k (pos 0) r (λ e. ne (sym e)) ∙ ap shortfall (child_gram_column g r s k ne)
      ∙ ap₂ (λ (a : ℤ) (b : ℤ). shortfall (a +ℤ b)) (mirror k r) (mirror k s) in
      omega (arith, linear)

-- ---- the slacks of a narrow cone
pub shortfall_narrow : (z : ℤ) → nat_abs z ≤ 2 ^ 59 → shortfall z ≤ℤ pos (2 ^ 59)
unfolding shortfall
shortfall_narrow (pos n) h = omega (arith, ints)
shortfall_narrow (negsuc n) h = omega (arith, ints)

sum_narrow : (n : ℕ) (f : ℕ → ℤ) → ((k : ℕ) → k < n → f k ≤ℤ pos (2 ^ 59)) → sum_to n f ≤ℤ pos (2 ^ 59 * n)
sum_narrow zero f h = rw (sum_to-zero f) (omega (arith, ints))
sum_narrow (suc n) f h =
    let r : sum_to n f ≤ℤ pos (2 ^ 59 * n) = sum_narrow n f (λ k l. h k (omega arith)) in
    let s : f n ≤ℤ pos (2 ^ 59) = h n (omega arith) in
    rw (sum_to-suc n f) (omega (arith, ints))

beside_narrow : (g : Matrix) (i k : ℕ) → nat_abs (g i k) ≤ 2 ^ 59 → beside g i k ≤ℤ pos (2 ^ 59)
beside_narrow g i k h = by (same_or_not k i)
  where
    by : ((k ≡ i) ⊎ (k ≢ i)) → beside g i k ≤ℤ pos (2 ^ 59)
    by (inl e) = rw (replaced_here (λ k. shortfall (g i k)) i (pos 0) k e) (omega (arith, ints))
    by (inr ne) = rw (replaced_other (λ k. shortfall (g i k)) i (pos 0) k ne) (shortfall_narrow (g i k) h)

pub slack_narrow : (n : ℕ) (g : Matrix) (i : ℕ) → n ≤ 8 → i < n → ((j : ℕ) → j < n → nat_abs (g i j) ≤ 2 ^ 59)
    → (neg_ℤ (pos (2 ^ 59 * 9)) ≤ℤ slack n g i) × (slack n g i ≤ℤ pos (2 ^ 59))
slack_narrow n g i few l narrow =
    let is : slack n g i ≡ g i i -ℤ sum_to n (beside g i) = slack_is_diagonal_less n g i in
    let nonneg : pos 0 ≤ℤ sum_to n (beside g i) = sum_to_nonneg n (beside g i) (λ k lk. beside_nonneg g i k) in
    let most : sum_to n (beside g i) ≤ℤ pos (2 ^ 59 * n) = sum_narrow n (beside g i) (λ k lk. beside_narrow g i k (narrow k lk)) in
    let small : nat_abs (g i i) ≤ 2 ^ 59 = narrow i l in
    (omega (arith, ints), omega (arith, ints))

-- ---- as the code has them, in 64 bits
pub shortfall_read : (z y w : ℤ) → z ≡ y → nat_abs y ≤ 2 ^ 59 → w ≡ shortfall (to_z w64 (of_z w64 z)) → to_z w64 (of_z w64 w) ≡ shortfall y
shortfall_read z y w e h is = read_64 w (shortfall y) (is ∙ ap shortfall (read_64 z y e h)) small
  where
    small : nat_abs (shortfall y) ≤ 2 ^ 59
    small =
        let low : pos 0 ≤ℤ shortfall y = shortfall_nonneg y in
        let high : shortfall y ≤ℤ pos (2 ^ 59) = shortfall_narrow y h in
        omega (arith, ints)

-- one of at most eight generators, its row, and its products with generator r and with the mediant are narrow
pub record IsNarrowAt (n : ℕ) (g : Matrix) (r s k : ℕ) : Type 0 where
  pub few : n ≤ 8
  pub range : k < n
  pub row : (j : ℕ) → j < n → nat_abs (g k j) ≤ 2 ^ 59
  pub first : nat_abs (g r k) ≤ 2 ^ 59
  pub product : nat_abs (g r k +ℤ g s k) ≤ 2 ^ 59

module _ (n : ℕ) (g : Matrix) (r s k : ℕ) (h : IsNarrowAt n g r s k) where
  bounds : (neg_ℤ (pos (2 ^ 59 * 9)) ≤ℤ slack n g k) × (slack n g k ≤ℤ pos (2 ^ 59))
  bounds = slack_narrow n g k h.few h.range h.row

  pub slack_read : (z : ℤ) → z ≡ slack n g k → to_z w64 (of_z w64 z) ≡ slack n g k
  slack_read z e =
      let low : neg_ℤ (pos (2 ^ 59 * 9)) ≤ℤ slack n g k = bounds.0 in
      let high : slack n g k ≤ℤ pos (2 ^ 59) = bounds.1 in
      let fits : FitsSigned w64 (slack n g k) = omega (arith, ints) in
      rw e (to_z-of_z w64 (slack n g k) fits)

  abbrev added : ℤ
  added = slack n g k +ℤ shortfall (g r k)

  added_within : (neg_ℤ (pos (2 ^ 59 * 9)) ≤ℤ added) × (added ≤ℤ pos (2 ^ 59 * 2))
  added_within =
      let low : neg_ℤ (pos (2 ^ 59 * 9)) ≤ℤ slack n g k = bounds.0 in
      let high : slack n g k ≤ℤ pos (2 ^ 59) = bounds.1 in
      let nonneg : pos 0 ≤ℤ shortfall (g r k) = shortfall_nonneg (g r k) in
      let small : shortfall (g r k) ≤ℤ pos (2 ^ 59) = shortfall_narrow (g r k) h.first in
      (omega (arith, ints), omega (arith, ints))

  pub added_fits : FitsSigned w64 added
  added_fits =
      let low : neg_ℤ (pos (2 ^ 59 * 9)) ≤ℤ added = added_within.0 in
      let high : added ≤ℤ pos (2 ^ 59 * 2) = added_within.1 in
      omega (arith, ints)

  other_fits : FitsSigned w64 (added -ℤ short g r s k)
  other_fits =
      let low : neg_ℤ (pos (2 ^ 59 * 9)) ≤ℤ added = added_within.0 in
      let high : added ≤ℤ pos (2 ^ 59 * 2) = added_within.1 in
      let nonneg : pos 0 ≤ℤ short g r s k = shortfall_nonneg (g r k +ℤ g s k) in
      let small : short g r s k ≤ℤ pos (2 ^ 59) = shortfall_narrow (g r k +ℤ g s k) h.product in
      omega (arith, ints)

  pub less_fits : FitsSigned w64 (to_z w64 (of_z w64 added) -ℤ short g r s k)
  less_fits = rw (to_z-of_z w64 added added_fits) other_fits

  pub other_made : to_z w64 (of_z w64 (to_z w64 (of_z w64 added) -ℤ short g r s k)) ≡ added -ℤ short g r s k
  other_made = rw (to_z-of_z w64 added added_fits) (to_z-of_z w64 (added -ℤ short g r s k) other_fits)

-- ---- what is left of the mediant's value after its products with the first k generators
pub record IsMediantPart (g : Matrix) (r s k : ℕ) (left : ℤ) : Type 0 where
  pub value : left ≡ child_gram g r s r r -ℤ sum_to k (short g r s)
  pub high : left ≤ℤ pos (2 ^ 59)
  pub low : neg_ℤ (pos (2 ^ 59 * (k + 1))) ≤ℤ left

module _ (g : Matrix) (r s : ℕ) where
  pub mediant_start : (value : ℤ) → value ≡ child_gram g r s r r → nat_abs (child_gram g r s r r) ≤ 2 ^ 59
      → IsMediantPart g r s 0 (to_z w64 (of_z w64 value))
  mediant_start value e h =
      let none : sum_to 0 (short g r s) ≡ pos 0 = sum_to-zero (short g r s) in
      rw (read_64 value (child_gram g r s r r) e h) (record { value = omega (arith, linear); high = omega (arith, ints); low = omega (arith, ints) })

  module _ (k : ℕ) (left : ℤ) (p : IsMediantPart g r s k left) (few : k < 8) (product : nat_abs (g r k +ℤ g s k) ≤ 2 ^ 59) where
    pub mediant_fits : FitsSigned w64 (left -ℤ short g r s k)
    mediant_fits =
        let high : left ≤ℤ pos (2 ^ 59) = p.high in
        let low : neg_ℤ (pos (2 ^ 59 * (k + 1))) ≤ℤ left = p.low in
        let nonneg : pos 0 ≤ℤ short g r s k = shortfall_nonneg (g r k +ℤ g s k) in
        let small : short g r s k ≤ℤ pos (2 ^ 59) = shortfall_narrow (g r k +ℤ g s k) product in
        omega (arith, ints)

    pub mediant_more : IsMediantPart g r s (k + 1) (to_z w64 (of_z w64 (left -ℤ short g r s k)))
    mediant_more =
        let more : sum_to (k + 1) (short g r s) ≡ sum_to k (short g r s) +ℤ short g r s k = sum_to_more k (short g r s) in
        let is : left ≡ child_gram g r s r r -ℤ sum_to k (short g r s) = p.value in
        let high : left ≤ℤ pos (2 ^ 59) = p.high in
        let low : neg_ℤ (pos (2 ^ 59 * (k + 1))) ≤ℤ left = p.low in
        let nonneg : pos 0 ≤ℤ short g r s k = shortfall_nonneg (g r k +ℤ g s k) in
        let small : short g r s k ≤ℤ pos (2 ^ 59) = shortfall_narrow (g r k +ℤ g s k) product in
        rw (to_z-of_z w64 (left -ℤ short g r s k) mediant_fits)
        (record { value = omega (arith, linear); high = omega (arith, ints); low = omega (arith, ints) })

  module _ (n : ℕ) (left : ℤ) (p : IsMediantPart g r s n left) (few : n ≤ 8) (l : r < n) (product : nat_abs (g r r +ℤ g s r) ≤ 2 ^ 59) where
    pub whole_fits : FitsSigned w64 (left +ℤ short g r s r)
    whole_fits =
        let high : left ≤ℤ pos (2 ^ 59) = p.high in
        let low : neg_ℤ (pos (2 ^ 59 * (n + 1))) ≤ℤ left = p.low in
        let nonneg : pos 0 ≤ℤ short g r s r = shortfall_nonneg (g r r +ℤ g s r) in
        let small : short g r s r ≤ℤ pos (2 ^ 59) = shortfall_narrow (g r r +ℤ g s r) product in
        omega (arith, ints)

    pub whole_made : to_z w64 (of_z w64 (left +ℤ short g r s r)) ≡ slack n (child_gram g r s) r
    whole_made = to_z-of_z w64 (left +ℤ short g r s r) whole_fits ∙ ap (λ (z : ℤ). z +ℤ short g r s r) p.value ∙ sym (slack_of_mediant n g r s l)
