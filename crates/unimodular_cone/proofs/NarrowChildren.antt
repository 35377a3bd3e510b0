-- The children of a narrow cone: their Gram entries are within the limit of any cone's, and narrow where the mediant's are.
use Rattle.std.specs.Prelude.{◌≡◌, ◌≢◌, ◌⊎◌, ℕ, zero, suc, ◌<◌, ◌≤◌, ◌^◌, ℤ, pos, ◌+ℤ◌, nat_abs, List, [], ◌∷◌, slice_index_or}
use Rattle.std.proofs.Common.{arith, refl, inl, inr}
use Rattle.std.proofs.lemmas.Int.{ints}
use Rattle.exact_forms.proofs.Slacks.{same_or_not}
use Rattle.unimodular_cone.specs.Cones.{child_gram}
use Rattle.unimodular_cone.specs.Mediant.{IsMediantOf, FitsWith}
use Rattle.unimodular_cone.specs.Narrow.{HasNarrowGram, HasNarrowMediant}
use Rattle.unimodular_cone.specs.Shown.{ShownCone, shown_gram, IsWithinLimits}
use Rattle.unimodular_cone.proofs.Additions.{child_gram_other, child_gram_mirror, child_gram_row, child_gram_square}
use Rattle.unimodular_cone.proofs.Limits.{IsWideCoordinate, fits_with}
use Rattle.unimodular_cone.proofs.ShownLaws.{shown_gram_mirror}

module _ (c : ShownCone) (r s : ℕ) (lr : r < c.size) (ls : s < c.size) where
  -- what holds of the mediant's row and of each other entry holds of each entry of the child
  each_entry : (P : ℤ → Type 0) → ((k : ℕ) → k < c.size → P (shown_gram c r k +ℤ shown_gram c s k))
      → P ((shown_gram c r r +ℤ shown_gram c s r) +ℤ (shown_gram c r s +ℤ shown_gram c s s))
      → ((i j : ℕ) → i < c.size → j < c.size → P (shown_gram c i j)) → (i j : ℕ) → i < c.size → j < c.size → P (child_gram (shown_gram c) r s i j)
  each_entry P row square rest i j li lj = by (same_or_not i r) (same_or_not j r)
    where
      in_row : (k : ℕ) → k < c.size → k ≢ r → P (child_gram (shown_gram c) r s r k)
      in_row k lk ne = rw (child_gram_row (shown_gram c) r s k ne) (row k lk)

      by : ((i ≡ r) ⊎ (i ≢ r)) → ((j ≡ r) ⊎ (j ≢ r)) → P (child_gram (shown_gram c) r s i j)
      by (inl e) (inl f) = rw (e, f, child_gram_square (shown_gram c) r s) square
      by (inl e) (inr ne) = rw e (in_row j lj ne)
      by (inr ne) (inl f) = rw (f, child_gram_mirror (shown_gram c) r s i r (shown_gram_mirror c)) (in_row i li ne)
      by (inr ne) (inr nf) = rw (child_gram_other (shown_gram c) r s i j ne nf) (rest i j li lj)

  pub child_narrow : HasNarrowGram c → HasNarrowMediant c r s → (i j : ℕ) → i < c.size → j < c.size → nat_abs (child_gram (shown_gram c) r s i j) ≤ 2 ^ 59
  child_narrow narrow mediant = each_entry (λ z. nat_abs z ≤ 2 ^ 59) mediant.products mediant.square narrow

  -- of a narrow cone no Gram entry of the child is over its limit
  two : (a b : ℤ) → nat_abs a ≤ 2 ^ 59 → nat_abs b ≤ 2 ^ 59 → nat_abs (a +ℤ b) ≤ 2 ^ 60
  two a b h k = omega (arith, ints)

  four : (a b : ℤ) → nat_abs a ≤ 2 ^ 60 → nat_abs b ≤ 2 ^ 60 → nat_abs (a +ℤ b) ≤ 2 ^ 100
  four a b h k = omega (arith, ints)

  wider : (a : ℤ) (k : ℕ) → nat_abs a ≤ k → k ≤ 2 ^ 100 → nat_abs a ≤ 2 ^ 100
  wider a k h l = omega arith

  pub child_within : HasNarrowGram c → (i j : ℕ) → i < c.size → j < c.size → nat_abs (child_gram (shown_gram c) r s i j) ≤ 2 ^ 100
  child_within narrow = each_entry (λ z. nat_abs z ≤ 2 ^ 100)
      (λ k l. wider (shown_gram c r k +ℤ shown_gram c s k) (2 ^ 60) (product k l) (omega arith))
      (four (shown_gram c r r +ℤ shown_gram c s r) (shown_gram c r s +ℤ shown_gram c s s) (product r lr) (product s ls))
      (λ i j li lj. wider (shown_gram c i j) (2 ^ 59) (narrow i j li lj) (omega arith))
    where
      product : (k : ℕ) → k < c.size → nat_abs (shown_gram c r k +ℤ shown_gram c s k) ≤ 2 ^ 60
      product k l = two (shown_gram c r k) (shown_gram c s k) (narrow r k lr l) (narrow s k ls l)

  -- so the coordinates decide
  listed : ℕ → (ℕ → ℤ) → List ℤ
  listed zero f = []
  listed (suc n) f = f 0 ∷ listed n (λ k. f (suc k))

  listed_at : (n : ℕ) (f : ℕ → ℤ) (k : ℕ) → k < n → slice_index_or (listed n f) k (pos 0) ≡ f k
  unfolding listed
  listed_at zero f k l = absurd (omega arith)
  listed_at (suc n) f zero l = refl
  listed_at (suc n) f (suc k) l = listed_at n (λ k. f (suc k)) k (omega arith)

  not_over : (z : ℤ) → nat_abs z ≤ 2 ^ 100 → ¬ (2 ^ 100 < nat_abs z)
  not_over z h over = omega arith

  pub coordinates_decide : IsWithinLimits c → HasNarrowGram c → (xs : List ℕ) → IsMediantOf c r s xs
      → ((p : ℕ) → p < c.size → ¬ IsWideCoordinate (slice_index_or xs p 0)) → FitsWith c r s
  coordinates_decide w narrow xs hx none =
      fits_with c r s xs (listed c.size (child_gram (shown_gram c) r s r))
      (record {
        within = w;
        first = lr;
        second = ls;
        coordinates = hx;
        row_is = record { entries = listed_at c.size (child_gram (shown_gram c) r s r) };
      }) none
      (λ k l. rw (listed_at c.size (child_gram (shown_gram c) r s r) k l) (not_over (child_gram (shown_gram c) r s r k) (child_within narrow r k lr l)))
