-- The mediant of two generators, v_r + v_s, which takes v_r's place in a child.
--
--     IsMediantOf c r s xs   xs has the coordinates of the mediant, and zeros up to 8
--     AreProducts c r s xs   xs has the products of the mediant with c's generators
--     IsRowOf c r s row      row has the child's Gram entries in the row of the mediant
--     FitsWith c r s         no entry of that child is over its limit
--     IsFirstOverWith        the first entry of it that is
--     HoldsFirstAt n P k     P holds of k, which is below n, and of no lesser number
--     IsFirstBelow n P k     k is the first number below n with P, None where there is none
--     wide_gram r k          the entry of the lower triangle at r and k, from 0
use Rattle.std.specs.Prelude.{ℕ, ℤ, pos, ◌+ℤ◌, max, min, ◌+◌, ◌<◌, ◌≤◌, ◌≡◌, List, length, Option, Some, None, slice_index_or}
use Rattle.unimodular_cone.specs.Cones.{child, child_gram, WideEntry, Gram, FitsLimits, IsFirstOverLimit}
use Rattle.unimodular_cone.specs.Shown.{ShownCone, shown_gram, shown_coordinate, shown_generators}

pub record IsMediantOf (c : ShownCone) (r s : ℕ) (xs : List ℕ) : Type 0 where
  pub count : length xs ≡ 8
  pub sums : (p : ℕ) → p < c.size → slice_index_or xs p 0 ≡ shown_coordinate c r p + shown_coordinate c s p
  pub rest : (p : ℕ) → c.size ≤ p → slice_index_or xs p 0 ≡ 0

abbrev pub AreProducts : ShownCone → ℕ → ℕ → List ℤ → Type 0
AreProducts c r s xs = (k : ℕ) → k < c.size → slice_index_or xs k (pos 0) ≡ shown_gram c r k +ℤ shown_gram c s k

pub record IsRowOf (c : ShownCone) (r s : ℕ) (row : List ℤ) : Type 0 where
  pub entries : (k : ℕ) → k < c.size → slice_index_or row k (pos 0) ≡ child_gram (shown_gram c) r s r k

-- the child in which the mediant takes the place of r fits
abbrev pub FitsWith : ShownCone → ℕ → ℕ → Type 0
FitsWith c r s = FitsLimits c.size (child (shown_generators c) r s) (child_gram (shown_gram c) r s)

abbrev pub IsFirstOverWith : ShownCone → ℕ → ℕ → WideEntry → Type 0
IsFirstOverWith c r s entry =
    IsFirstOverLimit c.size (child (shown_generators c) r s) (child_gram (shown_gram c) r s) entry

pub record HoldsFirstAt (n : ℕ) (P : ℕ → Type 0) (k : ℕ) : Type 0 where
  pub range : k < n
  pub holds : P k
  pub first : (l : ℕ) → l < k → ¬ P l

abbrev pub IsFirstBelow : ℕ → (ℕ → Type 0) → Option ℕ → Type 0
IsFirstBelow n P None = (k : ℕ) → k < n → ¬ P k
IsFirstBelow n P (Some k) = HoldsFirstAt n P k

-- the entry of the lower triangle at r and k, from 0
abbrev pub wide_gram : ℕ → ℕ → WideEntry
wide_gram r k = Gram (max r k + 1) (min r k + 1)
