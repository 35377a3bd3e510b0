-- Narrow numbers: of a magnitude of at most 2^59, the limit of the Gram entries that are kept in 64 bits.
--
--     HasNarrowGram c            every Gram entry of c is narrow
--     HasNarrowMediant c r s     the mediant's products with c's generators are narrow, and so is its own value
--     HasShallowCoordinates c    every coordinate of c is at most two to the depth, the length of its path
--     IsNarrowMatrix q           every entry of Q is narrow
--     IsNarrowCopy count from into   into is a copy of the first numbers, which are narrow
--     IsNarrowPart g i j left    as IsPartSlack, but at most 2^59 and at least -2^59 (j + 1)
--     as_best b                  the least entry so far, as it is kept of any cone
use Rattle.std.specs.Prelude.{ℕ, ◌+◌, ◌*◌, ◌/◌, ◌%◌, ◌^◌, ◌<◌, ◌≤◌, ◌≡◌, ℤ, pos, ◌+ℤ◌, ◌≤ℤ◌, neg_ℤ, nat_abs, List, length, slice_index_or}
use Rattle.exact_forms.specs.Sums.{sum_to}
use Rattle.symmetric_matrix.specs.Symmetric.{Symmetric, entry}
use Rattle.unimodular_cone.specs.declared.pair_rule.Best.{Best}
use Rattle.unimodular_cone.specs.declared.narrow_pair.NarrowBest.{NarrowBest}
use Rattle.unimodular_cone.specs.Copies.{IsCopiedTo}
use Rattle.unimodular_cone.specs.PartSlack.{beside}
use Rattle.unimodular_cone.specs.Shown.{ShownCone, shown_gram, shown_generators}

abbrev pub HasNarrowGram : ShownCone → Type 0
HasNarrowGram c = (i j : ℕ) → i < c.size → j < c.size → nat_abs (shown_gram c i j) ≤ 2 ^ 59

pub record HasNarrowMediant (c : ShownCone) (r s : ℕ) : Type 0 where
  pub products : (k : ℕ) → k < c.size → nat_abs (shown_gram c r k +ℤ shown_gram c s k) ≤ 2 ^ 59
  pub square : nat_abs ((shown_gram c r r +ℤ shown_gram c s r) +ℤ (shown_gram c r s +ℤ shown_gram c s s)) ≤ 2 ^ 59

abbrev pub HasShallowCoordinates : ShownCone → Type 0
HasShallowCoordinates c = (k p : ℕ) → k < c.size → p < c.size → shown_generators c k p ≤ℤ pos (2 ^ length c.path)

pub record IsNarrowCopy (count : ℕ) (from into : List ℤ) : Type 0 where
  pub copied : IsCopiedTo count from into
  pub narrow : (k : ℕ) → k < count → nat_abs (slice_index_or into k (pos 0)) ≤ 2 ^ 59

abbrev pub IsNarrowMatrix : Symmetric → Type 0
IsNarrowMatrix q = (i j : ℕ) → j ≤ i → i < q.size → nat_abs (entry q i j) ≤ 2 ^ 59

pub record IsNarrowPart (g : ℕ → ℕ → ℤ) (i j : ℕ) (left : ℤ) : Type 0 where
  pub value : left +ℤ sum_to j (beside g i) ≡ g i i
  pub high : left ≤ℤ pos (2 ^ 59)
  pub low : neg_ℤ (pos (2 ^ 59 * (j + 1))) ≤ℤ left

abbrev pub as_best : NarrowBest → Best
as_best b = record { value = b.value; row = b.place / 8; column = b.place % 8 }
