-- Two neighbouring rows of a block at a split.
--
--     IsSplittableAt rows top i j    the cone of the row can be split on the sides of i and j, from 1
--     AreRowsSplit old top i j new   new is old with child 1 in that row and child 0 in the next
--     IsTopRowSplit old top i j new     the rows below that row are as before, it is child 1, and the next is child 0
use Rattle.std.specs.Prelude.{ℕ, ◌≡◌, ◌<◌, ◌≤◌, ◌+◌, ◌-◌, true, false, List, [], ◌∷◌, ◌++◌, length, take, slice_index_or, slice_set}
use Rattle.unimodular_cone.specs.Shown.{ShownCone, IsChild, FitsOnBothSides}

pub record IsSplittable (c : ShownCone) (i j : ℕ) : Type 0 where
  pub first : 1 ≤ i
  pub order : i < j
  pub last : j ≤ c.size
  pub short : length c.path < 200
  pub fits : FitsOnBothSides c (i - 1) (j - 1)

abbrev pub IsSplittableAt : List ShownCone → ℕ → ℕ → ℕ → Type 0
IsSplittableAt rows top i j = (c : ShownCone) → c ≡ slice_index_or rows top c → IsSplittable c i j

pub record AreRowsSplit (old : List ShownCone) (top i j : ℕ) (new : List ShownCone) : Type 0 where
  pub was : ShownCone
  pub second : ShownCone
  pub first : ShownCone
  pub stood : was ≡ slice_index_or old top was
  pub is_second : IsChild was (i - 1) (j - 1) true second
  pub is_first : IsChild was (i - 1) (j - 1) false first
  pub rows : new ≡ slice_set (slice_set old top second) (top + 1) first

pub record IsTopRowSplit (old : List ShownCone) (top i j : ℕ) (new : List ShownCone) : Type 0 where
  pub was : ShownCone
  pub second : ShownCone
  pub first : ShownCone
  pub stood : was ≡ slice_index_or old top was
  pub is_second : IsChild was (i - 1) (j - 1) true second
  pub is_first : IsChild was (i - 1) (j - 1) false first
  pub cones : take (top + 2) new ≡ take top old ++ second ∷ first ∷ []
