-- The fate of a cone by its path alone: what a fate says of the generators and the Gram matrix of the cone at the path.
use Rattle.std.specs.Prelude.{ℕ, suc, ◌<◌, ◌≤◌, ◌≡◌, ◌≢◌, ◌⊎◌, length, Some}
use Rattle.unimodular_cone.specs.Paths.{Path}
use Rattle.unimodular_cone.specs.Cones.{Matrix, gram, child, pair_of, cone_at, Fits}
use Rattle.unimodular_cone.specs.declared.Mode.{Mode}
use Rattle.unimodular_cone.specs.Tree.{IsLow, IsFirstLowAt, IsClosedAt, IsFirstOverBelow}
use Rattle.search_core.specs.Fates.{Fate, Closed, Split, Low, Dropped, AtLimit, Wide, bound_under}

-- the cone at a path is closed at the word's bound
abbrev pub IsClosedUnder : Mode → ℕ → Matrix → Path → ℕ → Type 0
IsClosedUnder m n q path word = IsClosedAt n q path (bound_under m word)

-- no low generator, not closed, and a low cone of this depth or a lesser one is not known
pub record IsUndecided (m : Mode) (n : ℕ) (q : Matrix) (path : Path) (word : ℕ) : Type 0 where
  pub not_past : word < 256 → length path < word
  pub not_low : ¬ IsLow m n q (cone_at n q path)
  pub not_closed : ¬ IsClosedUnder m n q path word

-- the pair is (i, j), counted from 1, and both children fit
pub record IsSplitAt (n : ℕ) (q : Matrix) (path : Path) (i j : ℕ) : Type 0 where
  pub row : ℕ
  pub column : ℕ
  pub is_row : i ≡ suc row
  pub is_column : j ≡ suc column
  pub pair : pair_of n (gram n q (cone_at n q path)) ≡ Some (row, column)
  pub first_fits : Fits n q (child (cone_at n q path) row column)
  pub second_fits : Fits n q (child (cone_at n q path) column row)

abbrev pub IsPathFate : Mode → ℕ → Matrix → ℕ → Path → ℕ → Fate → Type 0
IsPathFate m n q d path word (Closed w) = (w ≡ word) × (word < 256 → length path ≤ word) × (¬ IsLow m n q (cone_at n q path)) × IsClosedUnder m n q path word
IsPathFate m n q d path word (Low which) = (word < 256 → length path ≤ word) × ((k : ℕ) × (which ≡ suc k) × IsFirstLowAt m n q (cone_at n q path) k)
IsPathFate m n q d path word (Dropped w) = (w ≡ word) × (word < 256)
    × ((word < length path) ⊎ ((word ≡ length path) × (¬ IsLow m n q (cone_at n q path)) × (¬ IsClosedUnder m n q path word)))
IsPathFate m n q d path word (AtLimit w) = (w ≡ word) × IsUndecided m n q path word × (length path ≡ d)
IsPathFate m n q d path word (Wide w at) = (w ≡ word) × IsUndecided m n q path word × (length path ≢ d) × IsFirstOverBelow n q path at.path at.entry
IsPathFate m n q d path word (Split i j w) = (w ≡ word) × IsUndecided m n q path word × (length path ≢ d)
    × IsSplitAt n q path i j
