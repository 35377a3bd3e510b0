-- The tree of a search, with n and Q, a mode and a depth D.
--
--     Mode                        the sign of Q's values, or their least
--     CanSplit n q v              v has a pair and both children fit
--     IsInTree n q d path         at most d digits, and each cone above it can split
--     IsLowValue m z              z is below 0 (Sign), at most 0 (Least)
--     IsLow, IsFirstLowAt         some generator is low; k is the first that is
--     IsClosedAt n q path b       each slack of the cone at the path is at least b
--     IsLeastInTree n q d b       b is the least generator value over the tree
--     IsFinalBound m n q d b      0 in Sign; in Least the least generator value over the tree
--     IsFirstLow m n q d path     the low path of the tree that comes first by depth
--     IsFirstOverBelow n q path at_path entry   the first entry over its limit in child 0, and if that fits in child 1, and its path
--     HasWideChild n q path       a child does not fit
--     IsOpen n q d b path         d digits or a child that does not fit, and neither it nor a cone above it is closed at b
--     IsFirstOpen n q d b path    the open path that comes first by place
use Rattle.std.specs.Prelude.{Some, ℕ, ℤ, pos, ◌≤ℤ◌, ◌<ℤ◌, ◌<◌, ◌≤◌, ◌≡◌, ◌⊎◌, Bool, [], ◌∷◌, ◌++◌, length}
use Rattle.exact_forms.specs.Slacks.{IsClosed}
pub use Rattle.unimodular_cone.specs.declared.mode.Mode.{Mode}
pub use Rattle.unimodular_cone.specs.declared.mode.Mode.TheVariants.{Sign, Least}
use Rattle.unimodular_cone.specs.Paths.{Path, IsAbove, IsNoLater, IsNoDeeper}
use Rattle.unimodular_cone.specs.Cones.{Matrix, Generators, gram, value, pair_of, child, cone_at, Fits, WideEntry, IsFirstOver}

pub record CanSplit (n : ℕ) (q : Matrix) (v : Generators) : Type 0 where
  pub i : ℕ
  pub j : ℕ
  pub pair : pair_of n (gram n q v) ≡ Some (i, j)
  pub first_fits : Fits n q (child v i j)
  pub second_fits : Fits n q (child v j i)

pub record IsInTree (n : ℕ) (q : Matrix) (d : ℕ) (path : Path) : Type 0 where
  pub short : length path ≤ d
  pub above : (a : Path) → IsAbove a path → CanSplit n q (cone_at n q a)

abbrev pub IsLowValue : Mode → ℤ → Type 0
IsLowValue Sign z = z <ℤ pos 0
IsLowValue Least z = z ≤ℤ pos 0

abbrev pub IsLow : Mode → ℕ → Matrix → Generators → Type 0
IsLow m n q v = (k : ℕ) × (k < n) × IsLowValue m (value n q v k)

pub record IsFirstLowAt (m : Mode) (n : ℕ) (q : Matrix) (v : Generators) (k : ℕ) : Type 0 where
  pub range : k < n
  pub low : IsLowValue m (value n q v k)
  pub first : (l : ℕ) → l < k → ¬ IsLowValue m (value n q v l)

abbrev pub IsClosedAt : ℕ → Matrix → Path → ℤ → Type 0
IsClosedAt n q path b = IsClosed n (gram n q (cone_at n q path)) b

pub record IsLeastInTree (n : ℕ) (q : Matrix) (d : ℕ) (b : ℤ) : Type 0 where
  pub least : (path : Path) (k : ℕ) → IsInTree n q d path → k < n → b ≤ℤ value n q (cone_at n q path) k
  pub attained : (path : Path) × (k : ℕ) × IsInTree n q d path × (k < n) × (value n q (cone_at n q path) k ≡ b)

abbrev pub IsFinalBound : Mode → ℕ → Matrix → ℕ → ℤ → Type 0
IsFinalBound Sign n q d b = b ≡ pos 0
IsFinalBound Least n q d b = IsLeastInTree n q d b

pub record IsFirstLow (m : Mode) (n : ℕ) (q : Matrix) (d : ℕ) (path : Path) : Type 0 where
  pub in_tree : IsInTree n q d path
  pub low : IsLow m n q (cone_at n q path)
  pub first : (other : Path) → IsInTree n q d other → IsLow m n q (cone_at n q other) → IsNoDeeper path other

pub record IsFirstOverBelow (n : ℕ) (q : Matrix) (path : Path) (at_path : Path) (entry : WideEntry) : Type 0 where
  pub i : ℕ
  pub j : ℕ
  pub pair : pair_of n (gram n q (cone_at n q path)) ≡ Some (i, j)
  pub in_child : ((at_path ≡ path ++ Bool.false ∷ []) × IsFirstOver n q (child (cone_at n q path) i j) entry)
      ⊎ (Fits n q (child (cone_at n q path) i j) × (at_path ≡ path ++ Bool.true ∷ [])
      × IsFirstOver n q (child (cone_at n q path) j i) entry)

abbrev pub HasWideChild : ℕ → Matrix → Path → Type 0
HasWideChild n q path = (at_path : Path) × (entry : WideEntry) × IsFirstOverBelow n q path at_path entry

pub record IsOpen (n : ℕ) (q : Matrix) (d : ℕ) (b : ℤ) (path : Path) : Type 0 where
  pub in_tree : IsInTree n q d path
  pub ends : (length path ≡ d) ⊎ HasWideChild n q path
  pub itself : ¬ IsClosedAt n q path b
  pub above : (a : Path) → IsAbove a path → ¬ IsClosedAt n q a b

pub record IsFirstOpen (n : ℕ) (q : Matrix) (d : ℕ) (b : ℤ) (path : Path) : Type 0 where
  pub open_path : IsOpen n q d b path
  pub first : (other : Path) → IsOpen n q d b other → IsNoLater path other
