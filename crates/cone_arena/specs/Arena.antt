-- A list of cones in one block of memory.
--
--     ShownArena              the number of generators of its cones, the depth that it was made for, and its cones, the last on top
--     IsArena a               1 to 8 generators, a depth of at most 200, at most depth + 2 cones, each of so many generators
--     IsOnTop c rest cones    the cones are the rest and c on top
--     IsTopOf a c             c is the last cone
--     MaySplit a i j          i < j are generators of the top, from 1, whose path is shorter than the depth; there is room
--     TopFits a i j           both children of the top fit
--     IsTopReplaced a i j b         b is a with child 1 of the top in its place and child 0 above
--     IsWideTop a i j at      the first entry over its limit in child 0 of the top, or if that fits in child 1
--     HasRoot q a b           b is a with the root's cone of the matrix alone
--     IsDropped a b           b is a without its top
use Rattle.std.specs.Prelude.{ℕ, ◌≡◌, ◌<◌, ◌≤◌, ◌+◌, ◌-◌, true, false, List, [], ◌∷◌, ◌++◌, length, take, All}
use Rattle.symmetric_matrix.specs.Symmetric.{Symmetric, entry}
use Rattle.unimodular_cone.specs.declared.WideAt.{WideAt}
use Rattle.unimodular_cone.specs.Shown.{ShownCone, IsChild, IsConeAt, IsFirstWideBelow, IsWithinLimits, FitsOnBothSides}

pub record ShownArena : Type 0 where
  pub size : ℕ
  pub depth : ℕ
  pub cones : List ShownCone

pub record IsArena (a : ShownArena) : Type 0 where
  pub some : 1 ≤ a.size
  pub few : a.size ≤ 8
  pub shallow : a.depth ≤ 200
  pub room : length a.cones ≤ a.depth + 2
  pub sizes : All (λ (c : ShownCone). c.size ≡ a.size) a.cones

abbrev pub IsOnTop : ShownCone → List ShownCone → List ShownCone → Type 0
IsOnTop c rest cones = cones ≡ rest ++ c ∷ []

abbrev pub IsTopOf : ShownArena → ShownCone → Type 0
IsTopOf a c = (rest : List ShownCone) × IsOnTop c rest a.cones

pub record MaySplit (a : ShownArena) (i j : ℕ) : Type 0 where
  pub first : 1 ≤ i
  pub order : i < j
  pub last : j ≤ a.size
  pub some : 0 < length a.cones
  pub room : length a.cones < a.depth + 2
  pub short : (c : ShownCone) → IsTopOf a c → length c.path < a.depth

abbrev pub TopFits : ShownArena → ℕ → ℕ → Type 0
TopFits a i j = (c : ShownCone) → IsTopOf a c → FitsOnBothSides c (i - 1) (j - 1)

pub record IsTopReplaced (a : ShownArena) (i j : ℕ) (b : ShownArena) : Type 0 where
  pub size : b.size ≡ a.size
  pub depth : b.depth ≡ a.depth
  pub top : ShownCone
  pub rest : List ShownCone
  pub second : ShownCone
  pub first : ShownCone
  pub was : IsOnTop top rest a.cones
  pub is_second : IsChild top (i - 1) (j - 1) true second
  pub is_first : IsChild top (i - 1) (j - 1) false first
  pub cones : b.cones ≡ rest ++ second ∷ first ∷ []

abbrev pub IsWideTop : ShownArena → ℕ → ℕ → WideAt → Type 0
IsWideTop a i j at = (c : ShownCone) × IsTopOf a c × IsFirstWideBelow c (i - 1) (j - 1) at

pub record HasRoot (q : Symmetric) (a b : ShownArena) : Type 0 where
  pub size : b.size ≡ a.size
  pub depth : b.depth ≡ a.depth
  pub root : ShownCone
  pub is_root : IsConeAt q.size (entry q) [] root
  pub fits : IsWithinLimits root
  pub cones : b.cones ≡ root ∷ []

pub record IsDropped (a b : ShownArena) : Type 0 where
  pub size : b.size ≡ a.size
  pub depth : b.depth ≡ a.depth
  pub cones : b.cones ≡ take (length a.cones - 1) a.cones
