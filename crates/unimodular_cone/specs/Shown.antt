-- A cone as it is shown.
--
--     ShownCone                   its size n, its path, its Gram matrix's lower triangle row by row, and its generators,
--                                 each a list of n numbers
--     shown_gram c i j            the Gram entry at row i, column j, in either triangle
--     shown_coordinate c k p      the coordinate of generator k at place p
--     shown_generators c          the same as whole numbers
--     IsWithinLimits c            1 to 8 generators, at most 200 digits, every coordinate and Gram entry within its limit
--     IsConeOf n q v c            c shows the generators v and their Gram matrix for Q
--     IsConeAt n q path c         c shows the cone that the path reaches, and the path
--     IsChild c i j side d        d shows the child of c on a side of (i, j), and its path
--     IsFirstWide c i j side at   the first entry over its limit in that child, with the child's path
--     FitsOnSide c i j side       no entry of that child is over its limit
--     FitsOnBothSides c i j       no entry of either child is over its limit
--     IsFirstWideBelow c i j at   the first entry over its limit in child 0, and if it fits in child 1
--     IsFirstWideAt n q path at   the first entry over its limit in the cone that the path reaches, with the path
--     IsReachable n q path        each cone above the path has a pair and fits
--     IsWideWhere P fail          the failure is an entry over its limit with P, and not want of memory
--     IsExactChild c i j side d   where c shows generators and their Gram matrix for Q, d shows those of the child
--     ShowsChild c i j side r     where c shows generators and their Gram matrix for Q, so does the answer r those of the child, or
--                                 it is the child's first entry over its limit
--     ReachesChild c i j side r   at a cone at its path and its pair, the answer r is the cone at the child's path, or its
--                                 first entry over its limit
--     NamesPair c pair            the pair of c, from 1; None where no entry beside the diagonal is negative
--     IsNext c side d             d shows the child on a side of the pair
--     IsFirstWideNext c side at   the first entry of it over its limit
--
-- Generators, places, rows and columns count from 0.
use Rattle.std.specs.Prelude.{ℕ, ℤ, pos, ◌≤ℤ◌, ◌<◌, ◌≤◌, ◌-◌, ◌≡◌, ◌≢◌, ◌⊎◌, Bool, true, false, Option, Some, None, Result, MatchResult, List, [], ◌∷◌, ◌++◌, length, slice_index_or}
use Rattle.exact_forms.specs.Triangles.{entry_in}
use Rattle.unimodular_cone.specs.declared.refusal.WideAt.{WideAt}
use Rattle.unimodular_cone.specs.declared.refusal.ConeFail.{ConeFail}
use Rattle.unimodular_cone.specs.declared.refusal.ConeFail.TheVariants.{Wide, OutOfMemory}
use Rattle.unimodular_cone.specs.Paths.{Path, IsAbove}
use Rattle.unimodular_cone.specs.Cones.{Matrix, Generators, gram, cone_at, pair_of, IsPair, Fits, IsFirstOver, child_on, child_gram_on, FitsLimits, IsFirstOverLimit}

pub record ShownCone : Type 0 where
  pub size : ℕ
  pub path : List Bool
  pub lower : List ℤ
  pub generators : List (List ℕ)

unfoldable pub shown_gram : ShownCone → Matrix
shown_gram c i j = entry_in (pos 0) c.lower i j

unfoldable pub shown_coordinate : ShownCone → ℕ → ℕ → ℕ
shown_coordinate c k p = slice_index_or (slice_index_or c.generators k []) p 0

abbrev pub shown_generators : ShownCone → Generators
shown_generators c k p = pos (shown_coordinate c k p)

pub record IsWithinLimits (c : ShownCone) : Type 0 where
  pub some : 1 ≤ c.size
  pub few : c.size ≤ 8
  pub short : length c.path ≤ 200
  pub fits : FitsLimits c.size (shown_generators c) (shown_gram c)

pub record IsConeOf (n : ℕ) (q : Matrix) (v : Generators) (c : ShownCone) : Type 0 where
  pub size : c.size ≡ n
  pub generators : (k p : ℕ) → k < n → p < n → shown_generators c k p ≡ v k p
  pub gram_is : (i j : ℕ) → i < n → j < n → shown_gram c i j ≡ gram n q v i j

pub record IsConeAt (n : ℕ) (q : Matrix) (path : Path) (c : ShownCone) : Type 0 where
  pub path_is : c.path ≡ path
  pub cone : IsConeOf n q (cone_at n q path) c

-- ---- children
pub record IsChild (c : ShownCone) (i j : ℕ) (side : Bool) (d : ShownCone) : Type 0 where
  pub size : d.size ≡ c.size
  pub path_is : d.path ≡ c.path ++ side ∷ []
  pub generators : (k p : ℕ) → k < c.size → p < c.size
      → shown_generators d k p ≡ child_on (shown_generators c) i j side k p
  pub gram_is : (k l : ℕ) → k < c.size → l < c.size → shown_gram d k l ≡ child_gram_on (shown_gram c) i j side k l

pub record IsFirstWide (c : ShownCone) (i j : ℕ) (side : Bool) (at : WideAt) : Type 0 where
  pub path_is : at.path ≡ c.path ++ side ∷ []
  pub entry : IsFirstOverLimit c.size (child_on (shown_generators c) i j side) (child_gram_on (shown_gram c) i j side)
      at.entry

abbrev pub FitsOnSide : ShownCone → ℕ → ℕ → Bool → Type 0
FitsOnSide c i j side =
    FitsLimits c.size (child_on (shown_generators c) i j side) (child_gram_on (shown_gram c) i j side)

pub record FitsOnBothSides (c : ShownCone) (i j : ℕ) : Type 0 where
  pub first : FitsOnSide c i j false
  pub second : FitsOnSide c i j true

abbrev pub IsFirstWideBelow : ShownCone → ℕ → ℕ → WideAt → Type 0
IsFirstWideBelow c i j at = IsFirstWide c i j false at ⊎ (FitsOnSide c i j false × IsFirstWide c i j true at)

abbrev pub IsWideWhere : (WideAt → Type 0) → ConeFail → Type 0
IsWideWhere P (Wide at) = P at
IsWideWhere P OutOfMemory = ⊥

-- the first entry over its limit in the cone that the path reaches
pub record IsFirstWideAt (n : ℕ) (q : Matrix) (path : Path) (at : WideAt) : Type 0 where
  pub path_is : at.path ≡ path
  pub entry : IsFirstOver n q (cone_at n q path) at.entry

-- each cone above the path has a pair and fits
pub record IsReachable (n : ℕ) (q : Matrix) (path : Path) : Type 0 where
  pub pair : (a : Path) → IsAbove a path → pair_of n (gram n q (cone_at n q a)) ≢ None
  pub fits : (a : Path) → IsAbove a path → Fits n q (cone_at n q a)

-- where c shows the generators v and their Gram matrix for Q, d shows those of the child
abbrev pub IsExactChild : ShownCone → ℕ → ℕ → Bool → ShownCone → Type 0
IsExactChild c i j side d = (q : Matrix) (v : Generators) → IsConeOf c.size q v c
    → IsConeOf c.size q (child_on v i j side) d

-- where c shows the generators v and their Gram matrix for Q, the answer shows those of the child, or is the child's first entry
-- over its limit
abbrev pub ShowsChild : ShownCone → ℕ → ℕ → Bool → Result ShownCone ConeFail → Type 0
ShowsChild c i j side result = (q : Matrix) (v : Generators) → IsConeOf c.size q v c
    → MatchResult result (IsConeOf c.size q (child_on v i j side))
    (IsWideWhere (λ at. IsFirstOver c.size q (child_on v i j side) at.entry))

-- where c is the cone at its path and (i, j) its pair, the child is the cone at the child's path, or that one's first
-- entry over its limit is the answer
abbrev pub ReachesChild : ShownCone → ℕ → ℕ → Bool → Result ShownCone ConeFail → Type 0
ReachesChild c i j side result = (q : Matrix) → IsConeAt c.size q c.path c → IsPair c.size (shown_gram c) i j
    → MatchResult result (IsConeAt c.size q (c.path ++ side ∷ []))
    (IsWideWhere (IsFirstWideAt c.size q (c.path ++ side ∷ [])))

-- ---- the pair
abbrev pub NamesPair : ShownCone → Option (ℕ × ℕ) → Type 0
NamesPair c None = (k l : ℕ) → k < l → l < c.size → pos 0 ≤ℤ shown_gram c k l
NamesPair c (Some (i, j)) = (1 ≤ i) × IsPair c.size (shown_gram c) (i - 1) (j - 1)

-- the child on a side of the pair
pub record IsNext (c : ShownCone) (side : Bool) (d : ShownCone) : Type 0 where
  pub i : ℕ
  pub j : ℕ
  pub pair : IsPair c.size (shown_gram c) i j
  pub child : IsChild c i j side d

pub record IsFirstWideNext (c : ShownCone) (side : Bool) (at : WideAt) : Type 0 where
  pub i : ℕ
  pub j : ℕ
  pub pair : IsPair c.size (shown_gram c) i j
  pub child : IsFirstWide c i j side at
