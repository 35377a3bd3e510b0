-- One turn of a search with a stack of cones, the last one on top.
--
--     IsOnTop c rest stack   the stack is c on top of the rest
--     IsSplitPair c i j      (i, j) is the pair of c, both children fit, and c is above depth 200
--     SplitsAt c fate        where the fate is Split: c can split so
--     AreChildrenOn c i j rest new  new is the rest with the two children of c on top, child 0 last
--     AreStacked c fate rest new  new is the rest, with the children of a Split on top, child 0 last
--     CanSplitTop, TopSplits the same of the cone on top of a stack
--     IsTopSplit, IsTopTurned  the same where the old stack is the rest and c on top
--     IsTopAt path stack     a cone is on top, and it has that path
--     AreFewer old new       each cone of the new stack is one of the old
use Rattle.std.specs.Prelude.{ℕ, ◌≡◌, ◌<◌, ◌-◌, true, false, List, [], ◌∷◌, ◌++◌, length, Some}
use Rattle.std.specs.List.{Contains}
use Rattle.unimodular_cone.specs.Paths.{Path}
use Rattle.unimodular_cone.specs.Shown.{ShownCone, NamesPair, FitsOnBothSides, IsChild}
use Rattle.search_core.specs.declared.Fate.{Fate}
use Rattle.search_core.specs.declared.Fate.TheVariants.{Closed, Split, Low, Dropped, AtLimit, Wide}

abbrev pub IsOnTop : ShownCone → List ShownCone → List ShownCone → Type 0
IsOnTop c rest stack = stack ≡ rest ++ c ∷ []

abbrev pub IsSplitPair : ShownCone → ℕ → ℕ → Type 0
IsSplitPair c i j = NamesPair c (Some (i, j)) × FitsOnBothSides c (i - 1) (j - 1) × (length c.path < 200)

abbrev pub SplitsAt : ShownCone → Fate → Type 0
SplitsAt c (Split i j w) = IsSplitPair c i j
SplitsAt c (Closed w) = Unit {0}
SplitsAt c (Low k) = Unit {0}
SplitsAt c (Dropped w) = Unit {0}
SplitsAt c (AtLimit w) = Unit {0}
SplitsAt c (Wide w at) = Unit {0}

pub record AreChildrenOn (c : ShownCone) (i j : ℕ) (rest new : List ShownCone) : Type 0 where
  pub second : ShownCone
  pub first : ShownCone
  pub is_second : IsChild c i j true second
  pub is_first : IsChild c i j false first
  pub stack : new ≡ rest ++ second ∷ first ∷ []

abbrev pub AreStacked : ShownCone → Fate → List ShownCone → List ShownCone → Type 0
AreStacked c (Split i j w) rest new = AreChildrenOn c (i - 1) (j - 1) rest new
AreStacked c (Closed w) rest new = new ≡ rest
AreStacked c (Low k) rest new = new ≡ rest
AreStacked c (Dropped w) rest new = new ≡ rest
AreStacked c (AtLimit w) rest new = new ≡ rest
AreStacked c (Wide w at) rest new = new ≡ rest

-- ---- the cone on top of a stack
abbrev pub CanSplitTop : List ShownCone → ℕ → ℕ → Type 0
CanSplitTop stack i j = (c : ShownCone) (rest : List ShownCone) → IsOnTop c rest stack → IsSplitPair c i j

abbrev pub TopSplits : Fate → List ShownCone → Type 0
TopSplits fate stack = (c : ShownCone) (rest : List ShownCone) → IsOnTop c rest stack → SplitsAt c fate

abbrev pub IsTopSplit : List ShownCone → ℕ → ℕ → List ShownCone → Type 0
IsTopSplit old i j new = (c : ShownCone) (rest : List ShownCone) → IsOnTop c rest old
    → AreChildrenOn c (i - 1) (j - 1) rest new

abbrev pub IsTopTurned : Fate → List ShownCone → List ShownCone → Type 0
IsTopTurned fate old new = (c : ShownCone) (rest : List ShownCone) → IsOnTop c rest old → AreStacked c fate rest new

pub record IsTopAt (path : Path) (stack : List ShownCone) : Type 0 where
  pub top : ShownCone
  pub rest : List ShownCone
  pub is : IsOnTop top rest stack
  pub path_is : top.path ≡ path

abbrev pub AreFewer : List ShownCone → List ShownCone → Type 0
AreFewer old new = (c : ShownCone) → Contains new c → Contains old c
