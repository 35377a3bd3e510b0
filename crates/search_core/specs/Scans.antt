-- What is looked for in a list of judgements.
--
--     IsLowOf depth j            j is Low, and its path has that depth
--     IsUnclosedDown n q b path  neither the cone at the path nor a cone above it is closed at b
--     IsOpenEnd n q b j          j is at the limit or has a child that does not fit, and its path is not closed down to it
--     AreInTree n q d judged     each path of the list is one of the tree
--     IsFirstWith P judged best  best is the first by place with P
--     FindsFirst P judged best   best is the first by place with P, None where there is none
--     SplitsShown c              c has a pair, and both its children fit
--     IsBefore, IsBehind         a judgement comes before the best so far, or does not
use Rattle.std.specs.Prelude.{Option, Some, None, ℕ, ℤ, ◌≡◌, ◌-◌, List, length}
use Rattle.std.specs.List.{Contains}
use Rattle.unimodular_cone.specs.Paths.{Path, IsAbove, IsNoLater}
use Rattle.unimodular_cone.specs.Cones.{Matrix}
use Rattle.unimodular_cone.specs.Tree.{IsInTree, IsClosedAt}
use Rattle.unimodular_cone.specs.Shown.{ShownCone, NamesPair, FitsOnBothSides}
use Rattle.search_core.specs.Fair.{Judged, IsLowFate, IsEndFate}

abbrev pub IsLowOf : ℕ → Judged → Type 0
IsLowOf depth j = IsLowFate j.fate × (length j.path ≡ depth)

pub record IsUnclosedDown (n : ℕ) (q : Matrix) (b : ℤ) (path : Path) : Type 0 where
  pub itself : ¬ IsClosedAt n q path b
  pub above : (a : Path) → IsAbove a path → ¬ IsClosedAt n q a b

abbrev pub IsOpenEnd : ℕ → Matrix → ℤ → Judged → Type 0
IsOpenEnd n q b j = IsEndFate j.fate × IsUnclosedDown n q b j.path

-- each path is one of the tree
abbrev pub AreInTree : ℕ → Matrix → ℕ → List Judged → Type 0
AreInTree n q d judged = (j : Judged) → Contains judged j → IsInTree n q d j.path

pub record IsFirstWith (P : Judged → Type 0) (judged : List Judged) (best : Judged) : Type 0 where
  pub member : Contains judged best
  pub holds : P best
  pub first : (j : Judged) → Contains judged j → P j → IsNoLater best.path j.path

abbrev pub FindsFirst : (Judged → Type 0) → List Judged → Option Judged → Type 0
FindsFirst P judged None = (j : Judged) → Contains judged j → ¬ P j
FindsFirst P judged (Some best) = IsFirstWith P judged best

abbrev pub IsBefore : Judged → Option Judged → Type 0
IsBefore j None = Unit {0}
IsBefore j (Some best) = IsNoLater j.path best.path

abbrev pub IsBehind : Judged → Option Judged → Type 0
IsBehind j None = ⊥
IsBehind j (Some best) = IsNoLater best.path j.path

-- ---- ways down
-- the cone has a pair, and both its children fit
pub record SplitsShown (c : ShownCone) : Type 0 where
  pub paired : ¬ NamesPair c None
  pub fits : (i j : ℕ) → NamesPair c (Some (i, j)) → FitsOnBothSides c (i - 1) (j - 1)
