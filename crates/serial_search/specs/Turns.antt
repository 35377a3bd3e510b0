-- One turn of a search with a list of cones, the last one on top.
--
--     AreChildrenOn c i j rest new   new is the rest with the two children of c on top, child 0 last
--     AreStacked c fate rest new  new is the rest, with the children of a Split on top, child 0 last
--     MayTurn a fate              where the fate is Split: the top of the arena may be split so, and both its children fit
--     IsTurnOf a fate b           b is a with the children of a Split in the place of its top, or without its top
--     IsRootAlone q cones         the cones are the root's of the matrix alone
--     IsArenaEmptied a b          b is a without cones
--
-- The top of a list is that of the arena.
use Rattle.std.specs.Prelude.{ℕ, ◌≡◌, ◌-◌, true, false, List, [], ◌∷◌, ◌++◌}
use Rattle.symmetric_matrix.specs.Symmetric.{Symmetric, entry}
use Rattle.unimodular_cone.specs.Shown.{ShownCone, IsChild, IsConeAt}
pub use Rattle.cone_arena.specs.Arena.{IsOnTop}
use Rattle.cone_arena.specs.Arena.{ShownArena, MaySplit, TopFits}
use Rattle.search_core.specs.declared.Fate.{Fate}
use Rattle.search_core.specs.declared.Fate.TheVariants.{Closed, Split, Low, Dropped, AtLimit, Wide}

pub record AreChildrenOn (c : ShownCone) (i j : ℕ) (rest new : List ShownCone) : Type 0 where
  pub second : ShownCone
  pub first : ShownCone
  pub is_second : IsChild c i j true second
  pub is_first : IsChild c i j false first
  pub stack : new ≡ rest ++ second ∷ first ∷ []

abbrev pub AreStacked : ShownCone → Fate → List ShownCone → List ShownCone → Type 0
AreStacked c (Split i j w) rest new = AreChildrenOn c (i - 1) (j - 1) rest new
AreStacked c (Closed w) rest new = new ≡ rest
AreStacked c (Low k) rest new = new ≡ rest
AreStacked c (Dropped w) rest new = new ≡ rest
AreStacked c (AtLimit w) rest new = new ≡ rest
AreStacked c (Wide w at) rest new = new ≡ rest

abbrev pub MayTurn : ShownArena → Fate → Type 0
MayTurn a (Split i j w) = MaySplit a i j × TopFits a i j
MayTurn a (Closed w) = Unit {0}
MayTurn a (Low k) = Unit {0}
MayTurn a (Dropped w) = Unit {0}
MayTurn a (AtLimit w) = Unit {0}
MayTurn a (Wide w at) = Unit {0}

pub record IsTurnOf (a : ShownArena) (fate : Fate) (b : ShownArena) : Type 0 where
  pub size : b.size ≡ a.size
  pub depth : b.depth ≡ a.depth
  pub turned : (c : ShownCone) (rest : List ShownCone) → IsOnTop c rest a.cones → AreStacked c fate rest b.cones

pub record IsRootAlone (q : Symmetric) (cones : List ShownCone) : Type 0 where
  pub root : ShownCone
  pub is_root : IsConeAt q.size (entry q) [] root
  pub alone : cones ≡ root ∷ []

pub record IsArenaEmptied (a b : ShownArena) : Type 0 where
  pub size : b.size ≡ a.size
  pub depth : b.depth ≡ a.depth
  pub empty : b.cones ≡ []
