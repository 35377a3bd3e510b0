-- A split of the top of an arena's list of which only the open children are made.
--
--     AreBothOn c i j rest new       new is the rest with both children of c on top, child 0 last
--     IsChildOn c i j side rest new  new is the rest with that child of c on top
--     AreOpenOn c i j made rest new  new is the rest with the children of c that are made on top, child 0 last
--     IsTopOpened a i j bound o xs b b is a with the open children of its top at the bound in its place, i and j from 1; o tells
--                                    which, and whether the mediant's value is the bound: there xs has its coordinates
--     made_count made                how many they are
--     AreRowsOpened old top i j bound o xs new  so are the rows below that row and those that hold its children
use Rattle.std.specs.Prelude.{ℕ, ℤ, ◌≡◌, ◌+◌, ◌-◌, Bool, true, false, List, [], ◌∷◌, ◌++◌, take, slice_index_or}
use Rattle.unimodular_cone.specs.declared.OpenChildren.{OpenChildren}
use Rattle.unimodular_cone.specs.declared.OpenChildren.TheVariants.{Below, Both, First, Second, Neither}
use Rattle.unimodular_cone.specs.declared.Opened.{Opened}
use Rattle.unimodular_cone.specs.OpenChildren.{IsOpening}
use Rattle.unimodular_cone.specs.Shown.{ShownCone, IsChild}
use Rattle.cone_arena.specs.Arena.{ShownArena, IsOnTop}

pub record AreBothOn (c : ShownCone) (i j : ℕ) (rest new : List ShownCone) : Type 0 where
  pub second : ShownCone
  pub first : ShownCone
  pub is_second : IsChild c i j true second
  pub is_first : IsChild c i j false first
  pub cones : new ≡ rest ++ second ∷ first ∷ []

pub record IsChildOn (c : ShownCone) (i j : ℕ) (side : Bool) (rest new : List ShownCone) : Type 0 where
  pub child : ShownCone
  pub is_child : IsChild c i j side child
  pub cones : new ≡ rest ++ child ∷ []

abbrev pub AreOpenOn : ShownCone → ℕ → ℕ → OpenChildren → List ShownCone → List ShownCone → Type 0
AreOpenOn c i j Below rest new = AreBothOn c i j rest new
AreOpenOn c i j Both rest new = AreBothOn c i j rest new
AreOpenOn c i j First rest new = IsChildOn c i j false rest new
AreOpenOn c i j Second rest new = IsChildOn c i j true rest new
AreOpenOn c i j Neither rest new = new ≡ rest

pub record IsTopOpened (a : ShownArena) (i j : ℕ) (bound : ℤ) (o : Opened) (xs : List ℕ) (b : ShownArena) : Type 0 where
  pub size : b.size ≡ a.size
  pub depth : b.depth ≡ a.depth
  pub top : ShownCone
  pub rest : List ShownCone
  pub was : IsOnTop top rest a.cones
  pub sized : top.size ≡ a.size
  pub opening : IsOpening top (i - 1) (j - 1) bound o xs
  pub opened : AreOpenOn top (i - 1) (j - 1) o.made rest b.cones

-- how many rows hold the children
abbrev pub made_count : OpenChildren → ℕ
made_count Below = 2
made_count Both = 2
made_count First = 1
made_count Second = 1
made_count Neither = 0

pub record AreRowsOpened (old : List ShownCone) (top i j : ℕ) (bound : ℤ) (o : Opened) (xs : List ℕ)
    (new : List ShownCone) : Type 0 where
  pub was : ShownCone
  pub stood : was ≡ slice_index_or old top was
  pub opening : IsOpening was (i - 1) (j - 1) bound o xs
  pub opened : AreOpenOn was (i - 1) (j - 1) o.made (take top old) (take (top + made_count o.made) new)
