-- Cones on the way to a path.
--
--     AreAtPaths n q cones     each cone is that of its own path
--     EndsInFront path cones   no cone is left, or the last one's path is a front of this one
--     AddsAttainingAt          the keys of the generators of a value of the cone at a path are added
--     IsLastAt n q path cones  the last cone is that of the path
use Rattle.std.specs.Prelude.{◌≡◌, ◌⊎◌, ◌≤◌, ℕ, ℤ, List, [], ◌∷◌, ◌++◌, All, length, take}
use Rattle.unimodular_cone.specs.Paths.{Path}
use Rattle.unimodular_cone.specs.Cones.{Matrix}
use Rattle.unimodular_cone.specs.Shown.{ShownCone, IsConeAt}
use Rattle.search_core.specs.Attaining.{AddsAttaining}

abbrev pub AreAtPaths : ℕ → Matrix → List ShownCone → Type 0
AreAtPaths n q cones = All (λ (c : ShownCone). IsConeAt n q c.path c) cones

pub record HasFront (path : Path) (cones : List ShownCone) : Type 0 where
  pub rest : List ShownCone
  pub last : ShownCone
  pub is : cones ≡ rest ++ last ∷ []
  pub front : take (length last.path) path ≡ last.path
  pub shorter : length last.path ≤ length path

abbrev pub EndsInFront : Path → List ShownCone → Type 0
EndsInFront path cones = (cones ≡ []) ⊎ HasFront path cones

pub record IsLastAt (n : ℕ) (q : Matrix) (path : Path) (cones : List ShownCone) : Type 0 where
  pub rest : List ShownCone
  pub last : ShownCone
  pub is : cones ≡ rest ++ last ∷ []
  pub at : IsConeAt n q path last

-- new has the keys of old and those of the generators of the value of the cone at the path
pub record AddsAttainingAt (n : ℕ) (q : Matrix) (path : Path) (z : ℤ) (old new : List (List ℕ)) : Type 0 where
  pub cone : ShownCone
  pub at : IsConeAt n q path cone
  pub adds : AddsAttaining cone cone.size z old new
