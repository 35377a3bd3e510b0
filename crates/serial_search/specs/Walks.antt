-- The two walks of a search without the list of vectors.
--
--     ComesFirst path first      the path is no deeper than that of the first low cone so far, or there is none so far
--     ComesBehind path first     there is one so far, and its path is no deeper
--     IsLowNoted c fate old new  where c is low and comes first, it is the first low cone of new; else new is old
--     IsFirstLowCone n q d low   the first low path of the tree, with the first low generator of its cone, from 1
--     IsClearWord n q d word     no cone of the tree is low, and the word stands for the final bound
--     IsFallen n q d fallen      what a first walk finds is the one or the other
use Rattle.std.specs.Prelude.{ℕ, ◌≤◌, ◌-◌, ◌≡◌, ◌⊎◌, Option, Some, None}
use Rattle.unimodular_cone.specs.Cones.{Matrix, cone_at}
use Rattle.unimodular_cone.specs.Paths.{Path, IsNoDeeper}
use Rattle.unimodular_cone.specs.Shown.{ShownCone}
use Rattle.unimodular_cone.specs.declared.Mode.{Mode}
use Rattle.unimodular_cone.specs.Tree.{IsFirstLow, IsFirstLowAt, IsFinalBound}
use Rattle.unimodular_cone.specs.Answer.{IsClear}
use Rattle.search_core.specs.declared.Fate.{Fate}
use Rattle.search_core.specs.Fair.{bound_under}
use Rattle.serial_search.specs.declared.values.LowCone.{LowCone}
use Rattle.serial_search.specs.declared.values.Fallen.{Fallen}

abbrev pub ComesFirst : Path → Option LowCone → Type 0
ComesFirst path None = Unit {0}
ComesFirst path (Some low) = IsNoDeeper path low.path

abbrev pub ComesBehind : Path → Option LowCone → Type 0
ComesBehind path None = ⊥
ComesBehind path (Some low) = IsNoDeeper low.path path

abbrev pub IsLowNoted : ShownCone → Fate → Option LowCone → Option LowCone → Type 0
IsLowNoted c (Fate.Low k) old new = (ComesFirst c.path old × (new ≡ Some (record { path = c.path; which = k })))
    ⊎ (ComesBehind c.path old × (new ≡ old))
IsLowNoted c (Fate.Closed w) old new = new ≡ old
IsLowNoted c (Fate.Split i j w) old new = new ≡ old
IsLowNoted c (Fate.Dropped w) old new = new ≡ old
IsLowNoted c (Fate.AtLimit w) old new = new ≡ old
IsLowNoted c (Fate.Wide w at) old new = new ≡ old

pub record IsFirstLowCone (n : ℕ) (q : Matrix) (d : ℕ) (low : LowCone) : Type 0 where
  pub path : IsFirstLow Mode.Least n q d low.path
  pub some : 1 ≤ low.which
  pub which : IsFirstLowAt Mode.Least n q (cone_at n q low.path) (low.which - 1)

pub record IsClearWord (n : ℕ) (q : Matrix) (d : ℕ) (word : ℕ) : Type 0 where
  pub clear : IsClear Mode.Least n q d
  pub past : 257 ≤ word
  pub bound : IsFinalBound Mode.Least n q d (bound_under Mode.Least word)

abbrev pub IsFallen : ℕ → Matrix → ℕ → Fallen → Type 0
IsFallen n q d (Fallen.Low low) = IsFirstLowCone n q d low
IsFallen n q d (Fallen.Word word) = IsClearWord n q d word
