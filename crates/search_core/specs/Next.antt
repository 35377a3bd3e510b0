-- What a search depth first does at a cone, in short.
--
--     IsSplitAt i j next           the children of the pair (i, j), from 1, are to be judged
--     IsLetGo next, IsToKeep next  the cone is let go; its judgement is to be kept
--     IsNextOf fate next           it is what is done at a cone of this fate
--     IsShownNext m c d word next  it is what is done at c, with limit d, under the word
--     IsNextKept m d word c next old list   list is old with the judgement of c, or old where that is unneeded
use Rattle.std.specs.Prelude.{◌≡◌, ℕ, List}
use Rattle.unimodular_cone.specs.declared.Mode.{Mode}
use Rattle.unimodular_cone.specs.Shown.{ShownCone}
use Rattle.search_core.specs.Fates.{Fate, Closed, Split, Low, Dropped, AtLimit, Wide, Judged}
use Rattle.search_core.specs.Judging.{IsShownFate}
use Rattle.search_core.specs.Kept.{IsConeKept}
pub use Rattle.search_core.specs.declared.next.Next.{Next}
use Rattle.search_core.specs.declared.next.Next.TheVariants as short

abbrev pub IsSplitAt : ℕ → ℕ → Next → Type 0
IsSplitAt i j (short.Split a b) = (i ≡ a) × (j ≡ b)
IsSplitAt i j short.Gone = ⊥
IsSplitAt i j short.Kept = ⊥

abbrev pub IsLetGo : Next → Type 0
IsLetGo (short.Split a b) = ⊥
IsLetGo short.Gone = Unit {0}
IsLetGo short.Kept = ⊥

abbrev pub IsToKeep : Next → Type 0
IsToKeep (short.Split a b) = ⊥
IsToKeep short.Gone = ⊥
IsToKeep short.Kept = Unit {0}

abbrev pub IsNextOf : Fate → Next → Type 0
IsNextOf (Split i j w) next = IsSplitAt i j next
IsNextOf (Closed w) next = IsLetGo next
IsNextOf (Dropped w) next = IsLetGo next
IsNextOf (Low which) next = IsToKeep next
IsNextOf (AtLimit w) next = IsToKeep next
IsNextOf (Wide w at) next = IsToKeep next

abbrev pub IsShownNext : Mode → ShownCone → ℕ → ℕ → Next → Type 0
IsShownNext m c d word next = (fate : Fate) × IsShownFate m c d word fate × IsNextOf fate next

-- kept as it is for each fate of which this is done
abbrev pub IsNextKept : Mode → ℕ → ℕ → ShownCone → Next → List Judged → List Judged → Type 0
IsNextKept m d word c next old new = (fate : Fate) → IsNextOf fate next → IsConeKept m d word c fate old new
