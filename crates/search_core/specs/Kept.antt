-- The judgement of a cone, where a search depth first keeps it.
--
--     IsNeededFate fate          it is low, or an end
--     IsUnneededFate fate        it is neither
--     HasOneMore m d word c old list   list is old with the judgement of c
--     IsConeKept m d word c fate old list   it is, or it is old where that is unneeded
use Rattle.std.specs.Prelude.{◌≡◌, ◌⊎◌, ℕ, List, [], ◌∷◌, ◌++◌}
use Rattle.unimodular_cone.specs.declared.Mode.{Mode}
use Rattle.unimodular_cone.specs.Shown.{ShownCone}
use Rattle.search_core.specs.Fair.{Fate, Judged, IsLowFate, IsEndFate}
use Rattle.search_core.specs.Judging.{IsJudgementOf}

abbrev pub IsNeededFate : Fate → Type 0
IsNeededFate fate = IsLowFate fate ⊎ IsEndFate fate

pub record IsUnneededFate (fate : Fate) : Type 0 where
  pub not_low : ¬ IsLowFate fate
  pub no_end : ¬ IsEndFate fate

abbrev pub HasOneMore : Mode → ℕ → ℕ → ShownCone → List Judged → List Judged → Type 0
HasOneMore m d word c old new = (j : Judged) × IsJudgementOf m c d word j × (new ≡ old ++ j ∷ [])

abbrev pub IsConeKept : Mode → ℕ → ℕ → ShownCone → Fate → List Judged → List Judged → Type 0
IsConeKept m d word c fate old new = HasOneMore m d word c old new ⊎ ((new ≡ old) × IsUnneededFate fate)
