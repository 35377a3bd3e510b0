-- Where a search ends, before its list of vectors is made.
--
--     IsEndOf m n q d part final end   the low and the open ends are the search's answer; Closed says that none of the
--                                      judgements is low, and none is open at the final bound
--     NamesEnd j end                   the judgement j is at the limit, or has a child that does not fit: this end
use Rattle.std.specs.Prelude.{ℕ, ◌≤◌, ◌≡◌, List}
use Rattle.std.specs.List.{Contains}
use Rattle.unimodular_cone.specs.declared.Mode.{Mode}
use Rattle.unimodular_cone.specs.Cones.{Matrix}
use Rattle.unimodular_cone.specs.Answer.{SearchAnswer, IsSearchAnswer}
use Rattle.search_core.specs.declared.settling.End.{End}
use Rattle.search_core.specs.Fair.{AtLimit, Wide, Judged, bound_under}
use Rattle.search_core.specs.Scans.{IsOpenEnd}

abbrev pub IsEndOf : Mode → ℕ → Matrix → ℕ → List Judged → ℕ → End → Type 0
IsEndOf m n q d part final (End.Low x z path) = IsSearchAnswer m n q d (SearchAnswer.Low x z path)
IsEndOf m n q d part final (End.Depth path) = IsSearchAnswer m n q d (SearchAnswer.Depth path)
IsEndOf m n q d part final (End.Wide at) = IsSearchAnswer m n q d (SearchAnswer.Wide at.path at.entry)
IsEndOf m n q d part final End.Closed =
    (256 ≤ final) × ((j : Judged) → Contains part j → ¬ IsOpenEnd n q (bound_under m final) j)

-- the end that a judgement names
abbrev pub NamesEnd : Judged → End → Type 0
NamesEnd j (End.Low x z path) = ⊥
NamesEnd j (End.Depth path) = (path ≡ j.path) × ((word : ℕ) × (j.fate ≡ AtLimit word))
NamesEnd j (End.Wide at) = (word : ℕ) × (j.fate ≡ Wide word at)
NamesEnd j End.Closed = ⊥
