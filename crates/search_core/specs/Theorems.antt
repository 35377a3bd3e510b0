-- That the fate and the code of a cone are one each, however the cone is shown; and that the machine's judgements are fair.
--
--     AtMostOneFate     two fates of the cone at a path, with the same limit and word, are equal
--     FateIsOfThePath   the fate of a cone as it is shown is that of the cone at its path
--     CodeIsOfThePath   so is its code
--     RunsAreFair       the start is kept, each event keeps what is kept, and at the end the judgements are fair with the word
--     EveryRunIsFair    whatever events a new machine of any number of workers is told: once nothing waits and nothing is in
--                       hand, its judgements are fair with the word
use Rattle.std.specs.Prelude.{ℕ, ◌≡◌, ◌≤◌, List}
use Rattle.symmetric_matrix.specs.Symmetric.{Symmetric, entry}
use Rattle.unimodular_cone.specs.Cones.{Matrix, Fits, unit_vectors}
use Rattle.unimodular_cone.specs.Paths.{Path}
use Rattle.unimodular_cone.specs.Shown.{ShownCone, IsConeAt}
use Rattle.unimodular_cone.specs.declared.Mode.{Mode}
use Rattle.search_core.specs.Fair.{Fate, IsFate, IsFair, code}
use Rattle.search_core.specs.Judging.{shown_code, IsShownFate}
use Rattle.search_core.specs.Machine.{State, IsTake, IsOffer, IsJudge, IsKept, IsStart, IsEnd}
use Rattle.search_core.specs.declared.event.Event.{Event}
use Rattle.search_core.specs.Events.{ShownMachine, IsNewMachine, IsEventRun, HasEnded}

abbrev pub AtMostOneFate : Type 0
AtMostOneFate = (m : Mode) (n : ℕ) (q : Matrix) (d : ℕ) (path : Path) (word : ℕ) (f g : Fate)
    → IsFate m n q d path word f → IsFate m n q d path word g → f ≡ g

abbrev pub FateIsOfThePath : Type 0
FateIsOfThePath = (m : Mode) (n : ℕ) (q : Matrix) (d word : ℕ) (path : Path) (c : ShownCone) (f : Fate)
    → IsConeAt n q path c → IsShownFate m c d word f → IsFate m n q d path word f

abbrev pub CodeIsOfThePath : Type 0
CodeIsOfThePath = (m : Mode) (n : ℕ) (q : Matrix) (path : Path) (c : ShownCone) → 1 ≤ n → IsConeAt n q path c
    → shown_code m c ≡ code m n q path

pub record RunsAreFair : Type 0 where
  pub start : (m : Mode) (n : ℕ) (q : Matrix) (d : ℕ) (s : State) → IsStart m n q s → IsKept m n q d s
  pub take : (m : Mode) (n : ℕ) (q : Matrix) (d : ℕ) (s t : State) (k : ℕ) (path : Path)
      → IsKept m n q d s → IsTake s k path t → IsKept m n q d t
  pub offer : (m : Mode) (n : ℕ) (q : Matrix) (d : ℕ) (s t : State) (k : ℕ) → IsKept m n q d s → IsOffer m n q s k t
      → IsKept m n q d t
  pub judge : (m : Mode) (n : ℕ) (q : Matrix) (d : ℕ) (s t : State) (k : ℕ) → IsKept m n q d s → IsJudge m n q d s k t
      → IsKept m n q d t
  pub end : (m : Mode) (n : ℕ) (q : Matrix) (d : ℕ) (s : State) → IsKept m n q d s → IsEnd s
      → IsFair m n q d s.judged s.word

abbrev pub EveryRunIsFair : Type 0
EveryRunIsFair = (m : Mode) (q : Symmetric) (d workers : ℕ) (start end : ShownMachine) (events : List Event) → d ≤ 200
    → Fits q.size (entry q) unit_vectors
    → IsNewMachine m q d workers start → IsEventRun start events end → HasEnded end.state
    → IsFair m q.size (entry q) d end.state.judged end.state.word
