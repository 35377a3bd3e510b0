-- The machine in code: what contracts see of it, and what it answers to an event.
--
--     ShownMachine                  its mode, matrix and limit, and its state
--     IsRunning m                   what a machine has: a state that is kept, a root that fits, a limit of at most 200
--     IsNewMachine m q d w t        t is a new machine of w workers: the root waits, and all hands are empty
--     IsSameSearch old new          the mode, the matrix and the limit are the same
--     IsWorker hands w              w is one of the workers, who count from 1
--     HasInHand hands w h           w is one of them and has h in hand
--     IsTakenHand, IsOfferedHand    a hand with a cone that hasn't been offered, or that has been
--     IsIgnored s event             the path isn't waiting, the worker isn't one of them, or the hand is not what the event wants
--     IsEvent m event t             the event leads from the machine's state to t
--     IsStepAnswer answer m event t what is answered, and what the machine is then
--     IsEventRun start events end   the events lead from one machine to another, one step after the other
--     HasEnded s                    nothing waits, and nothing is in hand
--     IsPlaceOf paths path k        path stands at the place k, from 0
--     IsJudgementAt m n q d path word j   j is the judgement of the cone at the path, under the word
use Rattle.std.specs.Prelude.{ℕ, ◌≡◌, ◌≢◌, ◌<◌, ◌≤◌, ◌-◌, ◌⊎◌, List, [], ◌∷◌, length, slice_index_or}
use Rattle.std.specs.List.{Contains}
use Rattle.symmetric_matrix.specs.Symmetric.{Symmetric, entry}
use Rattle.unimodular_cone.specs.declared.Mode.{Mode}
use Rattle.unimodular_cone.specs.Paths.{Path}
use Rattle.unimodular_cone.specs.Cones.{Matrix, Fits, unit_vectors, cone_at}
use Rattle.search_core.specs.declared.event.Event.{Event}
use Rattle.search_core.specs.declared.event.Event.TheVariants.{Take, Offer, Judge}
use Rattle.search_core.specs.declared.event.Stepped.{Stepped}
use Rattle.search_core.specs.declared.event.Stepped.TheVariants.{Applied, Ignored, OutOfMemory}
use Rattle.search_core.specs.Fair.{Judged, least_value, IsFate}
use Rattle.search_core.specs.Machine.{Hand, Empty, Taken, Offered, State, hand, in_hands, IsTake, IsOffer, IsJudge, IsKept, IsStart}

pub record ShownMachine : Type 0 where
  pub mode : Mode
  pub matrix : Symmetric
  pub limit : ℕ
  pub state : State

pub record IsRunning (m : ShownMachine) : Type 0 where
  pub kept : IsKept m.mode m.matrix.size (entry m.matrix) m.limit m.state
  pub limited : m.limit ≤ 200
  pub root : Fits m.matrix.size (entry m.matrix) unit_vectors

pub record IsNewMachine (m : Mode) (q : Symmetric) (d w : ℕ) (t : ShownMachine) : Type 0 where
  pub mode : t.mode ≡ m
  pub matrix : t.matrix ≡ q
  pub limit : t.limit ≡ d
  pub workers : length t.state.hands ≡ w
  pub start : IsStart m q.size (entry q) t.state

pub record IsSameSearch (old new : ShownMachine) : Type 0 where
  pub mode : new.mode ≡ old.mode
  pub matrix : new.matrix ≡ old.matrix
  pub limit : new.limit ≡ old.limit

-- ---- events
abbrev pub IsWorker : List Hand → ℕ → Type 0
IsWorker hands w = (1 ≤ w) × (w ≤ length hands)

pub record HasInHand (hands : List Hand) (w : ℕ) (h : Hand) : Type 0 where
  pub worker : IsWorker hands w
  pub is : slice_index_or hands (w - 1) Empty ≡ h

abbrev pub IsTakenHand : Hand → Type 0
IsTakenHand h = (path : Path) × (h ≡ Taken path)

abbrev pub IsOfferedHand : Hand → Type 0
IsOfferedHand h = (path : Path) × (word : ℕ) × (h ≡ Offered path word)

abbrev pub IsIgnored : State → Event → Type 0
IsIgnored s (Take w path) = (¬ Contains s.waiting path) ⊎ (¬ IsWorker s.hands w) ⊎ (hand s (w - 1) ≢ Empty)
IsIgnored s (Offer w) = (¬ IsWorker s.hands w) ⊎ (¬ IsTakenHand (hand s (w - 1)))
IsIgnored s (Judge w) = (¬ IsWorker s.hands w) ⊎ (¬ IsOfferedHand (hand s (w - 1)))

abbrev pub IsEvent : ShownMachine → Event → State → Type 0
IsEvent m (Take w path) t = (1 ≤ w) × IsTake m.state (w - 1) path t
IsEvent m (Offer w) t = (1 ≤ w) × IsOffer m.mode m.matrix.size (entry m.matrix) m.state (w - 1) t
IsEvent m (Judge w) t = (1 ≤ w) × IsJudge m.mode m.matrix.size (entry m.matrix) m.limit m.state (w - 1) t

-- only a judgement takes memory
abbrev pub IsStepAnswer : Stepped → ShownMachine → Event → ShownMachine → Type 0
IsStepAnswer Applied old event new = (¬ IsIgnored old.state event) × IsEvent old event new.state
IsStepAnswer Ignored old event new = IsIgnored old.state event × (new ≡ old)
IsStepAnswer OutOfMemory old event new = ((w : ℕ) × (event ≡ Judge w)) × (¬ IsIgnored old.state event) × (new ≡ old)

abbrev pub IsEventRun : ShownMachine → List Event → ShownMachine → Type 0
IsEventRun start [] end = end ≡ start
IsEventRun start (event ∷ events) end =
    (answered : Stepped) × (next : ShownMachine) × IsStepAnswer answered start event next × IsSameSearch start next
    × IsEventRun next events end

abbrev pub HasEnded : State → Type 0
HasEnded s = (length s.waiting ≡ 0) × (length (in_hands s.hands) ≡ 0)

-- ---- parts of a step
pub record IsPlaceOf (paths : List Path) (path : Path) (k : ℕ) : Type 0 where
  pub within : k < length paths
  pub is : path ≡ slice_index_or paths k path

pub record IsJudgementAt (m : Mode) (n : ℕ) (q : Matrix) (d : ℕ) (path : Path) (word : ℕ) (j : Judged) : Type 0 where
  pub path_is : j.path ≡ path
  pub least_is : j.least ≡ least_value n q (cone_at n q path)
  pub fate : IsFate m n q d path word j.fate
