-- A worker's part of a search, and the coordinator's.
--
--     Member                 a worker, as contracts see it
--     given_to number        the paths that the worker of that number begins with: the root for the first, which
--                            counts from 1
--     times_found p w        how often p was taken by the worker, or is a child of a Split of its own
--     times_received p w     how often p came to the worker: it was given or found
--     times_handled p w      how often p left its hand: judged, put or kept
--     total_found p ws, total_handled p ws  of each worker, added up
--     AreJudgedAt m n q d seat js  each judgement is right, under a word that is at least what the seat was told; the
--                            seat gave at most each judged code, and one of them or nothing; what is kept of them has
--                            what an answer may look at, where the final word is at most what the seat was told
--     AreCones n q d cones   each is the cone at its path, which has at most d digits
--     IsWorkerPart m n q d hand w  path by path, what came to the worker is what left or is in its hand; its
--                            judgements are those of its seat, and its cones are cones
--     deques_of thieves      the deques that they take from
--     IsSameMember old new   the same number, the same seat of the same table, and the same deque and tokens; of its
--                            judgements it keeps the whole list as before, or not
--     TakesOnly paths old new  the worker took the paths, and is otherwise the same
--     IsSafe paths s k t l   each of the paths was put into the lot s or kept beside k, which became t and l
--     IsFateOnTop m d f cones  f is the fate of the cone on top, with limit d, under some word
--     IsJudgedAlone old new  a worker after a judgement: it has the same deque, tokens and cones, and kept the same
--                            paths
--     IsWorkerReady m n q d t deques w  a worker that may begin: it has a seat of the table and tokens on the deques,
--                            it kept nothing, and has its part
--     IsWorkerDone m n q d old new  a worker that ended: its part, and the same worker
--     IsDrained from s t     the paths that were put into the lot `from` and not popped went from there to s, which
--                            became t
--     IsMerged w old new     the coordinator after it took over all that the worker w left
--     IsReturned m n q d t w a worker that ended, with no token and no pass on its deque in use
--     HasGathered m n q d t rest w  the coordinator w has taken over all workers but the rest
use Rattle.std.specs.Prelude.{◌≡◌, true, false, ℕ, zero, suc, ◌+◌, ◌≤◌, ◌⊎◌, List, [], ◌∷◌, length, map}
use Rattle.std.specs.List.{Contains}
use Rattle.std.specs.Global.{Global}
use Rattle.crossbeam_deque.specs.declared.handles.Stealer.{Stealer}
use Rattle.crossbeam_deque.specs.Handles.{stealer_deque}
use Rattle.bound_word.specs.Seats.{TableId, Seat, greatest_word, joined_seat, IsSameSeat}
use Rattle.unimodular_cone.specs.declared.Mode.{Mode}
use Rattle.unimodular_cone.specs.Paths.{Path}
use Rattle.unimodular_cone.specs.Cones.{Matrix}
use Rattle.unimodular_cone.specs.Shown.{ShownCone, IsConeAt}
use Rattle.search_core.specs.declared.Fate.{Fate}
use Rattle.search_core.specs.declared.Judged.{Judged}
use Rattle.search_core.specs.Fair.{code, IsJudgement}
use Rattle.search_core.specs.Judging.{IsShownFate}
use Rattle.search_core.specs.Machine.{times, paths, below_splits}
use Rattle.cone_pool.specs.declared.rule.Account.{Account}
use Rattle.cone_pool.specs.declared.rule.EachOnce.{EachOnce}
use Rattle.cone_pool.specs.Lots.{Deque, Lot, deque_of, token_taken}
use Rattle.cone_pool.specs.Turns.{IsOnTop}
use Rattle.cone_pool.specs.Keeping.{Judgements, KeepsRelevant, IsAppended}
pub use Rattle.cone_pool.specs.declared.member.Member.{Member}

abbrev pub given_to : ℕ → List Path
given_to zero = []
given_to (suc zero) = [] ∷ []
given_to (suc (suc k)) = []

abbrev pub times_found : Path → Member → ℕ
times_found p w = times p w.lot.popped + token_taken p w.lot.tokens + times p (below_splits w.judged.items)

abbrev pub times_received : Path → Member → ℕ
times_received p w = times p (given_to w.number) + times_found p w

abbrev pub times_handled : Path → Member → ℕ
times_handled p w = times p (paths w.judged.items) + times p w.lot.put + times p w.kept

abbrev pub total_found : Path → List Member → ℕ
total_found p [] = 0
total_found p (w ∷ ws) = times_found p w + total_found p ws

abbrev pub total_handled : Path → List Member → ℕ
total_handled p [] = 0
total_handled p (w ∷ ws) = times_handled p w + total_handled p ws

pub record AreJudgedAt (m : Mode) (n : ℕ) (q : Matrix) (d : ℕ) (seat : Seat) (js : Judgements) : Type 0 where
  pub judgements : (j : Judged) → Contains js.items j → IsJudgement m n q d seat.told j
  pub given_below : (j : Judged) → Contains js.items j → seat.given ≤ code m n q j.path
  pub given_is : (seat.given ≡ greatest_word) ⊎ ((j : Judged) × Contains js.items j × (seat.given ≡ code m n q j.path))
  pub keeps : KeepsRelevant m seat.told js

abbrev pub AreCones : ℕ → Matrix → ℕ → List ShownCone → Type 0
AreCones n q d cones = (c : ShownCone) → Contains cones c → IsConeAt n q c.path c × (length c.path ≤ d)

pub record IsWorkerPart (m : Mode) (n : ℕ) (q : Matrix) (d : ℕ) (hand : List Path) (w : Member) : Type 0 where
  pub counts : (p : Path) → times_received p w ≡ times_handled p w + times p hand
  pub judged : AreJudgedAt m n q d w.seat w.judged
  pub cones : AreCones n q d w.cones
  pub room : length w.kept + length hand ≤ 2

abbrev pub deques_of : List (Stealer Path Global Account EachOnce) → List Deque
deques_of thieves = map stealer_deque thieves

pub record IsSameMember (old new : Member) : Type 0 where
  pub number : new.number ≡ old.number
  pub seat : IsSameSeat old.seat new.seat
  pub deque : new.lot.deque ≡ old.lot.deque
  pub out : new.lot.out ≡ old.lot.out
  pub tokens : map deque_of new.lot.tokens ≡ map deque_of old.lot.tokens
  pub whole : new.judged.whole ≡ old.judged.whole

pub record TakesOnly (taken : List Path) (old new : Member) : Type 0 where
  pub same : IsSameMember old new
  pub counts : (p : Path) → times p new.lot.popped + token_taken p new.lot.tokens
      ≡ times p old.lot.popped + token_taken p old.lot.tokens + times p taken
  pub put : new.lot.put ≡ old.lot.put
  pub seat : new.seat ≡ old.seat
  pub judged : new.judged ≡ old.judged
  pub kept : new.kept ≡ old.kept
  pub cones : new.cones ≡ old.cones

pub record IsSafe (paths : List Path) (s : Lot) (k : List Path) (t : Lot) (l : List Path) : Type 0 where
  pub counts : (p : Path) → times p t.put + times p l ≡ times p s.put + times p k + times p paths
  pub deque : t.deque ≡ s.deque
  pub popped : t.popped ≡ s.popped
  pub out : t.out ≡ s.out
  pub tokens : t.tokens ≡ s.tokens
  pub few : length l ≤ length k + length paths

abbrev pub IsFateOnTop : Mode → ℕ → Fate → List ShownCone → Type 0
IsFateOnTop m d f cones =
    (word : ℕ) × ((c : ShownCone) (rest : List ShownCone) → IsOnTop c rest cones → IsShownFate m c d word f)

pub record IsJudgedAlone (old new : Member) : Type 0 where
  pub number : new.number ≡ old.number
  pub seat : IsSameSeat old.seat new.seat
  pub lot : new.lot ≡ old.lot
  pub whole : new.judged.whole ≡ old.judged.whole
  pub kept : new.kept ≡ old.kept
  pub cones : new.cones ≡ old.cones

pub record IsWorkerReady (m : Mode) (n : ℕ) (q : Matrix) (d : ℕ)
    (table : TableId) (deques : List Deque) (w : Member) : Type 0 where
  pub table_is : w.seat.table ≡ table
  pub deques_are : map deque_of w.lot.tokens ≡ deques
  pub none : w.kept ≡ []
  pub part : IsWorkerPart m n q d [] w

pub record IsWorkerDone (m : Mode) (n : ℕ) (q : Matrix) (d : ℕ) (old new : Member) : Type 0 where
  pub part : IsWorkerPart m n q d [] new
  pub same : IsSameMember old new

-- ---- the coordinator
pub record IsDrained (source s t : Lot) : Type 0 where
  pub counts : (p : Path) → times p t.put + times p source.popped ≡ times p s.put + times p source.put
  pub deque : t.deque ≡ s.deque
  pub popped : t.popped ≡ s.popped
  pub out : t.out ≡ s.out
  pub tokens : t.tokens ≡ s.tokens

pub record IsMerged (w old new : Member) : Type 0 where
  pub counts : (p : Path) → times_received p new + times_handled p old + times_handled p w
      ≡ times_handled p new + times_received p old + times_found p w
  pub judged : IsAppended w.judged old.judged new.judged
  pub seat : new.seat ≡ joined_seat old.seat w.seat
  pub number : new.number ≡ old.number
  pub deque : new.lot.deque ≡ old.lot.deque
  pub out : new.lot.out ≡ old.lot.out
  pub tokens : new.lot.tokens ≡ old.lot.tokens
  pub kept : new.kept ≡ old.kept
  pub cones : new.cones ≡ old.cones

pub record IsReturned (m : Mode) (n : ℕ) (q : Matrix) (d : ℕ) (table : TableId) (w : Member) : Type 0 where
  pub table_is : w.seat.table ≡ table
  pub second : w.seat.first ≡ false
  pub out : w.lot.out ≡ 0
  pub tokens : w.lot.tokens ≡ []
  pub judged : AreJudgedAt m n q d w.seat w.judged

pub record HasGathered (m : Mode) (n : ℕ) (q : Matrix) (d : ℕ)
    (table : TableId) (rest : List Member) (w : Member) : Type 0 where
  pub counts : (p : Path) → total_found p rest + times_received p w ≡ total_handled p rest + times_handled p w
  pub judged : AreJudgedAt m n q d w.seat w.judged
  pub cones : AreCones n q d w.cones
  pub none : w.kept ≡ []
  pub number : w.number ≡ 1
  pub table_is : w.seat.table ≡ table
  pub first : w.seat.first ≡ true
  pub seats : w.seat.out ≡ length rest
  pub out : w.lot.out ≡ 0
  pub tokens : w.lot.tokens ≡ []
