-- A list of workers by two lists: their lots, and the rest of each.
--
--     MemberRest             a worker without its lot
--     lot_of w, rest_of_member w  the two parts of a worker
--     LotCore, core_of_lot s a lot without tokens: its deque, and what was put there and popped
--     AreHanded ts k o lots  the first k lots hold these tokens, the others none; each has o passes out
--     AreLent ds k o lots    the first k lots hold no token, the others one on each of these deques; each has o passes
--                            out
--     total_taken p lots     how often p was popped by a lot or taken by one of its tokens, added up
--     total_put p lots       how often p was put into a lot, added up
--     seat_with_out n seat   the seat where n others were split from it
--     opening_lot number d   the deque d of a worker of that number, with what it begins with
--     IsNewWorker t number w a worker of that number that did nothing yet: its seat is of the table t, its deque has
--                            what the worker of that number begins with, and it has no token
--     AreNewWorkers t number ws  each is new; they have this number and those after it, in order
--     AllKeep whole ws       each keeps the whole list of its judgements, or none does
use Rattle.std.specs.Prelude.{◌≡◌, Bool, false, ℕ, zero, suc, ◌+◌, List, [], ◌∷◌, map}
use Rattle.unimodular_cone.specs.Shown.{ShownCone}
use Rattle.unimodular_cone.specs.Paths.{Path}
use Rattle.search_core.specs.Machine.{times}
use Rattle.bound_word.specs.Seats.{TableId, Seat, greatest_word}
use Rattle.cone_pool.specs.Lots.{Deque, Token, Lot, deque_of, token_taken}
use Rattle.cone_pool.specs.Keeping.{Judgements, AreNone}
use Rattle.cone_pool.specs.Parts.{Member, given_to}

pub record MemberRest : Type 0 where
  pub number : ℕ
  pub seat : Seat
  pub judged : Judgements
  pub kept : List Path
  pub cones : List ShownCone

abbrev pub lot_of : Member → Lot
lot_of w = w.lot

abbrev pub rest_of_member : Member → MemberRest
rest_of_member w = record { number = w.number; seat = w.seat; judged = w.judged; kept = w.kept; cones = w.cones }

pub record LotCore : Type 0 where
  pub deque : Deque
  pub put : List Path
  pub popped : List Path

abbrev pub core_of_lot : Lot → LotCore
core_of_lot s = record { deque = s.deque; put = s.put; popped = s.popped }

abbrev pub AreHanded : List Token → ℕ → ℕ → List Lot → Type 0
AreHanded ts k out [] = Unit {0}
AreHanded ts zero out (s ∷ ss) = (s.out ≡ out) × (s.tokens ≡ []) × AreHanded ts zero out ss
AreHanded ts (suc k) out (s ∷ ss) = (s.out ≡ out) × (s.tokens ≡ ts) × AreHanded ts k out ss

abbrev pub AreLent : List Deque → ℕ → ℕ → List Lot → Type 0
AreLent ds k out [] = Unit {0}
AreLent ds zero out (s ∷ ss) = (s.out ≡ out) × (map deque_of s.tokens ≡ ds) × AreLent ds zero out ss
AreLent ds (suc k) out (s ∷ ss) = (s.out ≡ out) × (s.tokens ≡ []) × AreLent ds k out ss

abbrev pub total_taken : Path → List Lot → ℕ
total_taken p [] = 0
total_taken p (s ∷ ss) = times p s.popped + token_taken p s.tokens + total_taken p ss

abbrev pub total_put : Path → List Lot → ℕ
total_put p [] = 0
total_put p (s ∷ ss) = times p s.put + total_put p ss

abbrev pub seat_with_out : ℕ → Seat → Seat
seat_with_out n s = record { table = s.table; given = s.given; told = s.told; first = s.first; out = n }

abbrev pub opening_lot : ℕ → Deque → Lot
opening_lot number deque = record { deque = deque; put = given_to number; popped = []; out = 0; tokens = [] }

pub record IsNewWorker (table : TableId) (number : ℕ) (w : Member) : Type 0 where
  pub number_is : w.number ≡ number
  pub table_is : w.seat.table ≡ table
  pub second : w.seat.first ≡ false
  pub given : w.seat.given ≡ greatest_word
  pub judged : AreNone w.judged
  pub kept : w.kept ≡ []
  pub cones : w.cones ≡ []
  pub lot : w.lot ≡ opening_lot number w.lot.deque

abbrev pub AreNewWorkers : TableId → ℕ → List Member → Type 0
AreNewWorkers table number [] = Unit {0}
AreNewWorkers table number (w ∷ ws) = IsNewWorker table number w × AreNewWorkers table (suc number) ws

abbrev pub AllKeep : Bool → List Member → Type 0
AllKeep whole [] = Unit {0}
AllKeep whole (w ∷ ws) = (w.judged.whole ≡ whole) × AllKeep whole ws
