-- What contracts see of a worker's deque, and of its passes on the others'.
--
--     Deque                  which deque it is
--     Token                  a pass on a deque that another worker owns: what was taken there by it
--     Lot                    a worker's own deque, what its owner put there and popped, how many passes of others on
--                            it are in use, and the owner's tokens on the other deques
--     new_lot d, new_token d a lot and a token of the deque d that did nothing yet
--     lot_deque s, deque_of t, token_on s  the deque of a lot, the deque of a token, and a new token on the lot's
--                            deque
--     token_taken p tokens   how often p stands in what the tokens took
--     lot_with_one_out s     s after a pass on its deque was split off
--     lot_holding tokens s   s with these tokens
--     absorbed_lot token s   s after the token on its deque came back
--     absorbed_all tokens lots  each lot after the token at its place came back
--     IsPushed path s t      the lot s became t when the path was put
--     IsPopped path s t      s became t when the path was taken from its own deque
--     IsEmptied s            with no pass of others in use, what was put was popped, path by path
--     IsNoMoreThanPut s      with no pass of others in use, no path was popped more often than put
--     IsStolenBy path s t    the token s became t when the path was taken
--     IsStolenAt k path s t  the lot s became t when the path was taken by its token k
use Rattle.std.specs.Prelude.{◌≡◌, ◌≤◌, ℕ, ◌+◌, ◌-◌, List, [], ◌∷◌, ◌++◌, slice_index_or, slice_set}
use Rattle.std.specs.Global.{Global}
use Rattle.atomic_blocks.specs.Lent.{RowsId}
use Rattle.unimodular_cone.specs.Paths.{Path}
use Rattle.search_core.specs.Machine.{times}

abbrev pub Deque : Type 0
Deque = RowsId × Global

pub record Token : Type 0 where
  pub deque : Deque
  pub taken : List Path

pub record Lot : Type 0 where
  pub deque : Deque
  pub put : List Path
  pub popped : List Path
  pub out : ℕ
  pub tokens : List Token

abbrev pub new_token : Deque → Token
new_token d = record { deque = d; taken = [] }

abbrev pub new_lot : Deque → Lot
new_lot d = record { deque = d; put = []; popped = []; out = 0; tokens = [] }

abbrev pub lot_deque : Lot → Deque
lot_deque s = s.deque

abbrev pub deque_of : Token → Deque
deque_of t = t.deque

abbrev pub token_on : Lot → Token
token_on s = new_token s.deque

abbrev pub token_taken : Path → List Token → ℕ
token_taken p [] = 0
token_taken p (t ∷ ts) = times p t.taken + token_taken p ts

abbrev pub lot_with_one_out : Lot → Lot
lot_with_one_out s = record { deque = s.deque; put = s.put; popped = s.popped; out = s.out + 1; tokens = s.tokens }

abbrev pub lot_holding : List Token → Lot → Lot
lot_holding tokens s = record { deque = s.deque; put = s.put; popped = s.popped; out = s.out; tokens = tokens }

abbrev pub absorbed_lot : Token → Lot → Lot
absorbed_lot token s =
    record { deque = s.deque; put = s.put; popped = s.popped ++ token.taken; out = s.out - 1; tokens = s.tokens }

abbrev pub absorbed_all : List Token → List Lot → List Lot
absorbed_all [] lots = lots
absorbed_all (t ∷ ts) [] = []
absorbed_all (t ∷ ts) (s ∷ ss) = absorbed_lot t s ∷ absorbed_all ts ss

abbrev pub IsPushed : Path → Lot → Lot → Type 0
IsPushed path s t =
    t ≡ record { deque = s.deque; put = s.put ++ path ∷ []; popped = s.popped; out = s.out; tokens = s.tokens }

abbrev pub IsPopped : Path → Lot → Lot → Type 0
IsPopped path s t =
    t ≡ record { deque = s.deque; put = s.put; popped = s.popped ++ path ∷ []; out = s.out; tokens = s.tokens }

abbrev pub IsEmptied : Lot → Type 0
IsEmptied s = s.out ≡ 0 → (p : Path) → times p s.put ≡ times p s.popped

abbrev pub IsNoMoreThanPut : Lot → Type 0
IsNoMoreThanPut s = s.out ≡ 0 → (p : Path) → times p s.popped ≤ times p s.put

abbrev pub IsStolenBy : Path → Token → Token → Type 0
IsStolenBy path s t = t ≡ record { deque = s.deque; taken = s.taken ++ path ∷ [] }

pub record IsStolenAt (k : ℕ) (path : Path) (s t : Lot) : Type 0 where
  pub deque : t.deque ≡ s.deque
  pub put : t.put ≡ s.put
  pub popped : t.popped ≡ s.popped
  pub out : t.out ≡ s.out
  pub token : Token
  pub by : IsStolenBy path (slice_index_or s.tokens k (new_token s.deque)) token
  pub tokens : t.tokens ≡ slice_set s.tokens k token
