-- How a worker takes a path.
use Rattle.std.proofs.Common.{◌≡◌, ℕ, zero, suc, ◌+◌, ◌<◌, List, [], ◌∷◌, ◌++◌, Option, Some, None, MatchOption, length, map, slice_set, slice_index_or, refl}
use Rattle.std.proofs.Common.{sym, ap, ◌∙◌, subst, arith}
use Rattle.std.specs.Option.{option_to_list}
use Rattle.std.specs.Global.{Global}
use Rattle.crossbeam_deque.specs.declared.handles.Stealer.{Stealer}
use Rattle.crossbeam_deque.specs.Handles.{stealer_deque}
use Rattle.unimodular_cone.specs.Paths.{Path}
use Rattle.search_core.specs.Machine.{times}
use Rattle.search_core.proofs.Times.{times-append, times_none}
use Rattle.bound_word.specs.Seats.{Seat, IsSameSeat}
use Rattle.cone_pool.specs.declared.rule.Account.{Account}
use Rattle.cone_pool.specs.declared.rule.EachOnce.{EachOnce}
use Rattle.cone_pool.specs.Lots.{Deque, Token, Lot, new_token, IsEmptied, IsPopped, IsNoMoreThanPut, IsStolenAt, token_taken, deque_of}
use Rattle.cone_pool.specs.Parts.{Member, deques_of, IsSameMember, TakesOnly}
use Rattle.cone_pool.proofs.Crewing.{map_head, map_tail, map_many}

abbrev Thief : Type 0
Thief = Stealer Path Global Account EachOnce

abbrev pub with_lot : Member → Lot → Member
with_lot w lot = record { number = w.number; lot = lot; seat = w.seat; judged = w.judged; kept = w.kept; cones = w.cones }

pub same_seat : (s : Seat) → IsSameSeat s s
same_seat s = record { table = refl; first = refl; out = refl }

pub same_member : (w : Member) → IsSameMember w w
same_member w = record { number = refl; seat = same_seat w.seat; deque = refl; out = refl; tokens = refl; whole = refl }

pub then_same : (a b c : Member) → IsSameMember a b → IsSameMember b c → IsSameMember a c
then_same a b c h g = record {
  number = g.number ∙ h.number;
  seat = record { table = g.seat.table ∙ h.seat.table; first = g.seat.first ∙ h.seat.first; out = g.seat.out ∙ h.seat.out };
  deque = g.deque ∙ h.deque;
  out = g.out ∙ h.out;
  tokens = g.tokens ∙ h.tokens;
  whole = g.whole ∙ h.whole;
}

pub took_nothing : (w : Member) → TakesOnly [] w w
took_nothing w = record {
  same = same_member w;
  counts = λ p. (let a = times_none p in omega arith);
  put = refl;
  seat = refl;
  judged = refl;
  kept = refl;
  cones = refl;
}

pub then_take : (paths : List Path) (a b c : Member) → TakesOnly [] a b → TakesOnly paths b c → TakesOnly paths a c
then_take paths a b c h g = record {
  same = then_same a b c h.same g.same;
  counts = λ p. (let x = h.counts p in let y = g.counts p in let z = times_none p in omega arith);
  put = g.put ∙ h.put;
  seat = g.seat ∙ h.seat;
  judged = g.judged ∙ h.judged;
  kept = g.kept ∙ h.kept;
  cones = g.cones ∙ h.cones;
}

pub popped : (w : Member) (r : Option Path) (lot : Lot)
    → MatchOption r ((lot ≡ w.lot) × IsEmptied w.lot) (λ path. IsPopped path w.lot lot × IsNoMoreThanPut lot) → TakesOnly (option_to_list r) w (with_lot w lot)
popped w None lot h = subst (λ (l : Lot). TakesOnly [] w (with_lot w l)) (sym h.0) (took_nothing w)
popped w (Some path) lot h = subst (λ (l : Lot). TakesOnly (path ∷ []) w (with_lot w l)) (sym h.0) record {
  same = record { number = refl; seat = same_seat w.seat; deque = refl; out = refl; tokens = refl; whole = refl };
  counts = λ p. omega (arith, times-append p w.lot.popped (path ∷ []));
  put = refl;
  seat = refl;
  judged = refl;
  kept = refl;
  cones = refl;
}

tokens_set : (p : Path) (ts : List Token) (k : ℕ) (t d : Token) → k < length ts
    → token_taken p (slice_set ts k t) + times p (slice_index_or ts k d).taken ≡ token_taken p ts + times p t.taken
tokens_set p [] k t d l = absurd (omega arith)
tokens_set p (x ∷ xs) zero t d l = omega arith
tokens_set p (x ∷ xs) (suc k) t d l = let h = tokens_set p xs k t d (omega arith) in omega arith

deques_set : (ts : List Token) (k : ℕ) (t d : Token) → k < length ts → t.deque ≡ (slice_index_or ts k d).deque
    → map deque_of (slice_set ts k t) ≡ map deque_of ts
deques_set [] k t d l e = refl
deques_set (x ∷ xs) zero t d l e = ap (λ (z : Deque). z ∷ map deque_of xs) e
deques_set (x ∷ xs) (suc k) t d l e = ap (λ (zs : List Deque). x.deque ∷ zs) (deques_set xs k t d (omega arith) e)

pub stolen : (w : Member) (k : ℕ) (r : Option Path) (lot : Lot) → k < length w.lot.tokens
    → MatchOption r (lot ≡ w.lot) (λ path. IsStolenAt k path w.lot lot) → TakesOnly (option_to_list r) w (with_lot w lot)
stolen w k None lot l h = subst (λ (x : Lot). TakesOnly [] w (with_lot w x)) (sym h) (took_nothing w)
stolen w k (Some path) lot l h =
    let old : Token = slice_index_or w.lot.tokens k (new_token w.lot.deque) in record {
      same = record {
        number = refl;
        seat = same_seat w.seat;
        deque = h.deque;
        out = h.out;
        tokens = ap (map deque_of) h.tokens ∙ deques_set w.lot.tokens k h.token (new_token w.lot.deque) l (ap deque_of h.by);
        whole = refl;
      };
      counts = λ p.
          let a = tokens_set p w.lot.tokens k h.token (new_token w.lot.deque) l in
          let b : times p h.token.taken ≡ times p (old.taken ++ path ∷ []) = ap (λ (t : Token). times p t.taken) h.by in
          let c : token_taken p lot.tokens ≡ token_taken p (slice_set w.lot.tokens k h.token) = ap (token_taken p) h.tokens in
          let d : times p lot.popped ≡ times p w.lot.popped = ap (times p) h.popped in
          omega (arith, times-append p old.taken (path ∷ []));
      put = h.put;
      seat = refl;
      judged = refl;
      kept = refl;
      cones = refl;
    }

pub in_range : (ts : List Token) (xs : List Thief) (k : ℕ) → map deque_of ts ≡ deques_of xs → k < length xs → k < length ts
in_range ts xs k e l = let h = map_many deque_of stealer_deque ts xs e in omega arith

pub names : (ts : List Token) (xs : List Thief) (k : ℕ) (x : Thief) → map deque_of ts ≡ deques_of xs → k < length xs → x ≡ slice_index_or xs k x
    → (slice_index_or ts k (new_token (stealer_deque x))).deque ≡ stealer_deque x
names [] [] k x e l is = absurd (omega arith)
names [] (y ∷ ys) k x e l is = refl
names (t ∷ ts) [] k x e l is = absurd (omega arith)
names (t ∷ ts) (y ∷ ys) zero x e l is = map_head deque_of stealer_deque t ts y ys e ∙ ap stealer_deque (sym is)
names (t ∷ ts) (y ∷ ys) (suc k) x e l is = names ts ys k x (map_tail deque_of stealer_deque t ts y ys e) (omega arith) is

abbrev pub with_seat : Member → Seat → Member
with_seat w seat = record { number = w.number; lot = w.lot; seat = seat; judged = w.judged; kept = w.kept; cones = w.cones }

-- a look at the count
pub looked : (a b : Member) (seat : Seat) → TakesOnly [] a b → seat ≡ b.seat → TakesOnly [] a (with_seat b seat)
looked a b seat h e = subst (λ (s : Seat). TakesOnly [] a (with_seat b s)) (sym e) h
