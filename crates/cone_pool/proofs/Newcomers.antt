-- Lists that grow by one: thieves, and new workers.
use Rattle.std.proofs.Common.{◌≡◌, Bool, ℕ, suc, ◌+◌, ◌<◌, List, [], ◌∷◌, ◌++◌, length, map, take, slice_index_or, sym, ap, ◌∙◌, subst, arith}
use Rattle.std.proofs.lemmas.List.{map-append}
use Rattle.std.specs.Global.{Global}
use Rattle.commutative_ring.proofs.SmallCases.{zero_plus}
use Rattle.unimodular_cone.specs.Paths.{Path}
use Rattle.crossbeam_deque.specs.declared.handles.Stealer.{Stealer}
use Rattle.crossbeam_deque.specs.Handles.{stealer_deque}
use Rattle.bound_word.specs.Seats.{TableId, Seat, with_one_out}
use Rattle.cone_pool.specs.declared.rule.Account.{Account}
use Rattle.cone_pool.specs.declared.rule.EachOnce.{EachOnce}
use Rattle.cone_pool.specs.Lots.{Deque, Lot, lot_deque}
use Rattle.cone_pool.specs.Parts.{Member, deques_of}
use Rattle.cone_pool.specs.Crews.{IsNewWorker, AreNewWorkers, AllKeep, seat_with_out}
use Rattle.cone_pool.proofs.Crewing.{add_one}
use Rattle.cone_pool.proofs.Handing.{deques_next}

abbrev Taker : Type 0
Taker = Stealer Path Global Account EachOnce

pub thief_more : (lots : List Lot) (k : ℕ) (x : Lot) (old new : List Taker) (t : Taker) → k < length lots → x ≡ slice_index_or lots k x
    → deques_of old ≡ map lot_deque (take k lots) → stealer_deque t ≡ x.deque → new ≡ old ++ t ∷ []
    → deques_of new ≡ map lot_deque (take (k + 1) lots)
thief_more lots k x old new t l is was on pushed =
    ap deques_of pushed ∙ map-append stealer_deque old (t ∷ []) ∙ ap (λ (r : List Deque). r ++ stealer_deque t ∷ []) was
    ∙ ap (λ (d : Deque). map lot_deque (take k lots) ++ d ∷ []) on ∙ deques_next lots k x l is
    ∙ ap (λ (m : ℕ). map lot_deque (take m lots)) (add_one k)

pub new_more : (t : TableId) (j : ℕ) (ws : List Member) (w : Member) → AreNewWorkers t j ws → IsNewWorker t (length ws + j) w → AreNewWorkers t j (ws ++ w ∷ [])
new_more t j [] w h n = (subst (λ (k : ℕ). IsNewWorker t k w) (zero_plus j) n, tt {0})
new_more t j (x ∷ xs) w (a, h) n = (a, new_more t (suc j) xs w h (subst (λ (k : ℕ). IsNewWorker t k w) (shift (length xs) j) n))
  where
    shift : (a b : ℕ) → suc a + b ≡ a + suc b
    shift a b = omega arith

pub alike_more : (b : Bool) (ws all : List Member) (w : Member) → AllKeep b ws → w.judged.whole ≡ b → all ≡ ws ++ w ∷ [] → AllKeep b all
alike_more b ws all w h e split = subst (AllKeep b) (sym split) (by ws h)
  where
    by : (ws : List Member) → AllKeep b ws → AllKeep b (ws ++ w ∷ [])
    by [] h = (e, tt {0})
    by (x ∷ xs) (a, h) = (a, by xs h)

-- the last of them, and those before
pub alike_less : (b : Bool) (all rest : List Member) (w : Member) → all ≡ rest ++ w ∷ [] → AllKeep b all → (w.judged.whole ≡ b) × AllKeep b rest
alike_less b all rest w split h = by rest (subst (AllKeep b) split h)
  where
    by : (ws : List Member) → AllKeep b (ws ++ w ∷ []) → (w.judged.whole ≡ b) × AllKeep b ws
    by [] (a, h) = (a, tt {0})
    by (x ∷ xs) (a, h) = let r = by xs h in (r.0, (a, r.1))

pub one_hired : (t : TableId) (k : ℕ) (ws all : List Member) (w : Member) → AreNewWorkers t 1 ws → length ws ≡ k → IsNewWorker t (k + 1) w
    → all ≡ ws ++ w ∷ [] → AreNewWorkers t 1 all
one_hired t k ws all w h many n e = subst (AreNewWorkers t 1) (sym e) (new_more t 1 ws w h (subst (λ (j : ℕ). IsNewWorker t (j + 1) w) (sym many) n))

pub one_split : (k : ℕ) (s now next : Seat) → now ≡ seat_with_out (s.out + k) s → next ≡ with_one_out now → next ≡ seat_with_out (s.out + (k + 1)) s
one_split k s now next e f = f ∙ ap with_one_out e ∙ ap (λ (n : ℕ). seat_with_out n s) (more s.out k)
  where
    more : (a b : ℕ) → a + b + 1 ≡ a + (b + 1)
    more a b = omega arith
