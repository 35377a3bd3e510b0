-- Workers from their making to their return.
use Rattle.std.proofs.Common.{◌≡◌, Bool, false, ℕ, zero, suc, ◌+◌, ◌<◌, ◌≤◌, ◌⊎◌, List, [], ◌∷◌, ◌++◌, length, map, take, drop, slice_index_or, refl, sym, ap}
use Rattle.std.proofs.Common.{ap₂, ◌∙◌, subst, inl, inr, arith}
use Rattle.std.specs.List.{Contains}
use Rattle.exact_forms.proofs.Vectors.{contains_cons}
use Rattle.exact_forms.proofs.Lists.{nothing_in}
use Rattle.unimodular_cone.specs.declared.Mode.{Mode}
use Rattle.unimodular_cone.specs.Shown.{ShownCone}
use Rattle.unimodular_cone.specs.Paths.{Path}
use Rattle.unimodular_cone.specs.Cones.{Matrix}
use Rattle.search_core.specs.declared.Judged.{Judged}
use Rattle.search_core.specs.Machine.{times, paths, below_splits}
use Rattle.search_core.proofs.Times.{times_none}
use Rattle.bound_word.specs.Seats.{TableId, ShownTable, Seat, first_seat}
use Rattle.cone_pool.specs.Lots.{Deque, Token, Lot, lot_deque, new_lot, token_taken, deque_of}
use Rattle.cone_pool.specs.Keeping.{Judgements, AreNone}
use Rattle.cone_pool.specs.Parts.{Member, given_to, AreJudgedAt, times_found, times_handled, total_found, total_handled, IsWorkerPart, IsWorkerReady}
use Rattle.cone_pool.specs.Parts.{IsWorkerDone, IsReturned, HasGathered}
use Rattle.cone_pool.specs.Crews.{MemberRest, LotCore, lot_of, rest_of_member, core_of_lot, seat_with_out, AreHanded, AreLent, total_taken, total_put}
use Rattle.cone_pool.specs.Crews.{IsNewWorker, AreNewWorkers, AllKeep}
use Rattle.cone_pool.proofs.Crewing.{map_head, map_tail, map_shorter}
use Rattle.cone_pool.proofs.SeatJudgements.{none_judged}

-- the deques of two workers, and of the rest of each list, are the same without tokens
head_core : (v : Member) (vs : List Member) (x : Member) (xs : List Member) → map core_of_lot (map lot_of (v ∷ vs)) ≡ map core_of_lot (map lot_of (x ∷ xs))
    → core_of_lot v.lot ≡ core_of_lot x.lot
head_core v vs x xs e = map_head core_of_lot core_of_lot v.lot (map lot_of vs) x.lot (map lot_of xs) e

tail_core : (v : Member) (vs : List Member) (x : Member) (xs : List Member) → map core_of_lot (map lot_of (v ∷ vs)) ≡ map core_of_lot (map lot_of (x ∷ xs))
    → map core_of_lot (map lot_of vs) ≡ map core_of_lot (map lot_of xs)
tail_core v vs x xs e = map_tail core_of_lot core_of_lot v.lot (map lot_of vs) x.lot (map lot_of xs) e

pub new_lots : (t : TableId) (j : ℕ) (ws : List Member) → AreNewWorkers t j ws → AreHanded [] 0 0 (map lot_of ws)
new_lots t j [] h = tt {0}
new_lots t j (w ∷ ws) (a, h) = (ap (λ (l : Lot). l.out) a.lot, ap (λ (l : Lot). l.tokens) a.lot, new_lots t (suc j) ws h)

pub rest_alike : (b : Bool) (ws back : List Member) → map rest_of_member back ≡ map rest_of_member ws → AllKeep b ws → AllKeep b back
rest_alike b ws [] e h = tt {0}
rest_alike b [] (u ∷ us) e h = absurd (map_shorter rest_of_member rest_of_member u us (sym e))
rest_alike b (w ∷ ws) (u ∷ us) e (a, h) = (
  ap (λ (y : MemberRest). y.judged.whole) (map_head rest_of_member rest_of_member u us w ws e) ∙ a,
  rest_alike b ws us (map_tail rest_of_member rest_of_member u us w ws e) h,
)

-- a worker that ended
pub record IsWorkerOver (m : Mode) (n : ℕ) (q : Matrix) (d : ℕ) (t : TableId) (number : ℕ) (w : Member) : Type 0 where
  pub number_is : w.number ≡ number
  pub table_is : w.seat.table ≡ t
  pub second : w.seat.first ≡ false
  pub part : IsWorkerPart m n q d [] w

abbrev pub AreWorkersOver : Mode → ℕ → Matrix → ℕ → TableId → ℕ → List Member → Type 0
AreWorkersOver m n q d t number [] = Unit {0}
AreWorkersOver m n q d t number (w ∷ ws) = IsWorkerOver m n q d t number w × AreWorkersOver m n q d t (suc number) ws

abbrev total_below : Path → List MemberRest → ℕ
total_below p [] = 0
total_below p (b ∷ bs) = times p (below_splits b.judged.items) + total_below p bs

abbrev total_left : Path → List MemberRest → ℕ
total_left p [] = 0
total_left p (b ∷ bs) = times p (paths b.judged.items) + times p b.kept + total_left p bs

came_parts : (p : Path) (ws : List Member) → total_found p ws ≡ total_taken p (map lot_of ws) + total_below p (map rest_of_member ws)
came_parts p [] = omega arith
came_parts p (w ∷ ws) = let h = came_parts p ws in omega arith

goes_parts : (p : Path) (ws : List Member) → total_handled p ws ≡ total_put p (map lot_of ws) + total_left p (map rest_of_member ws)
goes_parts p [] = omega arith
goes_parts p (w ∷ ws) = let h = goes_parts p ws in omega arith

pub same_sums : (p : Path) (ws back : List Member) (r : ℕ) → map rest_of_member back ≡ map rest_of_member ws
    → total_taken p (map lot_of back) ≡ total_taken p (map lot_of ws) → total_put p (map lot_of back) ≡ total_put p (map lot_of ws)
    → total_found p ws + r ≡ total_handled p ws → total_found p back + r ≡ total_handled p back
same_sums p ws back r e f g h =
    let a : total_below p (map rest_of_member back) ≡ total_below p (map rest_of_member ws) = ap (total_below p) e in
    let b : total_left p (map rest_of_member back) ≡ total_left p (map rest_of_member ws) = ap (total_left p) e in
    omega (arith, came_parts p ws, came_parts p back, goes_parts p ws, goes_parts p back)

module _ (m : Mode) (n : ℕ) (q : Matrix) (d : ℕ) where
  ready_one : (t : TableId) (ds : List Deque) (ts : List Token) (j : ℕ) (x v : Member) → ((p : Path) → token_taken p ts ≡ 0) → map deque_of ts ≡ ds
      → IsNewWorker t j x → rest_of_member v ≡ rest_of_member x → core_of_lot v.lot ≡ core_of_lot x.lot → v.lot.tokens ≡ ts → IsWorkerReady m n q d t ds v
  ready_one t ds ts j x v none on new b c e = record {
    table_is = ap (λ (y : MemberRest). y.seat.table) b ∙ new.table_is;
    deques_are = ap (map deque_of) e ∙ on;
    none = ap (λ (y : MemberRest). y.kept) b ∙ new.kept;
    part = record {
      counts = λ p.
          let f : times p (given_to v.number) ≡ times p (given_to j) =
          ap (λ (y : MemberRest). times p (given_to y.number)) b ∙ ap (λ (k : ℕ). times p (given_to k)) new.number_is in
          let g : times p v.lot.popped ≡ times p [] = ap (λ (y : LotCore). times p y.popped) c ∙ ap (λ (y : Lot). times p y.popped) new.lot in
          let h : times p v.lot.put ≡ times p (given_to j) = ap (λ (y : LotCore). times p y.put) c ∙ ap (λ (y : Lot). times p y.put) new.lot in
          let i : token_taken p v.lot.tokens ≡ token_taken p ts = ap (token_taken p) e in
          let k : times p (paths v.judged.items) ≡ times p [] = ap (λ (y : List Judged). times p (paths y)) judged in
          let l : times p (below_splits v.judged.items) ≡ times p [] = ap (λ (y : List Judged). times p (below_splits y)) judged in
          let o : times p v.kept ≡ times p [] = ap (λ (y : MemberRest). times p y.kept) b ∙ ap (times p) new.kept in
          let r = none p in
          let z = times_none p in
          omega arith;
      judged = none_judged m n q d v.seat v.judged (ap (λ (y : MemberRest). y.seat.given) b ∙ new.given) none_yet;
      cones = λ y there. absurd (nothing_in y (subst (λ (l : List ShownCone). Contains l y) cones there));
      room = (let a : length v.kept ≡ 0 = ap (λ (y : MemberRest). length y.kept) b ∙ ap length new.kept in omega arith);
    };
  }
    where
      none_yet : AreNone v.judged
      none_yet = subst (λ (y : MemberRest). AreNone y.judged) (sym b) new.judged

      judged : v.judged.items ≡ []
      judged = none_yet.items

      cones : v.cones ≡ []
      cones = ap (λ (y : MemberRest). y.cones) b ∙ new.cones

  pub readies : (t : TableId) (ds : List Deque) (ts : List Token) (j k o : ℕ) (old now : List Member) → ((p : Path) → token_taken p ts ≡ 0)
      → map deque_of ts ≡ ds → AreNewWorkers t j old → map rest_of_member now ≡ map rest_of_member old
      → map core_of_lot (map lot_of now) ≡ map core_of_lot (map lot_of old)
      → AreHanded ts k o (map lot_of now) → length now ≤ k → (i : ℕ) (w : Member) → i < length now → IsWorkerReady m n q d t ds (slice_index_or now i w)
  readies t ds ts j k o old [] none on new b c h le i w l = absurd (omega arith)
  readies t ds ts j k o [] (v ∷ vs) none on new b c h le i w l = absurd (map_shorter rest_of_member rest_of_member v vs (sym b))
  readies t ds ts j zero o (x ∷ xs) (v ∷ vs) none on new b c h le i w l = absurd (omega arith)
  readies t ds ts j (suc k) o (x ∷ xs) (v ∷ vs) none on (a, new) b c (e, f, h) le zero w l =
      ready_one t ds ts j x v none on a (map_head rest_of_member rest_of_member v vs x xs b) (head_core v vs x xs c) f
  readies t ds ts j (suc k) o (x ∷ xs) (v ∷ vs) none on (a, new) b c (e, f, h) le (suc i) w l =
      readies t ds ts (suc j) k o xs vs none on new (map_tail rest_of_member rest_of_member v vs x xs b) (tail_core v vs x xs c) h (omega arith) i w
      (omega arith)

  abbrev pub Dones : List Member → List Member → Type 0
  Dones now new = (i : ℕ) (w : Member) → i < length now → IsWorkerDone m n q d (slice_index_or now i w) (slice_index_or new i w)

  later : (v : Member) (vs : List Member) (w : Member) (ws : List Member) → Dones (v ∷ vs) (w ∷ ws) → Dones vs ws
  later v vs w ws h = λ i x l. h (suc i) x (omega arith)

  first : (v : Member) (vs : List Member) (w : Member) (ws : List Member) → Dones (v ∷ vs) (w ∷ ws) → IsWorkerDone m n q d v w
  first v vs w ws h = h 0 v (omega arith)

  pub overs : (t : TableId) (j : ℕ) (old now new : List Member) → AreNewWorkers t j old → map rest_of_member now ≡ map rest_of_member old
      → length new ≡ length now → Dones now new → AreWorkersOver m n q d t j new
  overs t j old now [] a b l h = tt {0}
  overs t j old [] (w ∷ ws) a b l h = absurd (omega arith)
  overs t j [] (v ∷ vs) (w ∷ ws) a b l h = absurd (map_shorter rest_of_member rest_of_member v vs (sym b))
  overs t j (x ∷ xs) (v ∷ vs) (w ∷ ws) (a, r) b l h =
      let f = first v vs w ws h in
      let e = map_head rest_of_member rest_of_member v vs x xs b in (
        record {
          number_is = f.same.number ∙ ap (λ (y : MemberRest). y.number) e ∙ a.number_is;
          table_is = f.same.seat.table ∙ ap (λ (y : MemberRest). y.seat.table) e ∙ a.table_is;
          second = f.same.seat.first ∙ ap (λ (y : MemberRest). y.seat.first) e ∙ a.second;
          part = f.part;
        },
        overs t (suc j) xs vs ws r (map_tail rest_of_member rest_of_member v vs x xs b) (omega arith) (later v vs w ws h),
      )

  pub lents : (ds : List Deque) (ts : List Token) (k o : ℕ) (now new : List Member) → map deque_of ts ≡ ds → AreHanded ts k o (map lot_of now)
      → length now ≤ k → length new ≡ length now → Dones now new → AreLent ds 0 o (map lot_of new)
  lents ds ts k o now [] on a le l h = tt {0}
  lents ds ts k o [] (w ∷ ws) on a le l h = absurd (omega arith)
  lents ds ts zero o (v ∷ vs) (w ∷ ws) on a le l h = absurd (omega arith)
  lents ds ts (suc k) o (v ∷ vs) (w ∷ ws) on (e, f, a) le l h =
      let g = first v vs w ws h in
      (g.same.out ∙ e, g.same.tokens ∙ ap (map deque_of) f ∙ on, lents ds ts k o vs ws on a (omega arith) (omega arith) (later v vs w ws h))

  pub deques_kept : (now new : List Member) → length new ≡ length now → Dones now new → map lot_deque (map lot_of new) ≡ map lot_deque (map lot_of now)
  deques_kept [] [] l h = refl
  deques_kept [] (w ∷ ws) l h = absurd (omega arith)
  deques_kept (v ∷ vs) [] l h = absurd (omega arith)
  deques_kept (v ∷ vs) (w ∷ ws) l h =
      let f : map lot_deque (map lot_of ws) ≡ map lot_deque (map lot_of vs) = deques_kept vs ws (omega arith) (later v vs w ws h) in
      let g : w.lot.deque ≡ v.lot.deque = (first v vs w ws h).same.deque in
      ap₂ (λ (a : Deque) (r : List Deque). a ∷ r) g f

  pub done_alike : (b : Bool) (now new : List Member) → length new ≡ length now → Dones now new → AllKeep b now → AllKeep b new
  done_alike b now [] l h a = tt {0}
  done_alike b [] (w ∷ ws) l h a = absurd (omega arith)
  done_alike b (v ∷ vs) (w ∷ ws) l h (e, a) = ((first v vs w ws h).same.whole ∙ e, done_alike b vs ws (omega arith) (later v vs w ws h) a)

  one_sum : (p : Path) (t : TableId) (j : ℕ) (w : Member) → IsWorkerOver m n q d t j w → times_found p w + times p (given_to j) ≡ times_handled p w
  one_sum p t j w h =
      let a = h.part.counts p in
      let b : times p (given_to w.number) ≡ times p (given_to j) = ap (λ (k : ℕ). times p (given_to k)) h.number_is in
      let z = times_none p in
      omega arith

  others : (p : Path) (t : TableId) (j : ℕ) (ws : List Member) → AreWorkersOver m n q d t (suc (suc j)) ws → total_found p ws ≡ total_handled p ws
  others p t j [] h = refl
  others p t j (w ∷ ws) (a, h) =
      let e = others p t (suc j) ws h in
      let f : times_found p w + times p [] ≡ times_handled p w = one_sum p t (suc (suc j)) w a in
      let z = times_none p in
      omega arith

  pub all_sums : (p : Path) (t : TableId) (ws : List Member) → AreWorkersOver m n q d t 1 ws → 0 < length ws
      → total_found p ws + times p ([] ∷ []) ≡ total_handled p ws
  all_sums p t [] h l = absurd (omega arith)
  all_sums p t (w ∷ ws) (a, h) l =
      let e = others p t 0 ws h in
      let f : times_found p w + times p ([] ∷ []) ≡ times_handled p w = one_sum p t 1 w a in
      omega arith

  one_back : (t : TableId) (j : ℕ) (w v : Member) → IsWorkerOver m n q d t j w → rest_of_member v ≡ rest_of_member w → v.lot.out ≡ 0 → v.lot.tokens ≡ []
      → IsReturned m n q d t v
  one_back t j w v h b e f = record {
    table_is = ap (λ (y : MemberRest). y.seat.table) b ∙ h.table_is;
    second = ap (λ (y : MemberRest). y.seat.first) b ∙ h.second;
    out = e;
    tokens = f;
    judged = subst (λ (y : MemberRest). AreJudgedAt m n q d y.seat y.judged) (sym b) h.part.judged;
  }

  pub all_back : (t : TableId) (j : ℕ) (ds : List Deque) (k : ℕ) (ws back : List Member) → AreWorkersOver m n q d t j ws
      → map rest_of_member back ≡ map rest_of_member ws → AreLent ds k 0 (map lot_of back) → length back ≤ k → (v : Member) → Contains back v
      → IsReturned m n q d t v
  all_back t j ds k ws [] h b a le v c = absurd (nothing_in v c)
  all_back t j ds k [] (u ∷ us) h b a le v c = absurd (map_shorter rest_of_member rest_of_member u us (sym b))
  all_back t j ds zero (w ∷ ws) (u ∷ us) h b a le v c = absurd (omega arith)
  all_back t j ds (suc k) (w ∷ ws) (u ∷ us) (g, h) b (e, f, a) le v c =
      either (one_back t j w u g (map_head rest_of_member rest_of_member u us w ws b) e f)
      (all_back t (suc j) ds k ws us h (map_tail rest_of_member rest_of_member u us w ws b) a (omega arith) v)
      (contains_cons u us v c)
    where
      either : IsReturned m n q d t u → (Contains us v → IsReturned m n q d t v) → ((u ≡ v) ⊎ Contains us v) → IsReturned m n q d t v
      either one others (inl s) = subst (IsReturned m n q d t) s one
      either one others (inr r) = others r

  abbrev chief : Lot → Seat → Judgements → List ShownCone → Member
  chief lot seat judged cones = record { number = 1; lot = lot; seat = seat; judged = judged; kept = []; cones = cones }

  pub gathers_all : (t : ShownTable) (rest : List Member) (o : ℕ) (lot : Lot) (s seat : Seat) (judged : Judgements) (cones : List ShownCone)
      → ((p : Path) → total_found p rest + times p ([] ∷ []) ≡ total_handled p rest)
      → s ≡ first_seat t → seat ≡ seat_with_out (s.out + o) s → length rest ≡ o → AreNone judged → cones ≡ [] → lot ≡ new_lot lot.deque
      → HasGathered m n q d t.id rest (chief lot seat judged cones)
  gathers_all t rest o lot s seat judged cones sums fs ss many js cs l = record {
    counts = λ p.
        let h = sums p in
        let a : times p lot.put ≡ times p [] = ap (λ (x : Lot). times p x.put) l in
        let b : times p lot.popped ≡ times p [] = ap (λ (x : Lot). times p x.popped) l in
        let c : token_taken p lot.tokens ≡ 0 = ap (λ (x : Lot). token_taken p x.tokens) l in
        let e : times p (paths judged.items) ≡ times p [] = ap (λ (x : List Judged). times p (paths x)) js.items in
        let f : times p (below_splits judged.items) ≡ times p [] = ap (λ (x : List Judged). times p (below_splits x)) js.items in
        let z = times_none p in
        omega arith;
    judged = none_judged m n q d seat judged (ap (λ (x : Seat). x.given) ss ∙ ap (λ (x : Seat). x.given) fs) js;
    cones = λ y there. absurd (nothing_in y (subst (λ (x : List ShownCone). Contains x y) cs there));
    none = refl;
    number = refl;
    table_is = ap (λ (x : Seat). x.table) ss ∙ ap (λ (x : Seat). x.table) fs;
    first = ap (λ (x : Seat). x.first) ss ∙ ap (λ (x : Seat). x.first) fs;
    seats =
        let a : seat.out ≡ s.out + o = ap (λ (x : Seat). x.out) ss in
        let b : s.out ≡ 0 = ap (λ (x : Seat). x.out) fs in
        omega arith;
    out = ap (λ (x : Lot). x.out) l;
    tokens = ap (λ (x : Lot). x.tokens) l;
  }

  pub gathers_back : (t : ShownTable) (all rest : List Member) (o : ℕ) (lot : Lot) (s seat : Seat) (judged : Judgements) (cones : List ShownCone) → all ≡ rest
      → ((p : Path) → total_found p rest + times p ([] ∷ []) ≡ total_handled p rest)
      → s ≡ first_seat t → seat ≡ seat_with_out (s.out + o) s → length rest ≡ o → AreNone judged → cones ≡ [] → lot ≡ new_lot lot.deque
      → HasGathered m n q d t.id all (chief lot seat judged cones)
  gathers_back t all rest o lot s seat judged cones e sums fs ss many js cs l =
      subst (λ (x : List Member). HasGathered m n q d t.id x (chief lot seat judged cones)) (sym e)
      (gathers_all t rest o lot s seat judged cones sums fs ss many js cs l)

pub written_back : (len : ℕ) (xs new : List Member) → length xs ≡ len → length new ≡ length xs → take len (new ++ drop (length new) xs) ≡ new
written_back len [] [] e f = ap (λ (k : ℕ). take k ([])) (sym e)
written_back len [] (y ∷ ys) e f = absurd (omega arith)
written_back len (x ∷ xs) [] e f = absurd (omega arith)
written_back len (x ∷ xs) (y ∷ ys) e f =
    ap (λ (k : ℕ). take k (y ∷ (ys ++ drop (length ys) xs))) (sym e) ∙ ap (λ (r : List Member). y ∷ r) (written_back (length xs) xs ys refl (omega arith))
