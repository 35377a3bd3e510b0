-- What the machine's code does in a step is an event, and what is kept stays kept.
use Rattle.std.specs.Prelude.{◌≡◌, ◌≢◌, ℕ, zero, suc, ◌<◌, ◌≤◌, ◌+◌, ◌-◌, min, List, [], ◌∷◌, ◌++◌, length, take, drop, replicate, slice_index_or}
use Rattle.std.specs.Prelude.{slice_set}
use Rattle.std.proofs.Common.{arith, sym, ◌∙◌, ap, ap₂, refl, inl, inr, subst, length-append}
use Rattle.std.proofs.lemmas.List.{take_more}
use Rattle.std.specs.Ordering.{MatchOrdering, is_eq}
use Rattle.std.specs.Bool.{MatchBool}
use Rattle.std.specs.declared.cmp.Ordering.{Ordering}
use Rattle.std.specs.declared.cmp.Ordering.TheVariants.{Less, Equal, Greater}
use Rattle.symmetric_matrix.specs.Symmetric.{Symmetric, entry}
use Rattle.unimodular_cone.specs.declared.Mode.{Mode}
use Rattle.unimodular_cone.specs.Paths.{Path, IsNoLater, place_order}
use Rattle.unimodular_cone.proofs.Orders.{place_order_is, no_later_self}
use Rattle.unimodular_cone.specs.Cones.{Matrix, Fits, unit_vectors}
use Rattle.unimodular_cone.specs.Tree.{IsInTree}
use Rattle.search_core.specs.declared.event.Event.{Event}
use Rattle.search_core.specs.declared.event.Event.TheVariants.{Take, Offer, Judge}
use Rattle.search_core.specs.declared.event.Stepped.{Stepped}
use Rattle.search_core.specs.declared.event.Stepped.TheVariants.{Applied, Ignored, OutOfMemory}
use Rattle.search_core.specs.declared.machine.Machine.TheInside.{Inside}
use Rattle.search_core.specs.Fair.{Fate, Closed, Split, Low, Dropped, AtLimit, Wide, Judged, code, IsSplit, IsFate, IsFair}
use Rattle.search_core.specs.Machine.{Hand, Empty, Taken, Offered, State, held, in_hands, children_of, IsKept, AreEmpty}
use Rattle.search_core.specs.Events.{ShownMachine, IsRunning, IsNewMachine, IsSameSearch, HasInHand, IsIgnored, IsEvent, IsStepAnswer, IsEventRun}
use Rattle.search_core.specs.Events.{HasEnded, IsPlaceOf, IsJudgementAt}
use Rattle.search_core.proofs.Kept.{take_keeps, offer_keeps, judge_keeps}
use Rattle.search_core.proofs.Finish.{start_is_kept, end_is_fair}
use Rattle.search_core.proofs.Reaching.{held_in_tree}

-- ---- what a machine's fields show
abbrev pub shown_of : Inside → ShownMachine
shown_of i = record {
  mode = i.mode;
  matrix = i.matrix;
  limit = i.limit;
  state = record { waiting = i.waiting.items; hands = i.hands.items; word = i.word; judged = i.judged.items };
}

-- ---- the machine with another state
abbrev pub with_state : ShownMachine → State → ShownMachine
with_state m t = record { mode = m.mode; matrix = m.matrix; limit = m.limit; state = t }

pub event_keeps : (m : ShownMachine) (event : Event) (t : State) → IsRunning m → IsEvent m event t → IsRunning (with_state m t)
event_keeps m event t run e = record { kept = kept event e; limited = run.limited; root = run.root }
  where
    kept : (event : Event) → IsEvent m event t → IsKept m.mode m.matrix.size (entry m.matrix) m.limit t
    kept (Take w path) (some, e) = take_keeps m.mode m.matrix.size (entry m.matrix) m.limit m.state t (w - 1) path run.kept e
    kept (Offer w) (some, e) = offer_keeps m.mode m.matrix.size (entry m.matrix) m.limit m.state t (w - 1) run.kept e
    kept (Judge w) (some, e) = judge_keeps m.mode m.matrix.size (entry m.matrix) m.limit m.state t (w - 1) run.kept e

-- ---- hands
below_one_less : (w n : ℕ) → 1 ≤ w → w ≤ n → w - 1 < n
below_one_less w n some le = omega arith

at_worker : {hands : List Hand} {w : ℕ} {h : Hand} → HasInHand hands w h → w - 1 < length hands
at_worker {hands} {w} has = below_one_less w (length hands) has.worker.0 has.worker.1

-- what the code saw in a hand
pub saw : {hands slice : List Hand} {w : ℕ} {h g : Hand} → slice ≡ hands → h ≡ g → HasInHand slice w h → HasInHand hands w g
saw {hands} {slice} {w} {h} {g} same is has = subst (λ (x : Hand). HasInHand hands w x) is (subst (λ (xs : List Hand). HasInHand xs w h) same has)

-- the path of a hand that is not empty is in the tree
pub taken_in_tree : (m : ShownMachine) (w : ℕ) (path : Path) → IsRunning m → HasInHand m.state.hands w (Taken path)
    → IsInTree m.matrix.size (entry m.matrix) m.limit path
taken_in_tree m w path run has = held_in_tree m.mode m.matrix.size (entry m.matrix) m.limit m.state (w - 1) path run.kept (at_worker has) (ap held has.is)

pub offered_in_tree : (m : ShownMachine) (w : ℕ) (path : Path) (noted : ℕ) → IsRunning m → HasInHand m.state.hands w (Offered path noted)
    → IsInTree m.matrix.size (entry m.matrix) m.limit path
offered_in_tree m w path noted run has =
    held_in_tree m.mode m.matrix.size (entry m.matrix) m.limit m.state (w - 1) path run.kept (at_worker has) (ap held has.is)

-- the noted word is at most the code
pub noted_below_code : (m : ShownMachine) (w : ℕ) (path : Path) (noted : ℕ) → IsRunning m → HasInHand m.state.hands w (Offered path noted)
    → noted ≤ code m.mode m.matrix.size (entry m.matrix) path
noted_below_code m w path noted run has = (run.kept.noted (w - 1) path noted (at_worker has) has.is).1

-- ---- paths
pub same_by_place : (p r : Path) → MatchBool (is_eq (place_order p r)) (p ≡ r) (p ≢ r)
same_by_place p r = by (place_order p r) (place_order_is p r)
  where
    by : (o : Ordering) → MatchOrdering o (IsNoLater p r × (¬ IsNoLater r p)) (p ≡ r) (IsNoLater r p × (¬ IsNoLater p r)) → MatchBool (is_eq o) (p ≡ r) (p ≢ r)
    by Less h = λ e. h.1 (subst (IsNoLater r) (sym e) (no_later_self r))
    by Equal h = h
    by Greater h = λ e. h.1 (subst (λ (w : Path). IsNoLater w r) (sym e) (no_later_self r))

-- ---- Take
cut_at : (xs : List Path) (k : ℕ) (x : Path) → k < length xs → x ≡ slice_index_or xs k x → xs ≡ take k xs ++ x ∷ drop (suc k) xs
cut_at [] k x l e = absurd (omega arith)
cut_at (y ∷ xs) zero x l e = ap (λ (z : Path). z ∷ xs) (sym e)
cut_at (y ∷ xs) (suc k) x l e = ap (λ (zs : List Path). y ∷ zs) (cut_at xs k x (omega arith) e)

pub takes : (m : ShownMachine) (w place : ℕ) (path : Path) (t : State) → HasInHand m.state.hands w Empty → IsPlaceOf m.state.waiting path place
    → t.waiting ≡ take place m.state.waiting ++ drop (suc place) m.state.waiting → t.hands ≡ slice_set m.state.hands (w - 1) (Taken path)
    → t.word ≡ m.state.word
    → t.judged ≡ m.state.judged → IsEvent m (Take w path) t
takes m w place path t has at waiting hands word judged = (
  has.worker.0,
  record {
    worker = at_worker has;
    empty = has.is;
    before = take place m.state.waiting;
    after = drop (suc place) m.state.waiting;
    was = cut_at m.state.waiting place path at.within at.is;
    waiting = waiting;
    hands = hands;
    word = word;
    judged = judged;
  },
)

pub may_take : (s : State) (w place : ℕ) (path : Path) → HasInHand s.hands w Empty → IsPlaceOf s.waiting path place → ¬ IsIgnored s (Take w path)
may_take s w place path has at (inl absent) = absent (place, at.within, sym at.is)
may_take s w place path has at (inr (inl none)) = none has.worker
may_take s w place path has at (inr (inr full)) = full has.is

-- ---- Offer
pub offers : (m : ShownMachine) (w : ℕ) (path : Path) (t : State) → HasInHand m.state.hands w (Taken path)
    → t.word ≡ min m.state.word (code m.mode m.matrix.size (entry m.matrix) path) → t.hands ≡ slice_set m.state.hands (w - 1) (Offered path t.word)
    → t.waiting ≡ m.state.waiting → t.judged ≡ m.state.judged → IsEvent m (Offer w) t
offers m w path t has word hands waiting judged =
    (has.worker.0, record { worker = at_worker has; path = path; taken = has.is; word = word; hands = hands; waiting = waiting; judged = judged })

pub may_offer : (s : State) (w : ℕ) (path : Path) → HasInHand s.hands w (Taken path) → ¬ IsIgnored s (Offer w)
may_offer s w path has (inl none) = none has.worker
may_offer s w path has (inr other) = other (path, has.is)

-- ---- Judge
pub judges : (m : ShownMachine) (w : ℕ) (path : Path) (noted : ℕ) (j : Judged) (t : State) → HasInHand m.state.hands w (Offered path noted)
    → IsJudgementAt m.mode m.matrix.size (entry m.matrix) m.limit path noted j → t.hands ≡ slice_set m.state.hands (w - 1) Empty
    → t.waiting ≡ m.state.waiting ++ children_of path j.fate → t.word ≡ m.state.word → t.judged ≡ m.state.judged ++ j ∷ [] → IsEvent m (Judge w) t
judges m w path noted j t has at hands waiting word judged = (
  has.worker.0,
  record {
    worker = at_worker has;
    path = path;
    noted = noted;
    offered = has.is;
    fate = j.fate;
    is_fate = at.fate;
    hands = hands;
    waiting = waiting;
    word = word;
    judged = judged
        ∙ ap (λ (i : Judged). m.state.judged ++ i ∷ []) (ap₂ (λ (p : Path) z. record { path = p; fate = j.fate; least = z }) at.path_is at.least_is);
  },
)

pub may_judge : (s : State) (w : ℕ) (path : Path) (noted : ℕ) → HasInHand s.hands w (Offered path noted) → ¬ IsIgnored s (Judge w)
may_judge s w path noted has (inl none) = none has.worker
may_judge s w path noted has (inr other) = other (path, noted, has.is)

-- a split cone's path is shorter than the limit
pub split_short : (m : Mode) (n : ℕ) (q : Matrix) (d : ℕ) (path : Path) (word : ℕ) (f : Fate) → d ≤ 200 → IsInTree n q d path → IsFate m n q d path word f
    → IsSplit f
    → length path < 200
split_short m n q d path word (Closed w) small t fate h = absurd h
split_short m n q d path word (Split i j w) small t (c, at, (e, u, ne, pair, fits)) h =
    less (length c.path) (length path) d (ap length at.path_is) t.short ne small
  where
    less : (a b d : ℕ) → a ≡ b → b ≤ d → a ≢ d → d ≤ 200 → b < 200
    less a b d e le ne small = grind arith
split_short m n q d path word (Low k) small t fate h = absurd h
split_short m n q d path word (Dropped w) small t fate h = absurd h
split_short m n q d path word (AtLimit w) small t fate h = absurd h
split_short m n q d path word (Wide w at) small t fate h = absurd h

-- ---- how many cones are in hand
in_hands_append : (a b : List Hand) → length (in_hands (a ++ b)) ≡ length (in_hands a) + length (in_hands b)
in_hands_append [] b = omega arith
in_hands_append (h ∷ a) b = omega (arith, in_hands_append a b, length-append (held h) (in_hands a), length-append (held h) (in_hands (a ++ b)))

pub in_hands_more : (hands : List Hand) (k : ℕ) (h : Hand) → k < length hands → h ≡ slice_index_or hands k h
    → length (in_hands (take (k + 1) hands)) ≡ length (in_hands (take k hands)) + length (held h)
in_hands_more hands k h l is =
    ap (λ (xs : List Hand). length (in_hands xs)) (take_more hands k h l ∙ ap (λ (x : Hand). take k hands ++ x ∷ []) (sym is))
    ∙ in_hands_append (take k hands) (h ∷ []) ∙ omega (arith, length-append (held h) [])

-- ---- the start and the end
pub all_empty : (n : ℕ) → AreEmpty (replicate n Empty)
all_empty zero k = refl
all_empty (suc n) zero = refl
all_empty (suc n) (suc k) = all_empty n k

no_hands : (hands : List Hand) → length (in_hands hands) ≡ 0 → AreEmpty hands
no_hands [] e k = refl
no_hands (Empty ∷ hands) e zero = refl
no_hands (Empty ∷ hands) e (suc k) = no_hands hands e k
no_hands (Taken path ∷ hands) e k = absurd (omega arith)
no_hands (Offered path word ∷ hands) e k = absurd (omega arith)

no_paths : (paths : List Path) → length paths ≡ 0 → paths ≡ []
no_paths [] e = refl
no_paths (p ∷ paths) e = absurd (omega arith)

pub ended_fair : (m : ShownMachine) → IsRunning m → HasEnded m.state → IsFair m.mode m.matrix.size (entry m.matrix) m.limit m.state.judged m.state.word
ended_fair m run (none, empty) = end_is_fair m.mode m.matrix.size (entry m.matrix) m.limit m.state run.kept
    (record { waiting = no_paths m.state.waiting none; hands = no_hands m.state.hands empty })

-- ---- whole runs
pub same_search : (a b c : ShownMachine) → IsSameSearch a b → IsSameSearch b c → IsSameSearch a c
same_search a b c e f = record { mode = f.mode ∙ e.mode; matrix = f.matrix ∙ e.matrix; limit = f.limit ∙ e.limit }

answer_keeps : (answered : Stepped) (old : ShownMachine) (event : Event) (new : ShownMachine) → IsRunning old → IsStepAnswer answered old event new
    → IsSameSearch old new
    → IsRunning new
answer_keeps Applied old event new run (may, e) same = subst IsRunning (sym new_is) (event_keeps old event new.state run e)
  where
    new_is : new ≡ with_state old new.state
    new_is = rw (← same.mode, ← same.matrix, ← same.limit) refl
answer_keeps Ignored old event new run (ignored, e) same = subst IsRunning (sym e) run
answer_keeps OutOfMemory old event new run (judge, may, e) same = subst IsRunning (sym e) run

run_keeps : (events : List Event) (start end : ShownMachine) → IsRunning start → IsEventRun start events end → IsRunning end × IsSameSearch start end
run_keeps [] start end run e = (subst IsRunning (sym e) run, subst (IsSameSearch start) (sym e) (record { mode = refl; matrix = refl; limit = refl }))
run_keeps (event ∷ events) start end run (answered, next, is, same, rest) =
    let r = run_keeps events next end (answer_keeps answered start event next run is same) rest in
    (r.0, same_search start next end same r.1)

pub run_is_fair : (m : Mode) (q : Symmetric) (d workers : ℕ) (start end : ShownMachine) (events : List Event) → d ≤ 200 → Fits q.size (entry q) unit_vectors
    → IsNewMachine m q d workers start → IsEventRun start events end → HasEnded end.state → IsFair m q.size (entry q) d end.state.judged end.state.word
run_is_fair m q d workers start end events small root new is ended =
    rw (← new.mode, ← new.matrix, ← new.limit, ← kept.1.mode, ← kept.1.matrix, ← kept.1.limit) (ended_fair end kept.0 ended)
  where
    running : IsRunning start
    running = record {
      kept = rw (new.mode, new.matrix, new.limit) (start_is_kept m q.size (entry q) d start.state new.start);
      limited = rw new.limit small;
      root = rw new.matrix root;
    }

    kept : IsRunning end × IsSameSearch start end
    kept = run_keeps events start end running is
