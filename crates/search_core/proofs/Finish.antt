-- Runs of the machine: the start is kept, and what is judged at the end is fair.
use Rattle.std.specs.Prelude.{◌≡◌, ◌≢◌, ℕ, suc, ◌≤◌, ◌+◌, Bool, true, false, ◌⊎◌, List, [], ◌∷◌, ◌++◌}
use Rattle.std.proofs.Common.{arith, sym, ◌∙◌, ap, refl, inl, inr, subst}
use Rattle.std.specs.List.{Contains}
use Rattle.unimodular_cone.specs.Paths.{Path}
use Rattle.unimodular_cone.specs.Cones.{Matrix}
use Rattle.unimodular_cone.specs.declared.Mode.{Mode}
use Rattle.search_core.specs.Fair.{Fate, Closed, Split, Low, Dropped, AtLimit, Wide, Judged, code, start_word, IsSplit, HasPath, IsDue, HasNoPath, IsOnceEach}
use Rattle.search_core.specs.Fair.{IsFair}
use Rattle.search_core.specs.Machine.{Hand, State, children_of, held, in_hands, paths, standing, below_splits, due, times, IsCoded, IsKept}
use Rattle.search_core.specs.Machine.{AreEmpty, IsStart, IsEnd}
use Rattle.exact_forms.proofs.Lists.{nothing_in}
use Rattle.exact_forms.proofs.Vectors.{contains_here, contains_there, contains_cons}
use Rattle.search_core.proofs.Times.{times-append, times_cons, times_same, times_other, times_none, path_or_not, due_once}
use Rattle.search_core.proofs.Kept.{times_standing, not_offered}

empty_hands : (x : Path) (hands : List Hand) → AreEmpty hands → times x (in_hands hands) ≡ 0
empty_hands x [] e = times_none x
empty_hands x (h ∷ hands) e =
    let a : times x (held h) ≡ 0 = ap (λ (w : Hand). times x (held w)) (e 0) ∙ times_none x in
    let b : times x (in_hands hands) ≡ 0 = empty_hands x hands (λ k. e (suc k)) in
    omega (arith, times-append x (held h) (in_hands hands))

-- ---- the start
pub start_is_kept : (m : Mode) (n : ℕ) (q : Matrix) (d : ℕ) (s : State) → IsStart m n q s → IsKept m n q d s
start_is_kept m n q d s start = record {
  stands = λ x. standing_is x ∙ sym (ap (λ (w : List Judged). times x (due w)) start.judged);
  below_start = (let e : s.word ≡ start_word m n q = start.word in omega arith);
  below_codes = λ p c. absurd (none p c);
  attained = inl start.word;
  noted = λ k p w l e. absurd (not_offered (start.hands k) e);
  judgements = λ j c. absurd (nothing_in j (subst (λ (w : List Judged). Contains w j) start.judged c));
}
  where
    standing_is : (x : Path) → times x (standing s) ≡ times x ([] ∷ [])
    standing_is x =
        let a : times x s.waiting ≡ times x ([] ∷ []) = ap (times x) start.waiting in
        let b : times x (in_hands s.hands) ≡ 0 = empty_hands x s.hands start.hands in
        let c : times x (paths s.judged) ≡ 0 = ap (λ (w : List Judged). times x (paths w)) start.judged ∙ times_none x in
        omega (arith, times_standing x s)

    none : (p : Path) → IsCoded s p → ⊥
    none p (inl (j, c, e)) = nothing_in j (subst (λ (w : List Judged). Contains w j) start.judged c)
    none p (inr (k, w, l, e)) = not_offered (start.hands k) e

-- ---- where a path stands at least once
has_path : (x : Path) (judged : List Judged) → 1 ≤ times x (paths judged) → HasPath judged x
has_path x [] h = absurd (omega (arith, times_none x))
has_path x (j ∷ judged) h = by (path_or_not x j.path) (has_path x judged)
  where
    by : ((x ≡ j.path) ⊎ (x ≢ j.path)) → (1 ≤ times x (paths judged) → HasPath judged x) → HasPath (j ∷ judged) x
    by (inl e) rec = (j, contains_here j judged, sym e)
    by (inr ne) rec = let r = rec (let o : times x (j.path ∷ paths judged) ≡ times x (paths judged) = times_other x j.path (paths judged) ne in omega arith) in
        (r.0, contains_there j judged r.0 r.1, r.2)

pub stands_judged : (judged : List Judged) (j : Judged) → Contains judged j → 1 ≤ times j.path (paths judged)
stands_judged [] j (k, l, e) = absurd (omega arith)
stands_judged (i ∷ judged) j c = by (contains_cons i judged j c) (stands_judged judged j)
  where
    by : ((i ≡ j) ⊎ Contains judged j) → (Contains judged j → 1 ≤ times j.path (paths judged)) → 1 ≤ times j.path (i.path ∷ paths judged)
    by (inl e) rec = omega (arith, times_same j.path i.path (paths judged) (ap (λ (w : Judged). w.path) (sym e)))
    by (inr c) rec = let h = rec c in omega (arith, times_cons j.path i.path (paths judged))

in_split : (f : Fate) (r : Path) (side : Bool) → IsSplit f → 1 ≤ times (r ++ side ∷ []) (children_of r f)
in_split (Closed w) r side h = absurd h
in_split (Split i j w) r false h = omega (arith, times_same (r ++ false ∷ []) (r ++ false ∷ []) ((r ++ true ∷ []) ∷ []) refl)
in_split (Split i j w) r true h =
    omega (arith, times_cons (r ++ true ∷ []) (r ++ false ∷ []) ((r ++ true ∷ []) ∷ []), times_same (r ++ true ∷ []) (r ++ true ∷ []) [] refl)
in_split (Low k) r side h = absurd h
in_split (Dropped w) r side h = absurd h
in_split (AtLimit w) r side h = absurd h
in_split (Wide w at) r side h = absurd h

in_below_splits : (judged : List Judged) (j : Judged) (side : Bool) → Contains judged j → IsSplit j.fate → 1 ≤ times (j.path ++ side ∷ []) (below_splits judged)
in_below_splits [] j side (k, l, e) split = absurd (omega arith)
in_below_splits (i ∷ judged) j side c split = by (contains_cons i judged j c) (λ c. in_below_splits judged j side c split)
  where
    by : ((i ≡ j) ⊎ Contains judged j) → (Contains judged j → 1 ≤ times (j.path ++ side ∷ []) (below_splits judged))
        → 1 ≤ times (j.path ++ side ∷ []) (children_of i.path i.fate ++ below_splits judged)
    by (inl e) rec = subst (λ (u : Judged). 1 ≤ times (j.path ++ side ∷ []) (children_of u.path u.fate ++ below_splits judged)) (sym e)
        (let h = in_split j.fate j.path side split in omega (arith, times-append (j.path ++ side ∷ []) (children_of j.path j.fate) (below_splits judged)))
    by (inr c) rec = let h = rec c in omega (arith, times-append (j.path ++ side ∷ []) (children_of i.path i.fate) (below_splits judged))

stands_due : (judged : List Judged) (x : Path) → IsDue judged x → 1 ≤ times x (due judged)
stands_due judged x (inl e) = omega (arith, times_same x [] (below_splits judged) e)
stands_due judged x (inr (j, side, c, split, e)) = subst (λ (w : Path). 1 ≤ times w (due judged)) (sym e)
    (let h = in_below_splits judged j side c split in omega (arith, times_cons (j.path ++ side ∷ []) [] (below_splits judged)))

-- a path among a fate's children
pub from_children : (x r : Path) (f : Fate) → 1 ≤ times x (children_of r f) → IsSplit f × ((side : Bool) × (x ≡ r ++ side ∷ []))
from_children x r (Closed w) h = absurd (omega (arith, times_none x))
from_children x r (Split i j w) h = (tt, by (path_or_not x (r ++ false ∷ [])) (path_or_not x (r ++ true ∷ [])))
  where
    by : ((x ≡ r ++ false ∷ []) ⊎ (x ≢ r ++ false ∷ [])) → ((x ≡ r ++ true ∷ []) ⊎ (x ≢ r ++ true ∷ [])) → (side : Bool) × (x ≡ r ++ side ∷ [])
    by (inl e) g = (false, e)
    by (inr ne) (inl e) = (true, e)
    by (inr ne) (inr ne') =
        absurd (omega (arith, times_other x (r ++ false ∷ []) ((r ++ true ∷ []) ∷ []) ne, times_other x (r ++ true ∷ []) [] ne', times_none x))
from_children x r (Low k) h = absurd (omega (arith, times_none x))
from_children x r (Dropped w) h = absurd (omega (arith, times_none x))
from_children x r (AtLimit w) h = absurd (omega (arith, times_none x))
from_children x r (Wide w at) h = absurd (omega (arith, times_none x))

pub from_below_splits : (x : Path) (judged : List Judged) → 1 ≤ times x (below_splits judged)
    → (j : Judged) × (side : Bool) × Contains judged j × IsSplit j.fate × (x ≡ j.path ++ side ∷ [])
from_below_splits x [] h = absurd (omega (arith, times_none x))
from_below_splits x (j ∷ judged) h =
    by (here (times x (children_of j.path j.fate)) (times x (below_splits judged))
    (omega (arith, times-append x (children_of j.path j.fate) (below_splits judged)))) (from_below_splits x judged)
  where
    here : (a b : ℕ) → 1 ≤ a + b → (1 ≤ a) ⊎ (1 ≤ b)
    here a b h = grind arith

    by : ((1 ≤ times x (children_of j.path j.fate)) ⊎ (1 ≤ times x (below_splits judged)))
        → (1 ≤ times x (below_splits judged) → (i : Judged) × (side : Bool) × Contains judged i × IsSplit i.fate × (x ≡ i.path ++ side ∷ []))
        → (i : Judged) × (side : Bool) × Contains (j ∷ judged) i × IsSplit i.fate × (x ≡ i.path ++ side ∷ [])
    by (inl a) rec = let r = from_children x j.path j.fate a in (j, r.1.0, contains_here j judged, r.0, r.1.1)
    by (inr b) rec = let r = rec b in (r.0, r.1, contains_there j judged r.0 r.2, r.3, r.4)

pub from_due : (x : Path) (judged : List Judged) → 1 ≤ times x (due judged) → IsDue judged x
from_due x judged h = by (path_or_not x [])
  where
    by : ((x ≡ []) ⊎ (x ≢ [])) → IsDue judged x
    by (inl e) = inl e
    by (inr ne) =
        inr (from_below_splits x judged (let o : times x (due judged) ≡ times x (below_splits judged) = times_other x [] (below_splits judged) ne in
        omega arith))

-- where no path is judged more often than it is due, each judged path is due
pub judged_is_due : (judged : List Judged) → ((x : Path) → times x (paths judged) ≤ times x (due judged)) → (j : Judged) → Contains judged j
    → IsDue judged j.path
judged_is_due judged counts j c = from_due j.path judged (let a = stands_judged judged j c in let b = counts j.path in omega arith)

-- ---- no path twice
no_path : (x : Path) (judged : List Judged) → times x (paths judged) ≡ 0 → HasNoPath judged x
no_path x [] h = tt
no_path x (j ∷ judged) h = (
  (λ e. (let s : times x (j.path ∷ paths judged) ≡ 1 + times x (paths judged) = times_same x j.path (paths judged) (sym e) in omega arith)),
  no_path x judged (omega (arith, times_cons x j.path (paths judged))),
)

once_each : (judged : List Judged) → ((x : Path) → times x (paths judged) ≤ 1) → IsOnceEach judged
once_each [] h = tt
once_each (j ∷ judged) h = (
  no_path j.path judged (let a : times j.path (j.path ∷ paths judged) ≤ 1 = h j.path in
      let s : times j.path (j.path ∷ paths judged) ≡ 1 + times j.path (paths judged) = times_same j.path j.path (paths judged) refl in omega arith),
  once_each judged (λ x. (let a : times x (j.path ∷ paths judged) ≤ 1 = h x in omega (arith, times_cons x j.path (paths judged)))),
)

-- each path is judged as often as it is due: the first point of fairness
pub record AreDue (judged : List Judged) : Type 0 where
  pub due : (path : Path) → IsDue judged path → HasPath judged path
  pub no_other : (j : Judged) → Contains judged j → IsDue judged j.path
  pub once : IsOnceEach judged

pub are_due : (judged : List Judged) → ((x : Path) → times x (paths judged) ≡ times x (due judged)) → AreDue judged
are_due judged counts = record {
  due = λ x h. has_path x judged (let a = stands_due judged x h in let b = counts x in omega arith);
  no_other = judged_is_due judged no_more;
  once = once_each judged (λ x. (let a = counts x in let b : times x (due judged) ≤ 1 = due_once judged no_more x in omega arith));
}
  where
    no_more : (x : Path) → times x (paths judged) ≤ times x (due judged)
    no_more x = let a = counts x in omega arith

-- ---- the end
pub end_is_fair : (m : Mode) (n : ℕ) (q : Matrix) (d : ℕ) (s : State) → IsKept m n q d s → IsEnd s → IsFair m n q d s.judged s.word
end_is_fair m n q d s kept ends = record {
  due = paths_due.due;
  no_other = paths_due.no_other;
  once = paths_due.once;
  judgements = kept.judgements;
  final_word = record { below_start = kept.below_start; below_codes = λ j c. kept.below_codes j.path (inl (j, c, refl)); attained = attained kept.attained };
}
  where
    judged_is_standing : (x : Path) → times x (paths s.judged) ≡ times x (standing s)
    judged_is_standing x =
        let a : times x s.waiting ≡ 0 = ap (times x) ends.waiting ∙ times_none x in
        let b : times x (in_hands s.hands) ≡ 0 = empty_hands x s.hands ends.hands in
        omega (arith, times_standing x s)

    paths_due : AreDue s.judged
    paths_due = are_due s.judged (λ x. judged_is_standing x ∙ kept.stands x)

    attained : ((s.word ≡ start_word m n q) ⊎ ((p : Path) × IsCoded s p × (s.word ≡ code m n q p)))
        → (s.word ≡ start_word m n q) ⊎ ((j : Judged) × Contains s.judged j × (s.word ≡ code m n q j.path))
    attained (inl e) = inl e
    attained (inr (p, (inl (j, c, e)), f)) = inr (j, c, f ∙ ap (code m n q) (sym e))
    attained (inr (p, (inr (k, w, l, e)), f)) = absurd (not_offered (ends.hands k) e)
