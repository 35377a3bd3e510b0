-- A search with one worker: a stack of paths is the machine with one hand.
use Rattle.std.specs.Prelude.{◌≡◌, ℤ, true, false, ℕ, zero, suc, min, ◌⊎◌, List, [], ◌∷◌, ◌++◌}
use Rattle.std.proofs.Common.{arith, refl, sym, ◌∙◌, ap₂, subst, inl, inr}
use Rattle.std.specs.List.{Contains}
use Rattle.std.proofs.lemmas.List.Elements.{Contains-push, Contains-append_left, Contains-push_cases}
use Rattle.exact_forms.proofs.Vectors.{contains_here, contains_there, contains_cons}
use Rattle.unimodular_cone.specs.Paths.{Path}
use Rattle.unimodular_cone.specs.Cones.{Matrix, cone_at}
use Rattle.unimodular_cone.specs.declared.Mode.{Mode}
use Rattle.search_core.specs.Fair.{Fate, Closed, Split, Low, Dropped, AtLimit, Wide, Judged, code, start_word, least_value, IsFate, IsFair}
use Rattle.search_core.specs.Machine.{Empty, Taken, Offered, State, children_of, paths, standing, below_splits, due, times, IsCoded, IsKept, AreEmpty, alone}
use Rattle.search_core.proofs.Times.{times-append, times_cons, times_none, times_paths_append, times_below_append}
use Rattle.search_core.proofs.Kept.{times_standing, take_keeps, offer_keeps, judge_keeps}
use Rattle.search_core.proofs.Finish.{start_is_kept, end_is_fair}

empty_alone : AreEmpty (Empty ∷ [])
empty_alone zero = refl
empty_alone (suc k) = refl

pub alone_start : (m : Mode) (n : ℕ) (q : Matrix) (d : ℕ) → IsKept m n q d (alone ([] ∷ []) (start_word m n q) [])
alone_start m n q d = start_is_kept m n q d (alone ([] ∷ []) (start_word m n q) []) (record { waiting = refl; hands = empty_alone; word = refl; judged = refl })

-- the same judgements, in whatever order
pub record IsSameJudged (judged again : List Judged) : Type 0 where
  judged_paths : (x : Path) → times x (paths judged) ≡ times x (paths again)
  below : (x : Path) → times x (below_splits judged) ≡ times x (below_splits again)
  back : (j : Judged) → Contains again j → Contains judged j
  forth : (j : Judged) → Contains judged j → Contains again j

pub same_judged : (judged : List Judged) → IsSameJudged judged judged
same_judged judged = record { judged_paths = λ x. refl; below = λ x. refl; back = λ j c. c; forth = λ j c. c }

-- the last of all, or the first
last_first : (judged : List Judged) (j : Judged) → IsSameJudged (judged ++ j ∷ []) (j ∷ judged)
last_first judged j = record {
  judged_paths = λ x. omega (arith, times_paths_append x judged (j ∷ []), times_cons x j.path (paths judged));
  below = λ x. (let e : times x (below_splits (j ∷ [])) ≡ times x (children_of j.path j.fate) = times-append x (children_of j.path j.fate) []
      ∙ omega (arith, times_none x) in
      omega (arith, times_below_append x judged (j ∷ []), times-append x (children_of j.path j.fate) (below_splits judged)));
  back = λ k c. back k (contains_cons j judged k c);
  forth = λ k c. forth k (Contains-push_cases judged j k c);
}
  where
    back : (k : Judged) → ((j ≡ k) ⊎ Contains judged k) → Contains (judged ++ j ∷ []) k
    back k (inl e) = subst (λ (i : Judged). Contains (judged ++ j ∷ []) i) e (Contains-push judged j)
    back k (inr c) = Contains-append_left judged (j ∷ []) k c

    forth : (k : Judged) → (Contains judged k ⊎ (j ≡ k)) → Contains (j ∷ judged) k
    forth k (inl c) = contains_there j judged k c
    forth k (inr e) = subst (λ (i : Judged). Contains (j ∷ judged) i) e (contains_here j judged)

-- the order of the paths that wait does not matter, nor that of the judgements
pub reordered : (m : Mode) (n : ℕ) (q : Matrix) (d : ℕ) (stack other : List Path) (word : ℕ) (judged again : List Judged)
    → ((x : Path) → times x stack ≡ times x other) → IsSameJudged judged again
    → IsKept m n q d (alone stack word judged) → IsKept m n q d (alone other word again)
reordered m n q d stack other word judged again same all kept = record {
  stands = λ x. counted x;
  below_start = kept.below_start;
  below_codes = λ p c. kept.below_codes p (back p c);
  attained = attained kept.attained;
  noted = kept.noted;
  judgements = λ j c. kept.judgements j (all.back j c);
}
  where
    counted : (x : Path) → times x (standing (alone other word again)) ≡ times x (due again)
    counted x =
        let a : times x (standing (alone stack word judged)) ≡ times x (due judged) = kept.stands x in
        let e : times x stack ≡ times x other = same x in
        let p : times x (paths judged) ≡ times x (paths again) = all.judged_paths x in
        let b : times x (below_splits judged) ≡ times x (below_splits again) = all.below x in
        let s = times_standing x (alone stack word judged) in
        let t = times_standing x (alone other word again) in
        omega (arith, times_cons x [] (below_splits judged), times_cons x [] (below_splits again))

    back : (p : Path) → IsCoded (alone other word again) p → IsCoded (alone stack word judged) p
    back p (inl (j, c, e)) = inl (j, all.back j c, e)
    back p (inr h) = inr h

    forth : (p : Path) → IsCoded (alone stack word judged) p → IsCoded (alone other word again) p
    forth p (inl (j, c, e)) = inl (j, all.forth j c, e)
    forth p (inr h) = inr h

    attained : ((word ≡ start_word m n q) ⊎ ((p : Path) × IsCoded (alone stack word judged) p × (word ≡ code m n q p)))
        → (word ≡ start_word m n q) ⊎ ((p : Path) × IsCoded (alone other word again) p × (word ≡ code m n q p))
    attained (inl e) = inl e
    attained (inr (p, c, e)) = inr (p, forth p c, e)

-- one turn: the top is judged under the lesser of the word and its code, and its children are put on the stack
pub alone_turn : (m : Mode) (n : ℕ) (q : Matrix) (d : ℕ) (path : Path) (stack : List Path) (word : ℕ) (judged : List Judged) (fate : Fate)
    → IsKept m n q d (alone (path ∷ stack) word judged) → IsFate m n q d path (min word (code m n q path)) fate
    → IsKept m n q d
    (alone (children_of path fate ++ stack) (min word (code m n q path)) (record { path = path; fate = fate; least = least_value n q (cone_at n q path) }
    ∷ judged))
alone_turn m n q d path stack word judged fate kept is_fate =
    reordered m n q d (stack ++ children_of path fate) (children_of path fate ++ stack) (min word (code m n q path)) (judged ++ j ∷ []) (j ∷ judged)
    (λ x. omega (arith, times-append x stack (children_of path fate), times-append x (children_of path fate) stack)) (last_first judged j)
    (judge_keeps m n q d offered (alone (stack ++ children_of path fate) (min word (code m n q path)) (judged ++ j ∷ [])) 0
    (offer_keeps m n q d taken offered 0
    (take_keeps m n q d (alone (path ∷ stack) word judged) taken 0 path kept
    (record { worker = omega arith; empty = refl; before = []; after = stack; was = refl; waiting = refl; hands = refl; word = refl; judged = refl }))
    (record { worker = omega arith; path = path; taken = refl; word = refl; hands = refl; waiting = refl; judged = refl }))
    (record {
      worker = omega arith;
      path = path;
      noted = min word (code m n q path);
      offered = refl;
      fate = fate;
      is_fate = is_fate;
      hands = refl;
      waiting = refl;
      word = refl;
      judged = refl;
    }))
  where
    j : Judged
    j = record { path = path; fate = fate; least = least_value n q (cone_at n q path) }

    taken : State
    taken = record { waiting = stack; hands = Taken path ∷ []; word = word; judged = judged }

    offered : State
    offered = record { waiting = stack; hands = Offered path (min word (code m n q path)) ∷ []; word = min word (code m n q path); judged = judged }

pub alone_end : (m : Mode) (n : ℕ) (q : Matrix) (d : ℕ) (word : ℕ) (judged : List Judged) → IsKept m n q d (alone [] word judged) → IsFair m n q d judged word
alone_end m n q d word judged kept = end_is_fair m n q d (alone [] word judged) kept (record { waiting = refl; hands = empty_alone })

-- ---- the stack is a list from the bottom up
-- a Split's children, the first one last
abbrev pub stacked : Path → Fate → List Path
stacked path (Split i j w) = (path ++ true ∷ []) ∷ (path ++ false ∷ []) ∷ []
stacked path (Closed w) = []
stacked path (Low k) = []
stacked path (Dropped w) = []
stacked path (AtLimit w) = []
stacked path (Wide w at) = []

-- one turn, of the last of the stack
pub stack_turn : (m : Mode) (n : ℕ) (q : Matrix) (d : ℕ) (front : List Path) (path : Path) (word : ℕ) (judged : List Judged) (j : Judged)
    → IsKept m n q d (alone (front ++ path ∷ []) word judged) → j.path ≡ path → j.least ≡ least_value n q (cone_at n q path)
    → IsFate m n q d path (min word (code m n q path)) j.fate
    → IsKept m n q d (alone (front ++ stacked path j.fate) (min word (code m n q path)) (j ∷ judged))
stack_turn m n q d front path word judged j kept same least fate =
    subst (λ (k : Judged). IsKept m n q d (alone (front ++ stacked path j.fate) (min word (code m n q path)) (k ∷ judged))) (sym j_is)
    (reordered m n q d (children_of path j.fate ++ front) (front ++ stacked path j.fate) (min word (code m n q path)) (here ∷ judged) (here ∷ judged)
    after (same_judged (here ∷ judged))
    (alone_turn m n q d path front word judged j.fate
    (reordered m n q d (front ++ path ∷ []) (path ∷ front) word judged judged before (same_judged judged) kept) fate))
  where
    here : Judged
    here = record { path = path; fate = j.fate; least = least_value n q (cone_at n q path) }

    j_is : j ≡ record { path = path; fate = j.fate; least = least_value n q (cone_at n q path) }
    j_is = ap₂ (λ (p : Path) (z : ℤ). record { path = p; fate = j.fate; least = z }) same least

    before : (x : Path) → times x (front ++ path ∷ []) ≡ times x (path ∷ front)
    before x = omega (arith, times-append x front (path ∷ []), times_cons x path front)

    sides : (x : Path) (f : Fate) → times x (children_of path f) ≡ times x (stacked path f)
    sides x (Split i k w) =
        omega (arith, times_cons x (path ++ false ∷ []) ((path ++ true ∷ []) ∷ []), times_cons x (path ++ true ∷ []) ((path ++ false ∷ []) ∷ []))
    sides x (Closed w) = refl
    sides x (Low k) = refl
    sides x (Dropped w) = refl
    sides x (AtLimit w) = refl
    sides x (Wide w at) = refl

    after : (x : Path) → times x (children_of path j.fate ++ front) ≡ times x (front ++ stacked path j.fate)
    after x = omega (arith, sides x j.fate, times-append x (children_of path j.fate) front, times-append x front (stacked path j.fate))
