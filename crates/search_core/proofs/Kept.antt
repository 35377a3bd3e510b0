-- What every event of the machine keeps.
use Rattle.std.specs.Prelude.{◌≡◌, ◌≢◌, ℕ, zero, suc, ◌<◌, ◌≤◌, ◌+◌, min, ℤ, pos, negsuc, ◌≤ℤ◌, ◌⊎◌, List, [], ◌∷◌, ◌++◌, length}
use Rattle.std.specs.Prelude.{slice_index_or, slice_set}
use Rattle.std.proofs.Common.{arith, sym, ◌∙◌, ap, refl, inl, inr, subst, get_or-set_same, get_or-set_other, length-set}
use Rattle.std.proofs.lemmas.Int.{ints}
use Rattle.std.specs.List.{Contains}
use Rattle.unimodular_cone.specs.Paths.{Path}
use Rattle.unimodular_cone.specs.Cones.{Matrix, cone_at}
use Rattle.unimodular_cone.specs.declared.Mode.{Mode}
use Rattle.unimodular_cone.specs.declared.Mode.TheVariants.{Sign, Least}
use Rattle.unimodular_cone.specs.Tree.{IsLow, IsLowValue}
use Rattle.search_core.specs.Fair.{Fate, Closed, Split, Low, Dropped, AtLimit, Wide, Judged, word_of, least_value, code_of, code, start_word, IsFate}
use Rattle.search_core.specs.Fair.{IsJudgement}
use Rattle.search_core.specs.Machine.{Hand, Empty, Taken, Offered, State, hand, children_of, IsTake, IsOffer, IsJudge, held, in_hands, paths, standing}
use Rattle.search_core.specs.Machine.{below_splits, due, times, IsCoded, IsKept}
use Rattle.search_core.proofs.PathFates.{IsPathFate}
use Rattle.search_core.proofs.ShownFates.{path_fate}
use Rattle.std.proofs.lemmas.List.Elements.{Contains-push, Contains-append_left, Contains-push_cases}
use Rattle.commutative_ring.proofs.SmallCases.{same_or_not}
use Rattle.search_core.proofs.LeastValues.{least_value_le}
use Rattle.search_core.proofs.Times.{times-append, times_cons, times_hands, times_none, times_paths_append, times_below_append}

-- ---- counts
pub times_standing : (x : Path) (s : State) → times x (standing s) ≡ times x s.waiting + times x (in_hands s.hands) + times x (paths s.judged)
times_standing x s = omega (arith, times-append x (s.waiting ++ in_hands s.hands) (paths s.judged), times-append x s.waiting (in_hands s.hands))

-- ---- codes and words
low_code : (m : Mode) (depth : ℕ) (z : ℤ) → IsLowValue m z → code_of m depth z ≡ depth
low_code Sign depth (pos z) h = absurd (omega (arith, ints))
low_code Sign depth (negsuc z) h = refl
low_code Least depth (pos zero) h = refl
low_code Least depth (pos (suc z)) h = absurd (omega (arith, ints))
low_code Least depth (negsuc z) h = refl

pub low_below : (m : Mode) (y z : ℤ) → y ≤ℤ z → IsLowValue m z → IsLowValue m y
low_below Sign y z le h = omega (arith, ints)
low_below Least y z le h = omega (arith, ints)

pub code_when_low : (m : Mode) (n : ℕ) (q : Matrix) (p : Path) → IsLow m n q (cone_at n q p) → code m n q p ≡ length p
code_when_low m n q p (k, l, low) = low_code m (length p) _ (low_below m _ _ (least_value_le n q (cone_at n q p) k l) low)

-- a fate under a word between the final word and the code is one under its own word, which lies there too
pub record IsOwn (m : Mode) (n : ℕ) (q : Matrix) (d final : ℕ) (p : Path) (f : Fate) : Type 0 where
  pub fate : IsFate m n q d p (word_of p f) f
  pub above_final : final ≤ word_of p f
  pub below_code : word_of p f ≤ code m n q p

module _ (m : Mode) (n : ℕ) (q : Matrix) (d final word : ℕ) (p : Path) where
  own : (f : Fate) → word_of p f ≡ word → IsFate m n q d p word f → final ≤ word → word ≤ code m n q p → IsOwn m n q d final p f
  own f e h le below = record { fate = subst (λ (u : ℕ). IsFate m n q d p u f) (sym e) h; above_final = omega arith; below_code = omega arith }

  pub own_word : (f : Fate) → IsFate m n q d p word f → final ≤ word → word ≤ code m n q p → final ≤ code m n q p → IsOwn m n q d final p f
  own_word (Closed w) h le below low = own (Closed w) h.2.0 h le below
  own_word (Split i j w) h le below low = own (Split i j w) h.2.0 h le below
  own_word (Dropped w) h le below low = own (Dropped w) h.2.0 h le below
  own_word (AtLimit w) h le below low = own (AtLimit w) h.2.0 h le below
  own_word (Wide w at) h le below low = own (Wide w at) h.2.0 h le below
  own_word (Low k) h le below low =
      let low_fate : IsPathFate m n q d p word (Low k) = path_fate m n q d p word (Low k) h in
      let e : code m n q p ≡ length p = code_when_low m n q p (low_fate.1.0, low_fate.1.2.range, low_fate.1.2.low) in
      let same : length h.0.path ≡ length p = ap length h.1.path_is in
      record { fate = (h.0, h.1, ((λ _. omega arith), h.2.1)); above_final = omega arith; below_code = omega arith }

-- ---- one event
pub not_offered : {path : Path} {word : ℕ} {h : Hand} → h ≡ Empty → h ≡ Offered path word → ⊥
not_offered e f = (cc)

abbrev IsAttained : Mode → ℕ → Matrix → State → Type 0
IsAttained m n q s = (s.word ≡ start_word m n q) ⊎ ((p : Path) × IsCoded s p × (s.word ≡ code m n q p))

-- each path stands as often as it is due
abbrev AllStand : State → Type 0
AllStand s = (x : Path) → times x (standing s) ≡ times x (due s.judged)

-- what Take, Offer and Judge have in common: worker k's hand becomes h, and the word doesn't rise
record IsEvent (s : State) (k : ℕ) (h : Hand) (t : State) : Type 0 where
  worker : k < length s.hands
  hands : t.hands ≡ slice_set s.hands k h
  falls : t.word ≤ s.word
  judged : (j : Judged) → Contains s.judged j → Contains t.judged j

module _ {m : Mode} {n : ℕ} {q : Matrix} {d : ℕ} {s t : State} {k : ℕ} {h : Hand} (kept : IsKept m n q d s) (event : IsEvent s k h t) where
  hand_is : hand t k ≡ h
  hand_is = ap (λ (u : List Hand). slice_index_or u k Empty) event.hands ∙ get_or-set_same s.hands k h Empty event.worker

  hand_was : (i : ℕ) → i ≢ k → hand t i ≡ hand s i
  hand_was i ne = ap (λ (u : List Hand). slice_index_or u i Empty) event.hands ∙ get_or-set_other s.hands k i h Empty ne

  same_length : length t.hands ≡ length s.hands
  same_length = ap (λ (u : List Hand). length u) event.hands ∙ length-set s.hands k h

  hands_times : (x : Path) → times x (in_hands t.hands) + times x (held (hand s k)) ≡ times x (in_hands s.hands) + times x (held h)
  hands_times x = ap (λ (u : List Hand). times x (in_hands u) + times x (held (hand s k))) event.hands ∙ times_hands x s.hands k h event.worker

  -- a coded cone stays coded, if what worker k had offered does
  still_coded : ((p : Path) (w : ℕ) → hand s k ≡ Offered p w → IsCoded t p) → (p : Path) → IsCoded s p → IsCoded t p
  still_coded at_hand p (inl (j, c, e)) = inl (j, event.judged j c, e)
  still_coded at_hand p (inr (i, w, l, e)) = by (same_or_not i k)
    where
      by : ((i ≡ k) ⊎ (i ≢ k)) → IsCoded t p
      by (inl same) = at_hand p w (ap (hand s) (sym same) ∙ e)
      by (inr ne) = inr (i, w, (let g : length t.hands ≡ length s.hands = same_length in omega arith), hand_was i ne ∙ e)

  same_word : ((p : Path) (w : ℕ) → hand s k ≡ Offered p w → IsCoded t p) → t.word ≡ s.word → IsAttained m n q t
  same_word at_hand same = by kept.attained
    where
      by : IsAttained m n q s → IsAttained m n q t
      by (inl e) = inl (same ∙ e)
      by (inr (p, c, e)) = inr (p, still_coded at_hand p c, same ∙ e)

  lower : (j : Judged) → Contains s.judged j → IsJudgement m n q d t.word j
  lower j c = let o = kept.judgements j c in
      record {
        least = o.least;
        fate = o.fate;
        above_final = (let a : s.word ≤ word_of j.path j.fate = o.above_final in let f : t.word ≤ s.word = event.falls in omega arith);
        below_code = o.below_code;
      }

  -- what is left to show of an event; below_codes follows from the noted words and the judgements
  keeps : AllStand t → IsAttained m n q t
      → ((p : Path) (w : ℕ) → h ≡ Offered p w → (t.word ≤ w) × (w ≤ code m n q p))
      → ((j : Judged) → Contains t.judged j → IsJudgement m n q d t.word j) → IsKept m n q d t
  keeps stands attained at_hand judgements = record {
    stands = stands;
    below_start = (let b : s.word ≤ start_word m n q = kept.below_start in let f : t.word ≤ s.word = event.falls in omega arith);
    below_codes = below_codes;
    attained = attained;
    noted = noted;
    judgements = judgements;
  }
    where
      noted : (i : ℕ) (p : Path) (w : ℕ) → i < length t.hands → hand t i ≡ Offered p w → (t.word ≤ w) × (w ≤ code m n q p)
      noted i p w l e = by (same_or_not i k)
        where
          by : ((i ≡ k) ⊎ (i ≢ k)) → (t.word ≤ w) × (w ≤ code m n q p)
          by (inl same) = at_hand p w (sym hand_is ∙ ap (hand t) (sym same) ∙ e)
          by (inr ne) =
              let o = kept.noted i p w (let g : length t.hands ≡ length s.hands = same_length in omega arith) (sym (hand_was i ne) ∙ e) in
              let f : t.word ≤ s.word = event.falls in (omega arith, o.1)

      below_codes : (p : Path) → IsCoded t p → t.word ≤ code m n q p
      below_codes p (inl (j, c, e)) = let o = judgements j c in
          let a : t.word ≤ word_of j.path j.fate = o.above_final in
          let b : word_of j.path j.fate ≤ code m n q j.path = o.below_code in
          subst (λ (r : Path). t.word ≤ code m n q r) e (omega arith)
      below_codes p (inr (i, w, l, e)) = let o = noted i p w l e in omega arith

-- ---- Take
pub take_keeps : (m : Mode) (n : ℕ) (q : Matrix) (d : ℕ) (s t : State) (k : ℕ) (path : Path) → IsKept m n q d s → IsTake s k path t → IsKept m n q d t
take_keeps m n q d s t k path kept step =
    keeps kept event stands (same_word kept event (λ p w e. absurd (not_offered step.empty e)) step.word)
    (λ p w e. absurd (let b : Taken path ≡ Offered p w = e in cc))
    (λ j c. lower kept event j (subst (λ (w : List Judged). Contains w j) step.judged c))
  where
    event : IsEvent s k (Taken path) t
    event = record {
      worker = step.worker;
      hands = step.hands;
      falls = (let e : t.word ≡ s.word = step.word in omega arith);
      judged = λ j c. subst (λ (w : List Judged). Contains w j) (sym step.judged) c;
    }

    stands : AllStand t
    stands x =
        let w : times x s.waiting ≡ times x (step.before ++ path ∷ step.after) = ap (times x) step.was in
        let v : times x t.waiting ≡ times x (step.before ++ step.after) = ap (times x) step.waiting in
        let j : times x (paths t.judged) ≡ times x (paths s.judged) = ap (λ (u : List Judged). times x (paths u)) step.judged in
        let g : times x (held (hand s k)) ≡ 0 = ap (λ (u : Hand). times x (held u)) step.empty ∙ times_none x in
        let h : times x (in_hands t.hands) + times x (held (hand s k)) ≡ times x (in_hands s.hands) + times x (path ∷ []) = hands_times kept event x in
        let o : times x (standing s) ≡ times x (due s.judged) = kept.stands x in
        let u : times x (due t.judged) ≡ times x (due s.judged) = ap (λ (u : List Judged). times x (due u)) step.judged in
        omega (
          arith,
          times_standing x s,
          times_standing x t,
          times-append x step.before (path ∷ step.after),
          times-append x step.before step.after,
          times_cons x path step.after,
        )

-- ---- Offer
pub offer_keeps : (m : Mode) (n : ℕ) (q : Matrix) (d : ℕ) (s t : State) (k : ℕ) → IsKept m n q d s → IsOffer m n q s k t → IsKept m n q d t
offer_keeps m n q d s t k kept step =
    keeps kept event stands (attained (which s.word (code m n q step.path) t.word step.word)) now_noted
    (λ j c. lower kept event j (subst (λ (w : List Judged). Contains w j) step.judged c))
  where
    falls : (t.word ≤ s.word) × (t.word ≤ code m n q step.path)
    falls = let e : t.word ≡ min s.word (code m n q step.path) = step.word in (omega arith, omega arith)

    event : IsEvent s k (Offered step.path t.word) t
    event = record {
      worker = step.worker;
      hands = step.hands;
      falls = falls.0;
      judged = λ j c. subst (λ (w : List Judged). Contains w j) (sym step.judged) c;
    }

    stands : AllStand t
    stands x =
        let g : times x (held (hand s k)) ≡ times x (step.path ∷ []) = ap (λ (w : Hand). times x (held w)) step.taken in
        let h : times x (in_hands t.hands) + times x (held (hand s k)) ≡ times x (in_hands s.hands) + times x (step.path ∷ []) = hands_times kept event x in
        let w : times x t.waiting ≡ times x s.waiting = ap (times x) step.waiting in
        let j : times x (paths t.judged) ≡ times x (paths s.judged) = ap (λ (u : List Judged). times x (paths u)) step.judged in
        let o : times x (standing s) ≡ times x (due s.judged) = kept.stands x in
        let u : times x (due t.judged) ≡ times x (due s.judged) = ap (λ (u : List Judged). times x (due u)) step.judged in
        omega (arith, times_standing x s, times_standing x t)

    which : (a b c : ℕ) → c ≡ min a b → (c ≡ a) ⊎ (c ≡ b)
    which a b c e = grind arith

    attained : ((t.word ≡ s.word) ⊎ (t.word ≡ code m n q step.path)) → IsAttained m n q t
    attained (inl e) = same_word kept event (λ p w f. absurd (let b : Taken step.path ≡ Offered p w = sym step.taken ∙ f in cc)) e
    attained (inr e) =
        let l : k < length t.hands = (let g : length t.hands ≡ length s.hands = same_length kept event in let w : k < length s.hands = step.worker in
        omega arith) in
        inr (step.path, inr (k, t.word, l, hand_is kept event), e)

    now_noted : (p : Path) (w : ℕ) → Offered step.path t.word ≡ Offered p w → (t.word ≤ w) × (w ≤ code m n q p)
    now_noted p w e =
        let same : step.path ≡ p = cc in
        let x : t.word ≡ w = cc in
        (omega arith, subst (λ (r : Path). w ≤ code m n q r) same (let f = falls in omega arith))

-- ---- Judge
pub judge_keeps : (m : Mode) (n : ℕ) (q : Matrix) (d : ℕ) (s t : State) (k : ℕ) → IsKept m n q d s → IsJudge m n q d s k t → IsKept m n q d t
judge_keeps m n q d s t k kept step =
    keeps kept event stands (same_word kept event now_judged step.word) (λ p w e. absurd (not_offered refl e))
    (λ j c. judgements j (Contains-push_cases s.judged new j (subst (λ (w : List Judged). Contains w j) step.judged c)))
  where
    new : Judged
    new = record { path = step.path; fate = step.fate; least = least_value n q (cone_at n q step.path) }

    event : IsEvent s k Empty t
    event = record {
      worker = step.worker;
      hands = step.hands;
      falls = (let e : t.word ≡ s.word = step.word in omega arith);
      judged = λ j c. subst (λ (w : List Judged). Contains w j) (sym step.judged) (Contains-append_left s.judged (new ∷ []) j c);
    }

    grown : (x : Path) → times x (standing t) ≡ times x (standing s) + times x (children_of step.path step.fate)
    grown x =
        let g : times x (held (hand s k)) ≡ times x (step.path ∷ []) = ap (λ (w : Hand). times x (held w)) step.offered in
        let h : times x (in_hands t.hands) + times x (held (hand s k)) ≡ times x (in_hands s.hands) + times x [] = hands_times kept event x in
        let w : times x t.waiting ≡ times x (s.waiting ++ children_of step.path step.fate) = ap (times x) step.waiting in
        let j : times x (paths t.judged) ≡ times x (paths (s.judged ++ new ∷ [])) = ap (λ (u : List Judged). times x (paths u)) step.judged in
        omega (
          arith,
          times_none x,
          times_standing x s,
          times_standing x t,
          times-append x s.waiting (children_of step.path step.fate),
          times_paths_append x s.judged (new ∷ []),
        )

    due_grown : (x : Path) → times x (due t.judged) ≡ times x (due s.judged) + times x (children_of step.path step.fate)
    due_grown x =
        let j : times x (due t.judged) ≡ times x ([] ∷ below_splits (s.judged ++ new ∷ [])) = ap (λ (u : List Judged). times x (due u)) step.judged in
        let c : times x (below_splits (new ∷ [])) ≡ times x (children_of step.path step.fate) = times-append x (children_of step.path step.fate) []
        ∙ omega (arith, times_none x) in
        omega (arith, times_cons x [] (below_splits s.judged), times_cons x [] (below_splits (s.judged ++ new ∷ [])), times_below_append x s.judged (new ∷ []))

    stands : AllStand t
    stands x = grown x ∙ ap (λ (w : ℕ). w + times x (children_of step.path step.fate)) (kept.stands x) ∙ sym (due_grown x)

    now_judged : (p : Path) (w : ℕ) → hand s k ≡ Offered p w → IsCoded t p
    now_judged p w e = let a : Offered step.path step.noted ≡ Offered p w = sym step.offered ∙ e in
        inl (new, subst (λ (u : List Judged). Contains u new) (sym step.judged) (Contains-push s.judged new), (cc))

    judgements : (j : Judged) → (Contains s.judged j ⊎ (new ≡ j)) → IsJudgement m n q d t.word j
    judgements j (inl c) = lower kept event j c
    judgements j (inr same) =
        let b = kept.noted k step.path step.noted step.worker step.offered in
        let o : IsOwn m n q d s.word step.path step.fate =
        own_word m n q d s.word step.noted step.path step.fate step.is_fate b.0 b.1
        (kept.below_codes step.path (inr (k, step.noted, step.worker, step.offered))) in
        rw step.word
        (subst (IsJudgement m n q d s.word) same (record { least = refl; fate = o.fate; above_final = o.above_final; below_code = o.below_code }))
