-- At most one answer of the way along a ray: each one is made of its Tightens and of how the way ends after them.
use Rattle.std.specs.Prelude.{◌≡◌, ◌⊎◌, ℕ, suc, ◌+◌, ◌<◌, ℤ, ◌<ℤ◌, List, [], ◌∷◌, ◌++◌, length, Option, Some, None}
use Rattle.std.specs.List.{flat_map}
use Rattle.std.proofs.Common.{arith, sym, ◌∙◌, ap, ap₂, refl, subst, inl, inr, length-append}
use Rattle.std.proofs.lemmas.Int.{ints}
use Rattle.std.proofs.lemmas.List.Concat.{flat_map-append}
use Rattle.symmetric_matrix.specs.Symmetric.{Symmetric, entry}
use Rattle.symmetric_matrix.specs.Owed.{first_owed}
use Rattle.symmetric_matrix.proofs.Owed.{first_owed-append_none, first_owed-append_some}
use Rattle.unimodular_cone.specs.declared.Mode.{Mode}
use Rattle.unimodular_cone.specs.Answer.{SearchAnswer, Found, Low, Depth, Wide, BoundWide, Copositive, IsSearchAnswer}
use Rattle.unimodular_cone.proofs.AnswerUnique.{answer_unique}
use Rattle.contiguous.specs.declared.neighbour.Tighten.{Tighten}
use Rattle.contiguous.specs.declared.neighbour.NeighbourOp.{NeighbourOp}
use Rattle.contiguous.specs.declared.neighbour.NeighbourOp.TheVariants as op
use Rattle.contiguous.specs.declared.neighbour.Neighbour.{Neighbour}
use Rattle.contiguous.specs.declared.neighbour.Neighbour.TheVariants as neighbour
use Rattle.contiguous.specs.Tightenings.{Line, tighten_of, candidate, level, tighten_ops, tightens_ops, neighbour_is_owed, CallsFor, IsNextVector}
use Rattle.contiguous.specs.Tightenings.{AreNextTightens, AreTightens, last_tighten, IsVectorDue, IsRunAlong, IsCandidateAnswer, IsOperationOwed}
use Rattle.contiguous.specs.Tightenings.{IsNeighbourAnswer, tightens_of}
use Rattle.contiguous.specs.Theorems.{AtMostOneNeighbour}
use Rattle.contiguous.proofs.Candidates.{vector_is}
use Rattle.contiguous.proofs.Ways.{DueAt, last_from, last_is}

-- ---- how the way ends
data Ending : Type 0 where
  Searched : SearchAnswer → Ending
  Owing : NeighbourOp → Ending
  Used : Ending

module _ (l : Line) (D : ℕ) where
  -- ---- one vector is due
  called : (z : ℤ) (x y : List ℕ) (a : SearchAnswer) → CallsFor z x a → CallsFor z y a → x ≡ y
  called z x y (Found b vectors) h k = h.1 ∙ sym k.1
  called z x y (Low v value path) h k = h ∙ sym k
  called z x y Copositive h k = absurd h
  called z x y (Depth path) h k = absurd h
  called z x y (Wide path at) h k = absurd h
  called z x y (BoundWide b) h k = absurd h

  one_search : (t : Tighten) (a b : SearchAnswer) → IsSearchAnswer Mode.Least (candidate l t).size (entry (candidate l t)) D a
      → IsSearchAnswer Mode.Least (candidate l t).size (entry (candidate l t)) D b → a ≡ b
  one_search t a b h k = answer_unique Mode.Least (candidate l t).size (entry (candidate l t)) D a b h k

  one_vector : (t : Tighten) (x y : List ℕ) → IsNextVector l D t x → IsNextVector l D t y → x ≡ y
  one_vector t x y h k = called (level l t) x y k.answer (subst (CallsFor (level l t) x) (one_search t h.answer k.answer h.answers k.answers) h.calls) k.calls

  one_due : (w : List ℕ) (ts : List Tighten) (x y : List ℕ) → IsVectorDue l D w ts x → IsVectorDue l D w ts y → x ≡ y
  one_due w ts x y h k = by (last_tighten ts) h k
    where
      by : (o : Option Tighten) → DueAt l D w x o → DueAt l D w y o → x ≡ y
      by None h k = h ∙ sym k
      by (Some t) h k = one_vector t x y h k

  -- ---- the way goes on after ts, within us
  record IsFront (w : List ℕ) (ts us : List Tighten) : Type 0 where
    pub next : Tighten
    pub more : List Tighten
    pub are : us ≡ ts ++ next ∷ more
    pub due : IsVectorDue l D w ts next.vector

  record IsNextFront (t : Tighten) (ts us : List Tighten) : Type 0 where
    pub next : Tighten
    pub more : List Tighten
    pub are : us ≡ ts ++ next ∷ more
    pub due : IsNextVector l D (last_from t ts) next.vector

  next_front : (t v : Tighten) (ts us : List Tighten) → IsNextFront v ts us → IsNextFront t (v ∷ ts) (v ∷ us)
  unfolding last_from
  next_front t v ts us h = record { next = h.next; more = h.more; are = ap (λ (us : List Tighten). v ∷ us) h.are; due = h.due }

  first_front : (w : List ℕ) (t : Tighten) (ts us : List Tighten) → IsNextFront t ts us → IsFront w (t ∷ ts) (t ∷ us)
  first_front w t ts us h = record {
    next = h.next;
    more = h.more;
    are = ap (λ (us : List Tighten). t ∷ us) h.are;
    due = subst (DueAt l D w h.next.vector) (sym (last_is t ts)) h.due;
  }

  same_head : (t u v : Tighten) → IsNextVector l D t u.vector → u ≡ tighten_of l u.vector → IsNextVector l D t v.vector → v ≡ tighten_of l v.vector → u ≡ v
  same_head t u v h e k f = e ∙ ap (tighten_of l) (one_vector t u.vector v.vector h k) ∙ sym f

  next_same : (t : Tighten) (ts us : List Tighten) → AreNextTightens l D t ts → AreNextTightens l D t us
      → (ts ≡ us) ⊎ (IsNextFront t ts us ⊎ IsNextFront t us ts)
  unfolding last_from
  next_same t [] [] h k = inl refl
  next_same t [] (u ∷ us) h k = inr (inl record { next = u; more = us; are = refl; due = k.0 })
  next_same t (v ∷ vs) [] h k = inr (inr record { next = v; more = vs; are = refl; due = h.0 })
  next_same t (v ∷ vs) (u ∷ us) h k =
      let e : v ≡ u = same_head t v u h.0 h.1 k.0 k.1 in
      by (next_same v vs us h.2 (subst (λ (t : Tighten). AreNextTightens l D t us) (sym e) k.2)) e
    where
      by : (vs ≡ us) ⊎ (IsNextFront v vs us ⊎ IsNextFront v us vs) → v ≡ u
          → (v ∷ vs ≡ u ∷ us) ⊎ (IsNextFront t (v ∷ vs) (u ∷ us) ⊎ IsNextFront t (u ∷ us) (v ∷ vs))
      by (inl s) e = inl (ap₂ (λ (t : Tighten) (ts : List Tighten). t ∷ ts) e s)
      by (inr (inl f)) e = inr (inl (subst (λ (u : Tighten). IsNextFront t (v ∷ vs) (u ∷ us)) e (next_front t v vs us f)))
      by (inr (inr f)) e = inr (inr (subst (λ (u : Tighten). IsNextFront t (u ∷ us) (v ∷ vs)) e (next_front t v us vs f)))

  same_or_front : (w : List ℕ) (ts us : List Tighten) → AreTightens l D w ts → AreTightens l D w us → (ts ≡ us) ⊎ (IsFront w ts us ⊎ IsFront w us ts)
  unfolding last_tighten
  same_or_front w [] [] h k = inl refl
  same_or_front w [] (u ∷ us) h k = inr (inl record { next = u; more = us; are = refl; due = ap (λ (t : Tighten). t.vector) k.0 ∙ vector_is l w })
  same_or_front w (t ∷ ts) [] h k = inr (inr record { next = t; more = ts; are = refl; due = ap (λ (t : Tighten). t.vector) h.0 ∙ vector_is l w })
  same_or_front w (t ∷ ts) (u ∷ us) h k =
      let e : t ≡ u = h.0 ∙ sym k.0 in
      by (next_same t ts us h.1 (subst (λ (t : Tighten). AreNextTightens l D t us) (sym e) k.1)) e
    where
      by : (ts ≡ us) ⊎ (IsNextFront t ts us ⊎ IsNextFront t us ts) → t ≡ u → (t ∷ ts ≡ u ∷ us) ⊎ (IsFront w (t ∷ ts) (u ∷ us) ⊎ IsFront w (u ∷ us) (t ∷ ts))
      by (inl s) e = inl (ap₂ (λ (t : Tighten) (ts : List Tighten). t ∷ ts) e s)
      by (inr (inl f)) e = inr (inl (subst (λ (u : Tighten). IsFront w (t ∷ ts) (u ∷ us)) e (first_front w t ts us f)))
      by (inr (inr f)) e = inr (inr (subst (λ (u : Tighten). IsFront w (u ∷ us) (t ∷ ts)) e (first_front w t us ts f)))

  -- ---- the end after some Tightens
  record IsSearchedLast (ts : List Tighten) (a : SearchAnswer) : Type 0 where
    pub last : Tighten
    pub is_last : last_tighten ts ≡ Some last
    pub answers : IsSearchAnswer Mode.Least (candidate l last).size (entry (candidate l last)) D a
    pub calls_none : (x : List ℕ) → CallsFor (level l last) x a → ⊥

  abbrev IsEndingAt : List ℕ → ℕ → List Tighten → Ending → Type 0
  IsEndingAt w budget ts (Searched a) = IsSearchedLast ts a
  IsEndingAt w budget ts (Owing o) = (x : List ℕ) × IsVectorDue l D w ts x × (length ts < budget) × (first_owed neighbour_is_owed (tighten_ops l x) ≡ Some o)
  IsEndingAt w budget ts Used = (x : List ℕ) × IsVectorDue l D w ts x × (length ts ≡ budget)

  -- after a search that ends the way nothing is due
  none_due : (w : List ℕ) (ts : List Tighten) (a : SearchAnswer) (x : List ℕ) → IsSearchedLast ts a → IsVectorDue l D w ts x → ⊥
  none_due w ts a x h d =
      let n : IsNextVector l D h.last x = subst (DueAt l D w x) h.is_last d in
      h.calls_none x (subst (CallsFor (level l h.last) x) (one_search h.last n.answer a n.answers h.answers) n.calls)

  one_ending : (w : List ℕ) (budget : ℕ) (ts : List Tighten) (e f : Ending) → IsEndingAt w budget ts e → IsEndingAt w budget ts f → e ≡ f
  one_ending w budget ts (Searched a) (Searched b) h k =
      ap Searched (one_search k.last a b
      (subst (λ (t : Tighten). IsSearchAnswer Mode.Least (candidate l t).size (entry (candidate l t)) D a)
      (let e = sym h.is_last ∙ k.is_last in cc) h.answers) k.answers)
  one_ending w budget ts (Searched a) (Owing o) h k = absurd (none_due w ts a k.0 h k.1)
  one_ending w budget ts (Searched a) Used h k = absurd (none_due w ts a k.0 h k.1)
  one_ending w budget ts (Owing o) (Searched a) h k = absurd (none_due w ts a h.0 k h.1)
  one_ending w budget ts (Owing o) (Owing p) h k =
      let same = one_due w ts h.0 k.0 h.1 k.1 in
      let e : Some o ≡ Some p = sym h.3 ∙ ap (λ (x : List ℕ). first_owed neighbour_is_owed (tighten_ops l x)) same ∙ k.3 in
      ap Owing cc
  one_ending w budget ts (Owing o) Used h k = absurd (let a = h.2 in let b = k.2 in omega arith)
  one_ending w budget ts Used (Searched a) h k = absurd (none_due w ts a h.0 k h.1)
  one_ending w budget ts Used (Owing o) h k = absurd (let a = h.2 in let b = k.2 in omega arith)
  one_ending w budget ts Used Used h k = refl

  -- nothing of a front is owed, nor of what follows it
  owes_next : (ts more : List Tighten) (u : Tighten) → first_owed neighbour_is_owed (tightens_ops l (ts ++ u ∷ more)) ≡ None
      → first_owed neighbour_is_owed (tighten_ops l u.vector) ≡ None
  unfolding tightens_ops
  owes_next ts more u h =
      let whole = ap (first_owed neighbour_is_owed) (sym (flat_map-append (λ t. tighten_ops l t.vector) ts (u ∷ more))) ∙ h in
      let rest = sym (first_owed-append_none neighbour_is_owed (flat_map (λ t. tighten_ops l t.vector) ts) (flat_map (λ t. tighten_ops l t.vector) (u ∷ more))
      (left (flat_map (λ t. tighten_ops l t.vector) ts) (flat_map (λ t. tighten_ops l t.vector) (u ∷ more)) whole)) ∙ whole in
      left (tighten_ops l u.vector) (flat_map (λ t. tighten_ops l t.vector) more) rest
    where
      left : (xs ys : List NeighbourOp) → first_owed neighbour_is_owed (xs ++ ys) ≡ None → first_owed neighbour_is_owed xs ≡ None
      left xs ys h = by (first_owed neighbour_is_owed xs) refl
        where
          by : (o : Option NeighbourOp) → first_owed neighbour_is_owed xs ≡ o → first_owed neighbour_is_owed xs ≡ None
          by None e = e
          by (Some p) e = absurd (let f = first_owed-append_some neighbour_is_owed xs ys p e in cc)

  -- where the way ends, no run goes on
  no_front : (w : List ℕ) (budget : ℕ) (ts us : List Tighten) (e : Ending) → IsEndingAt w budget ts e → IsRunAlong l D w budget us → IsFront w ts us → ⊥
  no_front w budget ts us (Searched a) h run f = none_due w ts a f.next.vector h f.due
  no_front w budget ts us (Owing o) h run f =
      let same = one_due w ts h.0 f.next.vector h.1 f.due in
      let none = owes_next ts f.more f.next (ap (λ (us : List Tighten). first_owed neighbour_is_owed (tightens_ops l us)) (sym f.are) ∙ run.owes) in
      let e : Some o ≡ None = sym h.3 ∙ ap (λ (x : List ℕ). first_owed neighbour_is_owed (tighten_ops l x)) same ∙ none in
      absurd cc
  no_front w budget ts us Used h run f =
      let long : length us ≡ length ts + suc (length f.more) = ap length f.are ∙ length-append ts (f.next ∷ f.more) in
      let within = run.within in
      let used = h.2 in
      omega arith

  -- ---- an answer is made of its Tightens and its end
  last_or : Option Tighten → Symmetric
  last_or None = l.matrix
  last_or (Some t) = candidate l t

  answer_at : List Tighten → Ending → Neighbour
  answer_at ts (Searched (Found b vectors)) = neighbour.Found (last_or (last_tighten ts)) b vectors ts
  answer_at ts (Searched (Depth path)) = neighbour.Depth (last_or (last_tighten ts)) path ts
  answer_at ts (Searched (Wide path at)) = neighbour.Wide (op.Gram record { path = path; entry = at }) (Some (last_or (last_tighten ts))) ts
  answer_at ts (Searched (BoundWide z)) = neighbour.Wide (op.Bound z) (Some (last_or (last_tighten ts))) ts
  answer_at ts (Searched (Low x z path)) = neighbour.OutOfMemory
  answer_at ts (Searched Copositive) = neighbour.OutOfMemory
  answer_at ts (Owing o) = neighbour.Wide o None ts
  answer_at ts Used = neighbour.Pivots ts

  record IsMadeOf (w : List ℕ) (budget : ℕ) (a : Neighbour) : Type 0 where
    pub run : IsRunAlong l D w budget (tightens_of a)
    pub ending : Ending
    pub ends : IsEndingAt w budget (tightens_of a) ending
    pub made : a ≡ answer_at (tightens_of a) ending

  searched_last : (ts : List Tighten) (c : Symmetric) (a : SearchAnswer) (h : IsCandidateAnswer l D ts c a)
      → ((x : List ℕ) → CallsFor (level l h.last) x a → ⊥) → IsSearchedLast ts a
  searched_last ts c a h none = record {
    last = h.last;
    is_last = h.is_last;
    answers = subst (λ (c : Symmetric). IsSearchAnswer Mode.Least c.size (entry c) D a) h.candidate_is h.answers;
    calls_none = none;
  }

  candidate_last : (ts : List Tighten) (c : Symmetric) (a : SearchAnswer) (h : IsCandidateAnswer l D ts c a) → c ≡ last_or (last_tighten ts)
  unfolding last_or
  candidate_last ts c a h = h.candidate_is ∙ ap last_or (sym h.is_last)

  owing : (w : List ℕ) (budget : ℕ) (ts : List Tighten) (o : NeighbourOp) → IsOperationOwed l D w budget ts o → IsEndingAt w budget ts (Owing o)
  owing w budget ts o h = (h.vector, h.due, h.left, h.first)

  not_below : (z b : ℤ) → z ≡ b → z <ℤ b → ⊥
  not_below z b e h = grind (arith, ints)

  made_of : (w : List ℕ) (budget : ℕ) (a : Neighbour) → IsNeighbourAnswer l D w budget a → (a ≡ neighbour.OutOfMemory) ⊎ IsMadeOf w budget a
  unfolding answer_at
  made_of w budget (neighbour.Found c mu vectors ts) h =
      inr record {
        run = h.0;
        ending = Searched (Found mu vectors);
        ends = searched_last ts c (Found mu vectors) h.1.search (λ x k. not_below mu (level l h.1.search.last) h.1.at_level k.0);
        made = ap (λ (c : Symmetric). neighbour.Found c mu vectors ts) (candidate_last ts c (Found mu vectors) h.1.search);
      }
  made_of w budget (neighbour.Depth c path ts) h =
      inr record {
        run = h.0;
        ending = Searched (Depth path);
        ends = searched_last ts c (Depth path) h.1 (λ x k. k);
        made = ap (λ (c : Symmetric). neighbour.Depth c path ts) (candidate_last ts c (Depth path) h.1);
      }
  made_of w budget (neighbour.Wide (op.Form x o) c ts) h =
      inr record {
        run = h.0;
        ending = Owing (op.Form x o);
        ends = owing w budget ts (op.Form x o) h.1.0;
        made = ap
            (λ (c : Option Symmetric). neighbour.Wide (op.Form x o) c ts) h.1.1;
      }
  made_of w budget (neighbour.Wide (op.Scale o) c ts) h =
      inr record {
        run = h.0;
        ending = Owing (op.Scale o);
        ends = owing w budget ts (op.Scale o) h.1.0;
        made = ap
            (λ (c : Option Symmetric). neighbour.Wide (op.Scale o) c ts) h.1.1;
      }
  made_of w budget (neighbour.Wide (op.Gram at) None ts) h = absurd h.1
  made_of w budget (neighbour.Wide (op.Gram at) (Some c) ts) h =
      inr record {
        run = h.0;
        ending = Searched (Wide at.path at.entry);
        ends = searched_last ts c (Wide at.path at.entry) h.1 (λ x k. k);
        made = ap (λ (c : Symmetric). neighbour.Wide (op.Gram at) (Some c) ts) (candidate_last ts c (Wide at.path at.entry) h.1);
      }
  made_of w budget (neighbour.Wide (op.Bound z) None ts) h = absurd h.1
  made_of w budget (neighbour.Wide (op.Bound z) (Some c) ts) h =
      inr record {
        run = h.0;
        ending = Searched (BoundWide z);
        ends = searched_last ts c (BoundWide z) h.1 (λ x k. k);
        made = ap (λ (c : Symmetric). neighbour.Wide (op.Bound z) (Some c) ts) (candidate_last ts c (BoundWide z) h.1);
      }
  made_of w budget (neighbour.Pivots ts) h = inr record { run = h.0; ending = Used; ends = (h.1.vector, h.1.due, h.1.used); made = refl }
  made_of w budget neighbour.OutOfMemory h = inl refl

  same_steps : (w : List ℕ) (budget : ℕ) (a b : Neighbour) → IsMadeOf w budget a → IsMadeOf w budget b → tightens_of a ≡ tightens_of b
  same_steps w budget a b h k = by (same_or_front w (tightens_of a) (tightens_of b) h.run.are k.run.are)
    where
      by : (tightens_of a ≡ tightens_of b) ⊎ (IsFront w (tightens_of a) (tightens_of b) ⊎ IsFront w (tightens_of b) (tightens_of a))
          → tightens_of a ≡ tightens_of b
      by (inl e) = e
      by (inr (inl f)) = absurd (no_front w budget (tightens_of a) (tightens_of b) h.ending h.ends k.run f)
      by (inr (inr f)) = absurd (no_front w budget (tightens_of b) (tightens_of a) k.ending k.ends h.run f)

  made_once : (w : List ℕ) (budget : ℕ) (a b : Neighbour) → IsMadeOf w budget a → IsMadeOf w budget b → a ≡ b
  made_once w budget a b h k =
      let steps = same_steps w budget a b h k in
      let same = one_ending w budget (tightens_of b) h.ending k.ending (subst (λ (ts : List Tighten). IsEndingAt w budget ts h.ending) steps h.ends) k.ends in
      h.made ∙ ap₂ (λ (ts : List Tighten) (e : Ending). answer_at ts e) steps same ∙ sym k.made

pub one_neighbour : AtMostOneNeighbour
one_neighbour l D w budget a b h k = by (made_of l D w budget a h) (made_of l D w budget b k)
  where
    by : (a ≡ neighbour.OutOfMemory) ⊎ IsMadeOf l D w budget a → (b ≡ neighbour.OutOfMemory) ⊎ IsMadeOf l D w budget b
        → (a ≡ b) ⊎ ((a ≡ neighbour.OutOfMemory) ⊎ (b ≡ neighbour.OutOfMemory))
    by (inl e) k = inr (inl e)
    by (inr h) (inl e) = inr (inr e)
    by (inr h) (inr k) = inl (made_once l D w budget a b h k)
