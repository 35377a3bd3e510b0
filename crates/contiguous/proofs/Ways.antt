-- The way along a ray: the Tightens that were made, and the vector that is due.
use Rattle.std.specs.Prelude.{◌≡◌, ℕ, suc, ◌-◌, pos, ◌*ℤ◌, ◌<ℤ◌, List, [], ◌∷◌, ◌++◌, length, slice_get, Option, Some, None}
use Rattle.std.specs.List.{flat_map}
use Rattle.std.proofs.Common.{arith, sym, ◌∙◌, ap, refl, subst}
use Rattle.std.proofs.lemmas.List.{append-nil}
use Rattle.std.proofs.lemmas.List.Concat.{flat_map-append}
use Rattle.exact_forms.specs.Forms.{form}
use Rattle.exact_forms.specs.Vectors.{coordinate, IsNonzero}
use Rattle.exact_forms.specs.Copositive.{IsMinimum, IsExtremeRay}
use Rattle.exact_forms.proofs.Neighbours.{above_minimum, below_again, lambda_falls}
use Rattle.symmetric_matrix.specs.Symmetric.{Symmetric, entry}
use Rattle.symmetric_matrix.specs.Owed.{first_owed}
use Rattle.symmetric_matrix.proofs.Owed.{first_owed-append_none}
use Rattle.contiguous.specs.declared.neighbour.Tighten.{Tighten}
use Rattle.contiguous.specs.Tightenings.{Line, value_at, tighten_of, candidate, level, tighten_ops, tightens_ops, neighbour_is_owed, IsTightenable}
use Rattle.contiguous.specs.Tightenings.{IsNextVector, AreNextTightens, AreTightens, last_tighten, IsVectorDue, IsFalling, IsTightenAlong, CanBeMadeAgain}
use Rattle.contiguous.specs.Tightenings.{searched_after}
use Rattle.contiguous.specs.Making.{LeavesVector}
use Rattle.contiguous.proofs.Candidates.{candidate_at, candidate_level_at, vector_is, is_tightening, is_candidate, candidate_size}

-- ---- what holds of the last one
abbrev pub DueAt : Line → ℕ → List ℕ → List ℕ → Option Tighten → Type 0
DueAt l D w x o = elim o as (λ _. Type 0) [ None ↦ x ≡ w | Some t ↦ IsNextVector l D t x ]

abbrev pub AgainAt : Line → Option Tighten → Type 0
AgainAt l o = elim o as (λ _. Type 0) [ None ↦ Unit {0} | Some t ↦ IsTightenAlong l t ]

abbrev pub BelowAt : Line → List ℕ → Option Tighten → Type 0
BelowAt l x o = elim o as (λ _. Type 0) [ None ↦ Unit {0} | Some t ↦ value_at (candidate l t) x <ℤ level l t ]

abbrev pub extended : Line → List Tighten → List ℕ → List Tighten
extended l ts x = ts ++ tighten_of l x ∷ []

unfoldable pub last_from : Tighten → List Tighten → Tighten
last_from t [] = t
last_from t (u ∷ us) = last_from u us

pub last_is : (t : Tighten) (us : List Tighten) → last_tighten (t ∷ us) ≡ Some (last_from t us)
unfolding last_tighten last_from
last_is t [] = refl
last_is t (u ∷ us) = last_is u us

pub last_push : (ts : List Tighten) (t : Tighten) → last_tighten (ts ++ t ∷ []) ≡ Some t
unfolding last_tighten
last_push [] t = refl
last_push (u ∷ []) t = refl
last_push (u ∷ v ∷ us) t = last_push (v ∷ us) t

-- the item at the last index
pub last_at : (ts : List Tighten) (t : Tighten) → slice_get ts (length ts - 1) ≡ Some t → last_tighten ts ≡ Some t
unfolding last_tighten
last_at [] t e = absurd cc
last_at (u ∷ []) t e = e
last_at (u ∷ v ∷ us) t e = last_at (v ∷ us) t (ap (slice_get (u ∷ v ∷ us)) (before (length us)) ∙ e)
  where
    before : (n : ℕ) → suc (suc n - 1) ≡ suc (suc n) - 1
    before n = omega arith

pub last_none : last_tighten [] ≡ None
unfolding last_tighten
last_none = refl

module _ (l : Line) (D : ℕ) where
  next_push : (t : Tighten) (us : List Tighten) (u : Tighten) → AreNextTightens l D t us → IsNextVector l D (last_from t us) u.vector
      → u ≡ tighten_of l u.vector → AreNextTightens l D t (us ++ u ∷ [])
  unfolding last_from
  next_push t [] u a n e = (n, e, tt)
  next_push t (v ∷ us) u a n e = (a.0, a.1, next_push v us u a.2 n e)

  due_as : (w x : List ℕ) (t : Tighten) (us : List Tighten) → IsVectorDue l D w (t ∷ us) x → IsNextVector l D (last_from t us) x
  due_as w x t us d = subst (DueAt l D w x) (last_is t us) d

  pub are_push : (w x : List ℕ) (ts : List Tighten) → AreTightens l D w ts → IsVectorDue l D w ts x → AreTightens l D w (extended l ts x)
  unfolding last_tighten
  are_push w x [] a d = (ap (tighten_of l) d, tt)
  are_push w x (t ∷ us) a d = (
    a.0,
    next_push t us (tighten_of l x) a.1 (subst (IsNextVector l D (last_from t us)) (sym (vector_is l x)) (due_as w x t us d))
        (ap (tighten_of l) (sym (vector_is l x))),
  )

pub ops_push : (l : Line) (ts : List Tighten) (x : List ℕ) → first_owed neighbour_is_owed (tightens_ops l ts) ≡ None
    → first_owed neighbour_is_owed (tighten_ops l x) ≡ None
    → first_owed neighbour_is_owed (tightens_ops l (extended l ts x)) ≡ None
unfolding tightens_ops
ops_push l ts x h k =
    ap (first_owed neighbour_is_owed) (flat_map-append (λ t. tighten_ops l t.vector) ts (tighten_of l x ∷ []))
    ∙ first_owed-append_none neighbour_is_owed (flat_map (λ t. tighten_ops l t.vector) ts) (flat_map (λ t. tighten_ops l t.vector) (tighten_of l x ∷ [])) h
    ∙ ap (first_owed neighbour_is_owed) (append-nil (tighten_ops l (tighten_of l x).vector))
    ∙ ap (λ (x : List ℕ). first_owed neighbour_is_owed (tighten_ops l x)) (vector_is l x) ∙ k

falling_push : (t : Tighten) (us : List Tighten) (u : Tighten) → IsFalling (t ∷ us) → (u.p *ℤ (last_from t us).q) <ℤ ((last_from t us).p *ℤ u.q)
    → IsFalling (t ∷ (us ++ u ∷ []))
unfolding last_from
falling_push t [] u f h = (h, tt)
falling_push t (v ∷ us) u f h = (f.0, falling_push v us u f.1 h)

-- ---- what was made so far
pub record IsMadeTo (l : Line) (D : ℕ) (w : List ℕ) (ts : List Tighten) : Type 0 where
  pub are : AreTightens l D w ts
  pub owes : first_owed neighbour_is_owed (tightens_ops l ts) ≡ None
  pub falling : IsFalling ts
  pub again : CanBeMadeAgain l ts

abbrev pub IsBelowLast : Line → List Tighten → List ℕ → Type 0
IsBelowLast l ts x = BelowAt l x (last_tighten ts)

-- and the vector that is due
pub record IsReadyFor (l : Line) (D : ℕ) (w : List ℕ) (ts : List Tighten) (x : List ℕ) : Type 0 where
  pub due : IsVectorDue l D w ts x
  pub tightenable : IsTightenable l x
  pub below : IsBelowLast l ts x

pub record IsOnWay (l : Line) (D : ℕ) (w : List ℕ) (k : ℕ) (ts : List Tighten) (x : List ℕ) : Type 0 where
  pub made : IsMadeTo l D w ts
  pub ready : IsReadyFor l D w ts x
  pub count : length ts ≡ k

-- the line runs from a matrix along an extreme ray of its minimum's vectors
pub record IsRayLine (l : Line) (vectors : List (List ℕ)) : Type 0 where
  pub sizes : l.direction.size ≡ l.matrix.size
  pub minimum : IsMinimum l.matrix.size (entry l.matrix) l.mu vectors
  pub extreme : IsExtremeRay l.matrix.size (entry l.direction) vectors

module _ (l : Line) (vectors : List (List ℕ)) (R : IsRayLine l vectors) where
  pub tightenable : (x : List ℕ) → length x ≡ l.matrix.size → IsNonzero l.matrix.size x → value_at l.direction x <ℤ pos 0 → IsTightenable l x
  tightenable x size nonzero below = record {
    size = size;
    nonzero = nonzero;
    below = below;
    above =
        above_minimum l.matrix.size (entry l.matrix) (entry l.direction) l.mu vectors R.minimum R.extreme x size nonzero
        (subst (λ (n : ℕ). form n (entry l.direction) (coordinate x) <ℤ pos 0) R.sizes below);
  }

  pub starts : (D : ℕ) (w : List ℕ) → IsTightenable l w → IsOnWay l D w 0 [] w
  unfolding last_tighten tightens_ops first_owed
  starts D w h =
      record { made = record { are = tt; owes = refl; falling = tt; again = tt }; ready = record { due = refl; tightenable = h; below = tt }; count = refl }

  falls_from : (t : Tighten) (x : List ℕ) → IsTightenable l t.vector → t ≡ tighten_of l t.vector → IsTightenable l x → value_at (candidate l t) x <ℤ level l t
      → ((tighten_of l x).p *ℤ t.q) <ℤ (t.p *ℤ (tighten_of l x).q)
  falls_from t x h e k less =
      let T = is_tightening l R.sizes t.vector h in
      let C = is_candidate l R.sizes t.vector h R.minimum.positive in
      let moved : form l.matrix.size (entry (candidate_at l t.vector)) (coordinate x) <ℤ candidate_level_at l t.vector =
      subst (λ (n : ℕ). form n (entry (candidate_at l t.vector)) (coordinate x) <ℤ candidate_level_at l t.vector) (candidate_size l (tighten_of l t.vector))
      (subst (λ (t : Tighten). value_at (candidate l t) x <ℤ level l t) e less) in
      subst (λ (t : Tighten). ((tighten_of l x).p *ℤ t.q) <ℤ (t.p *ℤ (tighten_of l x).q)) (sym e)
      (lambda_falls l.matrix.size (entry l.matrix) (entry l.direction) l.mu vectors R.minimum R.extreme t.vector (tighten_of l t.vector).p
      (tighten_of l t.vector).q _
      (candidate_level_at l t.vector) (entry (candidate_at l t.vector)) T C
      x (tighten_of l x).p (tighten_of l x).q moved (is_tightening l R.sizes x k))

  falling_next : (ts : List Tighten) (x : List ℕ) → IsFalling ts → CanBeMadeAgain l ts → IsTightenable l x → IsBelowLast l ts x → IsFalling (extended l ts x)
  falling_next [] x f a k b = tt
  falling_next (t ∷ us) x f a k b =
      let again = subst (AgainAt l) (last_is t us) a in
      let below = subst (BelowAt l x) (last_is t us) b in
      falling_push t us (tighten_of l x) f (falls_from (last_from t us) x again.tightenable again.step k below)

  -- one more Tighten
  pub made_next : (D : ℕ) (w x : List ℕ) (ts : List Tighten) → IsMadeTo l D w ts → IsReadyFor l D w ts x
      → first_owed neighbour_is_owed (tighten_ops l x) ≡ None → IsMadeTo l D w (extended l ts x)
  made_next D w x ts m r owes = record {
    are = are_push l D w x ts m.are r.due;
    owes = ops_push l ts x m.owes owes;
    falling = falling_next ts x m.falling m.again r.tightenable r.below;
    again = subst (AgainAt l) (sym (last_push ts (tighten_of l x)))
        record {
          tightenable = subst (IsTightenable l) (sym (vector_is l x)) r.tightenable;
          step = ap (tighten_of l) (sym (vector_is l x));
          owes = ap (λ (x : List ℕ). first_owed neighbour_is_owed (tighten_ops l x)) (vector_is l x) ∙ owes;
        };
  }

  -- the vector that its search leaves
  pub ready_next : (D : ℕ) (w x y : List ℕ) (ts : List Tighten) → IsTightenable l x → LeavesVector (candidate_at l x) (candidate_level_at l x) D y
      → IsReadyFor l D w (extended l ts x) y
  ready_next D w x y ts h v =
      let size = candidate_size l (tighten_of l x) in
      let long : length y ≡ l.matrix.size = v.size ∙ size in
      let nonzero : IsNonzero l.matrix.size y = subst (λ (n : ℕ). IsNonzero n y) size v.nonzero in
      let less = subst (λ (n : ℕ). form n (entry (candidate_at l x)) (coordinate y) <ℤ candidate_level_at l x) size v.below in
      let below = below_again l.matrix.size (entry l.matrix) (entry l.direction) l.mu vectors R.minimum R.extreme x (tighten_of l x).p (tighten_of l x).q _
      (candidate_level_at l x)
      (entry (candidate_at l x))
      (is_tightening l R.sizes x h) (is_candidate l R.sizes x h R.minimum.positive) y long nonzero less in
      record {
        due = subst (DueAt l D w y) (sym (last_push ts (tighten_of l x)))
            record { answer = v.answer; answers = v.answers; calls = v.calls };
        tightenable = tightenable y long nonzero (subst (λ (n : ℕ). form n (entry l.direction) (coordinate y) <ℤ pos 0) (sym R.sizes) below);
        below = subst (BelowAt l y) (sym (last_push ts (tighten_of l x))) v.below;
      }

-- ---- the last candidate, made again
pub searched_none : (l : Line) (ts : List Tighten) → length ts ≡ 0 → None ≡ searched_after l ts
unfolding last_tighten
searched_none l [] e = refl
searched_none l (t ∷ ts) e = absurd cc

pub again_at : (l : Line) (ts : List Tighten) (t : Tighten) → CanBeMadeAgain l ts → last_tighten ts ≡ Some t → IsTightenAlong l t
again_at l ts t a e = subst (AgainAt l) e a

pub searched_again : (l : Line) (ts : List Tighten) (t : Tighten) (c : Symmetric) → CanBeMadeAgain l ts → last_tighten ts ≡ Some t
    → c ≡ candidate_at l t.vector → Some c ≡ searched_after l ts
searched_again l ts t c a e made =
    ap Some (made ∙ ap (candidate l) (sym (again_at l ts t a e).step))
    ∙ ap (λ (o : Option Tighten). elim o as (λ _. Option Symmetric) [ None ↦ None | Some t ↦ Some (candidate l t) ]) (sym e)
