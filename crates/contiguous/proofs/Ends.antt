-- How the way along a ray ends.
use Rattle.std.specs.Prelude.{◌≡◌, ℕ, ◌+◌, ◌≤◌, ◌<◌, ℤ, pos, ◌≤ℤ◌, List, [], ◌∷◌, ◌++◌, length, Some, None}
use Rattle.std.proofs.Common.{arith, sym, ◌∙◌, ap, refl, subst}
use Rattle.std.proofs.lemmas.List.{length_push}
use Rattle.exact_forms.specs.Copositive.{IsMinimum}
use Rattle.exact_forms.proofs.Neighbours.{tightening_positive, neighbour_perfect, new_vector_listed, new_vector_new}
use Rattle.symmetric_matrix.specs.Symmetric.{Symmetric, entry}
use Rattle.symmetric_matrix.specs.Owed.{first_owed}
use Rattle.symmetric_matrix.specs.Combining.{divisor_of}
use Rattle.symmetric_matrix.proofs.Primitives.{primitive_lowest}
use Rattle.unimodular_cone.specs.declared.Mode.{Mode}
use Rattle.unimodular_cone.specs.Answer.{SearchAnswer, Depth, Wide, BoundWide, IsSearchAnswer}
use Rattle.contiguous.specs.declared.neighbour.Tighten.{Tighten}
use Rattle.contiguous.specs.declared.neighbour.NeighbourOp.{NeighbourOp}
use Rattle.contiguous.specs.declared.neighbour.NeighbourOp.TheVariants as op
use Rattle.contiguous.specs.declared.neighbour.Neighbour.{Neighbour}
use Rattle.contiguous.specs.declared.neighbour.Neighbour.TheVariants as neighbour
use Rattle.contiguous.specs.declared.tightening.Candidate.{Candidate}
use Rattle.contiguous.specs.declared.tightening.TightenFail.{TightenFail}
use Rattle.contiguous.specs.declared.tightening.TightenFail.TheVariants as fail
use Rattle.contiguous.specs.declared.tightening.SearchEnd.{SearchEnd}
use Rattle.contiguous.specs.declared.tightening.SearchEnd.TheVariants as ending
use Rattle.contiguous.specs.Tightenings.{Line, tighten_of, IsTightenable, IsRunAlong, IsCandidateAnswer, IsNeighbourAnswer, IsNeighbour, CanBeMadeAgain}
use Rattle.contiguous.specs.Tightenings.{IsOperationOwed, neighbour_is_owed, tighten_ops}
use Rattle.contiguous.specs.Tightenings.{NeighbourHolds, tightens_of, last_tighten}
use Rattle.contiguous.specs.Making.{IsTightenMade, IsMakingRefused, IsCandidateReached, LeavesVector, IsPerfectFound, IsSearchEnd, IsRefusedBy, IsEndedBy}
use Rattle.contiguous.proofs.Candidates.{candidate_is, candidate_size, is_tightening, is_candidate, divisor_nonzero, level_positive, is_reached, combined_at}
use Rattle.contiguous.proofs.Candidates.{candidate_at, candidate_level_at}
use Rattle.contiguous.proofs.Ways.{IsRayLine, extended, IsMadeTo, IsOnWay, last_push, made_next, ready_next}

pub run_of : (l : Line) (D : ℕ) (w : List ℕ) (budget : ℕ) (ts : List Tighten) → IsMadeTo l D w ts → length ts ≤ budget → IsRunAlong l D w budget ts
run_of l D w budget ts m h = record { are = m.are; within = h; owes = m.owes }

first_refused : (l : Line) (x : List ℕ) (o : NeighbourOp) → IsMakingRefused l x (fail.Wide o) → first_owed neighbour_is_owed (tighten_ops l x) ≡ Some o
first_refused l x (op.Form y o) r = r
first_refused l x (op.Scale o) r = r
first_refused l x (op.Gram at) r = absurd r
first_refused l x (op.Bound z) r = absurd r

-- an operation of the next Tighten is owed
pub ends_wide : (l : Line) (D : ℕ) (w : List ℕ) (budget k : ℕ) (ts : List Tighten) (x : List ℕ) (o : NeighbourOp) → IsOnWay l D w k ts x → k < budget
    → IsMakingRefused l x (fail.Wide o)
    → IsNeighbourAnswer l D w budget (neighbour.Wide o None ts)
ends_wide l D w budget k ts x o h less r = by o (run_of l D w budget ts h.made (omega (arith, h.count))) (owed o r) r
  where
    owed : (o : NeighbourOp) → IsMakingRefused l x (fail.Wide o) → IsOperationOwed l D w budget ts o
    owed o r = record { vector = x; due = h.ready.due; left = omega (arith, h.count); first = first_refused l x o r }

    by : (o : NeighbourOp) → IsRunAlong l D w budget ts → IsOperationOwed l D w budget ts o → IsMakingRefused l x (fail.Wide o)
        → IsNeighbourAnswer l D w budget (neighbour.Wide o None ts)
    by (op.Form y o) m d r = (m, (d, refl))
    by (op.Scale o) m d r = (m, (d, refl))
    by (op.Gram at) m d r = absurd r
    by (op.Bound z) m d r = absurd r

-- the budget is used, and a Tighten is due
pub ends_pivots : {l : Line} {D : ℕ} {w : List ℕ} {k : ℕ} {ts : List Tighten} {x : List ℕ} (budget : ℕ) → IsOnWay l D w k ts x → k ≡ budget
    → IsNeighbourAnswer l D w budget (neighbour.Pivots ts)
ends_pivots {l} {D} {w} {k} {ts} {x} budget h e = (
  run_of l D w budget ts h.made
      (omega (arith, h.count)),
  record { vector = x; due = h.ready.due; used = h.count ∙ e },
)

-- ---- the search of the last candidate ends the way
pub candidate_answer : (l : Line) (D : ℕ) (ts : List Tighten) (x : List ℕ) (answer : SearchAnswer)
    → IsSearchAnswer Mode.Least (candidate_at l x).size (entry (candidate_at l x)) D answer
    → IsCandidateAnswer l D (extended l ts x) (candidate_at l x) answer
candidate_answer l D ts x answer a = record { last = tighten_of l x; is_last = last_push ts (tighten_of l x); candidate_is = refl; answers = a }

-- and the neighbour is a perfect matrix
pub is_neighbour : (l : Line) (vectors : List (List ℕ)) (R : IsRayLine l vectors) (D : ℕ)
    (ts : List Tighten) (x : List ℕ) (found : List (List ℕ)) → IsTightenable l x → IsPerfectFound (candidate_at l x) (candidate_level_at l x) D found
    → IsNeighbour l vectors (candidate_at l x) (candidate_level_at l x) found (extended l ts x)
unfolding tighten_of
is_neighbour l vectors R D ts x found h f =
    let T = is_tightening l R.sizes x h in
    let C = is_candidate l R.sizes x h R.minimum.positive in
    let size = candidate_size l (tighten_of l x) in
    let N : IsMinimum l.matrix.size (entry (candidate_at l x)) (candidate_level_at l x) found =
    subst (λ (n : ℕ). IsMinimum n (entry (candidate_at l x)) (candidate_level_at l x) found) size f.minimum in
    record {
      size = size;
      minimum = N;
      perfect =
          neighbour_perfect l.matrix.size (entry l.matrix) (entry l.direction) l.mu vectors R.minimum R.extreme x (tighten_of l x).p (tighten_of l x).q _
          (candidate_level_at l x)
          (entry (candidate_at l x)) T C found N;
      primitive = ap divisor_of (candidate_is l (tighten_of l x)) ∙ primitive_lowest (combined_at l x) (divisor_nonzero l R.sizes x h R.minimum.positive);
      last = tighten_of l x;
      is_last = last_push ts (tighten_of l x);
      tightening = T;
      positive = tightening_positive l.matrix.size (entry l.matrix) (entry l.direction) l.mu vectors R.minimum R.extreme x (tighten_of l x).p
          (tighten_of l x).q T;
      divisor = _;
      on_the_line = C;
      new_vector = record {
        listed =
            new_vector_listed l.matrix.size (entry l.matrix) (entry l.direction) l.mu vectors R.minimum R.extreme x (tighten_of l x).p (tighten_of l x).q _
            (candidate_level_at l x)
            (entry (candidate_at l x)) T C found N;
        fresh =
            new_vector_new l.matrix.size (entry l.matrix) (entry l.direction) l.mu vectors R.minimum R.extreme x (tighten_of l x).p (tighten_of l x).q _
            (candidate_level_at l x)
            (entry (candidate_at l x)) T C;
      };
    }

pub again_none : (l : Line) → CanBeMadeAgain l []
unfolding last_tighten
again_none l = tt

-- a refused Tighten, as an answer
pub ends_refused : (l : Line) (D : ℕ) (w : List ℕ) (budget k : ℕ) (ts : List Tighten) (x : List ℕ) (f : TightenFail) (a : Neighbour) → IsOnWay l D w k ts x
    → k < budget → IsMakingRefused l x f → IsRefusedBy f ts a
    → IsNeighbourAnswer l D w budget a
ends_refused l D w budget k ts x (fail.Wide o) a h less r e = subst (IsNeighbourAnswer l D w budget) (sym e) (ends_wide l D w budget k ts x o h less r)
ends_refused l D w budget k ts x fail.OutOfMemory a h less r e = subst (IsNeighbourAnswer l D w budget) (sym e) tt

pub holds_refused : (l : Line) (D : ℕ) (w : List ℕ) (vectors : List (List ℕ)) (k : ℕ) (ts : List Tighten) (x : List ℕ) (f : TightenFail) (a : Neighbour)
    → IsOnWay l D w k ts x → IsRefusedBy f ts a → NeighbourHolds l vectors a
holds_refused l D w vectors k ts x (fail.Wide o) a h e = subst (NeighbourHolds l vectors) (sym e) h.made.falling
holds_refused l D w vectors k ts x fail.OutOfMemory a h e = subst (NeighbourHolds l vectors) (sym e) tt

pub again_refused : (l : Line) (D : ℕ) (w : List ℕ) (k : ℕ) (ts : List Tighten) (x : List ℕ) (f : TightenFail) (a : Neighbour) → IsOnWay l D w k ts x
    → IsRefusedBy f ts a → CanBeMadeAgain l (tightens_of a)
again_refused l D w k ts x (fail.Wide o) a h e = subst (λ (a : Neighbour). CanBeMadeAgain l (tightens_of a)) (sym e) h.made.again
again_refused l D w k ts x fail.OutOfMemory a h e = subst (λ (a : Neighbour). CanBeMadeAgain l (tightens_of a)) (sym e) (again_none l)

-- ---- a search that ends the way, as an answer
longer : (l : Line) (ts : List Tighten) (x : List ℕ) (budget : ℕ) → length ts < budget → length (extended l ts x) ≤ budget
longer l ts x budget less = omega (arith, less, length_push ts (tighten_of l x))

pub ends_searched : (l : Line) (D : ℕ) (w : List ℕ) (budget : ℕ) (ts : List Tighten) (x : List ℕ) (e : SearchEnd) (a : Neighbour)
    → IsMadeTo l D w (extended l ts x) → length ts < budget
    → IsSearchEnd (candidate_at l x) (candidate_level_at l x) D e
    → IsEndedBy e (candidate_at l x) (candidate_level_at l x) (extended l ts x) a
    → IsNeighbourAnswer l D w budget a
ends_searched l D w budget ts x (ending.Perfect found) a m less s e =
    subst (IsNeighbourAnswer l D w budget) (sym e) (
      run_of l D w budget (extended l ts x) m (longer l ts x budget less),
      record {
        search = record { last = tighten_of l x; is_last = last_push ts (tighten_of l x); candidate_is = refl; answers = s.answers };
        at_level = refl;
      },
    )
ends_searched l D w budget ts x (ending.Depth path) a m less s e =
    subst (IsNeighbourAnswer l D w budget) (sym e) (
      run_of l D w budget (extended l ts x) m (longer l ts x budget less),
      candidate_answer l D ts x
          (Depth path) s,
    )
ends_searched l D w budget ts x (ending.Wide at) a m less s e =
    subst (IsNeighbourAnswer l D w budget) (sym e) (
      run_of l D w budget (extended l ts x) m (longer l ts x budget less),
      candidate_answer l D ts x
          (Wide at.path at.entry) s,
    )
ends_searched l D w budget ts x (ending.BoundWide z) a m less s e =
    subst (IsNeighbourAnswer l D w budget) (sym e) (
      run_of l D w budget (extended l ts x) m (longer l ts x budget less),
      candidate_answer l D ts x
          (BoundWide z) s,
    )
ends_searched l D w budget ts x ending.OutOfMemory a m less s e = subst (IsNeighbourAnswer l D w budget) (sym e) tt

pub holds_searched : (l : Line) (vectors : List (List ℕ)) (R : IsRayLine l vectors) (D : ℕ) (w : List ℕ)
    (ts : List Tighten) (x : List ℕ) (e : SearchEnd) (a : Neighbour) → IsMadeTo l D w (extended l ts x) → IsTightenable l x
    → IsSearchEnd (candidate_at l x) (candidate_level_at l x) D e
    → IsEndedBy e (candidate_at l x) (candidate_level_at l x) (extended l ts x) a
    → NeighbourHolds l vectors a
holds_searched l vectors R D w ts x (ending.Perfect found) a m h s e =
    subst (NeighbourHolds l vectors) (sym e) (m.falling, is_neighbour l vectors R D ts x found h s)
holds_searched l vectors R D w ts x (ending.Depth path) a m h s e = subst (NeighbourHolds l vectors) (sym e) m.falling
holds_searched l vectors R D w ts x (ending.Wide at) a m h s e = subst (NeighbourHolds l vectors) (sym e) m.falling
holds_searched l vectors R D w ts x (ending.BoundWide z) a m h s e = subst (NeighbourHolds l vectors) (sym e) m.falling
holds_searched l vectors R D w ts x ending.OutOfMemory a m h s e = subst (NeighbourHolds l vectors) (sym e) tt

pub again_searched : (l : Line) (D : ℕ) (w : List ℕ) (ts : List Tighten) (e : SearchEnd) (c : Symmetric) (z : ℤ) (a : Neighbour) → IsMadeTo l D w ts
    → IsEndedBy e c z ts a → CanBeMadeAgain l (tightens_of a)
again_searched l D w ts (ending.Perfect found) c z a m e = subst (λ (a : Neighbour). CanBeMadeAgain l (tightens_of a)) (sym e) m.again
again_searched l D w ts (ending.Depth path) c z a m e = subst (λ (a : Neighbour). CanBeMadeAgain l (tightens_of a)) (sym e) m.again
again_searched l D w ts (ending.Wide at) c z a m e = subst (λ (a : Neighbour). CanBeMadeAgain l (tightens_of a)) (sym e) m.again
again_searched l D w ts (ending.BoundWide b) c z a m e = subst (λ (a : Neighbour). CanBeMadeAgain l (tightens_of a)) (sym e) m.again
again_searched l D w ts ending.OutOfMemory c z a m e = subst (λ (a : Neighbour). CanBeMadeAgain l (tightens_of a)) (sym e) (again_none l)

-- ---- a Tighten that was made and appended, with its candidate and the level
pub record IsAppended (l : Line) (ts : List Tighten) (x : List ℕ) (c : Symmetric) (z : ℤ) (us : List Tighten) : Type 0 where
  pub matrix : c ≡ candidate_at l x
  pub level : z ≡ candidate_level_at l x
  pub steps : us ≡ extended l ts x

pub appended_steps : (l : Line) (ts us : List Tighten) (x : List ℕ) (made : Candidate) (z : ℤ) → IsTightenMade l x made → z ≡ made.level
    → us ≡ ts ++ made.step ∷ []
    → IsAppended l ts x made.matrix z us
appended_steps l ts us x made z m e s = record { matrix = m.matrix; level = e ∙ m.level; steps = s ∙ ap (λ (t : Tighten). ts ++ t ∷ []) m.step }

pub reached : (l : Line) (sizes : l.direction.size ≡ l.matrix.size) (x : List ℕ) (made : Candidate) (z : ℤ) → IsTightenable l x → pos 1 ≤ℤ l.mu
    → IsTightenMade l x made → z ≡ made.level → IsCandidateReached made.matrix z
reached l sizes x made z h positive m e =
    subst (λ (z : ℤ). IsCandidateReached made.matrix z) (sym (e ∙ m.level))
    (subst (λ (c : Symmetric). IsCandidateReached c (candidate_level_at l x)) (sym m.matrix) (is_reached l sizes x h positive))

pub at_least_one : (l : Line) (sizes : l.direction.size ≡ l.matrix.size) (x : List ℕ) (made : Candidate) (z : ℤ) → IsTightenable l x → pos 1 ≤ℤ l.mu
    → IsTightenMade l x made → z ≡ made.level → pos 1 ≤ℤ z
at_least_one l sizes x made z h positive m e = subst (λ (z : ℤ). pos 1 ≤ℤ z) (sym (e ∙ m.level)) (level_positive l sizes x h positive)

module _ (l : Line) (ts : List Tighten) (x : List ℕ) (c : Symmetric) (z : ℤ) (us : List Tighten) (A : IsAppended l ts x c z us) where
  pub search_moved : (D : ℕ) (e : SearchEnd) → IsSearchEnd c z D e → IsSearchEnd (candidate_at l x) (candidate_level_at l x) D e
  search_moved D e s = subst (λ (z : ℤ). IsSearchEnd (candidate_at l x) z D e) A.level (subst (λ (c : Symmetric). IsSearchEnd c z D e) A.matrix s)

  pub ended_moved : (e : SearchEnd) (a : Neighbour) → IsEndedBy e c z us a → IsEndedBy e (candidate_at l x) (candidate_level_at l x) (extended l ts x) a
  ended_moved e a s =
      subst (λ (us : List Tighten). IsEndedBy e (candidate_at l x) (candidate_level_at l x) us a) A.steps
      (subst (λ (z : ℤ). IsEndedBy e (candidate_at l x) z us a) A.level (subst (λ (c : Symmetric). IsEndedBy e c z us a) A.matrix s))

  pub vector_moved : (D : ℕ) (y : List ℕ) → LeavesVector c z D y → LeavesVector (candidate_at l x) (candidate_level_at l x) D y
  vector_moved D y s = subst (λ (z : ℤ). LeavesVector (candidate_at l x) z D y) A.level (subst (λ (c : Symmetric). LeavesVector c z D y) A.matrix s)

-- one Tighten more on the way along a ray from a perfect matrix
pub record IsStepMade (l : Line) (vectors : List (List ℕ)) (D : ℕ) (w : List ℕ) (k : ℕ) (ts : List Tighten) (x : List ℕ) (made : Candidate) (z : ℤ)
    (us : List Tighten) : Type 0 where
  pub ray : IsRayLine l vectors
  pub way : IsOnWay l D w k ts x
  pub made_is : IsTightenMade l x made
  pub level_is : z ≡ made.level
  pub steps_are : us ≡ ts ++ made.step ∷ []

module _ {l : Line} {vectors : List (List ℕ)} {D : ℕ} {w : List ℕ} {k : ℕ} {ts : List Tighten} {x : List ℕ} {made : Candidate} {z : ℤ} {us : List Tighten}
    (s : IsStepMade l vectors D w k ts x made z us) where
  here : IsAppended l ts x made.matrix z us
  here = appended_steps l ts us x made z s.made_is s.level_is s.steps_are

  longer_made : IsMadeTo l D w (extended l ts x)
  longer_made = made_next l vectors s.ray D w x ts s.way.made s.way.ready s.made_is.owes

  -- one more Tighten
  pub goes_on : (y : List ℕ) → LeavesVector made.matrix z D y → IsOnWay l D w (k + 1) us y
  goes_on y v =
      subst (λ (us : List Tighten). IsOnWay l D w (k + 1) us y) (sym here.steps)
      record {
        made = longer_made;
        ready = ready_next l vectors s.ray D w x y ts s.way.ready.tightenable (vector_moved l ts x made.matrix z us here D y v);
        count = length_push ts (tighten_of l x) ∙ ap (λ (k : ℕ). k + 1) s.way.count;
      }

  module _ (e : SearchEnd) (a : Neighbour) (f : IsSearchEnd made.matrix z D e) (b : IsEndedBy e made.matrix z us a) where
    pub ends_answer : (budget : ℕ) → k < budget → IsNeighbourAnswer l D w budget a
    ends_answer budget less =
        ends_searched l D w budget ts x e a longer_made (omega (arith, s.way.count)) (search_moved l ts x made.matrix z us here D e f)
        (ended_moved l ts x made.matrix z us here e a b)

    pub ends_holds : NeighbourHolds l vectors a
    ends_holds =
        holds_searched l vectors s.ray D w ts x e a longer_made s.way.ready.tightenable (search_moved l ts x made.matrix z us here D e f)
        (ended_moved l ts x made.matrix z us here e a b)

    pub ends_again : CanBeMadeAgain l (tightens_of a)
    ends_again = again_searched l D w (extended l ts x) e (candidate_at l x) (candidate_level_at l x) a longer_made
        (ended_moved l ts x made.matrix z us here e a b)
