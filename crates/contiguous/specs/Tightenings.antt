-- The way along a ray from a perfect matrix to the next one: λ is tightened until the copositive minimum is the level.
--
--     Line                              a matrix P with its copositive minimum mu, and a ray R
--     line_along P mu R                 the line of these
--     value_at Q x                      Q[x]
--     tighten_of l w                    the Tighten with w: p/q = (P[w] - mu) / -R[w] in lowest terms
--     combined_by l t                   q·P + p·R
--     candidate l t                     its candidate: that, divided by the greatest common divisor of its entries
--     level l t                         its level: q·mu over the same divisor
--     tighten_ops l w                   the operations that make the Tighten with w, its candidate and its level:
--                                       P[w], R[w], q·mu, q·P + p·R
--     IsTightenable l w                 w is a nonzero vector of P's size, with R[w] below 0 and P[w] over mu
--     neighbour_is_owed o               the result of this operation does not fit
--     first_vector list                 the first vector of a list
--     CallsFor z w a                    a search that answers a calls for the Tighten with w at the level z: Found
--                                       with a lesser minimum and
--                                       w its first vector, or Low with w
--     IsNextVector l D t w              the search of the candidate of t to depth D calls for the Tighten with w
--     AreNextTightens l D t ts          the Tightens ts follow t
--     AreTightens l D w ts              the first Tightens from P along R are ts, the first one with w
--     last_tighten ts                   the last one, if there is one
--     IsVectorDue l D w ts x            after the Tightens ts the one with x is due
--     tightens_ops l ts                 the operations of some Tightens, one after the other
--     IsRunAlong l D w n ts             ts are the first Tightens, at most n of them, and no operation of theirs is
--                                       owed
--     searched_after l ts               the candidate of the last one, which was searched last; none without Tightens
--     IsCandidateAnswer l D ts C a      C is the candidate of the last of ts, and its search for the least value
--                                       answers a
--     IsFoundAnswer l D ts C mu vs      it answers Found with the level mu and the vectors vs
--     IsOperationOwed l D w n ts o      less than n Tightens are made, and o is the first owed operation of the one
--                                       that is due
--     IsTightenRefused l D w n ts       n Tightens are made, and one is due
--     IsWideAnswer l D w n ts o c       o is such an operation and c is None; or it is what is too wide in the search
--                                       of the last candidate, c
--     IsNeighbourAnswer l D w n a       what next_perfect answers of P, R, the first vector w and the budget n; want
--                                       of memory is free
--     IsNewVector old new w             w is on the new list and not on the old one
--     IsNeighbour l vectors C mu vs ts  C is perfect with the minimum mu at the vectors vs, in primitive form, and a
--                                       positive rational multiple of P + λR for the λ > 0 of the last of ts, whose
--                                       vector is new
--     IsFalling ts                      each λ is less than the one before
--     NeighbourHolds l vectors a        the λ of every answer fall; of Found there is a neighbour too
--     IsTightenAlong l t                t is the Tighten with its vector, which is tightenable, and no operation of it
--                                       is owed
--     CanBeMadeAgain l ts               so is the last one of ts, if there is one
--     tightens_of a                     the Tightens of an answer; none for want of memory
--
-- Indices count from 0.
use Rattle.std.specs.Prelude.{◌≡◌, ℕ, ◌≤◌, ◌<◌, Bool, false, ℤ, pos, ◌≤ℤ◌, ◌-ℤ◌, ◌*ℤ◌, ◌<ℤ◌, nat_abs, List, [], ◌∷◌, ◌++◌, map, length, Option, Some, None}
use Rattle.std.specs.List.{flat_map, Contains}
use Rattle.commutative_ring.specs.Gcd.{divided}
use Rattle.exact_forms.specs.Rational.{ratio}
use Rattle.exact_forms.specs.Forms.{form}
use Rattle.exact_forms.specs.Vectors.{coordinate, IsNonzero}
use Rattle.exact_forms.specs.Copositive.{IsMinimum, IsPerfect}
use Rattle.exact_forms.specs.Neighbours.{IsTightening, IsCandidate}
use Rattle.symmetric_matrix.specs.Operations.{is_owed, mul_op}
use Rattle.symmetric_matrix.specs.Owed.{first_owed}
use Rattle.symmetric_matrix.specs.Recipes.{form_ops}
use Rattle.symmetric_matrix.specs.Symmetric.{Symmetric, entry}
use Rattle.unimodular_cone.specs.declared.Mode.{Mode}
use Rattle.unimodular_cone.specs.Answer.{SearchAnswer, BoundWide, Wide, Low, Depth, Copositive, Found, IsSearchAnswer}
use Rattle.contiguous.specs.declared.neighbour.Tighten.{Tighten}
use Rattle.contiguous.specs.declared.neighbour.NeighbourOp.{NeighbourOp}
use Rattle.contiguous.specs.declared.neighbour.NeighbourOp.TheVariants as op
use Rattle.contiguous.specs.declared.neighbour.Neighbour.{Neighbour}
use Rattle.contiguous.specs.declared.neighbour.Neighbour.TheVariants as neighbour
use Rattle.symmetric_matrix.specs.Combining.{combined, combine_ops, divisor_of, primitive_of}

pub record Line : Type 0 where
  pub matrix : Symmetric
  pub mu : ℤ
  pub direction : Symmetric

abbrev pub line_along : Symmetric → ℤ → Symmetric → Line
line_along P mu R = record { matrix = P; mu = mu; direction = R }

abbrev pub value_at : Symmetric → List ℕ → ℤ
value_at q x = form q.size (entry q) (coordinate x)

-- ---- one Tighten
unfoldable pub tighten_of : Line → List ℕ → Tighten
tighten_of l w = record {
  vector = w;
  p = (ratio (value_at l.matrix w -ℤ l.mu) (nat_abs (value_at l.direction w))).num;
  q = pos (ratio (value_at l.matrix w -ℤ l.mu) (nat_abs (value_at l.direction w))).den;
}

abbrev pub combined_by : Line → Tighten → Symmetric
combined_by l t = combined t.q l.matrix t.p l.direction

unfoldable pub candidate : Line → Tighten → Symmetric
candidate l t = primitive_of (combined_by l t)

unfoldable pub level : Line → Tighten → ℤ
level l t = divided (t.q *ℤ l.mu) (divisor_of (combined_by l t))

unfoldable pub tighten_ops : Line → List ℕ → List NeighbourOp
tighten_ops l w =
    let t : Tighten = tighten_of l w in
    map (op.Form w) (form_ops l.matrix w ++ form_ops l.direction w)
    ++ map op.Scale (mul_op t.q l.mu ∷ combine_ops t.q l.matrix t.p l.direction)

-- a Tighten with this vector can be made
pub record IsTightenable (l : Line) (w : List ℕ) : Type 0 where
  pub size : length w ≡ l.matrix.size
  pub nonzero : IsNonzero l.matrix.size w
  pub below : value_at l.direction w <ℤ pos 0
  pub above : l.mu <ℤ value_at l.matrix w

abbrev pub neighbour_is_owed : NeighbourOp → Bool
neighbour_is_owed (op.Form w o) = is_owed o
neighbour_is_owed (op.Scale o) = is_owed o
neighbour_is_owed (op.Gram at) = false
neighbour_is_owed (op.Bound z) = false

-- ---- several
abbrev pub first_vector : List (List ℕ) → List ℕ
first_vector [] = []
first_vector (x ∷ xs) = x

abbrev pub CallsFor : ℤ → List ℕ → SearchAnswer → Type 0
CallsFor z w (Found b vectors) = (b <ℤ z) × (w ≡ first_vector vectors)
CallsFor z w (Low x value path) = w ≡ x
CallsFor z w Copositive = ⊥
CallsFor z w (Depth path) = ⊥
CallsFor z w (Wide path at) = ⊥
CallsFor z w (BoundWide b) = ⊥

pub record IsNextVector (l : Line) (D : ℕ) (t : Tighten) (w : List ℕ) : Type 0 where
  pub answer : SearchAnswer
  pub answers : IsSearchAnswer Mode.Least (candidate l t).size (entry (candidate l t)) D answer
  pub calls : CallsFor (level l t) w answer

abbrev pub AreNextTightens : Line → ℕ → Tighten → List Tighten → Type 0
AreNextTightens l D t [] = Unit {0}
AreNextTightens l D t (u ∷ us) = IsNextVector l D t u.vector × (u ≡ tighten_of l u.vector) × AreNextTightens l D u us

abbrev pub AreTightens : Line → ℕ → List ℕ → List Tighten → Type 0
AreTightens l D w [] = Unit {0}
AreTightens l D w (t ∷ ts) = (t ≡ tighten_of l w) × AreNextTightens l D t ts

unfoldable pub last_tighten : List Tighten → Option Tighten
last_tighten [] = None
last_tighten (t ∷ []) = Some t
last_tighten (t ∷ u ∷ us) = last_tighten (u ∷ us)

abbrev pub IsVectorDue : Line → ℕ → List ℕ → List Tighten → List ℕ → Type 0
IsVectorDue l D w ts x = elim (last_tighten ts) as (λ _. Type 0) [ None ↦ x ≡ w | Some t ↦ IsNextVector l D t x ]

unfoldable pub tightens_ops : Line → List Tighten → List NeighbourOp
tightens_ops l ts = flat_map (λ t. tighten_ops l t.vector) ts

pub record IsRunAlong (l : Line) (D : ℕ) (w : List ℕ) (budget : ℕ) (ts : List Tighten) : Type 0 where
  pub are : AreTightens l D w ts
  pub within : length ts ≤ budget
  pub owes : first_owed neighbour_is_owed (tightens_ops l ts) ≡ None

abbrev pub searched_after : Line → List Tighten → Option Symmetric
searched_after l ts = elim (last_tighten ts) as (λ _. Option Symmetric) [ None ↦ None | Some t ↦ Some (candidate l t) ]

-- ---- the answers
pub record IsCandidateAnswer (l : Line) (D : ℕ) (ts : List Tighten) (c : Symmetric) (a : SearchAnswer) : Type 0 where
  pub last : Tighten
  pub is_last : last_tighten ts ≡ Some last
  pub candidate_is : c ≡ candidate l last
  pub answers : IsSearchAnswer Mode.Least c.size (entry c) D a

pub record IsFoundAnswer (l : Line) (D : ℕ) (ts : List Tighten) (c : Symmetric) (mu : ℤ) (vectors : List (List ℕ))
    : Type 0 where
  pub search : IsCandidateAnswer l D ts c (Found mu vectors)
  pub at_level : mu ≡ level l search.last

pub record IsOperationOwed (l : Line) (D : ℕ) (w : List ℕ) (budget : ℕ) (ts : List Tighten) (o : NeighbourOp)
    : Type 0 where
  pub vector : List ℕ
  pub due : IsVectorDue l D w ts vector
  pub left : length ts < budget
  pub first : first_owed neighbour_is_owed (tighten_ops l vector) ≡ Some o

pub record IsTightenRefused (l : Line) (D : ℕ) (w : List ℕ) (budget : ℕ) (ts : List Tighten) : Type 0 where
  pub vector : List ℕ
  pub due : IsVectorDue l D w ts vector
  pub used : length ts ≡ budget

abbrev pub IsWideAnswer : Line → ℕ → List ℕ → ℕ → List Tighten → NeighbourOp → Option Symmetric → Type 0
IsWideAnswer l D w budget ts (op.Form x o) c = IsOperationOwed l D w budget ts (op.Form x o) × (c ≡ None)
IsWideAnswer l D w budget ts (op.Scale o) c = IsOperationOwed l D w budget ts (op.Scale o) × (c ≡ None)
IsWideAnswer l D w budget ts (op.Gram at) None = ⊥
IsWideAnswer l D w budget ts (op.Gram at) (Some c) = IsCandidateAnswer l D ts c (Wide at.path at.entry)
IsWideAnswer l D w budget ts (op.Bound z) None = ⊥
IsWideAnswer l D w budget ts (op.Bound z) (Some c) = IsCandidateAnswer l D ts c (BoundWide z)

abbrev pub IsNeighbourAnswer : Line → ℕ → List ℕ → ℕ → Neighbour → Type 0
IsNeighbourAnswer l D w budget (neighbour.Found c mu vectors steps) =
    IsRunAlong l D w budget steps × IsFoundAnswer l D steps c mu vectors
IsNeighbourAnswer l D w budget (neighbour.Depth c path steps) =
    IsRunAlong l D w budget steps × IsCandidateAnswer l D steps c (Depth path)
IsNeighbourAnswer l D w budget (neighbour.Wide o c steps) =
    IsRunAlong l D w budget steps × IsWideAnswer l D w budget steps o c
IsNeighbourAnswer l D w budget (neighbour.Pivots steps) =
    IsRunAlong l D w budget steps × IsTightenRefused l D w budget steps
IsNeighbourAnswer l D w budget neighbour.OutOfMemory = Unit {0}

-- ---- what they mean
pub record IsNewVector (old new : List (List ℕ)) (w : List ℕ) : Type 0 where
  pub listed : Contains new w
  pub fresh : Contains old w → ⊥

pub record IsNeighbour (l : Line) (vectors : List (List ℕ)) (c : Symmetric) (mu : ℤ) (found : List (List ℕ))
    (ts : List Tighten) : Type 0 where
  pub size : c.size ≡ l.matrix.size
  pub minimum : IsMinimum l.matrix.size (entry c) mu found
  pub perfect : IsPerfect l.matrix.size found
  pub primitive : divisor_of c ≡ 1
  pub last : Tighten
  pub is_last : last_tighten ts ≡ Some last
  pub tightening : IsTightening l.matrix.size (entry l.matrix) (entry l.direction) l.mu last.vector last.p last.q
  pub positive : pos 1 ≤ℤ last.p
  pub divisor : ℤ
  pub on_the_line :
      IsCandidate l.matrix.size (entry l.matrix) (entry l.direction) l.mu last.p last.q divisor mu (entry c)
  pub new_vector : IsNewVector vectors found last.vector

-- each λ is less than the one before
abbrev pub IsFalling : List Tighten → Type 0
IsFalling [] = Unit {0}
IsFalling (t ∷ []) = Unit {0}
IsFalling (t ∷ u ∷ us) = ((u.p *ℤ t.q) <ℤ (t.p *ℤ u.q)) × IsFalling (u ∷ us)

abbrev pub NeighbourHolds : Line → List (List ℕ) → Neighbour → Type 0
NeighbourHolds l vectors (neighbour.Found c mu found steps) = IsFalling steps × IsNeighbour l vectors c mu found steps
NeighbourHolds l vectors (neighbour.Depth c path steps) = IsFalling steps
NeighbourHolds l vectors (neighbour.Wide o c steps) = IsFalling steps
NeighbourHolds l vectors (neighbour.Pivots steps) = IsFalling steps
NeighbourHolds l vectors neighbour.OutOfMemory = Unit {0}

-- ---- the last candidate, made again
pub record IsTightenAlong (l : Line) (t : Tighten) : Type 0 where
  pub tightenable : IsTightenable l t.vector
  pub step : t ≡ tighten_of l t.vector
  pub owes : first_owed neighbour_is_owed (tighten_ops l t.vector) ≡ None

abbrev pub CanBeMadeAgain : Line → List Tighten → Type 0
CanBeMadeAgain l ts = elim (last_tighten ts) as (λ _. Type 0) [ None ↦ Unit {0} | Some t ↦ IsTightenAlong l t ]

abbrev pub tightens_of : Neighbour → List Tighten
tightens_of (neighbour.Found c mu vectors steps) = steps
tightens_of (neighbour.Depth c path steps) = steps
tightens_of (neighbour.Wide o c steps) = steps
tightens_of (neighbour.Pivots steps) = steps
tightens_of neighbour.OutOfMemory = []
