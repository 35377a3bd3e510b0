-- What one Tighten and one search of its candidate answer.
--
--     IsValueRefused M w f      f is the first owed operation of M[w]
--     IsValueAnswer M w a       a is M[w] where no operation of it is owed, else that refusal
--     scale_ops l w             the operations of the Tighten with w after the two values
--     IsScaled l w c            c is the Tighten with w, with its candidate and its level; none of these operations is
--                               owed
--     IsScaleRefused l w f      f is the first of them that is owed; want of memory is free
--     IsTightenMade l w c       c is the Tighten with w, with its candidate and its level; no operation of it is owed
--     IsMakingRefused l w f     f is its first owed operation; want of memory is free
--     IsCandidateReached C z    some nonzero vector has the value z
--     LeavesVector C z D w      the search of C calls for the Tighten with w, at which C is below the level z
--     IsPerfectFound C z D vs   it finds the level z, and vs are the minimal vectors
--     IsSearchEnd C z D e       the search of C ends the way by e
--     IsSearchedAnswer C z D a  what the search of C comes to at the level z: the vector of the next Tighten, or an end
--     IsRefusedBy f ts a        a is the answer after the Tightens ts, where the next one is refused for f
--     IsEndedBy e C z ts a      a is the answer after the Tightens ts, where the search of the last candidate C ends
--                               by e at the level z
use Rattle.std.specs.Prelude.{◌≡◌, ℕ, ℤ, ◌<ℤ◌, List, ◌∷◌, length, Result, Ok, Err, Some, None}
use Rattle.exact_forms.specs.Vectors.{IsNonzero}
use Rattle.exact_forms.specs.Copositive.{IsMinimum}
use Rattle.symmetric_matrix.specs.declared.operation.IntOp.{IntOp}
use Rattle.symmetric_matrix.specs.Operations.{is_owed, mul_op}
use Rattle.symmetric_matrix.specs.Owed.{first_owed}
use Rattle.symmetric_matrix.specs.Recipes.{form_ops}
use Rattle.symmetric_matrix.specs.Symmetric.{Symmetric, entry}
use Rattle.symmetric_matrix.specs.Combining.{combine_ops}
use Rattle.unimodular_cone.specs.declared.Mode.{Mode}
use Rattle.unimodular_cone.specs.Answer.{SearchAnswer, Found, Depth, Wide, BoundWide, IsSearchAnswer}
use Rattle.contiguous.specs.declared.tightening.Candidate.{Candidate}
use Rattle.contiguous.specs.declared.tightening.TightenFail.{TightenFail}
use Rattle.contiguous.specs.declared.tightening.TightenFail.TheVariants as fail
use Rattle.contiguous.specs.declared.tightening.Searched.{Searched}
use Rattle.contiguous.specs.declared.tightening.Searched.TheVariants as searched
use Rattle.contiguous.specs.declared.tightening.SearchEnd.{SearchEnd}
use Rattle.contiguous.specs.declared.tightening.SearchEnd.TheVariants as ending
use Rattle.contiguous.specs.declared.neighbour.NeighbourOp.TheVariants as op
use Rattle.contiguous.specs.declared.neighbour.Tighten.{Tighten}
use Rattle.contiguous.specs.declared.neighbour.Neighbour.{Neighbour}
use Rattle.contiguous.specs.declared.neighbour.Neighbour.TheVariants as neighbour
use Rattle.contiguous.specs.Tightenings.{Line, value_at, tighten_of, candidate, level, tighten_ops, neighbour_is_owed, CallsFor}

-- ---- a value
abbrev pub IsValueRefused : Symmetric → List ℕ → TightenFail → Type 0
IsValueRefused m w (fail.Wide (op.Form x o)) = (x ≡ w) × (first_owed is_owed (form_ops m w) ≡ Some o)
IsValueRefused m w (fail.Wide (op.Scale o)) = ⊥
IsValueRefused m w (fail.Wide (op.Gram at)) = ⊥
IsValueRefused m w (fail.Wide (op.Bound z)) = ⊥
IsValueRefused m w fail.OutOfMemory = ⊥

abbrev pub IsValueAnswer : Symmetric → List ℕ → Result ℤ TightenFail → Type 0
IsValueAnswer m w (Ok v) = (first_owed is_owed (form_ops m w) ≡ None) × (v ≡ value_at m w)
IsValueAnswer m w (Err f) = IsValueRefused m w f

-- ---- what follows the values
unfoldable pub scale_ops : Line → List ℕ → List IntOp
scale_ops l w = mul_op (tighten_of l w).q l.mu ∷ combine_ops (tighten_of l w).q l.matrix (tighten_of l w).p l.direction

pub record IsScaled (l : Line) (w : List ℕ) (c : Candidate) : Type 0 where
  pub step : c.step ≡ tighten_of l w
  pub matrix : c.matrix ≡ candidate l (tighten_of l w)
  pub level : c.level ≡ level l (tighten_of l w)
  pub owes : first_owed is_owed (scale_ops l w) ≡ None

abbrev pub IsScaleRefused : Line → List ℕ → TightenFail → Type 0
IsScaleRefused l w (fail.Wide (op.Form x o)) = ⊥
IsScaleRefused l w (fail.Wide (op.Scale o)) = first_owed is_owed (scale_ops l w) ≡ Some o
IsScaleRefused l w (fail.Wide (op.Gram at)) = ⊥
IsScaleRefused l w (fail.Wide (op.Bound z)) = ⊥
IsScaleRefused l w fail.OutOfMemory = Unit {0}

-- ---- one Tighten
pub record IsTightenMade (l : Line) (w : List ℕ) (c : Candidate) : Type 0 where
  pub step : c.step ≡ tighten_of l w
  pub matrix : c.matrix ≡ candidate l (tighten_of l w)
  pub level : c.level ≡ level l (tighten_of l w)
  pub owes : first_owed neighbour_is_owed (tighten_ops l w) ≡ None

abbrev pub IsMakingRefused : Line → List ℕ → TightenFail → Type 0
IsMakingRefused l w (fail.Wide (op.Form x o)) = first_owed neighbour_is_owed (tighten_ops l w) ≡ Some (op.Form x o)
IsMakingRefused l w (fail.Wide (op.Scale o)) = first_owed neighbour_is_owed (tighten_ops l w) ≡ Some (op.Scale o)
IsMakingRefused l w (fail.Wide (op.Gram at)) = ⊥
IsMakingRefused l w (fail.Wide (op.Bound z)) = ⊥
IsMakingRefused l w fail.OutOfMemory = Unit {0}

-- ---- one search
pub record IsCandidateReached (c : Symmetric) (z : ℤ) : Type 0 where
  pub vector : List ℕ
  pub size : length vector ≡ c.size
  pub nonzero : IsNonzero c.size vector
  pub value : value_at c vector ≡ z

pub record LeavesVector (c : Symmetric) (z : ℤ) (D : ℕ) (w : List ℕ) : Type 0 where
  pub answer : SearchAnswer
  pub answers : IsSearchAnswer Mode.Least c.size (entry c) D answer
  pub calls : CallsFor z w answer
  pub size : length w ≡ c.size
  pub nonzero : IsNonzero c.size w
  pub below : value_at c w <ℤ z

pub record IsPerfectFound (c : Symmetric) (z : ℤ) (D : ℕ) (vectors : List (List ℕ)) : Type 0 where
  pub answers : IsSearchAnswer Mode.Least c.size (entry c) D (Found z vectors)
  pub minimum : IsMinimum c.size (entry c) z vectors

abbrev pub IsSearchEnd : Symmetric → ℤ → ℕ → SearchEnd → Type 0
IsSearchEnd c z D (ending.Perfect vectors) = IsPerfectFound c z D vectors
IsSearchEnd c z D (ending.Depth path) = IsSearchAnswer Mode.Least c.size (entry c) D (Depth path)
IsSearchEnd c z D (ending.Wide at) = IsSearchAnswer Mode.Least c.size (entry c) D (Wide at.path at.entry)
IsSearchEnd c z D (ending.BoundWide b) = IsSearchAnswer Mode.Least c.size (entry c) D (BoundWide b)
IsSearchEnd c z D ending.OutOfMemory = Unit {0}

abbrev pub IsSearchedAnswer : Symmetric → ℤ → ℕ → Searched → Type 0
IsSearchedAnswer c z D (searched.Vector w) = LeavesVector c z D w
IsSearchedAnswer c z D (searched.End e) = IsSearchEnd c z D e

-- ---- the answers of the way
abbrev pub IsRefusedBy : TightenFail → List Tighten → Neighbour → Type 0
IsRefusedBy (fail.Wide o) ts a = a ≡ neighbour.Wide o None ts
IsRefusedBy fail.OutOfMemory ts a = a ≡ neighbour.OutOfMemory

abbrev pub IsEndedBy : SearchEnd → Symmetric → ℤ → List Tighten → Neighbour → Type 0
IsEndedBy (ending.Perfect vectors) c z ts a = a ≡ neighbour.Found c z vectors ts
IsEndedBy (ending.Depth path) c z ts a = a ≡ neighbour.Depth c path ts
IsEndedBy (ending.Wide at) c z ts a = a ≡ neighbour.Wide (op.Gram at) (Some c) ts
IsEndedBy (ending.BoundWide b) c z ts a = a ≡ neighbour.Wide (op.Bound b) (Some c) ts
IsEndedBy ending.OutOfMemory c z ts a = a ≡ neighbour.OutOfMemory
