-- What the end of a walk says of the matrix A = S/d that it was made for.
--
--     task_of a depth          the task of A's walk: S and d as clearing gives them, and the depth of the searches
--     IsWalkOf a limits walked     clearing A owes nothing, and this is a walk of S and d under the limits, at each
--                              visit of which the minimum, the minimal vectors and perfection hold
--     IsIncreasingFactorization a terms     the terms factor A, and their vectors strictly increase
--     IsSeparator a depth w value     W separates A, the value is ⟨W,A⟩, and the search of W for a value below 0
--                              answers within the depth that W is copositive, as the building of its cone tree wants
--     IsVerdictRight a depth end     the terms of Factored factor A, in their order; the matrix of Separated is a
--                              separator; the other ends claim nothing of A
--     IsInFirstCone a          each coordinate of A over the matrices v·vᵗ of the first basis at the first visit is at
--                              least 0. The first visit's vectors are the n(n+1)/2 start vectors, whose matrices are
--                              independent, so none is a combination of earlier ones and all of them are that basis
--     first_visit_alone n terms     the walk that ends by Factored at the first visit: no step, and nothing searched
--
--     VerdictIsRight           the end of a walk of A is right
--     OneWalkOfAMatrix         want of memory aside, A has one walk under given limits
--     FirstConeIsFactored      where A lies in the first cone, clearing owes nothing, and no operation is owed that is
--                              due at the first visit, its first visit alone factors A. By the law of one walk, each
--                              walk of A is this one, want of memory aside
--
-- A is a symmetric matrix of fractions, of n rows. S is whole, and d is at least 1.
use Rattle.std.specs.Prelude.{◌≡◌, ℕ, ◌≤◌, ◌<◌, List, [], ◌∷◌, length, None}
use Rattle.std.specs.List.{All}
use Rattle.exact_forms.specs.Rational.{Rational}
use Rattle.exact_forms.specs.Signs.{IsNonnegative}
use Rattle.exact_forms.specs.RankOne.{AreCoordinates}
use Rattle.exact_forms.specs.Factors.{WeightedVector, inner_ℚ, IsFactorization, Separates}
use Rattle.exact_forms.specs.PositiveTerms.{IsInOrder}
use Rattle.symmetric_matrix.specs.Symmetric.{Symmetric, entry}
use Rattle.symmetric_matrix.specs.StartVectors.{start_list}
use Rattle.unimodular_cone.specs.declared.Mode.{Mode}
use Rattle.unimodular_cone.specs.Answer.{Copositive, IsSearchAnswer}
use Rattle.matrix_text.specs.RationalMatrix.{RationalMatrix, rational_entry}
use Rattle.matrix_text.specs.Quotients.{whole_of, denominator_of, IsClearable}
use Rattle.perfect_walk.specs.declared.journal.Limits.{Limits}
use Rattle.perfect_walk.specs.declared.journal.End.{End}
use Rattle.perfect_walk.specs.declared.journal.End.TheVariants as end
use Rattle.perfect_walk.specs.declared.journal.Walked.{Walked}
use Rattle.perfect_walk.specs.Operations.{first_owed_of}
use Rattle.perfect_walk.specs.States.{Task, leg_at}
use Rattle.perfect_walk.specs.Chains.{start_visit, start_state}
use Rattle.perfect_walk.specs.Ends.{IsWalkedTo}
use Rattle.perfect_walk.specs.Parts.{IsHeld}
use Rattle.perfect_walk.specs.Theorems.{IsSameWalk}

abbrev pub task_of : RationalMatrix → ℕ → Task
task_of a depth = record { s = whole_of a; d = denominator_of a; depth = depth }

pub record IsWalkOf (a : RationalMatrix) (limits : Limits) (walked : Walked) : Type 0 where
  pub cleared : IsClearable a
  pub walk : IsWalkedTo (task_of a limits.depth) limits.pivots walked
  pub held : All (IsHeld a.size) walked.journal.visited

-- ---- the verdict
pub record IsIncreasingFactorization (a : RationalMatrix) (terms : List WeightedVector) : Type 0 where
  pub factors : IsFactorization a.size (rational_entry a) terms
  pub in_order : IsInOrder terms

pub record IsSeparator (a : RationalMatrix) (depth : ℕ) (w : Symmetric) (value : Rational) : Type 0 where
  pub size : w.size ≡ a.size
  pub separates : Separates a.size (entry w) (rational_entry a)
  pub value_is : value ≡ inner_ℚ a.size (entry w) (rational_entry a)
  pub copositive : IsSearchAnswer Mode.Sign w.size (entry w) depth Copositive

abbrev pub IsVerdictRight : RationalMatrix → ℕ → End → Type 0
IsVerdictRight a depth (end.Factored terms) = IsIncreasingFactorization a terms
IsVerdictRight a depth (end.Separated w value) = IsSeparator a depth w value
IsVerdictRight a depth (end.Depth path) = Unit {0}
IsVerdictRight a depth end.Pivots = Unit {0}
IsVerdictRight a depth (end.Overflow o) = Unit {0}
IsVerdictRight a depth end.OutOfMemory = Unit {0}

-- ---- the first visit
pub record IsInFirstCone (a : RationalMatrix) : Type 0 where
  pub nonnegative : (c : ℕ → Rational) → AreCoordinates a.size (start_list a.size) c (rational_entry a)
      → (k : ℕ) → k < length (start_list a.size) → IsNonnegative (c k)

abbrev pub first_visit_alone : ℕ → List WeightedVector → Walked
first_visit_alone n terms =
    record { end = end.Factored terms; journal = record { visited = start_visit n ∷ []; steps = []; searched = None } }

-- ---- the laws
abbrev pub VerdictIsRight : Type 0
VerdictIsRight =
    (a : RationalMatrix) (limits : Limits) (walked : Walked) → IsWalkOf a limits walked
    → IsVerdictRight a limits.depth walked.end

abbrev pub OneWalkOfAMatrix : Type 0
OneWalkOfAMatrix =
    (a : RationalMatrix) (limits : Limits) (x y : Walked) → IsWalkOf a limits x → IsWalkOf a limits y → IsSameWalk x y

abbrev pub FirstConeIsFactored : Type 0
FirstConeIsFactored =
    (a : RationalMatrix) (limits : Limits) → 1 ≤ a.size → IsClearable a → IsInFirstCone a
    → first_owed_of (leg_at (task_of a limits.depth) (start_state a.size)) ≡ None
    → (terms : List WeightedVector) × IsWalkOf a limits (first_visit_alone a.size terms)
