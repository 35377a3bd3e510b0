-- How the walk ends.
--
--     refused_ops T σ next     the operations from the last step on, up to the refusal of `next` if it is a step, or
--                              as far as the walk ends by it
--     due_ops T σ refused next     the operations that are due after the last step: where a step is refused, since
--                              the journal has as many as the limit, up to its refusal, and else as far as `next`
--                              goes
--     walk_term_at vectors ws k  vector k with its weight
--     terms_of vectors ws      the vectors with positive weights, with these
--     over_d T v               the value v over d
--     walk_end_of T σ next     the end that comes with what comes next; of a step it is Pivots
--     IsEndByNext T limit σ count searched e    the walk ends at the state σ after `count` steps by what comes next
--                              there: no operation that is due is owed, and a step is refused after as many as the
--                              limit
--     Stage                    a call whose list may have the operation that is owed
--     IsStage T σ refused stage    the walk makes this call after its last step; where each step is refused it makes
--                              no Tighten
--     stage_before T σ stage   the operations from the last step on, up to this call
--     placing_ops T σ refused  those of `place` after its last step; where the next one is refused, up to its refusal
--     stage_own T σ refused stage    those of the call, the part after the last step
--     searched_at T σ stage    the matrix that was searched last when this call is made
--     IsOwedAt T limit σ count searched o     o is the first owed operation of such a call, and none before the call
--                              is owed: so it is the first one due after the last step that is owed
--     IsEndByOwed T limit σ count searched e     the walk ends so
--     IsSearchMade T σ searched    the state's matrix is one to be searched, no operation before that is owed, and it
--                              is told as the one that was searched last
--     IsEndByMemory T σ searched e     memory was wanting; the search of what comes next may be told or left out
--     IsWalkEnd                one of the three
--     IsWalkedTo T limit walked    the journal is a chain of at most as many steps as the limit, and the walk ends so
--                              at its last state
--     IsUnstarted walked       memory was wanting before the first visit
--     IsWalked T limit walked  one of the two
use Rattle.std.specs.Prelude.{◌≡◌, ◌⊎◌, ℕ, ◌≤◌, Bool, true, false, ◌&&◌, if◌then◌else◌, nat_eq, ℤ, nat_abs}
use Rattle.std.specs.Prelude.{List, [], ◌∷◌, ◌++◌, map, length, Option, Some, None}
use Rattle.std.specs.List.{range_with_len}
use Rattle.exact_forms.specs.Rational.{Rational, ratio}
use Rattle.exact_forms.specs.Factors.{WeightedVector}
use Rattle.exact_forms.specs.PositiveTerms.{positive_terms}
use Rattle.symmetric_matrix.specs.Symmetric.{Symmetric}
use Rattle.exact_lp.specs.declared.placed.PlaceOp.{PlaceOp}
use Rattle.exact_lp.specs.Placement.{is_step_due, opening_ops, leg_ops}
use Rattle.exact_linear.specs.Squares.{vector_at}
use Rattle.exact_lp.specs.Weights.{weight_in}
use Rattle.unimodular_cone.specs.Answer.{SearchAnswer, Copositive}
use Rattle.extreme_ray.specs.Rays.{ray_ops}
use Rattle.contiguous.specs.Tightenings.{tighten_ops}
use Rattle.perfect_walk.specs.declared.journal.Owed.{Owed}
use Rattle.perfect_walk.specs.declared.journal.Owed.TheVariants.{Gram, Bound}
use Rattle.perfect_walk.specs.declared.journal.End.{End}
use Rattle.perfect_walk.specs.declared.journal.End.TheVariants as end
use Rattle.perfect_walk.specs.declared.journal.Walked.{Walked}
use Rattle.perfect_walk.specs.Operations.{first_owed_of, of_place, of_ray, of_neighbour}
use Rattle.perfect_walk.specs.States.{Task, WalkState, program_at, zeros_at, leaving_at, ray_at, line_at, search_target_at}
use Rattle.perfect_walk.specs.States.{product_at, ray_product_at, inner_at, meeting_ops, opening_at, leg_at, search_ops}
use Rattle.perfect_walk.specs.Next.{Next, ByMatrix, Exchanged, Factored, ByRay, Tightened, Moved, ComesNext}
use Rattle.perfect_walk.specs.Next.{Undecided, TooWide, BoundTooWide}
use Rattle.perfect_walk.specs.Next.{IsFresh, IsPlacing, IsOutsideNow, IsSearchAt, IsCalledFor}
use Rattle.perfect_walk.specs.Chains.{next_ops, step_of, searched_with, IsChain}

-- ---- by what comes next
abbrev pub refused_ops : Task → WalkState → Next → List Owed
refused_ops T σ ByMatrix = next_ops T σ ByMatrix
refused_ops T σ (Exchanged e) = opening_at T σ
refused_ops T σ (Factored found) = next_ops T σ (Factored found)
refused_ops T σ ByRay = next_ops T σ ByRay
refused_ops T σ (Tightened t) = search_ops T σ
refused_ops T σ (Moved v) = search_ops T σ
refused_ops T σ (Undecided path) = next_ops T σ (Undecided path)
refused_ops T σ (TooWide at) = next_ops T σ (TooWide at)
refused_ops T σ (BoundTooWide z) = next_ops T σ (BoundTooWide z)

abbrev pub due_ops : Task → WalkState → Bool → Next → List Owed
due_ops T σ used next = if used then refused_ops T σ next else next_ops T σ next

abbrev pub walk_term_at : List (List ℕ) → List Rational → ℕ → WeightedVector
walk_term_at vectors found k = record { weight = weight_in found k; vector = vector_at vectors k }

unfoldable pub terms_of : List (List ℕ) → List Rational → List WeightedVector
terms_of vectors found = positive_terms (map (walk_term_at vectors found) (range_with_len 0 (length vectors)))

abbrev pub over_d : Task → ℤ → Rational
over_d T v = ratio v (nat_abs T.d)

abbrev pub walk_end_of : Task → WalkState → Next → End
walk_end_of T σ ByMatrix = end.Separated σ.visit.matrix (over_d T (product_at T σ))
walk_end_of T σ (Exchanged e) = end.Pivots
walk_end_of T σ (Factored found) = end.Factored (terms_of σ.visit.vectors found)
walk_end_of T σ ByRay = end.Separated (ray_at T σ) (over_d T (ray_product_at T σ))
walk_end_of T σ (Tightened t) = end.Pivots
walk_end_of T σ (Moved v) = end.Pivots
walk_end_of T σ (Undecided path) = end.Depth path
walk_end_of T σ (TooWide at) = end.Overflow (Gram at)
walk_end_of T σ (BoundTooWide z) = end.Overflow (Bound z)

pub record IsEndByNext (T : Task) (limit : ℕ) (σ : WalkState) (count : ℕ) (searched : Option Symmetric) (e : End)
    : Type 0 where
  pub next : Next
  pub is_next : ComesNext T σ next
  pub owes : first_owed_of (due_ops T σ (nat_eq count limit) next) ≡ None
  pub used : (step_of next ≡ None) ⊎ (count ≡ limit)
  pub searched_is : searched ≡ searched_with T σ next
  pub end_is : e ≡ walk_end_of T σ next

-- ---- by an operation
pub data Stage : Type 0 where
  Meeting : Stage
  Placing : Stage
  Raying : Stage
  Pairing : Stage
  Tightening : List ℕ → Stage

abbrev pub IsStage : Task → WalkState → Bool → Stage → Type 0
IsStage T σ refused Meeting = IsFresh σ
IsStage T σ refused Placing = IsPlacing T σ
IsStage T σ refused Raying = IsPlacing T σ × IsOutsideNow T σ
IsStage T σ refused Pairing = IsSearchAt T σ Copositive
IsStage T σ refused (Tightening w) = IsCalledFor T σ w × (refused ≡ false)

abbrev pub stage_before : Task → WalkState → Stage → List Owed
stage_before T σ Meeting = []
stage_before T σ Placing = meeting_ops T σ
stage_before T σ Raying = leg_at T σ
stage_before T σ Pairing = search_ops T σ
stage_before T σ (Tightening w) = search_ops T σ

abbrev pub placing_ops : Task → WalkState → Bool → List PlaceOp
placing_ops T σ refused =
    let k : ℕ = length σ.exchanges in
    if refused && is_step_due (program_at T σ) k then opening_ops (program_at T σ) k else leg_ops (program_at T σ) k

abbrev pub stage_own : Task → WalkState → Bool → Stage → List Owed
stage_own T σ refused Meeting = meeting_ops T σ
stage_own T σ refused Placing = map of_place (placing_ops T σ refused)
stage_own T σ refused Raying = map of_ray (ray_ops σ.visit.vectors (zeros_at T σ) (leaving_at T σ))
stage_own T σ refused Pairing = inner_at (ray_at T σ) T.s
stage_own T σ refused (Tightening w) = map of_neighbour (tighten_ops (line_at T σ) w)

abbrev pub searched_at : Task → WalkState → Stage → Option Symmetric
searched_at T σ Meeting = σ.searched
searched_at T σ Placing = σ.searched
searched_at T σ Raying = σ.searched
searched_at T σ Pairing = Some (search_target_at T σ)
searched_at T σ (Tightening w) = Some (search_target_at T σ)

pub record IsOwedAt (T : Task) (limit : ℕ) (σ : WalkState) (count : ℕ) (searched : Option Symmetric) (o : Owed)
    : Type 0 where
  pub stage : Stage
  pub is_stage : IsStage T σ (nat_eq count limit) stage
  pub owes : first_owed_of (stage_before T σ stage) ≡ None
  pub first : first_owed_of (stage_own T σ (nat_eq count limit) stage) ≡ Some o
  pub searched_is : searched ≡ searched_at T σ stage

abbrev pub IsEndByOwed : Task → ℕ → WalkState → ℕ → Option Symmetric → End → Type 0
IsEndByOwed T limit σ count searched e = (o : Owed) × IsOwedAt T limit σ count searched o × (e ≡ end.Overflow o)

-- ---- for want of memory
pub record IsSearchMade (T : Task) (σ : WalkState) (searched : Option Symmetric) : Type 0 where
  pub answer : SearchAnswer
  pub search : IsSearchAt T σ answer
  pub owes : first_owed_of (search_ops T σ) ≡ None
  pub searched_is : searched ≡ Some (search_target_at T σ)

pub record IsEndByMemory (T : Task) (σ : WalkState) (searched : Option Symmetric) (e : End) : Type 0 where
  pub memory : e ≡ end.OutOfMemory
  pub searched_is : (searched ≡ σ.searched) ⊎ IsSearchMade T σ searched

abbrev pub IsWalkEnd : Task → ℕ → WalkState → ℕ → Option Symmetric → End → Type 0
IsWalkEnd T limit σ count searched e =
    IsEndByNext T limit σ count searched e ⊎ (IsEndByOwed T limit σ count searched e ⊎ IsEndByMemory T σ searched e)

pub record IsWalkedTo (T : Task) (limit : ℕ) (walked : Walked) : Type 0 where
  pub state : WalkState
  pub chain : IsChain T walked.journal state
  pub within : length walked.journal.steps ≤ limit
  pub is_end : IsWalkEnd T limit state (length walked.journal.steps) walked.journal.searched walked.end

pub record IsUnstarted (walked : Walked) : Type 0 where
  pub memory : walked.end ≡ end.OutOfMemory
  pub visits : walked.journal.visited ≡ []
  pub steps : walked.journal.steps ≡ []
  pub searched : walked.journal.searched ≡ None

abbrev pub IsWalked : Task → ℕ → Walked → Type 0
IsWalked T limit walked = IsWalkedTo T limit walked ⊎ IsUnstarted walked
