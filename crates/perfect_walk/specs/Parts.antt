-- Parts of the walk: what a call of this crate does from one state on.
--
--     task s d depth           the walk's task
--     IsHeld n v               a visit of n rows: its number is the copositive minimum of its matrix, its vectors are
--                              all the minimal vectors, and these are perfect; the entries have no common divisor but
--                              1
--     IsMoveDue T limit τ new v     a Move to v is due at τ, and the journal has fewer steps than the limit
--     IsTurned T limit τ new turned     how a part ends at τ: before a Move to a visit, or by an end of the walk
--     IsPart T limit σ old new turned     from the state σ the steps that were added lead to where the part ends
--     IsLess s v w             ⟨P,S⟩ over the minimum is less at w than at v: by products crosswise
--     IsNextHeld s v turned    a visit that is moved to is held, and less
--     IsReadyAlong T limits s σ v old  the task is that of S and the depth, and the state σ is at the visit v
--     IsOnRay T σ ray          the ray was made at σ, and no operation up to then is owed
--     IsOutsideWith T σ zeros l     the linear program gave Outside with these at σ, and no operation up to then is
--                              owed
--     FromLow, FromRay, FromOutside     the part from each state that is ready for it: from a low vector of the ray
--                              on, from the ray on, from Outside on
--     FromVisit s d limits v old new turned     the part from the visit v on
--     IsEndedAfter old new steps searched e left     the steps were appended, and this end comes; or neither, for
--                              want of memory
--     IsRayMeant vectors zeros l r     r is the primitive ray of these
--     walked_of e visited trail     what the walk returns
--     IsSeparatedBy w v d e    the end that w separates with the value v over d, or want of memory
--     kept_term weight x       the vector with its weight where that is positive, else nothing
--     IsFactoredBy vectors ws e     the end with the terms of these weights, or want of memory
--     IsRayEnd vectors zeros l e     the end that an operation of `ray_of` is owed, or want of memory
--     IsPairedEnd ray s d e    the end that a copositive ray separates, or that an operation of ⟨R,S⟩ is owed, or
--                              want of memory
--     AreLess s vs             each visit of the list is less than the one before
--     or_ray ray c             the matrix c, and the ray where there is none
--     last_searched v ray ts   the matrix that was searched last on the way along the ray: the last candidate, and
--                              the ray where no Tighten is made
--     IsEndedAlong old new v ray ts e left     the Tightens were appended, that matrix was searched last, and this
--                              end comes
--     IsEndedByWidth old new v ray op c ts left     the Tightens were appended, and the end is that op does not fit;
--                              c was searched last, if it is there
--     IsTurnedOff new limit v left     the Move to v is due, or it is refused after as many steps as the limit
--     IsTurnedTo old new limit steps v turned     the steps were appended, and the visit's matrix was searched last,
--                              before the Move to it; or nothing was done, for want of memory
--     IsReached T limit visited trail     the steps lead to the last visit of the list, and all visits are held and
--                              less and less
--
-- A trail has the steps so far and the matrix that was searched last.
use Rattle.std.specs.Prelude.{◌≡◌, ◌≢◌, ◌⊎◌, ℕ, ◌≤◌, ◌<◌, ℤ, pos, ◌*ℤ◌, ◌<ℤ◌, int_lt, nat_abs, cond}
use Rattle.std.specs.Prelude.{List, [], ◌∷◌, ◌++◌, map, length, Option, Some, None}
use Rattle.std.specs.List.{All}
use Rattle.exact_forms.specs.Rational.{Rational, ratio}
use Rattle.exact_forms.specs.Factors.{WeightedVector}
use Rattle.exact_forms.specs.Forms.{inner}
use Rattle.exact_forms.specs.Copositive.{IsMinimum, IsPerfect}
use Rattle.symmetric_matrix.specs.declared.operation.IntOp.{IntOp}
use Rattle.symmetric_matrix.specs.Operations.{is_owed}
use Rattle.symmetric_matrix.specs.Owed.{first_owed}
use Rattle.symmetric_matrix.specs.Recipes.{inner_ops}
use Rattle.symmetric_matrix.specs.Combining.{divisor_of}
use Rattle.symmetric_matrix.specs.Symmetric.{Symmetric, entry}
use Rattle.exact_linear.specs.Squares.{named, vector_at}
use Rattle.extreme_ray.specs.Rays.{RayOp, ray_is_owed, ray_ops, vector_size, IsPrimitiveRay}
use Rattle.contiguous.specs.declared.neighbour.Tighten.{Tighten}
use Rattle.contiguous.specs.declared.neighbour.NeighbourOp.{NeighbourOp}
use Rattle.contiguous.specs.Tightenings.{line_along, searched_after}
use Rattle.perfect_walk.specs.declared.journal.Owed.TheVariants.{Inner}
use Rattle.perfect_walk.specs.declared.journal.Visit.{Visit}
use Rattle.perfect_walk.specs.declared.journal.Step.{Step}
use Rattle.perfect_walk.specs.declared.journal.Step.TheVariants as step
use Rattle.perfect_walk.specs.declared.journal.Walked.{Walked}
use Rattle.perfect_walk.specs.declared.journal.End.{End}
use Rattle.perfect_walk.specs.declared.journal.End.TheVariants as end
use Rattle.perfect_walk.specs.declared.walking.Trail.{Trail}
use Rattle.perfect_walk.specs.declared.walking.Turned.{Turned}
use Rattle.perfect_walk.specs.declared.walking.Turned.TheVariants as turned
use Rattle.perfect_walk.specs.Operations.{of_ray, of_neighbour, first_owed_of}
use Rattle.perfect_walk.specs.declared.journal.Limits.{Limits}
use Rattle.perfect_walk.specs.States.{Task, WalkState, zeros_at, leaving_at, ray_at, search_target_at}
use Rattle.perfect_walk.specs.States.{leg_at, rayed_ops, search_ops}
use Rattle.perfect_walk.specs.Next.{IsPlacing, IsOutsideNow, IsAtRay, IsCalledFor, IsMoveTo}
use Rattle.perfect_walk.specs.Chains.{IsWalkRun, at_visit, start_visit, start_state}
use Rattle.perfect_walk.specs.Ends.{IsWalkEnd, terms_of}

abbrev pub task : Symmetric → ℤ → ℕ → Task
task s d depth = record { s = s; d = d; depth = depth }

pub record IsHeld (n : ℕ) (v : Visit) : Type 0 where
  pub size : v.matrix.size ≡ n
  pub minimum : IsMinimum n (entry v.matrix) v.mu v.vectors
  pub perfect : IsPerfect n v.vectors
  pub primitive : divisor_of v.matrix ≡ 1

pub record IsMoveDue (T : Task) (limit : ℕ) (τ : WalkState) (new : Trail) (v : Visit) : Type 0 where
  pub move : IsMoveTo T τ v
  pub owes : first_owed_of (search_ops T τ) ≡ None
  pub left : length new.steps < limit
  pub searched : new.searched ≡ Some (search_target_at T τ)

abbrev pub IsTurned : Task → ℕ → WalkState → Trail → Turned → Type 0
IsTurned T limit τ new (turned.Moved v) = IsMoveDue T limit τ new v
IsTurned T limit τ new (turned.Ended e) = IsWalkEnd T limit τ (length new.steps) new.searched e

pub record IsPart (T : Task) (limit : ℕ) (σ : WalkState) (old new : Trail) (turned : Turned) : Type 0 where
  pub added : List Step
  pub state : WalkState
  pub steps : new.steps ≡ old.steps ++ added
  pub run : IsWalkRun T σ [] added state
  pub within : length new.steps ≤ limit
  pub ends : IsTurned T limit state new turned

pub record IsLess (s : Symmetric) (v w : Visit) : Type 0 where
  pub crosswise : (v.mu *ℤ inner s.size (entry w.matrix) (entry s)) <ℤ (w.mu *ℤ inner s.size (entry v.matrix) (entry s))

abbrev pub IsNextHeld : Symmetric → Visit → Turned → Type 0
IsNextHeld s v (turned.Moved w) = IsHeld s.size w × IsLess s v w
IsNextHeld s v (turned.Ended e) = Unit {0}

pub record IsReadyAlong (T : Task) (limits : Limits) (s : Symmetric) (σ : WalkState) (v : Visit) (old : Trail) : Type 0
  where
    pub matrix : T.s ≡ s
    pub depth : T.depth ≡ limits.depth
    pub visit : σ.visit ≡ v
    pub searched : old.searched ≡ σ.searched

-- the ray was made at a state where the linear program gave Outside
pub record IsOnRay (T : Task) (σ : WalkState) (ray : Symmetric) : Type 0 where
  pub at_ray : IsAtRay T σ
  pub ray_is : ray ≡ ray_at T σ
  pub owes : first_owed_of (rayed_ops T σ) ≡ None

-- the linear program gave Outside with these
pub record IsOutsideWith (T : Task) (σ : WalkState) (zeros : List ℕ) (leaving : ℕ) : Type 0 where
  pub placing : IsPlacing T σ
  pub outside : IsOutsideNow T σ
  pub zeros_are : zeros ≡ zeros_at T σ
  pub leaving_is : leaving ≡ leaving_at T σ
  pub owes : first_owed_of (leg_at T σ) ≡ None

-- ---- the parts, of each task and state that are ready for them
abbrev pub FromLow : Limits → Symmetric → Visit → Symmetric → List ℕ → Trail → Trail → Turned → Type 0
FromLow limits s v ray w old new turned =
    (T : Task) (σ : WalkState) → IsReadyAlong T limits s σ v old → IsOnRay T σ ray → IsCalledFor T σ w
    → IsPart T limits.pivots σ old new turned

abbrev pub FromRay : Limits → Symmetric → ℤ → Visit → Symmetric → Trail → Trail → Turned → Type 0
FromRay limits s d v ray old new turned =
    (T : Task) (σ : WalkState) → IsReadyAlong T limits s σ v old → T.d ≡ d → IsOnRay T σ ray
    → IsPart T limits.pivots σ old new turned

abbrev pub FromOutside : Limits → Symmetric → ℤ → Visit → List ℕ → ℕ → Trail → Trail → Turned → Type 0
FromOutside limits s d v zeros leaving old new turned =
    (T : Task) (σ : WalkState) → IsReadyAlong T limits s σ v old → T.d ≡ d → IsOutsideWith T σ zeros leaving
    → IsPart T limits.pivots σ old new turned

abbrev pub FromVisit : Limits → Symmetric → ℤ → Visit → Trail → Trail → Turned → Type 0
FromVisit limits s d v old new turned =
    IsPart (task s d limits.depth) limits.pivots (at_visit v old.searched) old new turned

-- the steps were appended, and this end comes; or neither for want of memory
abbrev pub IsEndedAfter : Trail → Trail → List Step → Option Symmetric → End → Turned → Type 0
IsEndedAfter old new steps searched e left =
    ((new.steps ≡ old.steps ++ steps) × (new.searched ≡ searched) × (left ≡ turned.Ended e))
    ⊎ ((new.steps ≡ old.steps) × (new.searched ≡ old.searched) × (left ≡ turned.Ended end.OutOfMemory))

abbrev pub IsRayMeant : List (List ℕ) → List ℕ → ℕ → Symmetric → Type 0
IsRayMeant vectors zeros l r = IsPrimitiveRay (vector_size vectors l) (named vectors zeros) (vector_at vectors l) r

abbrev pub walked_of : End → List Visit → Trail → Walked
walked_of e visited trail =
    record { end = e; journal = record { visited = visited; steps = trail.steps; searched = trail.searched } }

abbrev pub IsSeparatedBy : Symmetric → ℤ → ℤ → End → Type 0
IsSeparatedBy w v d e = (e ≡ end.Separated w (ratio v (nat_abs d))) ⊎ (e ≡ end.OutOfMemory)

-- the vector with its weight, where that is positive
abbrev pub kept_term : Rational → List ℕ → List WeightedVector
kept_term weight x = cond (int_lt (pos 0) weight.num) (record { weight = weight; vector = x } ∷ []) []

abbrev pub IsFactoredBy : List (List ℕ) → List Rational → End → Type 0
IsFactoredBy vectors found e = (e ≡ end.Factored (terms_of vectors found)) ⊎ (e ≡ end.OutOfMemory)

abbrev pub IsRayEnd : List (List ℕ) → List ℕ → ℕ → End → Type 0
IsRayEnd vectors zeros l e =
    ((o : RayOp) × (first_owed ray_is_owed (ray_ops vectors zeros l) ≡ Some o) × (e ≡ end.Overflow (of_ray o)))
    ⊎ (e ≡ end.OutOfMemory)

-- ---- all visits
abbrev pub AreLess : Symmetric → List Visit → Type 0
AreLess s [] = Unit {0}
AreLess s (v ∷ []) = Unit {0}
AreLess s (v ∷ w ∷ vs) = IsLess s v w × AreLess s (w ∷ vs)

-- ---- the way to a visit
abbrev pub or_ray : Symmetric → Option Symmetric → Symmetric
or_ray ray (Some c) = c
or_ray ray None = ray

abbrev pub last_searched : Visit → Symmetric → List Tighten → Symmetric
last_searched v ray ts = or_ray ray (searched_after (line_along v.matrix v.mu ray) ts)

abbrev pub IsEndedAlong : Trail → Trail → Visit → Symmetric → List Tighten → End → Turned → Type 0
IsEndedAlong old new v ray ts e left =
    IsEndedAfter old new (map step.Tighten ts) (Some (last_searched v ray ts)) e left

abbrev pub IsEndedByWidth :
    Trail → Trail → Visit → Symmetric → NeighbourOp → Option Symmetric → List Tighten → Turned → Type 0
IsEndedByWidth old new v ray op c ts left =
    let searched : Option Symmetric = Some (or_ray (last_searched v ray ts) c) in
    IsEndedAfter old new (map step.Tighten ts) searched (end.Overflow (of_neighbour op)) left

abbrev pub IsTurnedOff : Trail → ℕ → Visit → Turned → Type 0
IsTurnedOff new limit v left =
    ((left ≡ turned.Moved v) × (length new.steps ≢ limit))
    ⊎ ((left ≡ turned.Ended end.Pivots) × (length new.steps ≡ limit))

abbrev pub IsTurnedTo : Trail → Trail → ℕ → List Step → Visit → Turned → Type 0
IsTurnedTo old new limit steps v left =
    ((new.steps ≡ old.steps ++ steps) × (new.searched ≡ Some v.matrix) × IsTurnedOff new limit v left)
    ⊎ ((new.steps ≡ old.steps) × (new.searched ≡ old.searched) × (left ≡ turned.Ended end.OutOfMemory))

-- ---- a ray that is copositive
abbrev pub IsPairedEnd : Symmetric → Symmetric → ℤ → End → Type 0
IsPairedEnd ray s d e =
    ((first_owed is_owed (inner_ops ray s) ≡ None) × IsSeparatedBy ray (inner ray.size (entry ray) (entry s)) d e)
    ⊎ ((o : IntOp) × (first_owed is_owed (inner_ops ray s) ≡ Some o) × (e ≡ end.Overflow (Inner o)))

-- ---- the loop of the visits
-- the walk stands at the last visit of the list, no step having been made there
pub record IsReached (T : Task) (limit : ℕ) (visited : List Visit) (trail : Trail) : Type 0 where
  pub targets : List Visit
  pub before : List Visit
  pub last : Visit
  pub visits : visited ≡ start_visit T.s.size ∷ targets
  pub is_last : visited ≡ before ++ last ∷ []
  pub run : IsWalkRun T (start_state T.s.size) targets trail.steps (at_visit last trail.searched)
  pub within : length trail.steps ≤ limit
  pub held : All (IsHeld T.s.size) visited
  pub less : AreLess T.s visited
