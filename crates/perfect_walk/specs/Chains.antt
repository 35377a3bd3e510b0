-- Chains: runs of the walk from its start.
--
--     next_ops T σ next        the operations from the last step on, up to where `next` stands in the journal or the
--                              walk ends
--     step_of next             the step that it is, if it is one
--     entered next             the visit to which it moves, if it does
--     after T σ next           the state after a step
--     searched_with T σ next   the matrix that was searched last, once it is known what comes next
--     IsWalkStep T σ x τ       x is the next step at σ, no operation that is made before it stands is owed, and it
--                              leads to τ
--     IsWalkRun T σ vs xs τ    the steps xs lead from σ to τ; vs are the targets of the Moves among them, in their
--                              order
--     start_visit n, at_visit v searched, start_state n     the first visit, with `first_matrix`; a visit with no
--                              step since then; the first visit with no step, no matrix having been searched
--     IsChain T journal σ      the visits are the start and the targets of the Moves; the steps lead from the start
--                              to σ. Which matrix was searched last is told with the walk's end: what comes next at σ
--                              counts too
use Rattle.std.specs.Prelude.{◌≡◌, ℕ, List, [], ◌∷◌, ◌++◌, Option, Some, None}
use Rattle.symmetric_matrix.specs.FirstMatrix.{first_matrix, first_minimum}
use Rattle.symmetric_matrix.specs.StartVectors.{start_list}
use Rattle.symmetric_matrix.specs.Symmetric.{Symmetric}
use Rattle.exact_lp.specs.declared.placed.Exchange.{Exchange}
use Rattle.contiguous.specs.declared.neighbour.Tighten.{Tighten}
use Rattle.perfect_walk.specs.declared.journal.Owed.{Owed}
use Rattle.perfect_walk.specs.declared.journal.Visit.{Visit}
use Rattle.perfect_walk.specs.declared.journal.Step.{Step}
use Rattle.perfect_walk.specs.declared.journal.Step.TheVariants as step
use Rattle.perfect_walk.specs.declared.journal.Journal.{Journal}
use Rattle.perfect_walk.specs.Operations.{first_owed_of}
use Rattle.perfect_walk.specs.States.{Task, WalkState, search_target_at}
use Rattle.perfect_walk.specs.States.{meeting_ops, leg_at, search_ops, pairing_ops, tightening_ops}
use Rattle.perfect_walk.specs.Next.{Next, ByMatrix, Exchanged, Factored, ByRay, Tightened, Moved, ComesNext}
use Rattle.perfect_walk.specs.Next.{Undecided, TooWide, BoundTooWide}

abbrev pub next_ops : Task → WalkState → Next → List Owed
next_ops T σ ByMatrix = meeting_ops T σ
next_ops T σ (Exchanged e) = leg_at T σ
next_ops T σ (Factored found) = leg_at T σ
next_ops T σ ByRay = pairing_ops T σ
next_ops T σ (Tightened t) = tightening_ops T σ t.vector
next_ops T σ (Moved v) = search_ops T σ
next_ops T σ (Undecided path) = search_ops T σ
next_ops T σ (TooWide at) = search_ops T σ
next_ops T σ (BoundTooWide z) = search_ops T σ

abbrev pub step_of : Next → Option Step
step_of ByMatrix = None
step_of (Exchanged e) = Some (step.Exchange e)
step_of (Factored found) = None
step_of ByRay = None
step_of (Tightened t) = Some (step.Tighten t)
step_of (Moved v) = Some step.Move
step_of (Undecided path) = None
step_of (TooWide at) = None
step_of (BoundTooWide z) = None

abbrev pub entered : Next → List Visit
entered ByMatrix = []
entered (Exchanged e) = []
entered (Factored found) = []
entered ByRay = []
entered (Tightened t) = []
entered (Moved v) = v ∷ []
entered (Undecided path) = []
entered (TooWide at) = []
entered (BoundTooWide z) = []

abbrev pub after : Task → WalkState → Next → WalkState
after T σ ByMatrix = σ
after T σ (Exchanged e) = record σ { exchanges = σ.exchanges ++ e ∷ [] }
after T σ (Factored found) = σ
after T σ ByRay = σ
after T σ (Tightened t) = record σ { tightens = σ.tightens ++ t ∷ []; searched = Some (search_target_at T σ) }
after T σ (Moved v) = record { visit = v; exchanges = []; tightens = []; searched = Some (search_target_at T σ) }
after T σ (Undecided path) = σ
after T σ (TooWide at) = σ
after T σ (BoundTooWide z) = σ

abbrev pub searched_with : Task → WalkState → Next → Option Symmetric
searched_with T σ ByMatrix = σ.searched
searched_with T σ (Exchanged e) = σ.searched
searched_with T σ (Factored found) = σ.searched
searched_with T σ ByRay = Some (search_target_at T σ)
searched_with T σ (Tightened t) = Some (search_target_at T σ)
searched_with T σ (Moved v) = Some (search_target_at T σ)
searched_with T σ (Undecided path) = Some (search_target_at T σ)
searched_with T σ (TooWide at) = Some (search_target_at T σ)
searched_with T σ (BoundTooWide z) = Some (search_target_at T σ)

pub record IsWalkStep (T : Task) (σ : WalkState) (x : Step) (τ : WalkState) : Type 0 where
  pub next : Next
  pub is_next : ComesNext T σ next
  pub owes : first_owed_of (next_ops T σ next) ≡ None
  pub made : step_of next ≡ Some x
  pub leads : τ ≡ after T σ next

abbrev pub IsWalkRun : Task → WalkState → List Visit → List Step → WalkState → Type 0
IsWalkRun T σ vs [] τ = (vs ≡ []) × (τ ≡ σ)
IsWalkRun T σ vs (x ∷ xs) τ =
    (ρ : WalkState) × (ws : List Visit) × (k : IsWalkStep T σ x ρ) × (vs ≡ entered k.next ++ ws) × IsWalkRun T ρ ws xs τ

-- ---- the start
abbrev pub start_visit : ℕ → Visit
start_visit n = record { matrix = first_matrix n; mu = first_minimum n; vectors = start_list n }

abbrev pub at_visit : Visit → Option Symmetric → WalkState
at_visit v searched = record { visit = v; exchanges = []; tightens = []; searched = searched }

abbrev pub start_state : ℕ → WalkState
start_state n = at_visit (start_visit n) None

pub record IsChain (T : Task) (journal : Journal) (σ : WalkState) : Type 0 where
  pub targets : List Visit
  pub visits : journal.visited ≡ start_visit T.s.size ∷ targets
  pub run : IsWalkRun T (start_state T.s.size) targets journal.steps σ
