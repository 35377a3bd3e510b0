-- What holds of all walks.
--
--     AtMostOneNext            at a state at most one thing comes next
--     IsSameChain a b σ τ      the two have the same visits, the same steps and the same last state
--     AtMostOneChain           two chains of one task with as many steps are the same
--     IsSameWalk a b           the two are one, or memory was wanting in one of them
--     IsOnlyWalk T limit a     each walk of the task under the limit is the same as a
--     AtMostOneWalk            so is each walk for each other one. So each end comes exactly where it fits, with its
--                              journal: whatever journal is a chain and has such an end is the one that is given,
--                              want of memory aside
--     OwedIsFirstDue           an operation that is owed at the end is the first one that is owed of all that are due
--                              there, whatever comes next
--     FirstDueIsOwed           and whatever comes next, the first operation that is owed of all that are due is owed
--                              at the end
use Rattle.std.specs.Prelude.{◌≡◌, ◌⊎◌, ℕ, length, Option, Some, nat_eq}
use Rattle.symmetric_matrix.specs.Symmetric.{Symmetric}
use Rattle.perfect_walk.specs.declared.journal.Journal.{Journal}
use Rattle.perfect_walk.specs.declared.journal.Owed.{Owed}
use Rattle.perfect_walk.specs.Operations.{first_owed_of}
use Rattle.perfect_walk.specs.Next.{Next, ComesNext}
use Rattle.perfect_walk.specs.Chains.{IsChain}
use Rattle.perfect_walk.specs.declared.journal.End.TheVariants as end
use Rattle.perfect_walk.specs.declared.journal.Walked.{Walked}
use Rattle.perfect_walk.specs.States.{Task, WalkState}
use Rattle.perfect_walk.specs.Ends.{due_ops, IsOwedAt, IsWalkedTo}

abbrev pub AtMostOneNext : Type 0
AtMostOneNext = (T : Task) (σ : WalkState) (x y : Next) → ComesNext T σ x → ComesNext T σ y → x ≡ y

pub record IsSameChain (a b : Journal) (σ τ : WalkState) : Type 0 where
  pub visits : a.visited ≡ b.visited
  pub steps : a.steps ≡ b.steps
  pub state : σ ≡ τ

abbrev pub AtMostOneChain : Type 0
AtMostOneChain =
    (T : Task) (a b : Journal) (σ τ : WalkState) → IsChain T a σ → IsChain T b τ → length a.steps ≡ length b.steps
    → IsSameChain a b σ τ

abbrev pub IsSameWalk : Walked → Walked → Type 0
IsSameWalk a b = (a ≡ b) ⊎ ((a.end ≡ end.OutOfMemory) ⊎ (b.end ≡ end.OutOfMemory))

abbrev pub IsOnlyWalk : Task → ℕ → Walked → Type 0
IsOnlyWalk T limit a = (b : Walked) → IsWalkedTo T limit b → IsSameWalk a b

abbrev pub AtMostOneWalk : Type 0
AtMostOneWalk = (T : Task) (limit : ℕ) (a : Walked) → IsWalkedTo T limit a → IsOnlyWalk T limit a

abbrev pub OwedIsFirstDue : Type 0
OwedIsFirstDue =
    (T : Task) (limit : ℕ) (σ : WalkState) (count : ℕ) (searched : Option Symmetric) (o : Owed)
    → IsOwedAt T limit σ count searched o
    → (next : Next) → ComesNext T σ next → first_owed_of (due_ops T σ (nat_eq count limit) next) ≡ Some o

abbrev pub FirstDueIsOwed : Type 0
FirstDueIsOwed =
    (T : Task) (limit : ℕ) (σ : WalkState) (count : ℕ) (next : Next) (o : Owed)
    → ComesNext T σ next → first_owed_of (due_ops T σ (nat_eq count limit) next) ≡ Some o
    → (searched : Option Symmetric) × IsOwedAt T limit σ count searched o
