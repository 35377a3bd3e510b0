-- Runs of the walk, one after the other.
use Rattle.std.specs.Prelude.{◌≡◌, List, [], ◌∷◌, ◌++◌, Option}
use Rattle.std.proofs.Common.{sym, ◌∙◌, ap, refl, subst, append_assoc, append-nil}
use Rattle.perfect_walk.specs.declared.journal.Visit.{Visit}
use Rattle.perfect_walk.specs.declared.journal.Step.{Step}
use Rattle.perfect_walk.specs.States.{Task, WalkState}
use Rattle.perfect_walk.specs.Chains.{IsWalkStep, IsWalkRun, entered}

pub run_none : (T : Task) (σ : WalkState) → IsWalkRun T σ [] [] σ
run_none T σ = (refl, refl)

pub run_one : (T : Task) (σ τ : WalkState) (x : Step) (k : IsWalkStep T σ x τ) → IsWalkRun T σ (entered k.next) (x ∷ []) τ
run_one T σ τ x k = (τ, [], k, sym (append-nil (entered k.next)), (refl, refl))

pub run_append : (T : Task) (σ ρ τ : WalkState) (vs ws : List Visit) (xs ys : List Step) → IsWalkRun T σ vs xs ρ → IsWalkRun T ρ ws ys τ
    → IsWalkRun T σ (vs ++ ws) (xs ++ ys) τ
run_append T σ ρ τ vs ws [] ys h k =
    subst (λ (us : List Visit). IsWalkRun T σ (us ++ ws) ys τ) (sym h.0) (subst (λ (ρ : WalkState). IsWalkRun T ρ ws ys τ) h.1 k)
run_append T σ ρ τ vs ws (x ∷ xs) ys (π, us, s, e, h) k =
    (π, us ++ ws, s, ap (λ (us : List Visit). us ++ ws) e ∙ append_assoc (entered s.next) us ws, run_append T π ρ τ us ws xs ys h k)
