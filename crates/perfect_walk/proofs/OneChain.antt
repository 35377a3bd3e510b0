-- A chain is fixed by its number of steps.
use Rattle.std.specs.Prelude.{◌≡◌, ℕ, suc, List, [], ◌∷◌, ◌++◌, length}
use Rattle.std.proofs.Common.{arith, sym, ◌∙◌, ap, ap₂, refl, subst}
use Rattle.perfect_walk.specs.declared.journal.Visit.{Visit}
use Rattle.perfect_walk.specs.declared.journal.Step.{Step}
use Rattle.perfect_walk.specs.States.{Task, WalkState}
use Rattle.perfect_walk.specs.Chains.{IsWalkRun, start_state, start_visit}
use Rattle.perfect_walk.specs.Theorems.{AtMostOneNext, AtMostOneChain}
use Rattle.perfect_walk.proofs.OneNext.{IsSameStep, one_next, one_step}

record IsSameRun (vs ws : List Visit) (xs ys : List Step) (τ π : WalkState) : Type 0 where
  visits : vs ≡ ws
  steps : xs ≡ ys
  state : τ ≡ π

same_run : (T : Task) (xs ys : List Step) (σ τ π : WalkState) (vs ws : List Visit) → IsWalkRun T σ vs xs τ → IsWalkRun T σ ws ys π → length xs ≡ length ys
    → IsSameRun vs ws xs ys τ π
same_run T [] [] σ τ π vs ws h k e = record { visits = h.0 ∙ sym k.0; steps = refl; state = h.1 ∙ sym k.1 }
same_run T [] (y ∷ ys) σ τ π vs ws h k e = absurd (let n : 0 ≡ suc (length ys) = e in omega arith)
same_run T (x ∷ xs) [] σ τ π vs ws h k e = absurd (let n : suc (length xs) ≡ 0 = e in omega arith)
same_run T (x ∷ xs) (y ∷ ys) σ τ π vs ws (ρ, us, s, is, h) (ξ, ts, t, was, k) e =
    let same : IsSameStep T σ x y ρ ξ s t = one_step T σ x y ρ ξ s t in
    let long : suc (length xs) ≡ suc (length ys) = e in
    let rest : IsSameRun us ts xs ys τ π = same_run T xs ys ρ τ π us ts h (subst (λ (ζ : WalkState). IsWalkRun T ζ ts ys π) (sym same.state) k) (omega arith) in
    record {
      visits = is ∙ ap₂ (λ (a : List Visit) (b : List Visit). a ++ b) same.visits rest.visits ∙ sym was;
      steps = ap₂ (λ (x : Step) (xs : List Step). x ∷ xs) same.step rest.steps;
      state = rest.state;
    }

pub at_most_one_next : AtMostOneNext
at_most_one_next = one_next

pub at_most_one_chain : AtMostOneChain
at_most_one_chain T a b σ τ h k e =
    let same : IsSameRun h.targets k.targets a.steps b.steps σ τ = same_run T a.steps b.steps (start_state T.s.size) σ τ h.targets k.targets h.run k.run e in
    record { visits = h.visits ∙ ap (λ (vs : List Visit). start_visit T.s.size ∷ vs) same.visits ∙ sym k.visits; steps = same.steps; state = same.state }
