-- Of one task under one limit there is one walk.
use Rattle.std.specs.Prelude.{◌≡◌, ◌⊎◌, ℕ, zero, suc, ◌+◌, ◌≤◌, List, [], ◌∷◌, ◌++◌, length, Option}
use Rattle.std.proofs.Common.{arith, sym, ◌∙◌, ap, ap₂, refl, subst, inl, inr}
use Rattle.symmetric_matrix.specs.Symmetric.{Symmetric}
use Rattle.perfect_walk.specs.declared.journal.Visit.{Visit}
use Rattle.perfect_walk.specs.declared.journal.Step.{Step}
use Rattle.perfect_walk.specs.declared.journal.End.{End}
use Rattle.perfect_walk.specs.declared.journal.End.TheVariants as end
use Rattle.perfect_walk.specs.declared.journal.Walked.{Walked}
use Rattle.perfect_walk.specs.States.{Task, WalkState}
use Rattle.perfect_walk.specs.Chains.{IsWalkRun, start_state, start_visit}
use Rattle.perfect_walk.specs.Ends.{IsWalkEnd, IsWalkedTo, IsWalked}
use Rattle.perfect_walk.specs.Theorems.{IsSameWalk, AtMostOneWalk}
use Rattle.perfect_walk.proofs.OneNext.{IsSameStep, one_step}
use Rattle.perfect_walk.proofs.OneEnd.{one_end, not_ended}

pub record IsSame (vs ws : List Visit) (xs ys : List Step) (x y : Option Symmetric) (d e : End) : Type 0 where
  pub visits : vs ≡ ws
  pub steps : xs ≡ ys
  pub searched : x ≡ y
  pub ends : d ≡ e

abbrev IsOne : List Visit → List Visit → List Step → List Step → Option Symmetric → Option Symmetric → End → End → Type 0
IsOne vs ws xs ys x y d e = IsSame vs ws xs ys x y d e ⊎ ((d ≡ end.OutOfMemory) ⊎ (e ≡ end.OutOfMemory))

one_run : (T : Task) (limit : ℕ) (xs ys : List Step) (σ τ π : WalkState) (vs ws : List Visit) (m : ℕ) (x y : Option Symmetric) (d e : End)
    → IsWalkRun T σ vs xs τ
    → IsWalkRun T σ ws ys π
    → IsWalkEnd T limit τ (m + length xs) x d → IsWalkEnd T limit π (m + length ys) y e → m + length xs ≤ limit → m + length ys ≤ limit
    → IsOne vs ws xs ys x y d e
one_run T limit [] [] σ τ π vs ws m x y d e h k a b l n = by
    (one_end T σ limit (m + 0) x y d e (subst (λ (ρ : WalkState). IsWalkEnd T limit ρ (m + 0) x d) h.1 a)
    (subst (λ (ρ : WalkState). IsWalkEnd T limit ρ (m + 0) y e) k.1 b))
  where
    by : (((x ≡ y) × (d ≡ e)) ⊎ ((d ≡ end.OutOfMemory) ⊎ (e ≡ end.OutOfMemory))) → IsOne vs ws [] [] x y d e
    by (inl s) = inl record { visits = h.0 ∙ sym k.0; steps = refl; searched = s.0; ends = s.1 }
    by (inr s) = inr s
one_run T limit [] (z ∷ ys) σ τ π vs ws m x y d e h (ρ, us, s, is, k) a b l n =
    inr (inl (not_ended T σ limit (m + 0) x d z ρ (subst (λ (ρ : WalkState). IsWalkEnd T limit ρ (m + 0) x d) h.1 a) s
    (λ (c : m + 0 ≡ limit). (let q : m + suc (length ys) ≤ limit = n in omega arith))))
one_run T limit (z ∷ xs) [] σ τ π vs ws m x y d e (ρ, us, s, is, h) k a b l n =
    inr (inr (not_ended T σ limit (m + 0) y e z ρ (subst (λ (ρ : WalkState). IsWalkEnd T limit ρ (m + 0) y e) k.1 b) s
    (λ (c : m + 0 ≡ limit). (let q : m + suc (length xs) ≤ limit = l in omega arith))))
one_run T limit (z ∷ xs) (w ∷ ys) σ τ π vs ws m x y d e (ρ, us, s, is, h) (ξ, ts, t, was, k) a b l n =
    by (one_run T limit xs ys ρ τ π us ts (suc m) x y d e h (subst (λ (ζ : WalkState). IsWalkRun T ζ ts ys π) (sym same.state) k)
    (subst (λ (c : ℕ). IsWalkEnd T limit τ c x d) (let q : m + suc (length xs) ≡ suc m + length xs = omega arith in q) a)
    (subst (λ (c : ℕ). IsWalkEnd T limit π c y e) (let q : m + suc (length ys) ≡ suc m + length ys = omega arith in q) b)
    (let q : m + suc (length xs) ≤ limit = l in omega arith) (let q : m + suc (length ys) ≤ limit = n in omega arith))
  where
    same : IsSameStep T σ z w ρ ξ s t
    same = one_step T σ z w ρ ξ s t

    by : IsOne us ts xs ys x y d e → IsOne vs ws (z ∷ xs) (w ∷ ys) x y d e
    by (inl o) = inl record {
      visits = is ∙ ap₂ (λ (a : List Visit) (b : List Visit). a ++ b) same.visits o.visits ∙ sym was;
      steps = ap₂ (λ (z : Step) (xs : List Step). z ∷ xs) same.step o.steps;
      searched = o.searched;
      ends = o.ends;
    }
    by (inr o) = inr o

pub one_walk : AtMostOneWalk
one_walk T limit a h b k =
    by (one_run T limit a.journal.steps b.journal.steps (start_state T.s.size) h.state k.state h.chain.targets k.chain.targets 0 a.journal.searched
    b.journal.searched a.end b.end h.chain.run k.chain.run
    (subst (λ (n : ℕ). IsWalkEnd T limit h.state n a.journal.searched a.end) (let q : length a.journal.steps ≡ 0 + length a.journal.steps = omega arith in q)
    h.is_end)
    (subst (λ (n : ℕ). IsWalkEnd T limit k.state n b.journal.searched b.end) (let q : length b.journal.steps ≡ 0 + length b.journal.steps = omega arith in q)
    k.is_end)
    (let l = h.within in omega arith) (let l = k.within in omega arith))
  where
    by : IsOne h.chain.targets k.chain.targets a.journal.steps b.journal.steps a.journal.searched b.journal.searched a.end b.end → IsSameWalk a b
    by (inr o) = inr o
    by (inl o) = inl (
        ap₂ (λ (e : End) (x : Option Symmetric). (let w : Walked = record
        { end = e; journal = record { visited = a.journal.visited; steps = a.journal.steps; searched = x } } in w)) o.ends o.searched
        ∙ ap₂ (λ (vs : List Visit)
        (xs : List Step). (let w : Walked = record { end = b.end; journal = record { visited = vs; steps = xs; searched = b.journal.searched } } in w))
        (h.chain.visits ∙ ap (λ (vs : List Visit). start_visit T.s.size ∷ vs) o.visits ∙ sym k.chain.visits) o.steps)

-- what fits is what was given
pub walk_due : (T : Task) (limit : ℕ) (a b : Walked) → IsWalked T limit a → IsWalkedTo T limit b → IsSameWalk a b
walk_due T limit a b (inl h) k = one_walk T limit a h b k
walk_due T limit a b (inr h) k = inr (inl h.memory)
