-- The way along a ray, from any state that is ready for it.
use Rattle.std.specs.Prelude.{◌≡◌, ℕ, ◌+◌, ℤ, List, [], map, length, Option, Some, None}
use Rattle.std.proofs.Common.{sym, ◌∙◌, ap, ap₂, refl, subst}
use Rattle.symmetric_matrix.specs.Symmetric.{Symmetric}
use Rattle.contiguous.specs.declared.neighbour.Neighbour.{Neighbour}
use Rattle.contiguous.specs.declared.neighbour.Tighten.{Tighten}
use Rattle.contiguous.specs.Tightenings.{Line, line_along, IsNeighbourAnswer, searched_after}
use Rattle.exact_lp.specs.declared.placed.Exchange.{Exchange}
use Rattle.perfect_walk.specs.declared.journal.Limits.{Limits}
use Rattle.perfect_walk.specs.declared.journal.Visit.{Visit}
use Rattle.perfect_walk.specs.declared.walking.Trail.{Trail}
use Rattle.perfect_walk.specs.declared.walking.Turned.{Turned}
use Rattle.perfect_walk.specs.Operations.{first_owed_of}
use Rattle.perfect_walk.specs.States.{Task, WalkState, ray_at, rayed_ops}
use Rattle.perfect_walk.specs.Next.{IsCalledFor}
use Rattle.perfect_walk.specs.Parts.{IsReadyAlong, IsOnRay, IsPart, or_ray}
use Rattle.perfect_walk.proofs.Tightening.{along, l as line_at_visit}

module _ (T : Task) (limits : Limits) (s : Symmetric) (σ : WalkState) (v : Visit) (old new : Trail) (ray : Symmetric) (R : IsReadyAlong T limits s σ v old)
    (O : IsOnRay T σ ray) where
  abbrev pub here : WalkState
  here = along T v σ.exchanges [] σ.searched

  pub here_is : σ ≡ here
  here_is = ap₂ (λ (v : Visit) ts. (let τ : WalkState = record { visit = v; exchanges = σ.exchanges; tightens = ts; searched = σ.searched } in τ)) R.visit
      O.at_ray.placing.tightens

  pub ray_is : ray ≡ ray_at T here
  ray_is = O.ray_is ∙ ap (λ (τ : WalkState). ray_at T τ) here_is

  pub answer_here : (w : List ℕ) (budget : ℕ) (mu : ℤ) (a : Neighbour) → mu ≡ v.mu → IsNeighbourAnswer (line_along v.matrix mu ray) limits.depth w budget a
      → IsNeighbourAnswer (line_at_visit T v σ.exchanges) T.depth w budget a
  answer_here w budget mu a e A =
      subst (λ (d : ℕ). IsNeighbourAnswer (line_at_visit T v σ.exchanges) d w budget a) (sym R.depth)
      (subst (λ (l : Line). IsNeighbourAnswer l limits.depth w budget a) (ap₂ (λ (mu : ℤ) (ray : Symmetric). line_along v.matrix mu ray) e ray_is) A)

  pub part_here : (limit : ℕ) (w : List ℕ) (left : Turned) → IsCalledFor T σ w
      → (IsCalledFor T here w → first_owed_of (rayed_ops T here) ≡ None → old.searched ≡ σ.searched → IsPart T limit here old new left)
      → IsPart T limit σ old new left
  part_here limit w left C k =
      subst (λ (τ : WalkState). IsPart T limit τ old new left) (sym here_is)
      (k (subst (λ (τ : WalkState). IsCalledFor T τ w) here_is C) (subst (λ (τ : WalkState). first_owed_of (rayed_ops T τ) ≡ None) here_is O.owes) R.searched)

  pub searched_here : (ts : List Tighten)
      → or_ray ray (searched_after (line_along v.matrix v.mu ray) ts) ≡ or_ray (ray_at T here) (searched_after (line_at_visit T v σ.exchanges) ts)
  searched_here ts = ap (λ (r : Symmetric). or_ray r (searched_after (line_along v.matrix v.mu r) ts)) ray_is
