-- The end of a walk is right.
use Rattle.std.specs.Prelude.{◌≡◌, ℕ, ◌<◌, ℤ, pos, nat_abs, ◌≤ℤ◌, ◌<ℤ◌, List, Option, Some, None}
use Rattle.std.specs.List.{All}
use Rattle.std.proofs.Common.{arith, sym, ◌∙◌, ap, refl, subst, inl, inr}
use Rattle.std.proofs.lemmas.Int.{ints}
use Rattle.std.proofs.lemmas.List.Elements.{All-head, All-tail}
use Rattle.commutative_ring.proofs.SmallCases.{positive_abs}
use Rattle.exact_forms.specs.Forms.{inner}
use Rattle.exact_forms.specs.Copositive.{IsCopositive}
use Rattle.symmetric_matrix.specs.Symmetric.{Symmetric, entry}
use Rattle.symmetric_matrix.proofs.Places.{entry_flip}
use Rattle.unimodular_cone.specs.declared.Mode.{Mode}
use Rattle.unimodular_cone.specs.Answer.{Copositive, IsSearchAnswer}
use Rattle.unimodular_cone.proofs.Minimum.{copositive_is}
use Rattle.exact_lp.specs.Weights.{AreWeights, weight_in}
use Rattle.contiguous.specs.declared.neighbour.Tighten.{Tighten}
use Rattle.contiguous.specs.Tightenings.{last_tighten, candidate}
use Rattle.matrix_text.specs.RationalMatrix.{RationalMatrix, rational_entry}
use Rattle.matrix_text.proofs.Quotients.{whole_size, denominator_positive, quotient_entry}
use Rattle.perfect_walk.proofs.RayParts.{IsSearchBy}
use Rattle.perfect_walk.specs.declared.journal.Visit.{Visit}
use Rattle.perfect_walk.specs.declared.journal.End.{End}
use Rattle.perfect_walk.specs.States.{Task, WalkState, ray_at, line_at, ray_product_at}
use Rattle.perfect_walk.specs.Next.{Next, ByMatrix, Exchanged, Factored, ByRay, Tightened, Moved, Undecided, TooWide, BoundTooWide}
use Rattle.perfect_walk.specs.Next.{ComesNext, IsSearchAt, IsAtRay}
use Rattle.perfect_walk.specs.Chains.{start_state}
use Rattle.perfect_walk.specs.Ends.{over_d, walk_end_of, IsWalkEnd}
use Rattle.perfect_walk.specs.Parts.{IsHeld}
use Rattle.walk_verdict.specs.Verdicts.{task_of, IsSeparator, IsVerdictRight, VerdictIsRight}
use Rattle.walk_verdict.proofs.Searched.{IsSeenCopositive, last_seen, last_visit}
use Rattle.walk_verdict.proofs.Weights.{IsPaired, paired, weights_factor_of, weights_in_order}

module _ (a : RationalMatrix) (depth : ℕ) where
  abbrev T : Task
  T = task_of a depth

  d_positive : 0 < nat_abs T.d
  d_positive = positive_abs T.d (denominator_positive a)

  -- ---- a matrix whose product with S is below 0
  separator : (w : Symmetric) → w.size ≡ a.size → IsSearchAnswer Mode.Sign w.size (entry w) depth Copositive → inner w.size (entry w) (entry T.s) <ℤ pos 0
      → IsSeparator a depth w (over_d T (inner w.size (entry w) (entry T.s)))
  separator w size answer below =
      let copositive : IsCopositive a.size (entry w) =
      subst (λ (n : ℕ). IsCopositive n (entry w)) size (copositive_is w.size (entry w) depth (λ i j li lj. entry_flip w i j) answer) in
      let P : IsPaired a.size (entry w) (over_d T (inner a.size (entry w) (entry T.s))) (rational_entry a) =
      paired a.size (entry w) (entry T.s) (nat_abs T.d) (rational_entry a) d_positive (λ i j li lj. quotient_entry a i j li lj) copositive
      (subst (λ (n : ℕ). inner n (entry w) (entry T.s) <ℤ pos 0) size below) in
      record {
        size = size;
        separates = P.separates;
        value_is = ap (λ (n : ℕ). over_d T (inner n (entry w) (entry T.s))) size ∙ P.value_is;
        copositive = answer;
      }

  -- ---- a copositive ray
  ray_right : (σ : WalkState) → IsSearchAt T σ Copositive → IsSeparator a depth (ray_at T σ) (over_d T (ray_product_at T σ))
  ray_right σ h = by (last_tighten σ.tightens) refl h.answers
    where
      by : (o : Option Tighten) → last_tighten σ.tightens ≡ o
          → IsSearchBy T σ o depth Copositive
          → IsSeparator a depth (ray_at T σ) (over_d T (ray_product_at T σ))
      by (Some t) e k = absurd (let m : Mode.Least ≡ Mode.Sign = k.0 in cc)
      by None e k =
          let R : IsAtRay T σ = h.at_ray e in
          separator (ray_at T σ) (R.is_ray.size ∙ whole_size a) k
          (subst (λ (n : ℕ). inner n (entry (ray_at T σ)) (entry T.s) <ℤ pos 0) (sym R.is_ray.size) R.separates)

  -- ---- by what comes next
  module _ (σ : WalkState) (H : IsHeld a.size σ.visit) (S : IsSeenCopositive T σ.visit) where
    next_right : (next : Next) → ComesNext T σ next → IsVerdictRight a depth (walk_end_of T σ next)
    next_right ByMatrix h = separator σ.visit.matrix H.size S.search h.1
    next_right (Exchanged e) h = tt
    next_right (Factored found) h =
        let A = subst (λ (n : ℕ). AreWeights n σ.visit.vectors T.s T.d (weight_in found)) (whole_size a) h.1.sum in
        record {
          factors = weights_factor_of a.size (entry σ.visit.matrix) σ.visit.mu σ.visit.vectors T.s T.d found H.minimum A (rational_entry a)
              (denominator_positive a) (λ i j li lj. quotient_entry a i j li lj);
          in_order = weights_in_order a.size (entry σ.visit.matrix) σ.visit.mu σ.visit.vectors T.s T.d found H.minimum A;
        }
    next_right ByRay h = ray_right σ h
    next_right (Tightened t) h = tt
    next_right (Moved v) h = tt
    next_right (Undecided path) h = tt
    next_right (TooWide g) h = tt
    next_right (BoundTooWide z) h = tt

    end_right : (limit count : ℕ) (x : Option Symmetric) (e : End) → IsWalkEnd T limit σ count x e → IsVerdictRight a depth e
    end_right limit count x e (inl N) = subst (λ (e : End). IsVerdictRight a depth e) (sym N.end_is) (next_right N.next N.is_next)
    end_right limit count x e (inr (inl (o, O, is))) = subst (λ (e : End). IsVerdictRight a depth e) (sym is) tt
    end_right limit count x e (inr (inr M)) = subst (λ (e : End). IsVerdictRight a depth e) (sym M.memory) tt

pub verdict_is_right : VerdictIsRight
verdict_is_right a limits walked W =
    let T : Task = task_of a limits.depth in
    let c = W.walk.chain in
    let all = subst (λ (vs : List Visit). All (IsHeld a.size) vs) c.visits W.held in
    end_right a limits.depth W.walk.state
    (last_visit T (IsHeld a.size) (start_state T.s.size) W.walk.state c.targets walked.journal.steps c.run (All-head (IsHeld a.size) _ c.targets all)
    (All-tail (IsHeld a.size) _ c.targets all))
    (last_seen T walked.journal W.walk.state c) limits.pivots _ _ walked.end W.walk.is_end
