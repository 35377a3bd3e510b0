-- From the answer Outside of the linear program to its ray.
use Rattle.std.specs.Prelude.{◌≡◌, ◌⊎◌, ℕ, ◌≤◌, ◌<◌, ℤ, pos, ◌<ℤ◌, List, [], ◌∷◌, ◌++◌, map, length, Option, Some, None, slice_index_or}
use Rattle.std.proofs.Common.{sym, ◌∙◌, ap, ap₂, refl, subst, inl, inr}
use Rattle.std.proofs.lemmas.List.Elements.{Contains-get_or}
use Rattle.exact_forms.specs.Forms.{inner}
use Rattle.exact_forms.specs.Copositive.{IsExtremeRay}
use Rattle.symmetric_matrix.specs.Owed.{first_owed}
use Rattle.symmetric_matrix.specs.Symmetric.{Symmetric, entry}
use Rattle.exact_linear.specs.Separation.{IsSeparating}
use Rattle.exact_linear.specs.Squares.{vector_at, named}
use Rattle.extreme_ray.specs.Rays.{RayOp, ray, ray_ops, ray_is_owed, vector_size, IsRayBasis, IsPrimitiveRay}
use Rattle.perfect_walk.specs.declared.journal.Limits.{Limits}
use Rattle.perfect_walk.specs.declared.journal.Visit.{Visit}
use Rattle.perfect_walk.specs.declared.journal.End.{End}
use Rattle.perfect_walk.specs.declared.journal.End.TheVariants as end
use Rattle.perfect_walk.specs.declared.walking.Trail.{Trail}
use Rattle.perfect_walk.specs.declared.walking.Turned.TheVariants as turned
use Rattle.perfect_walk.specs.Operations.{of_ray, first_owed_of}
use Rattle.perfect_walk.specs.States.{Task, WalkState, zeros_at, leaving_at, ray_at, leg_at, rayed_ops}
use Rattle.perfect_walk.specs.Next.{IsAtRay}
use Rattle.perfect_walk.specs.Ends.{Raying}
use Rattle.perfect_walk.specs.Parts.{IsHeld, IsReadyAlong, IsOnRay, IsOutsideWith, IsPart, IsRayEnd}
use Rattle.perfect_walk.proofs.Owes.{owes_then, ray_none, ray_some}
use Rattle.perfect_walk.proofs.RayParts.{part_end}

-- the vectors of a visit have as many coordinates as its matrix has rows
pub held_size : (n : ℕ) (v : Visit) → IsHeld n v → (k : ℕ) → k < length v.vectors → length (vector_at v.vectors k) ≡ n
held_size n v H k l = (H.minimum.lists.each (vector_at v.vectors k) (Contains-get_or v.vectors k [] l)).size

module _ (s : Symmetric) (v : Visit) (zeros : List ℕ) (leaving : ℕ) (H : IsHeld s.size v) (S : IsSeparating s.size v.vectors s zeros leaving) where
  size_is : vector_size v.vectors leaving ≡ s.size
  size_is = held_size s.size v H leaving S.leaving_within

  pub is_ray_basis : IsRayBasis (vector_size v.vectors leaving) v.vectors zeros leaving
  is_ray_basis = subst (λ (n : ℕ). IsRayBasis n v.vectors zeros leaving) (sym size_is) record {
    within = S.within;
    leaving_within = S.leaving_within;
    number = S.number;
    independent = S.independent;
  }

  module _ (r : Symmetric) (P : IsPrimitiveRay (vector_size v.vectors leaving) (named v.vectors zeros) (vector_at v.vectors leaving) r) where
    pub primitive : IsPrimitiveRay s.size (named v.vectors zeros) (vector_at v.vectors leaving) r
    primitive = subst (λ (n : ℕ). IsPrimitiveRay n (named v.vectors zeros) (vector_at v.vectors leaving) r) size_is P

    pub ray_extreme : IsExtremeRay s.size (entry r) v.vectors
    ray_extreme = S.extreme (entry r) primitive.is_ray

module _ (T : Task) (limits : Limits) (σ : WalkState) (s : Symmetric) (v : Visit) (old : Trail) (zeros : List ℕ) (leaving : ℕ) where
  same_ray : IsReadyAlong T limits s σ v old → IsOutsideWith T σ zeros leaving → ray v.vectors zeros leaving ≡ ray_at T σ
  same_ray R O = ap₂ (λ (zs : List ℕ) (l : ℕ). ray v.vectors zs l) O.zeros_are O.leaving_is
      ∙ ap (λ (w : Visit). ray w.vectors (zeros_at T σ) (leaving_at T σ)) (sym R.visit)

  same_ops : IsReadyAlong T limits s σ v old → IsOutsideWith T σ zeros leaving
      → ray_ops v.vectors zeros leaving ≡ ray_ops σ.visit.vectors (zeros_at T σ) (leaving_at T σ)
  same_ops R O = ap₂ (λ (zs : List ℕ) (l : ℕ). ray_ops v.vectors zs l) O.zeros_are O.leaving_is
      ∙ ap (λ (w : Visit). ray_ops w.vectors (zeros_at T σ) (leaving_at T σ)) (sym R.visit)

  pub ray_on : IsHeld s.size v → IsSeparating s.size v.vectors s zeros leaving → IsReadyAlong T limits s σ v old → IsOutsideWith T σ zeros leaving
      → (r : Symmetric)
      → r ≡ ray v.vectors zeros leaving
      → first_owed ray_is_owed (ray_ops v.vectors zeros leaving) ≡ None
      → IsPrimitiveRay (vector_size v.vectors leaving) (named v.vectors zeros) (vector_at v.vectors leaving) r → IsOnRay T σ r
  ray_on H S R O r is owes P =
      let same : r ≡ ray_at T σ = is ∙ same_ray R O in
      record {
        at_ray = record {
          placing = O.placing;
          outside = O.outside;
          is_ray = subst (λ (q : Symmetric). IsPrimitiveRay T.s.size (named σ.visit.vectors (zeros_at T σ)) (vector_at σ.visit.vectors (leaving_at T σ)) q) same
              (subst (λ (n : ℕ). IsPrimitiveRay n (named σ.visit.vectors (zeros_at T σ)) (vector_at σ.visit.vectors (leaving_at T σ)) r)
              (sym (ap (λ (s : Symmetric). s.size) R.matrix))
              (subst (λ (w : Visit). IsPrimitiveRay s.size (named w.vectors (zeros_at T σ)) (vector_at w.vectors (leaving_at T σ)) r) (sym R.visit)
              (subst (λ (zs : List ℕ). IsPrimitiveRay s.size (named v.vectors zs) (vector_at v.vectors (leaving_at T σ)) r) O.zeros_are
              (subst (λ (l : ℕ). IsPrimitiveRay s.size (named v.vectors zeros) (vector_at v.vectors l) r) O.leaving_is
              (primitive s v zeros leaving H S r P)))));
          is_extreme = subst (λ (q : Symmetric). IsExtremeRay T.s.size (entry q) σ.visit.vectors) same
              (subst (λ (n : ℕ). IsExtremeRay n (entry r) σ.visit.vectors) (sym (ap (λ (s : Symmetric). s.size) R.matrix))
              (subst (λ (w : Visit). IsExtremeRay s.size (entry r) w.vectors) (sym R.visit) (ray_extreme s v zeros leaving H S r P)));
          separates = subst (λ (q : Symmetric). inner T.s.size (entry q) (entry T.s) <ℤ pos 0) same
              (subst (λ (z : Symmetric). inner z.size (entry r) (entry z) <ℤ pos 0) (sym R.matrix)
              (S.separates (entry r) (primitive s v zeros leaving H S r P).is_ray));
        };
        ray_is = same;
        owes = owes_then (leg_at T σ) _ None O.owes (ray_none _ (subst (λ (ops : List RayOp). first_owed ray_is_owed ops ≡ None) (same_ops R O) owes));
      }

  pub ray_ended : IsReadyAlong T limits s σ v old → IsOutsideWith T σ zeros leaving → (e : End) → IsRayEnd v.vectors zeros leaving e
      → length old.steps ≤ limits.pivots → IsPart T limits.pivots σ old old (turned.Ended e)
  ray_ended R O e (inl (o, first, is)) within = part_end T limits.pivots σ old old e _ within refl (inr (inl (
    of_ray o,
    record {
      stage = Raying;
      is_stage = (O.placing, O.outside);
      owes = O.owes;
      first = ray_some _ o (subst (λ (ops : List RayOp). first_owed ray_is_owed ops ≡ Some o) (same_ops R O) first);
      searched_is = R.searched;
    },
    is,
  ))) refl
  ray_ended R O e (inr is) within = part_end T limits.pivots σ old old e _ within refl (inr (inr record { memory = is; searched_is = inl R.searched })) refl
