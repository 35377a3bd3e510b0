-- That nothing is owed, and what is owed first, of the joined lists.
use Rattle.std.specs.Prelude.{◌≡◌, Bool, List, [], ◌∷◌, ◌++◌, map, Option, Some, None}
use Rattle.std.proofs.Common.{sym, ◌∙◌, ap, refl}
use Rattle.symmetric_matrix.specs.declared.operation.IntOp.{IntOp}
use Rattle.symmetric_matrix.specs.Operations.{is_owed}
use Rattle.symmetric_matrix.specs.Owed.{first_owed}
use Rattle.symmetric_matrix.specs.Recipes.{inner_ops}
use Rattle.symmetric_matrix.specs.Symmetric.{Symmetric}
use Rattle.symmetric_matrix.proofs.Owed.{first_owed-append_some, first_owed-append_none, first_owed-map}
use Rattle.exact_lp.specs.declared.placed.PlaceOp.{PlaceOp}
use Rattle.exact_lp.specs.declared.placed.PlaceOp.TheVariants as place
use Rattle.exact_lp.specs.Placement.{place_is_owed}
use Rattle.extreme_ray.specs.Rays.{RayOp, Entry, Clear, ray_is_owed}
use Rattle.contiguous.specs.declared.neighbour.NeighbourOp.{NeighbourOp}
use Rattle.contiguous.specs.declared.neighbour.NeighbourOp.TheVariants as neighbour
use Rattle.contiguous.specs.Tightenings.{neighbour_is_owed}
use Rattle.perfect_walk.specs.declared.journal.Owed.{Owed}
use Rattle.perfect_walk.specs.declared.journal.Owed.TheVariants.{Inner}
use Rattle.perfect_walk.specs.Operations.{walk_is_owed, first_owed_of, of_place, of_ray, of_neighbour}
use Rattle.perfect_walk.specs.States.{inner_at}

pub nothing : first_owed_of [] ≡ None
unfolding first_owed
nothing = refl

-- ---- a list after a list
pub owes_then : (xs ys : List Owed) (o : Option Owed) → first_owed_of xs ≡ None → first_owed_of ys ≡ o → first_owed_of (xs ++ ys) ≡ o
owes_then xs ys o h k = first_owed-append_none walk_is_owed xs ys h ∙ k

pub owes_first : (xs ys : List Owed) (o : Owed) → first_owed_of xs ≡ Some o → first_owed_of (xs ++ ys) ≡ Some o
owes_first xs ys o h = first_owed-append_some walk_is_owed xs ys o h

-- ---- the lists of calls, at their places
place_same : (o : PlaceOp) → walk_is_owed (of_place o) ≡ place_is_owed o
place_same (place.Tableau e) = refl
place_same (place.Weight v o) = refl

ray_same : (o : RayOp) → walk_is_owed (of_ray o) ≡ ray_is_owed o
ray_same (Entry e) = refl
ray_same (Clear o) = refl

neighbour_same : (o : NeighbourOp) → walk_is_owed (of_neighbour o) ≡ neighbour_is_owed o
neighbour_same (neighbour.Form w o) = refl
neighbour_same (neighbour.Scale o) = refl
neighbour_same (neighbour.Gram at) = refl
neighbour_same (neighbour.Bound z) = refl

pub place_none : (ops : List PlaceOp) → first_owed place_is_owed ops ≡ None → first_owed_of (map of_place ops) ≡ None
place_none ops h = first_owed-map place_is_owed walk_is_owed of_place ops place_same
    ∙ ap (λ (o : Option PlaceOp). elim o as (λ _. Option Owed) [ None ↦ None | Some o ↦ Some (of_place o) ]) h

pub place_some : (ops : List PlaceOp) (o : PlaceOp) → first_owed place_is_owed ops ≡ Some o → first_owed_of (map of_place ops) ≡ Some (of_place o)
place_some ops o h = first_owed-map place_is_owed walk_is_owed of_place ops place_same
    ∙ ap (λ (o : Option PlaceOp). elim o as (λ _. Option Owed) [ None ↦ None | Some o ↦ Some (of_place o) ]) h

pub ray_none : (ops : List RayOp) → first_owed ray_is_owed ops ≡ None → first_owed_of (map of_ray ops) ≡ None
ray_none ops h = first_owed-map ray_is_owed walk_is_owed of_ray ops ray_same
    ∙ ap (λ (o : Option RayOp). elim o as (λ _. Option Owed) [ None ↦ None | Some o ↦ Some (of_ray o) ]) h

pub ray_some : (ops : List RayOp) (o : RayOp) → first_owed ray_is_owed ops ≡ Some o → first_owed_of (map of_ray ops) ≡ Some (of_ray o)
ray_some ops o h = first_owed-map ray_is_owed walk_is_owed of_ray ops ray_same
    ∙ ap (λ (o : Option RayOp). elim o as (λ _. Option Owed) [ None ↦ None | Some o ↦ Some (of_ray o) ]) h

pub neighbour_none : (ops : List NeighbourOp) → first_owed neighbour_is_owed ops ≡ None → first_owed_of (map of_neighbour ops) ≡ None
neighbour_none ops h = first_owed-map neighbour_is_owed walk_is_owed of_neighbour ops neighbour_same
    ∙ ap (λ (o : Option NeighbourOp). elim o as (λ _. Option Owed) [ None ↦ None | Some o ↦ Some (of_neighbour o) ]) h

pub neighbour_some : (ops : List NeighbourOp) (o : NeighbourOp) → first_owed neighbour_is_owed ops ≡ Some o
    → first_owed_of (map of_neighbour ops) ≡ Some (of_neighbour o)
neighbour_some ops o h = first_owed-map neighbour_is_owed walk_is_owed of_neighbour ops neighbour_same
    ∙ ap (λ (o : Option NeighbourOp). elim o as (λ _. Option Owed) [ None ↦ None | Some o ↦ Some (of_neighbour o) ]) h

pub inner_none : (q s : Symmetric) → first_owed is_owed (inner_ops q s) ≡ None → first_owed_of (inner_at q s) ≡ None
inner_none q s h = first_owed-map is_owed walk_is_owed Inner (inner_ops q s) (λ o. refl)
    ∙ ap (λ (o : Option IntOp). elim o as (λ _. Option Owed) [ None ↦ None | Some o ↦ Some (Inner o) ]) h

pub inner_some : (q s : Symmetric) (o : IntOp) → first_owed is_owed (inner_ops q s) ≡ Some o → first_owed_of (inner_at q s) ≡ Some (Inner o)
inner_some q s o h = first_owed-map is_owed walk_is_owed Inner (inner_ops q s) (λ o. refl)
    ∙ ap (λ (o : Option IntOp). elim o as (λ _. Option Owed) [ None ↦ None | Some o ↦ Some (Inner o) ]) h
