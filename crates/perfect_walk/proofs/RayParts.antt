-- What the search of a ray makes of the walk.
use Rattle.std.specs.Prelude.{◌≡◌, ◌⊎◌, ℕ, ◌≤◌, ℤ, pos, Bool, true, false, List, [], ◌∷◌, ◌++◌, length, Option, Some, None, nat_eq}
use Rattle.std.proofs.Common.{sym, ◌∙◌, ap, ap₂, refl, subst, inl, inr, append-nil}
use Rattle.exact_forms.specs.Forms.{inner}
use Rattle.symmetric_matrix.specs.Symmetric.{Symmetric, entry}
use Rattle.unimodular_cone.specs.declared.Mode.{Mode}
use Rattle.unimodular_cone.specs.declared.WideAt.{WideAt}
use Rattle.unimodular_cone.specs.Paths.{Path}
use Rattle.unimodular_cone.specs.Answer.{SearchAnswer, BoundWide, Wide, Low, Depth, Copositive, Found, IsSearchAnswer}
use Rattle.contiguous.specs.declared.neighbour.Tighten.{Tighten}
use Rattle.contiguous.specs.Tightenings.{last_tighten, candidate}
use Rattle.perfect_walk.specs.declared.journal.Limits.{Limits}
use Rattle.perfect_walk.specs.declared.journal.Owed.{Owed}
use Rattle.perfect_walk.specs.declared.journal.Owed.TheVariants.{Inner, Gram}
use Rattle.perfect_walk.specs.declared.journal.Visit.{Visit}
use Rattle.perfect_walk.specs.declared.journal.Step.{Step}
use Rattle.perfect_walk.specs.declared.journal.End.{End}
use Rattle.perfect_walk.specs.declared.journal.End.TheVariants as end
use Rattle.perfect_walk.specs.declared.walking.Trail.{Trail}
use Rattle.perfect_walk.specs.declared.walking.Turned.{Turned}
use Rattle.perfect_walk.specs.declared.walking.Turned.TheVariants as turned
use Rattle.perfect_walk.specs.Operations.{first_owed_of}
use Rattle.perfect_walk.specs.States.{Task, WalkState, ray_at, line_at, search_target_at, rayed_ops, search_ops, inner_at}
use Rattle.perfect_walk.specs.Next.{Next, ByRay, Undecided, TooWide, ComesNext, IsSearchAt, IsCalledFor}
use Rattle.perfect_walk.specs.Ends.{due_ops, walk_end_of, over_d, IsWalkEnd, Pairing}
use Rattle.perfect_walk.specs.Parts.{IsReadyAlong, IsOnRay, IsPart, IsTurned, IsSeparatedBy, IsPairedEnd}
use Rattle.perfect_walk.proofs.Runs.{run_none}
use Rattle.perfect_walk.proofs.Owes.{owes_then, inner_none, inner_some}
use Rattle.perfect_walk.proofs.Tightening.{last_none}

-- an end without a step
pub part_end : (T : Task) (limit : ℕ) (σ : WalkState) (old new : Trail) (e : End) (left : Turned) → length old.steps ≤ limit → new.steps ≡ old.steps
    → IsWalkEnd T limit σ (length new.steps) new.searched e
    → left ≡ turned.Ended e → IsPart T limit σ old new left
part_end T limit σ old new e left within steps ends is = record {
  added = [];
  state = σ;
  steps = steps ∙ sym (append-nil old.steps);
  run = run_none T σ;
  within = subst (λ (xs : List Step). length xs ≤ limit) (sym steps) within;
  ends = subst (λ (left : Turned). IsTurned T limit σ new left) (sym is) ends;
}

pub due_none : (T : Task) (σ : WalkState) (next : Next) (b : Bool) → first_owed_of (due_ops T σ true next) ≡ None
    → first_owed_of (due_ops T σ false next) ≡ None
    → first_owed_of (due_ops T σ b next) ≡ None
due_none T σ next true h k = h
due_none T σ next false h k = k

-- what a search is of, by the last Tighten
abbrev pub searched_by : Task → WalkState → Option Tighten → Symmetric
searched_by T σ o = elim o as (λ _. Symmetric) [ None ↦ ray_at T σ | Some t ↦ candidate (line_at T σ) t ]

abbrev pub IsSearchBy : Task → WalkState → Option Tighten → ℕ → SearchAnswer → Type 0
IsSearchBy T σ o depth a =
    IsSearchAnswer (elim o as (λ _. Mode) [ None ↦ Mode.Sign | Some t ↦ Mode.Least ]) (searched_by T σ o).size (entry (searched_by T σ o)) depth a

module _ (T : Task) (limits : Limits) (s : Symmetric) (d : ℤ) (σ : WalkState) (v : Visit) (old : Trail) (ray : Symmetric) (R : IsReadyAlong T limits s σ v old)
    (same_d : T.d ≡ d) (O : IsOnRay T σ ray) (within : length old.steps ≤ limits.pivots) where
  none : last_tighten σ.tightens ≡ None
  none = ap last_tighten O.at_ray.placing.tightens ∙ last_none

  pub search_here : (a : SearchAnswer) → IsSearchAnswer Mode.Sign ray.size (entry ray) limits.depth a → IsSearchAt T σ a
  search_here a h = record {
    at_ray = λ n. O.at_ray;
    answers = subst (λ (o : Option Tighten). IsSearchBy T σ o T.depth a) (sym none)
        (subst (λ (n : ℕ). IsSearchAnswer Mode.Sign (ray_at T σ).size (entry (ray_at T σ)) n a) (sym R.depth)
        (subst (λ (r : Symmetric). IsSearchAnswer Mode.Sign r.size (entry r) limits.depth a) O.ray_is h));
  }

  target_here : Some ray ≡ Some (search_target_at T σ)
  target_here = ap (λ (r : Symmetric). Some r)
      (O.ray_is ∙ sym (ap (λ (o : Option Tighten). searched_by T σ o) none))

  search_none : first_owed_of (search_ops T σ) ≡ None
  search_none = ap (λ (o : Option Tighten). first_owed_of (elim o as (λ _. List Owed) [ None ↦ rayed_ops T σ | Some t ↦ [] ])) none ∙ O.owes

  -- the vector that the search calls for
  pub called_here : (w : List ℕ) (z : ℤ) (path : Path) → IsSearchAnswer Mode.Sign ray.size (entry ray) limits.depth (Low w z path) → IsCalledFor T σ w
  called_here w z path h = record { answer = Low w z path; is_answer = search_here (Low w z path) h; calls = refl }

  module _ (new : Trail) (steps : new.steps ≡ old.steps) (searched : new.searched ≡ Some ray) where
    pub depth_here : (path : Path) → IsSearchAnswer Mode.Sign ray.size (entry ray) limits.depth (Depth path)
        → IsPart T limits.pivots σ old new (turned.Ended (end.Depth path))
    depth_here path h = part_end T limits.pivots σ old new (end.Depth path) _ within steps (inl record {
      next = Undecided path;
      is_next = search_here (Depth path) h;
      owes = due_none T σ (Undecided path) (nat_eq (length new.steps) limits.pivots) search_none search_none;
      used = inl refl;
      searched_is = searched ∙ target_here;
      end_is = refl;
    }) refl

    pub wide_here : (g : WideAt) → IsSearchAnswer Mode.Sign ray.size (entry ray) limits.depth (Wide g.path g.entry)
        → IsPart T limits.pivots σ old new (turned.Ended (end.Overflow (Gram g)))
    wide_here g h = part_end T limits.pivots σ old new (end.Overflow (Gram g)) _ within steps (inl record {
      next = TooWide g;
      is_next = search_here (Wide g.path g.entry) h;
      owes = due_none T σ (TooWide g) (nat_eq (length new.steps) limits.pivots) search_none search_none;
      used = inl refl;
      searched_is = searched ∙ target_here;
      end_is = refl;
    }) refl

    paired : (e : End) → IsPairedEnd ray s d e → IsPairedEnd (ray_at T σ) T.s T.d e
    paired e h = subst (λ (d : ℤ). IsPairedEnd (ray_at T σ) T.s d e) (sym same_d)
        (subst (λ (s : Symmetric). IsPairedEnd (ray_at T σ) s d e) (sym R.matrix) (subst (λ (r : Symmetric). IsPairedEnd r s d e) O.ray_is h))

    pub copositive_here : (e : End) → IsSearchAnswer Mode.Sign ray.size (entry ray) limits.depth Copositive → IsPairedEnd ray s d e
        → IsPart T limits.pivots σ old new (turned.Ended e)
    copositive_here e h P = part_end T limits.pivots σ old new e _ within steps (by (paired e P)) refl
      where
        by : IsPairedEnd (ray_at T σ) T.s T.d e → IsWalkEnd T limits.pivots σ (length new.steps) new.searched e
        by (inl (owes, inl is)) =
            let pair = owes_then (search_ops T σ) (inner_at (ray_at T σ) T.s) None search_none (inner_none (ray_at T σ) T.s owes) in
            inl record {
              next = ByRay;
              is_next = search_here Copositive h;
              owes = due_none T σ ByRay (nat_eq (length new.steps) limits.pivots) pair pair;
              used = inl refl;
              searched_is = searched ∙ target_here;
              end_is = is;
            }
        by (inl (owes, inr is)) = inr
            (inr record {
              memory = is;
              searched_is = inr record
                  { answer = Copositive; search = search_here Copositive h; owes = search_none; searched_is = searched ∙ target_here };
            })
        by (inr (o, first, is)) = inr (inl (
          Inner o,
          record {
            stage = Pairing;
            is_stage = search_here Copositive h;
            owes = search_none;
            first = inner_some (ray_at T σ) T.s o first;
            searched_is = searched ∙ target_here;
          },
          is,
        ))
