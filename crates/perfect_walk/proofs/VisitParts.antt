-- What the inner product of a visit's matrix with S makes of the walk.
use Rattle.std.specs.Prelude.{◌≡◌, ℕ, ◌≤◌, ℤ, pos, ◌<ℤ◌, Bool, true, false, List, [], length, Option, Some, None, nat_eq}
use Rattle.std.proofs.Common.{sym, ◌∙◌, ap, refl, subst, inl, inr}
use Rattle.symmetric_matrix.specs.declared.operation.IntOp.{IntOp}
use Rattle.symmetric_matrix.specs.Operations.{is_owed}
use Rattle.symmetric_matrix.specs.Owed.{first_owed}
use Rattle.symmetric_matrix.specs.Recipes.{inner_ops}
use Rattle.symmetric_matrix.specs.Symmetric.{Symmetric}
use Rattle.perfect_walk.specs.declared.journal.Owed.TheVariants.{Inner}
use Rattle.perfect_walk.specs.declared.journal.Visit.{Visit}
use Rattle.perfect_walk.specs.declared.journal.End.{End}
use Rattle.perfect_walk.specs.declared.journal.End.TheVariants as end
use Rattle.perfect_walk.specs.declared.walking.Trail.{Trail}
use Rattle.perfect_walk.specs.declared.walking.Turned.TheVariants as turned
use Rattle.perfect_walk.specs.Operations.{first_owed_of}
use Rattle.perfect_walk.specs.States.{Task, WalkState, product_at}
use Rattle.perfect_walk.specs.Next.{ByMatrix}
use Rattle.perfect_walk.specs.Chains.{at_visit}
use Rattle.perfect_walk.specs.Ends.{due_ops, IsWalkEnd, Meeting}
use Rattle.perfect_walk.specs.Parts.{task, IsPart, IsSeparatedBy}
use Rattle.perfect_walk.proofs.Owes.{nothing, inner_none, inner_some}
use Rattle.perfect_walk.proofs.RayParts.{part_end}

module _ (s : Symmetric) (d : ℤ) (depth limit : ℕ) (v : Visit) (old : Trail) where
  abbrev T : Task
  T = task s d depth

  abbrev σ : WalkState
  σ = at_visit v old.searched

  due_none : (b : Bool) → first_owed_of (due_ops T σ true ByMatrix) ≡ None → first_owed_of (due_ops T σ b ByMatrix) ≡ None
  due_none true h = h
  due_none false h = h

  pub separated_part : (e : End) → length old.steps ≤ limit → first_owed is_owed (inner_ops v.matrix s) ≡ None → product_at T σ <ℤ pos 0
      → IsSeparatedBy v.matrix (product_at T σ) d e
      → IsPart T limit σ old old (turned.Ended e)
  separated_part e within owes below (inl is) = part_end T limit σ old old e _ within refl (inl record {
    next = ByMatrix;
    is_next = (record { exchanges = refl; tightens = refl }, below);
    owes = due_none (nat_eq (length old.steps) limit) (inner_none v.matrix s owes);
    used = inl refl;
    searched_is = refl;
    end_is = is;
  }) refl
  separated_part e within owes below (inr is) = part_end T limit σ old old e _ within refl (inr (inr record { memory = is; searched_is = inl refl })) refl

  pub inner_refused : (o : IntOp) → length old.steps ≤ limit → first_owed is_owed (inner_ops v.matrix s) ≡ Some o
      → IsPart T limit σ old old (turned.Ended (end.Overflow (Inner o)))
  inner_refused o within first = part_end T limit σ old old (end.Overflow (Inner o)) _ within refl (inr (inl (
    Inner o,
    record {
      stage = Meeting;
      is_stage = record { exchanges = refl; tightens = refl };
      owes = nothing;
      first = inner_some v.matrix s o first;
      searched_is = refl;
    },
    refl,
  ))) refl
