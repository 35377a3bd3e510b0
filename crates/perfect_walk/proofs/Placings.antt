-- The operations of `place` after its last step, up to the refusal of the next one, are a front of those up to the next one.
use Rattle.std.specs.Prelude.{◌≡◌, ℕ, Bool, true, false, ◌&&◌, List, ◌++◌, map, length, Option, Some, if◌then◌else◌}
use Rattle.std.proofs.Common.{sym, ◌∙◌, ap, refl, subst}
use Rattle.std.proofs.lemmas.List.{map-append}
use Rattle.exact_lp.specs.declared.placed.PlaceOp.{PlaceOp}
use Rattle.exact_lp.specs.Placement.{Problem, IsStepDue, is_step_due, opening_ops, closing_ops, leg_ops}
use Rattle.exact_lp.proofs.Budgets.{due_fact, due_test}
use Rattle.perfect_walk.specs.declared.journal.Owed.{Owed}
use Rattle.perfect_walk.specs.Operations.{first_owed_of, of_place}
use Rattle.perfect_walk.specs.States.{Task, WalkState, program_at}
use Rattle.perfect_walk.specs.Ends.{placing_ops}
use Rattle.perfect_walk.proofs.Owes.{owes_first}

-- ---- the front of a list of operations
abbrev IsFirst : List PlaceOp → Owed → Type 0
IsFirst ops o = first_owed_of (map of_place ops) ≡ Some o

opening_first : (p : Problem) (k : ℕ) (o : Owed) → IsFirst (opening_ops p k) o → IsFirst (leg_ops p k) o
opening_first p k o h =
    ap (λ (ops : List Owed). first_owed_of ops) (map-append of_place (opening_ops p k) (closing_ops p k)) ∙ owes_first (map of_place (opening_ops p k)) _ o h

module _ (T : Task) (σ : WalkState) where
  abbrev p : Problem
  p = program_at T σ

  abbrev k : ℕ
  k = length σ.exchanges

  pub in_leg : (b : Bool) (o : Owed) → IsFirst (placing_ops T σ b) o → IsFirst (leg_ops p k) o
  in_leg b o h = by (b && is_step_due p k) h
    where
      by : (c : Bool) → IsFirst (if c then opening_ops p k else leg_ops p k) o → IsFirst (leg_ops p k) o
      by true h = opening_first p k o h
      by false h = h

  pub in_opening : (o : Owed) → IsStepDue p k → IsFirst (placing_ops T σ true) o → IsFirst (opening_ops p k) o
  in_opening o due h = subst (λ (c : Bool). IsFirst (if c then opening_ops p k else leg_ops p k) o) (due_test p k due) h

  pub in_own : (b : Bool) (o : Owed) → (b ≡ true → IsStepDue p k → IsFirst (opening_ops p k) o) → IsFirst (leg_ops p k) o → IsFirst (placing_ops T σ b) o
  in_own false o r h = h
  in_own true o r h = by (is_step_due p k) refl
    where
      by : (c : Bool) → is_step_due p k ≡ c → IsFirst (if c then opening_ops p k else leg_ops p k) o
      by true e = r refl (due_fact p k e)
      by false e = h

  pub in_refused : (o : Owed) → IsStepDue p k → IsFirst (opening_ops p k) o → IsFirst (placing_ops T σ true) o
  in_refused o due h = in_own true o (λ e d. h) (opening_first p k o h)
