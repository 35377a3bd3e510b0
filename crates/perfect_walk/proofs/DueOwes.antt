-- Whatever comes next, the first operation that is owed of all that are due is owed at the end.
use Rattle.std.specs.Prelude.{◌≡◌, ◌⊎◌, ℕ, ℤ, pos, ◌<ℤ◌, Bool, true, false, List, [], ◌∷◌, ◌++◌, map, length, Option, Some, None, nat_eq}
use Rattle.std.proofs.Common.{sym, ◌∙◌, ap, refl, subst, inl, inr}
use Rattle.symmetric_matrix.specs.Symmetric.{Symmetric}
use Rattle.unimodular_cone.specs.Answer.{SearchAnswer, BoundWide, Wide, Depth, Copositive, Found}
use Rattle.exact_lp.specs.declared.placed.Exchange.{Exchange}
use Rattle.exact_lp.specs.declared.placed.PlaceOp.{PlaceOp}
use Rattle.exact_linear.specs.Tables.{is_there}
use Rattle.exact_lp.specs.Placement.{IsStepDue, opening_ops, leg_ops}
use Rattle.contiguous.specs.declared.neighbour.Tighten.{Tighten}
use Rattle.contiguous.specs.Tightenings.{last_tighten}
use Rattle.perfect_walk.specs.declared.journal.Owed.{Owed}
use Rattle.perfect_walk.specs.Operations.{first_owed_of, of_place}
use Rattle.perfect_walk.specs.States.{Task, WalkState, program_at, inner_at, meeting_ops, leg_at, rayed_ops, search_ops, pairing_ops}
use Rattle.perfect_walk.specs.Next.{Next, ByMatrix, Exchanged, Factored, ByRay, Tightened, Moved, Undecided, TooWide, BoundTooWide, ComesNext, IsPlacing}
use Rattle.perfect_walk.specs.Next.{IsOutsideNow, IsAtRay, IsSearchAt}
use Rattle.perfect_walk.specs.Ends.{due_ops, Stage, Meeting, Placing, Raying, Pairing, Tightening, IsStage, stage_before, stage_own, searched_at, IsOwedAt}
use Rattle.perfect_walk.specs.Theorems.{FirstDueIsOwed}
use Rattle.perfect_walk.proofs.Owes.{nothing, owes_then, owes_first}
use Rattle.perfect_walk.proofs.Placings.{in_own, in_refused}

-- what is owed of two lists is owed in the first, or in the second where the first owes nothing
split : {A : Type 0} (xs ys : List Owed) (o : Owed) → first_owed_of (xs ++ ys) ≡ Some o → (first_owed_of xs ≡ Some o → A)
    → (first_owed_of xs ≡ None → first_owed_of ys ≡ Some o → A) → A
split {A} xs ys o h here behind = by (first_owed_of xs) refl
  where
    by : (p : Option Owed) → first_owed_of xs ≡ p → A
    by None e = behind e (sym (owes_then xs ys (first_owed_of ys) e refl) ∙ h)
    by (Some p) e = here (e ∙ sym (owes_first xs ys p e) ∙ h)

module _ (T : Task) (limit : ℕ) (σ : WalkState) (count : ℕ) where
  abbrev IsEnding : Owed → Type 0
  IsEnding o = (searched : Option Symmetric) × IsOwedAt T limit σ count searched o

  at_stage : (stage : Stage) (o : Owed) → IsStage T σ (nat_eq count limit) stage → first_owed_of (stage_before T σ stage) ≡ None
      → first_owed_of (stage_own T σ (nat_eq count limit) stage) ≡ Some o → IsEnding o
  at_stage stage o is owes first = (searched_at T σ stage, record { stage = stage; is_stage = is; owes = owes; first = first; searched_is = refl })

  meeting : (o : Owed) → σ.tightens ≡ [] → first_owed_of (meeting_ops T σ) ≡ Some o → IsEnding o
  meeting o t h = by σ.exchanges refl h
    where
      by : (es : List Exchange) → σ.exchanges ≡ es → first_owed_of (elim es as (λ _. List Owed) [ [] ↦ inner_at σ.visit.matrix T.s | e ∷ es ↦ [] ]) ≡ Some o
          → IsEnding o
      by [] e k = at_stage Meeting o (record { exchanges = e; tightens = t }) nothing h
      by (x ∷ xs) e k = absurd (let n : None ≡ Some o = sym nothing ∙ k in cc)

  abbrev legs : List PlaceOp
  legs = leg_ops (program_at T σ) (length σ.exchanges)

  placing : (o : Owed) → IsPlacing T σ → first_owed_of (leg_at T σ) ≡ Some o
      → (nat_eq count limit ≡ true → IsStepDue (program_at T σ) (length σ.exchanges)
      → first_owed_of (map of_place (opening_ops (program_at T σ) (length σ.exchanges))) ≡ Some o) → IsEnding o
  placing o p h r =
      split (meeting_ops T σ) (map of_place legs) o h (meeting o p.tightens) (λ first k. at_stage Placing o p first (in_own T σ (nat_eq count limit) o r k))

  no_step : IsOutsideNow T σ → IsStepDue (program_at T σ) (length σ.exchanges) → ⊥
  no_step h due = let a = due.vector in let b = ap is_there h.none in cc

  raying : (o : Owed) → IsAtRay T σ → first_owed_of (rayed_ops T σ) ≡ Some o → IsEnding o
  raying o A h =
      split (leg_at T σ) (stage_own T σ (nat_eq count limit) Raying) o h
      (λ k. placing o A.placing k (λ c due. absurd (no_step A.outside due))) (at_stage Raying o (A.placing, A.outside))

  searching : (o : Owed) (a : SearchAnswer) → IsSearchAt T σ a → first_owed_of (search_ops T σ) ≡ Some o → IsEnding o
  searching o a s h = by (last_tighten σ.tightens) refl h
    where
      by : (t : Option Tighten) → last_tighten σ.tightens ≡ t → first_owed_of (elim t as (λ _. List Owed) [ None ↦ rayed_ops T σ | Some t ↦ [] ]) ≡ Some o
          → IsEnding o
      by None e k = raying o (s.at_ray e) k
      by (Some t) e k = absurd (let n : None ≡ Some o = sym nothing ∙ k in cc)

  pairing : (o : Owed) → IsSearchAt T σ Copositive → first_owed_of (pairing_ops T σ) ≡ Some o → IsEnding o
  pairing o s h =
      split (search_ops T σ) (stage_own T σ (nat_eq count limit) Pairing) o h (searching o Copositive s) (at_stage Pairing o s)

  -- ---- by what comes next
  by_next : (b : Bool) → nat_eq count limit ≡ b → (next : Next) (o : Owed) → ComesNext T σ next → first_owed_of (due_ops T σ b next) ≡ Some o → IsEnding o
  by_next true e ByMatrix o h k = meeting o h.0.tightens k
  by_next false e ByMatrix o h k = meeting o h.0.tightens k
  by_next true e (Exchanged x) o h k =
      split (meeting_ops T σ) (map of_place (opening_ops (program_at T σ) (length σ.exchanges))) o k (meeting o h.0.tightens) (λ first k.
      at_stage Placing o h.0 first (subst (λ (b : Bool). first_owed_of (stage_own T σ b Placing) ≡ Some o) (sym e) (in_refused T σ o h.1.due k)))
  by_next false e (Exchanged x) o h k = placing o h.0 k (λ c. absurd cc)
  by_next true e (Factored f) o h k = placing o h.0 k (λ c due. absurd (let a = due.not_last in let b = h.1.last in cc))
  by_next false e (Factored f) o h k = placing o h.0 k (λ c due. absurd (let a = due.not_last in let b = h.1.last in cc))
  by_next true e ByRay o h k = pairing o h k
  by_next false e ByRay o h k = pairing o h k
  by_next true e (Tightened t) o h k = searching o h.0.answer h.0.is_answer k
  by_next false e (Tightened t) o h k =
      split (search_ops T σ) (stage_own T σ (nat_eq count limit) (Tightening t.vector)) o k (searching o h.0.answer h.0.is_answer)
      (at_stage (Tightening t.vector) o (h.0, e))
  by_next true e (Moved v) o h k = searching o (Found v.mu v.vectors) h.search k
  by_next false e (Moved v) o h k = searching o (Found v.mu v.vectors) h.search k
  by_next true e (Undecided path) o h k = searching o (Depth path) h k
  by_next false e (Undecided path) o h k = searching o (Depth path) h k
  by_next true e (TooWide g) o h k = searching o (Wide g.path g.entry) h k
  by_next false e (TooWide g) o h k = searching o (Wide g.path g.entry) h k
  by_next true e (BoundTooWide z) o h k = searching o (BoundWide z) h k
  by_next false e (BoundTooWide z) o h k = searching o (BoundWide z) h k

pub first_due_is_owed : FirstDueIsOwed
first_due_is_owed T limit σ count next o is h = by_next T limit σ count (nat_eq count limit) refl next o is h
