-- An operation that is owed is the first one that is, of all that are due, whatever comes next.
use Rattle.std.specs.Prelude.{◌≡◌, ◌⊎◌, ℕ, ℤ, pos, ◌<ℤ◌, Bool, true, false, List, [], Option, Some, None, nat_eq}
use Rattle.std.proofs.Common.{sym, ◌∙◌, ap, refl, subst, inl, inr, arith}
use Rattle.exact_forms.specs.Rational.{Rational}
use Rattle.unimodular_cone.specs.Paths.{Path}
use Rattle.unimodular_cone.specs.declared.WideAt.{WideAt}
use Rattle.unimodular_cone.specs.Answer.{SearchAnswer, BoundWide, Wide, Low, Depth, Copositive, Found}
use Rattle.exact_lp.specs.declared.placed.Exchange.{Exchange}
use Rattle.contiguous.specs.declared.neighbour.Tighten.{Tighten}
use Rattle.contiguous.proofs.Candidates.{vector_is}
use Rattle.contiguous.specs.Tightenings.{tighten_of, first_vector, CallsFor, Line, last_tighten}
use Rattle.perfect_walk.specs.declared.journal.Owed.{Owed}
use Rattle.perfect_walk.specs.declared.journal.Visit.{Visit}
use Rattle.perfect_walk.specs.Operations.{first_owed_of}
use Rattle.perfect_walk.specs.States.{Task, WalkState, ray_at, line_at, search_target_at, level_at, product_at, inner_at, meeting_ops, search_ops}
use Rattle.perfect_walk.specs.States.{tightening_ops, leg_at, rayed_ops}
use Rattle.perfect_walk.specs.Next.{Next, ByMatrix, Exchanged, Factored, ByRay, Tightened, Moved, Undecided, TooWide, BoundTooWide, IsFresh, IsPlacing}
use Rattle.perfect_walk.specs.Next.{IsStepNext, IsInsideNow, IsSearchAt}
use Rattle.perfect_walk.specs.Ends.{due_ops, Stage, Meeting, Placing, Raying, Pairing, Tightening, stage_own, IsStage, stage_before}
use Rattle.perfect_walk.specs.Theorems.{OwedIsFirstDue}
use Rattle.perfect_walk.proofs.Owes.{owes_then, owes_first}
use Rattle.perfect_walk.proofs.Placings.{in_opening, in_leg}
use Rattle.perfect_walk.proofs.OneNext.{BySearch, View, view, one_answer, at_ray, not_met, step_not_outside, inside_not_outside}
use Rattle.std.proofs.lemmas.Int.{ints}
use Rattle.perfect_walk.proofs.Tightening.{last_none}

pub clash : (ops : List Owed) (o : Owed) → first_owed_of ops ≡ None → first_owed_of ops ≡ Some o → ⊥
clash ops o h k = let e : None ≡ Some o = sym h ∙ k in cc

module _ (T : Task) (σ : WalkState) where
  -- the ray's operations come before its search
  rayed : σ.tightens ≡ [] → search_ops T σ ≡ rayed_ops T σ
  rayed e = ap (λ (o : Option Tighten). elim o as (λ _. List Owed) [ None ↦ rayed_ops T σ | Some t ↦ [] ]) (ap last_tighten e ∙ last_none)

  -- ---- a call that owes, against a later list
  pub met_leg : (o : Owed) → first_owed_of (meeting_ops T σ) ≡ Some o → first_owed_of (leg_at T σ) ≡ Some o
  met_leg o h = owes_first (meeting_ops T σ) _ o h

  pub placed_leg : (b : Bool) (o : Owed) → first_owed_of (meeting_ops T σ) ≡ None → first_owed_of (stage_own T σ b Placing) ≡ Some o
      → first_owed_of (leg_at T σ) ≡ Some o
  placed_leg b o n h = owes_then (meeting_ops T σ) _ (Some o) n (in_leg T σ b o h)

  pub leg_rayed : (o : Owed) → first_owed_of (leg_at T σ) ≡ Some o → σ.tightens ≡ [] → first_owed_of (search_ops T σ) ≡ Some o
  leg_rayed o h e = ap (λ (ops : List Owed). first_owed_of ops) (rayed e) ∙ owes_first (leg_at T σ) _ o h

  pub ray_rayed : (b : Bool) (o : Owed) → first_owed_of (stage_before T σ Raying) ≡ None → first_owed_of (stage_own T σ b Raying) ≡ Some o → σ.tightens ≡ []
      → first_owed_of (search_ops T σ) ≡ Some o
  ray_rayed b o n h e = ap (λ (ops : List Owed). first_owed_of ops) (rayed e) ∙ owes_then (leg_at T σ) _ (Some o) n h

  -- the Tighten that a search calls for
  pub by_called : (a : SearchAnswer) (w : List ℕ) (next : Next) → CallsFor (level_at T σ) w a → BySearch T σ a next
      → ((next ≡ Tightened (tighten_of (line_at T σ) w)) ⊎ ⊥)
  by_called Copositive w next c e = absurd c
  by_called (Low x z path) w next c e = inl (e ∙ ap (λ (w : List ℕ). Tightened (tighten_of (line_at T σ) w)) (sym c))
  by_called (Found b vectors) w next c (inl e) = inl (e.1 ∙ ap (λ (w : List ℕ). Tightened (tighten_of (line_at T σ) w)) (sym c.1))
  by_called (Found b vectors) w next c (inr e) = absurd (let l = c.0 in let k = e.0 in grind (arith, ints))
  by_called (Depth path) w next c e = absurd c
  by_called (Wide path g) w next c e = absurd c
  by_called (BoundWide z) w next c e = absurd c

  -- a call that owes
  abbrev pub IsOwing : Bool → Stage → Owed → Type 0
  IsOwing b stage o = (IsStage T σ b stage) × (first_owed_of (stage_before T σ stage) ≡ None) × (first_owed_of (stage_own T σ b stage) ≡ Some o)

module _ (T : Task) (σ : WalkState) where
  as_next : (b : Bool) (n m : Next) (o : Owed) → n ≡ m → first_owed_of (due_ops T σ b m) ≡ Some o → first_owed_of (due_ops T σ b n) ≡ Some o
  as_next b n m o e h = subst (λ (n : Next). first_owed_of (due_ops T σ b n) ≡ Some o) (sym e) h

  -- the search's part is a front
  ray_front : (b : Bool) (o : Owed) → first_owed_of (search_ops T σ) ≡ Some o → first_owed_of (due_ops T σ b ByRay) ≡ Some o
  ray_front true o h = owes_first (search_ops T σ) _ o h
  ray_front false o h = owes_first (search_ops T σ) _ o h

  tighten_front : (b : Bool) (o : Owed) (t : Tighten) → first_owed_of (search_ops T σ) ≡ Some o → first_owed_of (due_ops T σ b (Tightened t)) ≡ Some o
  tighten_front true o t h = h
  tighten_front false o t h = owes_first (search_ops T σ) _ o h

  move_front : (b : Bool) (o : Owed) (v : Visit) → first_owed_of (search_ops T σ) ≡ Some o → first_owed_of (due_ops T σ b (Moved v)) ≡ Some o
  move_front true o v h = h
  move_front false o v h = h

  depth_front : (b : Bool) (o : Owed) (path : Path) → first_owed_of (search_ops T σ) ≡ Some o → first_owed_of (due_ops T σ b (Undecided path)) ≡ Some o
  depth_front true o path h = h
  depth_front false o path h = h

  wide_front : (b : Bool) (o : Owed) (g : WideAt) → first_owed_of (search_ops T σ) ≡ Some o → first_owed_of (due_ops T σ b (TooWide g)) ≡ Some o
  wide_front true o g h = h
  wide_front false o g h = h

  bound_front : (b : Bool) (o : Owed) (z : ℤ) → first_owed_of (search_ops T σ) ≡ Some o → first_owed_of (due_ops T σ b (BoundTooWide z)) ≡ Some o
  bound_front true o z h = h
  bound_front false o z h = h

  front : (b : Bool) (o : Owed) (a : SearchAnswer) (next : Next) → BySearch T σ a next → first_owed_of (search_ops T σ) ≡ Some o
      → first_owed_of (due_ops T σ b next) ≡ Some o
  front b o Copositive next e h = as_next b next ByRay o e (ray_front b o h)
  front b o (Low w z path) next e h = as_next b next (Tightened (tighten_of (line_at T σ) w)) o e (tighten_front b o (tighten_of (line_at T σ) w) h)
  front b o (Found m vectors) next (inl e) h = as_next b next (Tightened (tighten_of (line_at T σ) (first_vector vectors))) o e.1
      (tighten_front b o (tighten_of (line_at T σ) (first_vector vectors)) h)
  front b o (Found m vectors) next (inr e) h = as_next b next (Moved (record { matrix = search_target_at T σ; mu = m; vectors = vectors })) o e.1
      (move_front b o (record { matrix = search_target_at T σ; mu = m; vectors = vectors }) h)
  front b o (Depth path) next e h = as_next b next (Undecided path) o e (depth_front b o path h)
  front b o (Wide path g) next e h = as_next b next (TooWide (record { path = path; entry = g })) o e (wide_front b o (record { path = path; entry = g }) h)
  front b o (BoundWide z) next e h = as_next b next (BoundTooWide z) o e (bound_front b o z h)

  -- ---- by what comes next
  by_matrix : (b : Bool) (stage : Stage) (o : Owed) → IsOwing T σ b stage o → IsFresh σ → product_at T σ <ℤ pos 0
      → first_owed_of (due_ops T σ b ByMatrix) ≡ Some o
  by_matrix true Meeting o h f n = h.2
  by_matrix false Meeting o h f n = h.2
  by_matrix b Placing o h f n = absurd (not_met T σ f n h.0)
  by_matrix b Raying o h f n = absurd (not_met T σ f n h.0.0)
  by_matrix b Pairing o h f n = absurd (not_met T σ f n (at_ray T σ Copositive f.tightens h.0).placing)
  by_matrix b (Tightening w) o h f n = absurd (not_met T σ f n (at_ray T σ h.0.0.answer f.tightens h.0.0.is_answer).placing)

  by_step : (b : Bool) (stage : Stage) (o : Owed) (e : Exchange) → IsOwing T σ b stage o → IsPlacing T σ → IsStepNext T σ e
      → first_owed_of (due_ops T σ b (Exchanged e)) ≡ Some o
  by_step true Meeting o e h p s = owes_first (meeting_ops T σ) _ o h.2
  by_step false Meeting o e h p s = owes_first (meeting_ops T σ) _ o h.2
  by_step true Placing o e h p s = owes_then (meeting_ops T σ) _ (Some o) h.1 (in_opening T σ o s.due h.2)
  by_step false Placing o e h p s = placed_leg T σ false o h.1 h.2
  by_step b Raying o e h p s = absurd (step_not_outside T σ e s h.0.1)
  by_step b Pairing o e h p s = absurd (step_not_outside T σ e s (at_ray T σ Copositive p.tightens h.0).outside)
  by_step b (Tightening w) o e h p s = absurd (step_not_outside T σ e s (at_ray T σ h.0.0.answer p.tightens h.0.0.is_answer).outside)

  by_inside : (b : Bool) (stage : Stage) (o : Owed) (f : List Rational) → IsOwing T σ b stage o → IsPlacing T σ → IsInsideNow T σ f
      → first_owed_of (due_ops T σ b (Factored f)) ≡ Some o
  by_inside true Meeting o f h p i = owes_first (meeting_ops T σ) _ o h.2
  by_inside false Meeting o f h p i = owes_first (meeting_ops T σ) _ o h.2
  by_inside true Placing o f h p i = placed_leg T σ true o h.1 h.2
  by_inside false Placing o f h p i = placed_leg T σ false o h.1 h.2
  by_inside b Raying o f h p i = absurd (inside_not_outside T σ f i h.0.1)
  by_inside b Pairing o f h p i = absurd (inside_not_outside T σ f i (at_ray T σ Copositive p.tightens h.0).outside)
  by_inside b (Tightening w) o f h p i = absurd (inside_not_outside T σ f i (at_ray T σ h.0.0.answer p.tightens h.0.0.is_answer).outside)

  paired : (b : Bool) (o : Owed) → first_owed_of (search_ops T σ) ≡ None → first_owed_of (inner_at (ray_at T σ) T.s) ≡ Some o
      → first_owed_of (due_ops T σ b ByRay) ≡ Some o
  paired true o n h = owes_then (search_ops T σ) _ (Some o) n h
  paired false o n h = owes_then (search_ops T σ) _ (Some o) n h

  tightened : (b : Bool) (o : Owed) (w : List ℕ) → first_owed_of (search_ops T σ) ≡ None → first_owed_of (stage_own T σ b (Tightening w)) ≡ Some o → b ≡ false
      → first_owed_of (due_ops T σ b (Tightened (tighten_of (line_at T σ) w))) ≡ Some o
  tightened true o w n h r = absurd cc
  tightened false o w n h r = subst (λ (w : List ℕ). first_owed_of (tightening_ops T σ w) ≡ Some o) (sym (vector_is (line_at T σ) w))
      (owes_then (search_ops T σ) _ (Some o) n h)

  by_search : (b : Bool) (stage : Stage) (o : Owed) (a : SearchAnswer) (next : Next) → IsOwing T σ b stage o → IsSearchAt T σ a → BySearch T σ a next
      → first_owed_of (due_ops T σ b next) ≡ Some o
  by_search b Meeting o a next h s e = front b o a next e (leg_rayed T σ o (met_leg T σ o h.2) h.0.tightens)
  by_search b Placing o a next h s e = front b o a next e (leg_rayed T σ o (placed_leg T σ b o h.1 h.2) h.0.tightens)
  by_search b Raying o a next h s e = front b o a next e (ray_rayed T σ b o h.1 h.2 h.0.0.tightens)
  by_search b Pairing o a next h s e = as_next b next ByRay o (subst (λ (a : SearchAnswer). BySearch T σ a next) (one_answer T σ a Copositive s h.0) e)
      (paired b o h.1 h.2)
  by_search b (Tightening w) o a next h s e = by
      (by_called T σ a w next (subst (λ (a : SearchAnswer). CallsFor (level_at T σ) w a) (one_answer T σ h.0.0.answer a h.0.0.is_answer s) h.0.0.calls) e)
    where
      by : ((next ≡ Tightened (tighten_of (line_at T σ) w)) ⊎ ⊥) → first_owed_of (due_ops T σ b next) ≡ Some o
      by (inl is) = as_next b next (Tightened (tighten_of (line_at T σ) w)) o is (tightened b o w h.1 h.2 h.0.1)
      by (inr none) = absurd none

  pub first_due : (b : Bool) (stage : Stage) (o : Owed) (next : Next) → IsOwing T σ b stage o → View T σ next → first_owed_of (due_ops T σ b next) ≡ Some o
  first_due b stage o next h (inl v) = as_next b next ByMatrix o v.0 (by_matrix b stage o h v.1 v.2)
  first_due b stage o next h (inr (inl (e, is, p, s))) = as_next b next (Exchanged e) o is (by_step b stage o e h p s)
  first_due b stage o next h (inr (inr (inl (f, is, p, i)))) = as_next b next (Factored f) o is (by_inside b stage o f h p i)
  first_due b stage o next h (inr (inr (inr (a, s, e)))) = by_search b stage o a next h s e

pub owed_is_first_due : OwedIsFirstDue
owed_is_first_due T limit σ count searched o O next is =
    first_due T σ (nat_eq count limit) O.stage o next (O.is_stage, O.owes, O.first) (view T σ next is)
