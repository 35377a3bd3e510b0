-- At each state the walk ends in one way.
use Rattle.std.specs.Prelude.{◌≡◌, ◌⊎◌, ℕ, ℤ, Bool, true, false, List, Option, Some, None, nat_eq}
use Rattle.std.proofs.Common.{sym, ◌∙◌, ap, refl, subst, inl, inr}
use Rattle.commutative_ring.proofs.SmallCases.{test_of_apart}
use Rattle.unimodular_cone.specs.Answer.{SearchAnswer, BoundWide, Wide, Low, Depth, Copositive, Found}
use Rattle.symmetric_matrix.specs.Symmetric.{Symmetric}
use Rattle.contiguous.specs.Tightenings.{CallsFor}
use Rattle.perfect_walk.specs.declared.journal.Owed.{Owed}
use Rattle.perfect_walk.specs.declared.journal.Step.{Step}
use Rattle.perfect_walk.specs.declared.journal.End.{End}
use Rattle.perfect_walk.specs.declared.journal.End.TheVariants as end
use Rattle.perfect_walk.specs.Operations.{first_owed_of}
use Rattle.perfect_walk.specs.States.{Task, WalkState, level_at, meeting_ops, leg_at, search_ops}
use Rattle.perfect_walk.specs.Next.{Next, IsSearchAt, IsCalledFor}
use Rattle.perfect_walk.specs.Chains.{IsWalkStep, step_of, searched_with}
use Rattle.perfect_walk.specs.Ends.{due_ops, walk_end_of, IsWalkEnd, IsEndByNext, IsOwedAt, Stage, Meeting, Placing, Raying, Pairing, Tightening, stage_own}
use Rattle.perfect_walk.specs.Ends.{searched_at}
use Rattle.perfect_walk.proofs.OneNext.{View, view, one_next, one_answer}
use Rattle.perfect_walk.proofs.FirstDue.{clash, met_leg, placed_leg, leg_rayed, ray_rayed, IsOwing, first_due}

module _ (T : Task) (σ : WalkState) where
  -- a call that owes is refused at its step, whatever comes next
  against : (b : Bool) (stage : Stage) (o : Owed) (next : Next) → IsOwing T σ b stage o → View T σ next → first_owed_of (due_ops T σ b next) ≡ None → ⊥
  against b stage o next h v k = clash (due_ops T σ b next) o k (first_due T σ b stage o next h v)

  -- ---- two calls that owe
  same_vector : (a : SearchAnswer) (z : ℤ) (w x : List ℕ) → CallsFor z w a → CallsFor z x a → w ≡ x
  same_vector Copositive z w x c e = absurd c
  same_vector (Low y v path) z w x c e = c ∙ sym e
  same_vector (Found b vectors) z w x c e = c.1 ∙ sym e.1
  same_vector (Depth path) z w x c e = absurd c
  same_vector (Wide path g) z w x c e = absurd c
  same_vector (BoundWide b) z w x c e = absurd c

  one_vector : (w x : List ℕ) → IsCalledFor T σ w → IsCalledFor T σ x → w ≡ x
  one_vector w x c e = same_vector e.answer (level_at T σ) w x
      (subst (λ (a : SearchAnswer). CallsFor (level_at T σ) w a) (one_answer T σ c.answer e.answer c.is_answer e.is_answer) c.calls) e.calls

  not_both : (w : List ℕ) → IsSearchAt T σ Copositive → IsCalledFor T σ w → ⊥
  not_both w s c = subst (λ (a : SearchAnswer). CallsFor (level_at T σ) w a) (one_answer T σ c.answer Copositive c.is_answer s) c.calls

  -- are one
  pub same_stage : (b : Bool) (s t : Stage) (o u : Owed) → IsOwing T σ b s o → IsOwing T σ b t u → s ≡ t
  same_stage b Meeting Meeting o u h k = refl
  same_stage b Meeting Placing o u h k = absurd (clash (meeting_ops T σ) o k.1 h.2)
  same_stage b Meeting Raying o u h k = absurd (clash (leg_at T σ) o k.1 (met_leg T σ o h.2))
  same_stage b Meeting Pairing o u h k = absurd (clash (search_ops T σ) o k.1 (leg_rayed T σ o (met_leg T σ o h.2) h.0.tightens))
  same_stage b Meeting (Tightening w) o u h k = absurd (clash (search_ops T σ) o k.1 (leg_rayed T σ o (met_leg T σ o h.2) h.0.tightens))
  same_stage b Placing Meeting o u h k = absurd (clash (meeting_ops T σ) u h.1 k.2)
  same_stage b Placing Placing o u h k = refl
  same_stage b Placing Raying o u h k = absurd (clash (leg_at T σ) o k.1 (placed_leg T σ b o h.1 h.2))
  same_stage b Placing Pairing o u h k = absurd (clash (search_ops T σ) o k.1 (leg_rayed T σ o (placed_leg T σ b o h.1 h.2) h.0.tightens))
  same_stage b Placing (Tightening w) o u h k = absurd (clash (search_ops T σ) o k.1 (leg_rayed T σ o (placed_leg T σ b o h.1 h.2) h.0.tightens))
  same_stage b Raying Meeting o u h k = absurd (clash (leg_at T σ) u h.1 (met_leg T σ u k.2))
  same_stage b Raying Placing o u h k = absurd (clash (leg_at T σ) u h.1 (placed_leg T σ b u k.1 k.2))
  same_stage b Raying Raying o u h k = refl
  same_stage b Raying Pairing o u h k = absurd (clash (search_ops T σ) o k.1 (ray_rayed T σ b o h.1 h.2 h.0.0.tightens))
  same_stage b Raying (Tightening w) o u h k = absurd (clash (search_ops T σ) o k.1 (ray_rayed T σ b o h.1 h.2 h.0.0.tightens))
  same_stage b Pairing Meeting o u h k = absurd (clash (search_ops T σ) u h.1 (leg_rayed T σ u (met_leg T σ u k.2) k.0.tightens))
  same_stage b Pairing Placing o u h k = absurd (clash (search_ops T σ) u h.1 (leg_rayed T σ u (placed_leg T σ b u k.1 k.2) k.0.tightens))
  same_stage b Pairing Raying o u h k = absurd (clash (search_ops T σ) u h.1 (ray_rayed T σ b u k.1 k.2 k.0.0.tightens))
  same_stage b Pairing Pairing o u h k = refl
  same_stage b Pairing (Tightening w) o u h k = absurd (not_both w h.0 k.0.0)
  same_stage b (Tightening w) Meeting o u h k = absurd (clash (search_ops T σ) u h.1 (leg_rayed T σ u (met_leg T σ u k.2) k.0.tightens))
  same_stage b (Tightening w) Placing o u h k = absurd (clash (search_ops T σ) u h.1 (leg_rayed T σ u (placed_leg T σ b u k.1 k.2) k.0.tightens))
  same_stage b (Tightening w) Raying o u h k = absurd (clash (search_ops T σ) u h.1 (ray_rayed T σ b u k.1 k.2 k.0.0.tightens))
  same_stage b (Tightening w) Pairing o u h k = absurd (not_both w k.0 h.0.0)
  same_stage b (Tightening w) (Tightening x) o u h k = ap (λ (w : List ℕ). Tightening w) (one_vector w x h.0.0 k.0.0)

  -- ---- ends
  module _ (limit count : ℕ) where
    abbrev IsSameEnd : Option Symmetric → Option Symmetric → End → End → Type 0
    IsSameEnd x y d e = ((x ≡ y) × (d ≡ e)) ⊎ ((d ≡ end.OutOfMemory) ⊎ (e ≡ end.OutOfMemory))

    owed_or_next : (x y : Option Symmetric) (d e : End) (o : Owed) → IsOwedAt T limit σ count x o → IsEndByNext T limit σ count y e → ⊥
    owed_or_next x y d e o O N = against (nat_eq count limit) O.stage o N.next (O.is_stage, O.owes, O.first) (view T σ N.next N.is_next) N.owes

    pub one_end : (x y : Option Symmetric) (d e : End) → IsWalkEnd T limit σ count x d → IsWalkEnd T limit σ count y e → IsSameEnd x y d e
    one_end x y d e (inl N) (inl M) =
        let same : N.next ≡ M.next = one_next T σ N.next M.next N.is_next M.is_next in
        inl (
          N.searched_is ∙ ap (λ (n : Next). searched_with T σ n) same ∙ sym M.searched_is,
          N.end_is ∙ ap (λ (n : Next). walk_end_of T σ n) same
              ∙ sym M.end_is,
        )
    one_end x y d e (inl N) (inr (inl (o, O, is))) = absurd (owed_or_next y x e d o O N)
    one_end x y d e (inl N) (inr (inr M)) = inr (inr M.memory)
    one_end x y d e (inr (inl (o, O, is))) (inl N) = absurd (owed_or_next x y d e o O N)
    one_end x y d e (inr (inl (o, O, is))) (inr (inl (u, U, was))) =
        let same : O.stage ≡ U.stage = same_stage (nat_eq count limit) O.stage U.stage o u (O.is_stage, O.owes, O.first) (U.is_stage, U.owes, U.first) in
        let owed : Some o ≡ Some u = sym O.first ∙ ap (λ (s : Stage). first_owed_of (stage_own T σ (nat_eq count limit) s)) same ∙ U.first in
        let o_is : o ≡ u = cc in
        inl (O.searched_is ∙ ap (λ (s : Stage). searched_at T σ s) same ∙ sym U.searched_is, is ∙ ap (λ (o : Owed). end.Overflow o) o_is ∙ sym was)
    one_end x y d e (inr (inl O)) (inr (inr M)) = inr (inr M.memory)
    one_end x y d e (inr (inr M)) other = inr (inl M.memory)

    -- an end at a state from which another journal goes on
    pub not_ended : (x : Option Symmetric) (d : End) (y : Step) (ρ : WalkState) → IsWalkEnd T limit σ count x d → IsWalkStep T σ y ρ → (count ≡ limit → ⊥)
        → d ≡ end.OutOfMemory
    not_ended x d y ρ (inl N) S more = absurd (by N.used)
      where
        same : N.next ≡ S.next
        same = one_next T σ N.next S.next N.is_next S.is_next

        by : ((step_of N.next ≡ None) ⊎ (count ≡ limit)) → ⊥
        by (inl none) = let k : None ≡ Some y = sym none ∙ ap step_of same ∙ S.made in cc
        by (inr used) = more used
    not_ended x d y ρ (inr (inl (o, O, is))) S more = absurd
        (against (nat_eq count limit) O.stage o S.next (O.is_stage, O.owes, O.first) (view T σ S.next S.is_next)
        (subst (λ (b : Bool). first_owed_of (due_ops T σ b S.next) ≡ None) (sym (test_of_apart count limit more)) S.owes))
    not_ended x d y ρ (inr (inr M)) S more = M.memory
