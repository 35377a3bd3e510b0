-- The tightenings along a ray as steps of the walk, and the answers on the way as ends of the walk.
use Rattle.std.specs.Prelude.{◌≡◌, ◌≢◌, ℕ, zero, suc, ◌+◌, ◌<◌, ◌≤◌, ℤ, pos, Bool, true, false, ◌⊎◌, List, [], ◌∷◌, ◌++◌, map, length, Option, Some, None}
use Rattle.std.specs.Prelude.{if◌then◌else◌, nat_eq}
use Rattle.std.proofs.Common.{arith, sym, ◌∙◌, ap, ap₂, refl, subst, inl, inr, append_assoc, append-nil, length-append, eq-eqb}
use Rattle.std.proofs.lemmas.List.{length-map}
use Rattle.symmetric_matrix.specs.Owed.{first_owed}
use Rattle.symmetric_matrix.specs.Symmetric.{Symmetric, entry}
use Rattle.symmetric_matrix.proofs.Owed.{first_owed-append_none, first_owed-append_some}
use Rattle.unimodular_cone.specs.declared.Mode.{Mode}
use Rattle.unimodular_cone.specs.Answer.{SearchAnswer, BoundWide, Wide, Low, Depth, Copositive, Found, IsSearchAnswer}
use Rattle.exact_lp.specs.declared.placed.Exchange.{Exchange}
use Rattle.contiguous.specs.declared.neighbour.Tighten.{Tighten}
use Rattle.contiguous.specs.declared.neighbour.NeighbourOp.{NeighbourOp}
use Rattle.contiguous.specs.declared.neighbour.NeighbourOp.TheVariants as op
use Rattle.contiguous.specs.Tightenings.{Line, candidate, level, tighten_of, tighten_ops, neighbour_is_owed, CallsFor, IsNextVector, AreNextTightens}
use Rattle.contiguous.specs.Tightenings.{AreTightens, last_tighten, tightens_ops, IsRunAlong, IsCandidateAnswer, IsFoundAnswer, IsVectorDue, IsOperationOwed}
use Rattle.contiguous.specs.Tightenings.{IsTightenRefused, searched_after}
use Rattle.contiguous.proofs.Ways.{last_push}
use Rattle.perfect_walk.specs.declared.journal.Visit.{Visit}
use Rattle.perfect_walk.specs.declared.journal.Owed.{Owed}
use Rattle.perfect_walk.specs.declared.journal.Step.{Step}
use Rattle.perfect_walk.specs.declared.journal.Step.TheVariants as step
use Rattle.perfect_walk.specs.Operations.{first_owed_of, of_neighbour}
use Rattle.perfect_walk.specs.States.{Task, WalkState, ray_at, line_at, search_target_at, mode_at, level_at, rayed_ops, search_ops, tightening_ops}
use Rattle.perfect_walk.specs.Next.{IsAtRay, IsSearchAt, IsCalledFor, Tightened}
use Rattle.perfect_walk.specs.Chains.{IsWalkStep, IsWalkRun}
use Rattle.perfect_walk.proofs.Runs.{run_none, run_one, run_append}
use Rattle.perfect_walk.proofs.Owes.{nothing, owes_then, owes_first, neighbour_none, neighbour_some}

-- ---- lists of Tightens
last_one : (t : Tighten) → last_tighten (t ∷ []) ≡ Some t
unfolding last_tighten
last_one t = refl

pub last_none : last_tighten [] ≡ None
unfolding last_tighten
last_none = refl

ops_more : (l : Line) (t : Tighten) (ts : List Tighten) → tightens_ops l (t ∷ ts) ≡ tighten_ops l t.vector ++ tightens_ops l ts
unfolding tightens_ops
ops_more l t ts = refl

head_by : (l : Line) (t : Tighten) (ts : List Tighten) (o : Option NeighbourOp) → first_owed neighbour_is_owed (tighten_ops l t.vector) ≡ o
    → first_owed neighbour_is_owed (tightens_ops l (t ∷ ts)) ≡ None → o ≡ None
head_by l t ts None e h = refl
head_by l t ts (Some o) e h = absurd
    (let w : first_owed neighbour_is_owed (tightens_ops l (t ∷ ts)) ≡ Some o = ap (λ ops. first_owed neighbour_is_owed ops) (ops_more l t ts)
    ∙ first_owed-append_some neighbour_is_owed (tighten_ops l t.vector) (tightens_ops l ts) o e in cc)

head_none : (l : Line) (t : Tighten) (ts : List Tighten) → first_owed neighbour_is_owed (tightens_ops l (t ∷ ts)) ≡ None
    → first_owed neighbour_is_owed (tighten_ops l t.vector) ≡ None
head_none l t ts h = head_by l t ts (first_owed neighbour_is_owed (tighten_ops l t.vector)) refl h

rest_none : (l : Line) (t : Tighten) (ts : List Tighten) → first_owed neighbour_is_owed (tightens_ops l (t ∷ ts)) ≡ None
    → first_owed neighbour_is_owed (tightens_ops l ts) ≡ None
rest_none l t ts h =
    sym (first_owed-append_none neighbour_is_owed (tighten_ops l t.vector) (tightens_ops l ts) (head_none l t ts h))
    ∙ sym (ap (λ ops. first_owed neighbour_is_owed ops) (ops_more l t ts)) ∙ h

vector_is : (l : Line) (t : Tighten) (w : List ℕ) → t ≡ tighten_of l w → w ≡ t.vector
unfolding tighten_of
vector_is l t w h = sym (ap (λ (t : Tighten). t.vector) h)

-- ---- the states along a ray
module _ (T : Task) (v : Visit) (es : List Exchange) where
  abbrev pub along : List Tighten → Option Symmetric → WalkState
  along ts x = record { visit = v; exchanges = es; tightens = ts; searched = x }

  abbrev pub l : Line
  l = line_at T (along [] None)

  -- after a Tighten
  pub search_after : (ts : List Tighten) (x : Option Symmetric) (t : Tighten) (a : SearchAnswer) → last_tighten ts ≡ Some t
      → IsSearchAnswer Mode.Least (candidate l t).size (entry (candidate l t)) T.depth a → IsSearchAt T (along ts x) a
  search_after ts x t a e h = record {
    at_ray = λ n. absurd cc;
    answers = subst (λ (o : Option Tighten). IsSearchAnswer (elim o as (λ _. Mode) [ None ↦ Mode.Sign | Some t ↦ Mode.Least ])
        (elim o as (λ _. Symmetric) [ None ↦ ray_at T (along [] None) | Some t ↦ candidate l t ]).size
        (entry (elim o as (λ _. Symmetric) [ None ↦ ray_at T (along [] None) | Some t ↦ candidate l t ])) T.depth a) (sym e) h;
  }

  pub level_after : (ts : List Tighten) (x : Option Symmetric) (t : Tighten) → last_tighten ts ≡ Some t → level_at T (along ts x) ≡ level l t
  level_after ts x t e = ap (λ (o : Option Tighten). elim o as (λ _. ℤ) [ None ↦ pos 0 | Some t ↦ level l t ]) e

  pub target_after : (ts : List Tighten) (x : Option Symmetric) (t : Tighten) → last_tighten ts ≡ Some t → search_target_at T (along ts x) ≡ candidate l t
  target_after ts x t e = ap (λ (o : Option Tighten). elim o as (λ _. Symmetric) [ None ↦ ray_at T (along [] None) | Some t ↦ candidate l t ]) e

  pub search_ops_after : (ts : List Tighten) (x : Option Symmetric) (t : Tighten) → last_tighten ts ≡ Some t → first_owed_of (search_ops T (along ts x)) ≡ None
  search_ops_after ts x t e = ap (λ (o : Option Tighten). first_owed_of (elim o as (λ _. List Owed) [ None ↦ rayed_ops T (along [] None) | Some t ↦ [] ])) e
      ∙ nothing

  pub called_after : (ts : List Tighten) (x : Option Symmetric) (t : Tighten) (w : List ℕ) → last_tighten ts ≡ Some t → IsNextVector l T.depth t w
      → IsCalledFor T (along ts x) w
  called_after ts x t w e h = record {
    answer = h.answer;
    is_answer = search_after ts x t h.answer e h.answers;
    calls = subst (λ (z : ℤ). CallsFor z w h.answer) (sym (level_after ts x t e)) h.calls;
  }

  -- ---- Tightens after a Tighten
  pub more_tightens : (us ts : List Tighten) (x : Option Symmetric) (t : Tighten) → last_tighten ts ≡ Some t → AreNextTightens l T.depth t us
      → first_owed neighbour_is_owed (tightens_ops l us) ≡ None
      → (y : Option Symmetric) × IsWalkRun T (along ts x) [] (map step.Tighten us) (along (ts ++ us) y)
  more_tightens [] ts x t e h owes =
      (x, subst (λ (us : List Tighten). IsWalkRun T (along ts x) [] [] (along us x)) (sym (append-nil ts)) (run_none T (along ts x)))
  more_tightens (u ∷ us) ts x t e h owes =
      let s : Option Symmetric = Some (search_target_at T (along ts x)) in
      let rest = more_tightens us (ts ++ u ∷ []) s u (last_push ts u) h.2 (rest_none l u us owes) in
      let one : IsWalkRun T (along ts x) [] (step.Tighten u ∷ []) (along (ts ++ u ∷ []) s) = run_one T (along ts x) (along (ts ++ u ∷ []) s)
      (step.Tighten u) record {
        next = Tightened u;
        is_next = (called_after ts x t u.vector e h.0, h.1);
        owes = owes_then (search_ops T (along ts x)) _ None (search_ops_after ts x t e) (neighbour_none (tighten_ops l u.vector) (head_none l u us owes));
        made = refl;
        leads = refl;
      } in (
        rest.0,
        run_append T (along ts x) (along (ts ++ u ∷ []) s) (along (ts ++ u ∷ us) rest.0) [] [] (step.Tighten u ∷ []) (map step.Tighten us) one
            (subst (λ (vs : List Tighten). IsWalkRun T (along (ts ++ u ∷ []) s) [] (map step.Tighten us) (along vs rest.0)) (append_assoc ts (u ∷ []) us)
            rest.1),
      )

  -- ---- from the ray on
  module _ (x : Option Symmetric) (w : List ℕ) (called : IsCalledFor T (along [] x) w) (rayed : first_owed_of (rayed_ops T (along [] x)) ≡ None) where
    first_ops : first_owed_of (search_ops T (along [] x)) ≡ None
    first_ops = ap (λ (o : Option Tighten). first_owed_of (elim o as (λ _. List Owed) [ None ↦ rayed_ops T (along [] None) | Some t ↦ [] ])) last_none ∙ rayed

    pub search_none : (ts : List Tighten) (y : Option Symmetric) → first_owed_of (search_ops T (along ts y)) ≡ None
    search_none ts y = by (last_tighten ts) refl
      where
        by : (o : Option Tighten) → last_tighten ts ≡ o → first_owed_of (search_ops T (along ts y)) ≡ None
        by None e = ap (λ (o : Option Tighten). first_owed_of (elim o as (λ _. List Owed) [ None ↦ rayed_ops T (along [] None) | Some t ↦ [] ])) e ∙ rayed
        by (Some t) e = search_ops_after ts y t e

    pub tightens_run : (ts : List Tighten) → AreTightens l T.depth w ts → first_owed neighbour_is_owed (tightens_ops l ts) ≡ None
        → (y : Option Symmetric) × IsWalkRun T (along [] x) [] (map step.Tighten ts) (along ts y)
    tightens_run [] h owes = (x, run_none T (along [] x))
    tightens_run (t ∷ ts) h owes =
        let s : Option Symmetric = Some (search_target_at T (along [] x)) in
        let rest = more_tightens ts (t ∷ []) s t (last_one t) h.1 (rest_none l t ts owes) in
        let vector : w ≡ t.vector = vector_is l t w h.0 in
        let one : IsWalkRun T (along [] x) [] (step.Tighten t ∷ []) (along (t ∷ []) s) = run_one T (along [] x) (along (t ∷ []) s) (step.Tighten t) record {
          next = Tightened t;
          is_next = (subst (λ (w : List ℕ). IsCalledFor T (along [] x) w) vector called, h.0 ∙ ap (λ (w : List ℕ). tighten_of l w) vector);
          owes = owes_then (search_ops T (along [] x)) _ None first_ops (neighbour_none (tighten_ops l t.vector) (head_none l t ts owes));
          made = refl;
          leads = refl;
        } in
        (rest.0, run_append T (along [] x) (along (t ∷ []) s) (along (t ∷ ts) rest.0) [] [] (step.Tighten t ∷ []) (map step.Tighten ts) one rest.1)
