-- The steps of the linear program as steps of the walk, and its answers as ends of the walk.
use Rattle.std.specs.Prelude.{◌≡◌, ℕ, zero, suc, ◌+◌, ◌<◌, ◌≤◌, ℤ, pos, ◌≤ℤ◌, Bool, true, false, ◌⊎◌, List, [], ◌∷◌, ◌++◌, map, length, Option, Some, None}
use Rattle.std.specs.Prelude.{if◌then◌else◌, nat_eq, slice_index_or}
use Rattle.std.proofs.Common.{arith, sym, ◌∙◌, ap, refl, subst, inl, inr}
use Rattle.std.proofs.lemmas.List.{map-append}
use Rattle.commutative_ring.proofs.SmallCases.{same_or_below}
use Rattle.exact_forms.specs.Copositive.{IsPerfect}
use Rattle.symmetric_matrix.specs.Owed.{first_owed}
use Rattle.symmetric_matrix.specs.Symmetric.{Symmetric}
use Rattle.symmetric_matrix.proofs.Owed.{first_owed-append_none, first_owed-append_some}
use Rattle.exact_lp.specs.declared.placed.Exchange.{Exchange}
use Rattle.exact_lp.specs.declared.placed.Placed.{Placed}
use Rattle.exact_lp.specs.declared.placed.Placed.TheVariants as placed
use Rattle.exact_lp.specs.Rule.{entering}
use Rattle.exact_linear.specs.Tables.{or_zero}
use Rattle.exact_lp.specs.Placement.{Problem, place_is_owed, first_owed_in, firsts, table_after, exchange_of, steps_of, IsStepDue, opening_ops, closing_ops}
use Rattle.exact_lp.specs.Placement.{leg_ops, legs, IsRun as IsPlaceRun, IsPlaceAnswer, IsRefusedAfter, problem_of}
use Rattle.exact_lp.specs.Simplex.{IsSimplexOf}
use Rattle.exact_lp.specs.Ruled.{IsRuled}
use Rattle.exact_lp.specs.OfVectors.{IsPlaceable}
use Rattle.exact_lp.proofs.Ruled.{simplex_steps}
use Rattle.exact_lp.proofs.Runs.{length-steps_of}
use Rattle.perfect_walk.specs.declared.journal.Visit.{Visit}
use Rattle.perfect_walk.specs.declared.journal.Step.{Step}
use Rattle.perfect_walk.specs.declared.journal.Step.TheVariants as step
use Rattle.perfect_walk.specs.Operations.{first_owed_of, of_place}
use Rattle.perfect_walk.specs.States.{Task, WalkState, program_at, product_at, inner_at, meeting_ops, leg_at, opening_at}
use Rattle.perfect_walk.specs.Next.{IsPlacing, IsStepNext, Exchanged}
use Rattle.perfect_walk.specs.Chains.{IsWalkStep, IsWalkRun}
use Rattle.perfect_walk.proofs.Runs.{run_none, run_one, run_append}
use Rattle.perfect_walk.proofs.Owes.{nothing, owes_then, owes_first, place_none, place_some}

-- ---- legs of `place`
legs_more : (p : Problem) (k : ℕ) → legs p (suc k) ≡ legs p k ++ leg_ops p k
unfolding legs
legs_more p k = refl

-- where a list owes nothing, its front does not
front_none : (p : Problem) (k : ℕ) (o : Option _) → first_owed_in (legs p k) ≡ o → first_owed_in (legs p (suc k)) ≡ None → o ≡ None
front_none p k None e h = refl
front_none p k (Some o) e h =
    absurd (let w : first_owed_in (legs p (suc k)) ≡ Some o = ap (λ ops. first_owed_in ops) (legs_more p k)
    ∙ first_owed-append_some place_is_owed (legs p k) (leg_ops p k) o e in cc)

pub legs_none : (p : Problem) (k : ℕ) → first_owed_in (legs p (suc k)) ≡ None → first_owed_in (legs p k) ≡ None
legs_none p k h = front_none p k (first_owed_in (legs p k)) refl h

pub leg_none : (p : Problem) (k : ℕ) → first_owed_in (legs p (suc k)) ≡ None → first_owed_in (leg_ops p k) ≡ None
leg_none p k h = sym (first_owed-append_none place_is_owed (legs p k) (leg_ops p k) (legs_none p k h)) ∙ sym (ap (λ ops. first_owed_in ops) (legs_more p k)) ∙ h

opening_by : (p : Problem) (k : ℕ) (o : Option _) → first_owed_in (opening_ops p k) ≡ o → first_owed_in (leg_ops p k) ≡ None → o ≡ None
opening_by p k None e h = refl
opening_by p k (Some o) e h = absurd
    (let w : first_owed_in (leg_ops p k) ≡ Some o = first_owed-append_some place_is_owed (opening_ops p k) (closing_ops p k) o e in cc)

pub opening_none : (p : Problem) (k : ℕ) → first_owed_in (leg_ops p k) ≡ None → first_owed_in (opening_ops p k) ≡ None
opening_none p k h = opening_by p k (first_owed_in (opening_ops p k)) refl h

steps_more : (p : Problem) (k : ℕ)
    → steps_of p (suc k) ≡ steps_of p k ++ exchange_of (table_after p k) p.vectors (firsts p) (or_zero (entering (table_after p k) p.vectors)) ∷ []
unfolding steps_of
steps_more p k = refl

steps_none : (p : Problem) → steps_of p 0 ≡ []
unfolding steps_of
steps_none p = refl

-- ---- a visit, whose product with S is not below 0
module _ (T : Task) (v : Visit) (searched : Option Symmetric) where
  abbrev p : Problem
  p = problem_of v.vectors T.s T.d

  -- the state after some exchanges
  abbrev pub with_exchanges : List Exchange → WalkState
  with_exchanges es = record { visit = v; exchanges = es; tightens = []; searched = searched }

  module _ (met : pos 0 ≤ℤ product_at T (with_exchanges [])) (owes : first_owed_of (inner_at v.matrix T.s) ≡ None) where
    pub meeting_none : (es : List Exchange) → first_owed_of (meeting_ops T (with_exchanges es)) ≡ None
    meeting_none [] = owes
    meeting_none (e ∷ es) = nothing

    pub is_placing : (es : List Exchange) → IsPlacing T (with_exchanges es)
    is_placing es = record { tightens = refl; met = λ h. met }

    pub leg_at_none : (es : List Exchange) → first_owed_in (leg_ops p (length es)) ≡ None → first_owed_of (leg_at T (with_exchanges es)) ≡ None
    leg_at_none es h = owes_then (meeting_ops T (with_exchanges es)) _ None (meeting_none es) (place_none _ h)

    pub opening_at_none : (es : List Exchange) → first_owed_in (opening_ops p (length es)) ≡ None → first_owed_of (opening_at T (with_exchanges es)) ≡ None
    opening_at_none es h = owes_then (meeting_ops T (with_exchanges es)) _ None (meeting_none es) (place_none _ h)

    -- one exchange
    pub one_exchange : (es : List Exchange) (e : Exchange) → IsStepNext T (with_exchanges es) e → first_owed_in (leg_ops p (length es)) ≡ None
        → IsWalkRun T (with_exchanges es) [] (step.Exchange e ∷ []) (with_exchanges (es ++ e ∷ []))
    one_exchange es e h none = run_one T (with_exchanges es) (with_exchanges (es ++ e ∷ [])) (step.Exchange e) record {
      next = Exchanged e;
      is_next = (is_placing es, h);
      owes = leg_at_none es none;
      made = refl;
      leads = refl;
    }

    -- all of them
    module _ (some : 1 ≤ T.s.size) (sizes : (k : ℕ) → k < length v.vectors → length (slice_index_or v.vectors k []) ≡ T.s.size)
        (perfect : IsPerfect T.s.size v.vectors) where
      pub step_next : (k : ℕ) → ((j : ℕ) → j ≤ k → IsStepDue p j)
          → IsStepNext T (with_exchanges (steps_of p k)) (exchange_of (table_after p k) p.vectors (firsts p) (or_zero (entering (table_after p k) p.vectors)))
      step_next k due =
          let e : Exchange = exchange_of (table_after p k) p.vectors (firsts p) (or_zero (entering (table_after p k) p.vectors)) in
          let here : IsStepDue p (length (steps_of p k))
          × (e ≡ exchange_of (table_after p (length (steps_of p k))) p.vectors (firsts p)
          (or_zero (entering (table_after p (length (steps_of p k))) p.vectors))) =
          subst (λ (i : ℕ). IsStepDue p i × (e ≡ exchange_of (table_after p i) p.vectors (firsts p) (or_zero (entering (table_after p i) p.vectors))))
          (sym (length-steps_of p k)) (due k (omega arith), refl) in
          record {
            due = here.0;
            step_is = here.1;
            rule = subst (λ (es : List Exchange). IsSimplexOf v.vectors T.s es) (steps_more p k)
                (simplex_steps v.vectors T.s T.d (record { some = some; sizes = sizes; perfect = perfect }) (suc k) (λ j l. due j (omega arith)));
          }

      pub exchanges_run : (k : ℕ) → ((j : ℕ) → j < k → IsStepDue p j) → first_owed_in (legs p k) ≡ None
          → IsWalkRun T (with_exchanges []) [] (map step.Exchange (steps_of p k)) (with_exchanges (steps_of p k))
      exchanges_run zero due none =
          subst (λ (es : List Exchange). IsWalkRun T (with_exchanges []) [] (map step.Exchange es) (with_exchanges es)) (sym (steps_none p))
          (run_none T (with_exchanges []))
      exchanges_run (suc k) due none =
          let e : Exchange = exchange_of (table_after p k) p.vectors (firsts p) (or_zero (entering (table_after p k) p.vectors)) in
          let before = exchanges_run k (λ j l. due j (omega arith)) (legs_none p k none) in
          let one = one_exchange (steps_of p k) e (step_next k (λ j l. due j (omega arith)))
          (subst (λ (i : ℕ). first_owed_in (leg_ops p i) ≡ None) (sym (length-steps_of p k)) (leg_none p k none)) in
          subst (λ (es : List Exchange). IsWalkRun T (with_exchanges []) [] (map step.Exchange es) (with_exchanges es)) (sym (steps_more p k))
          (subst (λ (xs : List Step). IsWalkRun T (with_exchanges []) [] xs (with_exchanges (steps_of p k ++ e ∷ [])))
          (sym (map-append step.Exchange (steps_of p k) (e ∷ [])))
          (run_append T (with_exchanges []) (with_exchanges (steps_of p k)) (with_exchanges (steps_of p k ++ e ∷ [])) [] [] (map step.Exchange (steps_of p k))
          (step.Exchange e ∷ []) before one))

      -- the steps that `place` gives
      pub placed_run : (budget : ℕ) (es : List Exchange) → IsPlaceRun p budget es
          → IsWalkRun T (with_exchanges []) [] (map step.Exchange es) (with_exchanges es)
      placed_run budget es R =
          subst (λ (es : List Exchange). IsWalkRun T (with_exchanges []) [] (map step.Exchange es) (with_exchanges es)) (sym R.are)
          (exchanges_run (length es) R.due R.owes)

      pub placed_next : (budget : ℕ) (es : List Exchange) → IsPlaceRun p budget es → IsStepDue p (length es)
          → IsStepNext T (with_exchanges es)
          (exchange_of (table_after p (length es)) p.vectors (firsts p) (or_zero (entering (table_after p (length es)) p.vectors)))
      placed_next budget es R h =
          subst (λ (xs : List Exchange). IsStepNext T (with_exchanges xs)
          (exchange_of (table_after p (length es)) p.vectors (firsts p) (or_zero (entering (table_after p (length es)) p.vectors)))) (sym R.are)
          (step_next (length es) (λ j l. by j (same_or_below j (length es) l)))
        where
          by : (j : ℕ) → ((j ≡ length es) ⊎ (j < length es)) → IsStepDue p j
          by j (inl e) = subst (λ (i : ℕ). IsStepDue p i) (sym e) h
          by j (inr l) = R.due j l
