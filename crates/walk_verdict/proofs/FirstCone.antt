-- A matrix in the cone of the first visit.
use Rattle.std.specs.Prelude.{◌≡◌, ◌⊎◌, ℕ, ◌≤◌, ◌<◌, pos, nat_abs, ◌≤ℤ◌, ◌<ℤ◌, Bool, true, false, ◌||◌, List, [], map, Option, Some, None, nat_eq}
use Rattle.std.proofs.Common.{arith, ◌∙◌, ap, refl, subst, inl, inr}
use Rattle.std.proofs.lemmas.List.Elements.{All-nil, All-cons}
use Rattle.commutative_ring.proofs.SmallCases.{below_zero_or_not, positive_abs}
use Rattle.exact_forms.specs.Rational.{Rational, ratio}
use Rattle.exact_forms.specs.Forms.{inner}
use Rattle.exact_forms.specs.Factors.{WeightedVector}
use Rattle.exact_forms.proofs.Copositive.{minimum_strictly_copositive, strictly_copositive}
use Rattle.exact_forms.proofs.Factors.{separated_not_factored}
use Rattle.symmetric_matrix.specs.Symmetric.{entry}
use Rattle.symmetric_matrix.specs.StartVectors.{start_list}
use Rattle.symmetric_matrix.proofs.Owed.{first_owed-append_some, first_owed-append_none}
use Rattle.exact_lp.specs.declared.placed.PlaceOp.{PlaceOp}
use Rattle.exact_lp.specs.declared.placed.Placed.TheVariants as placed
use Rattle.exact_lp.specs.Placement.{Problem, problem_of, firsts, is_settled_first, is_last, last_table, weights, table_after}
use Rattle.exact_lp.specs.Placement.{leg_ops, first_owed_in, IsPlaceAnswer}
use Rattle.exact_lp.specs.OfVectors.{IsPlaceable}
use Rattle.exact_lp.specs.Rule.{is_inside}
use Rattle.exact_lp.specs.Weights.{IsSound}
use Rattle.exact_lp.proofs.Placing.{run_none}
use Rattle.exact_lp.proofs.Ruled.{ruled, sound}
use Rattle.matrix_text.specs.RationalMatrix.{RationalMatrix, rational_entry}
use Rattle.matrix_text.specs.Clearing.{cleared_of}
use Rattle.matrix_text.specs.Quotients.{whole_of, denominator_of, IsClearable}
use Rattle.matrix_text.proofs.Quotients.{denominator_positive, quotient_entry}
use Rattle.perfect_walk.specs.declared.journal.Limits.{Limits}
use Rattle.perfect_walk.specs.declared.journal.Owed.{Owed}
use Rattle.perfect_walk.specs.declared.journal.Visit.{Visit}
use Rattle.perfect_walk.specs.Operations.{walk_is_owed, first_owed_of, of_place}
use Rattle.perfect_walk.specs.States.{Task, product_at, meeting_ops, leg_at}
use Rattle.perfect_walk.specs.Next.{Factored}
use Rattle.perfect_walk.specs.Chains.{start_state, start_visit}
use Rattle.perfect_walk.specs.Ends.{due_ops, terms_of, IsWalkedTo}
use Rattle.perfect_walk.specs.Parts.{IsHeld}
use Rattle.perfect_walk.proofs.Runs.{run_none as no_steps}
use Rattle.perfect_walk.proofs.Owes.{place_some}
use Rattle.perfect_walk.proofs.Outside.{held_size}
use Rattle.perfect_walk.proofs.First.{start_is_held}
use Rattle.walk_verdict.specs.Verdicts.{task_of, first_visit_alone, IsInFirstCone, IsWalkOf, FirstConeIsFactored}
use Rattle.walk_verdict.proofs.FirstBasis.{settled}
use Rattle.walk_verdict.proofs.Weights.{IsPaired, paired, weights_factor_of}

-- ---- a task whose linear program the first basis settles
module _ (T : Task) (limit : ℕ) (some : 1 ≤ T.s.size) (positive : pos 1 ≤ℤ T.d)
    (settled_is : is_settled_first (problem_of (start_list T.s.size) T.s T.d) ≡ true) (owes : first_owed_of (leg_at T (start_state T.s.size)) ≡ None) where
  abbrev v : Visit
  v = start_visit T.s.size

  abbrev p : Problem
  p = problem_of v.vectors T.s T.d

  abbrev found : List Rational
  found = weights (last_table p 0) p.vectors (firsts p) p.d p.vectors

  held : IsHeld T.s.size v
  held = start_is_held T.s.size some

  -- the operations of `place` are a part of those that are due
  place_owes : first_owed_in (leg_ops p 0) ≡ None
  place_owes = by (first_owed_in (leg_ops p 0)) refl (first_owed_of (meeting_ops T (start_state T.s.size))) refl
    where
      by : (o : Option PlaceOp) → first_owed_in (leg_ops p 0) ≡ o → (m : Option Owed) → first_owed_of (meeting_ops T (start_state T.s.size)) ≡ m
          → first_owed_in (leg_ops p 0) ≡ None
      by None e m f = e
      by (Some o) e None f =
          absurd (let w : first_owed_of (leg_at T (start_state T.s.size)) ≡ Some (of_place o) =
          first_owed-append_none walk_is_owed (meeting_ops T (start_state T.s.size)) (map of_place (leg_ops p 0)) f
          ∙ place_some (leg_ops p 0) o e in let n = owes in cc)
      by (Some o) e (Some m) f =
          absurd (let w : first_owed_of (leg_at T (start_state T.s.size)) ≡ Some m =
          first_owed-append_some walk_is_owed (meeting_ops T (start_state T.s.size)) (map of_place (leg_ops p 0)) m f in let n = owes in cc)

  last : is_last p 0 ≡ true
  unfolding is_last
  last = ap (λ (b : Bool). b || is_inside (table_after p 0) p.vectors) settled_is

  is_placed : IsPlaceAnswer p limit (placed.Inside found [])
  is_placed = (run_none p limit [] refl, record { last = last; owes = place_owes; found_are = refl })

  can_place : IsPlaceable v.vectors T.s
  can_place = record { some = some; sizes = held_size T.s.size v held; perfect = held.perfect }

  is_sound : IsSound T.s.size v.vectors T.s T.d (placed.Inside found [])
  is_sound = sound v.vectors T.s T.d can_place limit (placed.Inside found []) positive is_placed

  -- P does not separate what its vectors factor
  met : pos 0 ≤ℤ product_at T (start_state T.s.size)
  met = by (below_zero_or_not (product_at T (start_state T.s.size)))
    where
      over_d : ℕ → ℕ → Rational
      over_d i j = ratio (entry T.s i j) (nat_abs T.d)

      by : ((product_at T (start_state T.s.size) <ℤ pos 0) ⊎ (pos 0 ≤ℤ product_at T (start_state T.s.size))) → pos 0 ≤ℤ product_at T (start_state T.s.size)
      by (inr h) = h
      by (inl h) =
          let P : IsPaired T.s.size (entry v.matrix) _ over_d =
          paired T.s.size (entry v.matrix) (entry T.s) (nat_abs T.d) over_d (positive_abs T.d positive) (λ i j li lj. refl)
          (strictly_copositive T.s.size (entry v.matrix) (minimum_strictly_copositive T.s.size (entry v.matrix) v.mu v.vectors held.minimum))
          (subst (λ (n : ℕ). inner n (entry v.matrix) (entry T.s) <ℤ pos 0) held.size h) in
          absurd (separated_not_factored T.s.size (entry v.matrix) over_d (terms_of v.vectors found) P.separates
          (weights_factor_of T.s.size (entry v.matrix) v.mu v.vectors T.s T.d found held.minimum is_sound.1 over_d positive (λ i j li lj. refl)))

  due_none : (b : Bool) → first_owed_of (due_ops T (start_state T.s.size) b (Factored found)) ≡ None
  due_none true = owes
  due_none false = owes

  pub factored_at_once : IsWalkedTo T limit (first_visit_alone T.s.size (terms_of v.vectors found))
  factored_at_once = record {
    state = start_state T.s.size;
    chain = record { targets = []; visits = refl; run = no_steps T (start_state T.s.size) };
    within = omega arith;
    is_end = inl record {
      next = Factored found;
      is_next = (
        record { tightens = refl; met = λ h. met },
        record {
          last = last;
          weights_are = refl;
          rule = ruled v.vectors T.s T.d can_place limit (placed.Inside found []) is_placed;
          number = is_sound.0;
          sum = is_sound.1;
        },
      );
      owes = due_none (nat_eq 0 limit);
      used = inl refl;
      searched_is = refl;
      end_is = refl;
    };
  }

-- ---- A = S/d
module _ (a : RationalMatrix) (limits : Limits) (some : 1 ≤ a.size) (clear : IsClearable a) (inside : IsInFirstCone a)
    (owes : first_owed_of (leg_at (task_of a limits.depth) (start_state a.size)) ≡ None) where
  abbrev T : Task
  T = task_of a limits.depth

  placeable : IsPlaceable (start_list a.size) (whole_of a)
  unfolding cleared_of
  placeable = let H = start_is_held a.size some in record { some = some; sizes = held_size a.size (start_visit a.size) H; perfect = H.perfect }

  settled_is : is_settled_first (problem_of (start_list a.size) (whole_of a) (denominator_of a)) ≡ true
  unfolding cleared_of
  settled_is =
      settled (start_list a.size) (whole_of a) (denominator_of a) placeable (rational_entry a) (nat_abs (denominator_of a))
      (positive_abs (denominator_of a) (denominator_positive a)) (λ i j li lj. quotient_entry a i j li lj) inside.nonnegative

  is_walk : (terms : List WeightedVector) × IsWalkOf a limits (first_visit_alone a.size terms)
  unfolding cleared_of
  is_walk = (
    _,
    record {
      cleared = clear;
      walk = factored_at_once T limits.pivots some (denominator_positive a) settled_is owes;
      held = All-cons (IsHeld a.size) (start_visit a.size) [] (start_is_held a.size some) (All-nil (IsHeld a.size));
    },
  )

pub first_cone_is_factored : FirstConeIsFactored
first_cone_is_factored a limits some clear inside owes = is_walk a limits some clear inside owes
