-- The answers of the linear program are those of its rule, in coordinates, and mean what they say; and a row can always leave.
use Rattle.std.specs.Prelude.{◌≡◌, ℕ, zero, suc, ◌+◌, ◌<◌, ◌≤◌, ℤ, pos, ◌≤ℤ◌, Bool, true, false, ◌||◌, ◌⊎◌, List, [], length, slice_index_or, if◌then◌else◌}
use Rattle.std.proofs.Common.{arith, sym, ◌∙◌, ap, refl, subst, inl, inr}
use Rattle.commutative_ring.proofs.SmallCases.{here_or_before}
use Rattle.exact_forms.specs.Rational.{Rational, whole, ◌/ℚ◌}
use Rattle.exact_forms.specs.Signs.{IsNonnegative}
use Rattle.symmetric_matrix.specs.Symmetric.{Symmetric}
use Rattle.exact_linear.specs.Tables.{Table, rows_of}
use Rattle.exact_linear.specs.Separation.{IsSeparating}
use Rattle.exact_linear.proofs.SquareColumns.{target_column}
use Rattle.exact_lp.specs.declared.placed.Exchange.{Exchange}
use Rattle.exact_lp.specs.declared.placed.Placed.{Placed}
use Rattle.exact_lp.specs.declared.placed.Placed.TheVariants.{Inside, Outside, Pivots, Wide, OutOfMemory}
use Rattle.exact_lp.specs.Rule.{is_inside}
use Rattle.exact_lp.specs.Placement.{Problem, first_table, firsts, table_after, is_settled_first, is_last, last_table, coefficient, steps_of, IsStepDue, IsRun}
use Rattle.exact_lp.specs.Placement.{HasLeavingRows}
use Rattle.exact_lp.specs.OfVectors.{IsPlaceable, IsProgramOf}
use Rattle.exact_lp.specs.Placement.{IsInsideAfter, IsOutsideAfter, IsRefusedAfter, IsPlaceAnswer, problem_of}
use Rattle.exact_lp.specs.Program.{Program, IsProgram, EndsInside, EndsOutside, IsEntering, IsLeaving, IsNonnegativeProgram}
use Rattle.exact_lp.specs.Simplex.{step_at, entering_column, leaving_column, basis_after, coordinates_after, IsSimplexOf, IsOutsideOf}
use Rattle.exact_lp.specs.Weights.{weight_in, AreWeights, IsSound}
use Rattle.exact_lp.specs.Ruled.{IsInsideEnd, IsStepLeft, IsRuled}
use Rattle.exact_lp.proofs.InsideAnswer.{the_basis, linear_program, start as start_of, least as least_of, open_basis, open_coord, is_linear_program}
use Rattle.exact_lp.proofs.InsideAnswer.{is_nonnegative_program, first_tableau, last_inside, inside_answer}
use Rattle.exact_lp.proofs.FirstBasis.{units_and_vectors}
use Rattle.exact_lp.proofs.FirstProgram.{IsFirst}
use Rattle.exact_lp.proofs.ProgramOf.{program_of_vectors}
use Rattle.exact_lp.proofs.InsideRight.{weights_at, coefficient_is, settled_nonneg, settled_coefficient}
use Rattle.exact_lp.proofs.Opening.{IsLeastRow, place, at_basic, open_row, row_is, is_least_place}
use Rattle.exact_lp.proofs.Right.{start_columns, low_of, count_is, not_inside, outside_right}
use Rattle.exact_lp.proofs.RunEnds.{run_is, last_tableau, inside_end, outside_end, outside_named, outside_separates}
use Rattle.exact_lp.proofs.RunFront.{AreSameTo, basis_to, coordinates_to}
use Rattle.exact_lp.proofs.Runs.{length-steps_of, step_is, simplex_run, row_there}
use Rattle.exact_lp.proofs.Settled.{opened_top, opened_weight}
use Rattle.exact_lp.proofs.Tableaux.{IsTableau}
use Rattle.exact_lp.proofs.TableFacts.{not_inside_fact, ready}

pub leaving_rows_as : (t u : Table) (m n : ℕ) (d e : Rational) → t ≡ u → m ≡ n → d ≡ e → HasLeavingRows (record { start = u; vectors = n; d = e })
    → HasLeavingRows (record { start = t; vectors = m; d = d })
leaving_rows_as t u m n d e f g h H =
    subst (λ (t : Table). HasLeavingRows (record { start = t; vectors = m; d = d })) (sym f)
    (subst (λ (m : ℕ). HasLeavingRows (record { start = u; vectors = m; d = d })) (sym g)
    (subst (λ (d : Rational). HasLeavingRows (record { start = u; vectors = n; d = d })) (sym h) H))

module _ (vectors : List (List ℕ)) (s : Symmetric) (d : ℤ) (g : IsPlaceable vectors s) where
  abbrev p : Problem
  p = problem_of vectors s d

  abbrev B : IsFirst vectors s d
  B = the_basis vectors s d g

  abbrev P : Program
  P = linear_program vectors s d g

  abbrev start : ℕ → ℕ → Rational
  start = start_of vectors s d g

  abbrev least : ℕ
  least = least_of vectors s d g

  abbrev basis : ℕ → Bool
  basis = open_basis vectors s d g

  abbrev coord : ℕ → ℕ → Rational
  coord = open_coord vectors s d g

  R : IsProgram P start
  R = is_linear_program vectors s d g

  N : IsNonnegativeProgram P
  N = is_nonnegative_program vectors s d g

  T : IsTableau P (table_after p 0) (length vectors) (firsts p) basis coord
  T = first_tableau vectors s d g

  pub is_program_of : IsProgramOf P vectors s
  is_program_of =
      program_of_vectors (start_columns vectors s) (first_table p) (low_of s) (length vectors) P.rank P.first P.chosen vectors s refl refl refl
      (sym (count_is vectors s)) (units_and_vectors vectors s g.sizes)
      (the_basis vectors s d g).first.first (λ i j li lj. target_column s.size vectors s i j)

  lowest : IsLeastRow (first_table p) (length vectors) (open_row vectors s d g B) (rows_of (first_table p))
  lowest = row_is vectors s d g B

  lowest_place : least < P.rank
  lowest_place = (place vectors s d g B).1

  first_chosen : P.chosen (P.first least) ≡ true
  first_chosen = R.first_is_chosen least lowest_place

  first_within : P.first least < P.columns.count
  first_within = let a = (R.first_is_vector least lowest_place).1 in let c = count_is vectors s in omega arith

  -- the first k steps are a run as soon as each of them is due
  pub simplex_steps : (k : ℕ) → ((j : ℕ) → j < k → IsStepDue p j) → IsSimplexOf vectors s (steps_of p k)
  simplex_steps k due = record {
    is_program = R;
    of_vectors = is_program_of;
    place = least;
    least = is_least_place vectors s d g B;
    run = simplex_run P p basis coord start R N k T due;
  }

  module _ (budget : ℕ) (steps : List Exchange) (run : IsRun p budget steps) where
    abbrev simplex : IsSimplexOf vectors s steps
    simplex = record {
      is_program = R;
      of_vectors = is_program_of;
      place = least;
      least = is_least_place vectors s d g B;
      run = run_is P p basis coord start R N T budget steps run;
    }

    abbrev after_basis : ℕ → Bool
    after_basis = basis_after P basis steps (length steps)

    abbrev after : ℕ → ℕ → Rational
    after = coordinates_after P coord steps (length steps)

    last : IsTableau P (table_after p (length steps)) (length vectors) (firsts p) after_basis after
    last = last_tableau P p basis coord start R N T budget steps run

    -- ---- Inside
    weight_as : (found : List Rational) → IsInsideAfter p found (length steps) → (b : Bool) → is_settled_first p ≡ b → (k : ℕ) → k < length vectors
        → weight_in found k ≡ coefficient (if b then first_table p else table_after p (length steps)) (length vectors) (firsts p) k /ℚ whole d
    weight_as found I b h k l =
        ap (λ (xs : List Rational). weight_in xs k) I.found_are
        ∙ weights_at (last_table p (length steps)) (length vectors) (firsts p) (whole d) k l
        ∙ ap (λ (b : Bool). coefficient (if b then first_table p else table_after p (length steps)) (length vectors) (firsts p) k /ℚ whole d) h

    -- where the first basis doesn't settle it
    weights_after : (found : List Rational) → IsInsideAfter p found (length steps) → is_settled_first p ≡ false → IsInsideEnd P after (length vectors) d found
    weights_after found I h = record {
      inside = inside_end P p basis coord start R N T budget steps run (last_inside p (length steps) I.last h);
      weights = λ k l.
          weight_as found I false h k l
          ∙ ap (λ w. w /ℚ whole d) (coefficient_is P (table_after p (length steps)) (length vectors) (firsts p) after_basis after start last R k l);
    }

    -- and where it does
    no_steps : is_settled_first p ≡ true → length steps ≡ 0
    unfolding is_last
    no_steps h = by (length steps) refl
      where
        by : (n : ℕ) → length steps ≡ n → n ≡ 0
        by zero e = refl
        by (suc n) e =
            absurd (let a = (run.due 0 (omega arith)).not_last in
            let b : is_last p 0 ≡ true = ap (λ (b : Bool). b || is_inside (table_after p 0) (length vectors)) h in cc)

    first_after : is_settled_first p ≡ true → after ≡ coord
    unfolding coordinates_after
    first_after h = ap (coordinates_after P coord steps) (no_steps h)

    settled_inside : is_settled_first p ≡ true → EndsInside P coord
    settled_inside h = record {
      here = subst IsNonnegative
          (sym (opened_top P start R (P.first least) first_within first_chosen
          ∙ ap (start P.target) (place vectors s d g B).2
          ∙ at_basic vectors s d g B (open_row vectors s d g B) lowest.before))
          (settled_nonneg (first_table p) (length vectors) h (open_row vectors s d g B) lowest.before);
    }

    weights_first : (found : List Rational) → IsInsideAfter p found (length steps) → is_settled_first p ≡ true → IsInsideEnd P coord (length vectors) d found
    weights_first found I h = record {
      inside = settled_inside h;
      weights = λ k l.
          weight_as found I true h k l
          ∙ ap (λ w. w /ℚ whole d)
          (settled_coefficient vectors s d g B (firsts p) k l
          ∙ sym (opened_weight P start R (P.first least) first_within first_chosen (P.low + k) (let c = count_is vectors s in
          omega arith) (λ e. absurd (omega arith))));
    }

    weights_end : (found : List Rational) → IsInsideAfter p found (length steps) → IsInsideEnd P after (length vectors) d found
    weights_end found I = by (is_settled_first p) refl
      where
        by : (b : Bool) → is_settled_first p ≡ b → IsInsideEnd P after (length vectors) d found
        by true h = subst (λ (c : ℕ → ℕ → Rational). IsInsideEnd P c (length vectors) d found) (sym (first_after h)) (weights_first found I h)
        by false h = weights_after found I h

    -- ---- Pivots
    step_left : IsRefusedAfter p budget (length steps) → IsStepLeft P after_basis after
    step_left I =
        let n : ℕ = length steps in
        let made : List Exchange = steps_of p (suc n) in
        let e : ℕ = entering_column P made n in
        let l : ℕ = leaving_column P made n in
        let more = simplex_run P p basis coord start R N (suc n) T all_due in
        let size = length-steps_of p (suc n) in
        record {
          negative = not_inside_fact P (table_after p n) (length vectors) (firsts p) after_basis after last (not_inside p n I.due.not_last);
          step = step_at made n;
          enters = subst (λ (c : ℕ → ℕ → Rational). IsEntering P c e) same_coordinates (more.enters n (omega arith));
          leaves =
              subst (λ (c : ℕ → ℕ → Rational). IsLeaving P after_basis c e l) same_coordinates
              (subst (λ (C : ℕ → Bool). IsLeaving P C (coordinates_after P coord made n) e l) same_basis (more.leaves n (omega arith)));
        }
      where
        all_due : (j : ℕ) → j < suc (length steps) → IsStepDue p j
        all_due j l = by (here_or_before j (length steps) (omega arith))
          where
            by : ((j ≡ length steps) ⊎ (j < length steps)) → IsStepDue p j
            by (inl e) = subst (λ (j : ℕ). IsStepDue p j) (sym e) I.due
            by (inr m) = run.due j m

        same : AreSameTo (steps_of p (suc (length steps))) steps (length steps)
        same j l =
            step_is p (suc (length steps)) j (omega arith) ∙ sym (step_is p (length steps) j l)
            ∙ ap (λ (xs : List Exchange). step_at xs j) (sym run.are)

        same_basis : basis_after P basis (steps_of p (suc (length steps))) (length steps) ≡ after_basis
        same_basis = basis_to P basis (steps_of p (suc (length steps))) steps (length steps) same

        same_coordinates : coordinates_after P coord (steps_of p (suc (length steps))) (length steps) ≡ after
        same_coordinates = coordinates_to P coord (steps_of p (suc (length steps))) steps (length steps) same

    outside_case : (zeros : List ℕ) (vector : ℕ) → IsOutsideAfter p zeros vector (length steps)
        → (EndsOutside P after) × (IsOutsideOf P after_basis after zeros vector)
    outside_case zeros vector I = (
      outside_end P p basis coord start R N T budget steps run zeros vector I,
      outside_named P p basis coord start R N T budget steps run zeros vector I,
    )

  pub ruled : (budget : ℕ) (r : Placed) → IsPlaceAnswer p budget r → IsRuled vectors s d r
  ruled budget (Inside found steps) A = (simplex budget steps A.0, weights_end budget steps A.0 found A.1)
  ruled budget (Outside zeros vector steps) A = (simplex budget steps A.0, outside_case budget steps A.0 zeros vector A.1)
  ruled budget (Pivots steps) A = (simplex budget steps A.0, step_left budget steps A.0 A.1)
  ruled budget (Wide op steps) A = simplex budget steps A.0
  ruled budget OutOfMemory A = tt

  -- ---- the answers mean what they say, and a row can always leave
  outside_answer : (budget : ℕ) (zeros : List ℕ) (vector : ℕ) (steps : List Exchange) → pos 1 ≤ℤ d → IsRun p budget steps
      → IsOutsideAfter p zeros vector (length steps)
      → ((c : ℕ → Rational) → AreWeights s.size vectors s d c → ⊥) × (IsSeparating s.size vectors s zeros vector)
  outside_answer budget zeros vector steps hd run out =
      let last = last_tableau P p basis coord start R N T budget steps run in (
        λ c W.
            outside_right vectors s d (table_after p (length steps)) c hd g.sizes
            (ready P (table_after p (length steps)) (length vectors) (firsts p) (basis_after P basis steps (length steps))
            (coordinates_after P coord steps (length steps)) last)
            (not_inside p (length steps) out.not_last) out.none W,
        outside_separates P p basis coord start R N T budget steps run zeros vector out vectors s is_program_of,
      )

  pub sound : (budget : ℕ) (r : Placed) → pos 1 ≤ℤ d → IsPlaceAnswer p budget r → IsSound s.size vectors s d r
  sound budget (Inside found steps) hd A = inside_answer vectors s d g (length steps) found hd A.0.due A.1
  sound budget (Outside zeros vector steps) hd A = outside_answer budget zeros vector steps hd A.0 A.1
  sound budget (Pivots steps) hd A = tt
  sound budget (Wide op steps) hd A = tt
  sound budget OutOfMemory hd A = tt

  pub leaving_rows : HasLeavingRows p
  leaving_rows =
      record { row = λ k due n. absurd (let r = (row_there P p basis coord start R N (suc k) T (λ j l. due j (omega arith)) k (omega arith)).1 in cc) }
