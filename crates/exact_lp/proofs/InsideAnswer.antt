-- The weights of the answer Inside, after any number of steps of the rule.
use Rattle.std.specs.Prelude.{◌≡◌, ℕ, ◌+◌, ◌<◌, ◌≤◌, ℤ, pos, ◌≤ℤ◌, Bool, true, false, ◌||◌, List, [], length, slice_index_or, if◌then◌else◌}
use Rattle.std.proofs.Common.{arith, sym, ◌∙◌, ap, refl, subst}
use Rattle.std.proofs.lemmas.List.FromFn.{length-map-range_with_len}
use Rattle.exact_forms.specs.Rational.{Rational, whole, ◌/ℚ◌}
use Rattle.exact_forms.specs.Coordinates.{swapped, exchanged_coordinates}
use Rattle.symmetric_matrix.specs.Symmetric.{Symmetric}
use Rattle.exact_linear.proofs.FirstTables.{read_first}
use Rattle.exact_linear.specs.Tables.{Table}
use Rattle.exact_lp.specs.Rule.{is_inside}
use Rattle.exact_lp.specs.Placement.{Problem, first_table, firsts, table_after, opened, is_settled_first, is_last, last_table, coefficient, weights, steps_of}
use Rattle.exact_lp.specs.Placement.{IsStepDue, IsInsideAfter, problem_of}
use Rattle.exact_lp.specs.Simplex.{basis_after, coordinates_after}
use Rattle.exact_lp.specs.Weights.{AreWeights}
use Rattle.exact_lp.specs.Program.{Program, IsProgram, IsNonnegativeProgram}
use Rattle.exact_lp.specs.OfVectors.{IsPlaceable}
use Rattle.exact_lp.proofs.FirstBasis.{first_shown}
use Rattle.exact_lp.proofs.FirstProgram.{IsFirst, the_program, first_coord, is_program, is_nonnegative}
use Rattle.exact_lp.proofs.InsideRight.{inside_right, settled_right}
use Rattle.exact_lp.proofs.Opening.{place, opened_tableau}
use Rattle.exact_lp.proofs.Right.{start_columns, low_of, count_is}
use Rattle.exact_lp.proofs.Runs.{tableau_at}
use Rattle.exact_lp.proofs.Tableaux.{IsTableau}

pub length-weights : (t : Table) (m : ℕ) (cs : List ℕ) (d : Rational) (n : ℕ) → length (weights t m cs d n) ≡ n
unfolding weights
length-weights t m cs d n = length-map-range_with_len (λ v. coefficient t m cs v /ℚ d) 0 n

-- the first basis settles it, or the table after the steps
pub last_inside : (p : Problem) (k : ℕ) → is_last p k ≡ true → is_settled_first p ≡ false → is_inside (table_after p k) p.vectors ≡ true
unfolding is_last
last_inside p k h n = sym (ap (λ (b : Bool). b || is_inside (table_after p k) p.vectors) n) ∙ h

module _ (vectors : List (List ℕ)) (s : Symmetric) (d : ℤ) (g : IsPlaceable vectors s) where
  abbrev p : Problem
  p = problem_of vectors s d

  pub looked_at : low_of s + length vectors ≤ (start_columns vectors s).count
  looked_at = let c = count_is vectors s in omega arith

  -- the first basis, read from its table
  abbrev pub the_basis : IsFirst vectors s d
  the_basis = read_first (start_columns vectors s) (low_of s) (low_of s + length vectors) (first_table p) (first_shown vectors s) looked_at

  abbrev pub linear_program : Program
  linear_program = the_program vectors s d g the_basis

  -- the coordinates over the first basis, and the place there at which t comes in
  abbrev pub start : ℕ → ℕ → Rational
  start = first_coord vectors s d g the_basis

  abbrev pub least : ℕ
  least = (place vectors s d g the_basis).0

  -- the basis and the coordinates before the first step
  abbrev pub open_basis : ℕ → Bool
  open_basis = swapped linear_program.chosen (linear_program.first least) linear_program.top

  abbrev pub open_coord : ℕ → ℕ → Rational
  open_coord = exchanged_coordinates start (linear_program.first least) linear_program.top

  pub is_linear_program : IsProgram linear_program start
  is_linear_program = is_program vectors s d g the_basis

  pub is_nonnegative_program : IsNonnegativeProgram linear_program
  is_nonnegative_program = is_nonnegative vectors s d g the_basis

  pub first_tableau : IsTableau linear_program (table_after p 0) (length vectors) (firsts p) open_basis open_coord
  unfolding table_after
  first_tableau =
      subst (λ (k : ℕ). IsTableau linear_program (opened (first_table p) (length vectors)) (length vectors) (firsts p)
      (swapped linear_program.chosen k linear_program.top) (exchanged_coordinates start k linear_program.top))
      (sym (place vectors s d g the_basis).2) (opened_tableau vectors s d g the_basis)

  -- the table after k steps shows a state
  pub later_tableau : (k : ℕ) → ((j : ℕ) → j < k → IsStepDue p j)
      → IsTableau linear_program (table_after p k) (length vectors) (firsts p) (basis_after linear_program open_basis (steps_of p k) k)
      (coordinates_after linear_program open_coord (steps_of p k) k)
  later_tableau k due =
      tableau_at linear_program p open_basis open_coord start is_linear_program is_nonnegative_program k first_tableau due k (omega arith)

  -- the weights that a table gives are right
  abbrev HasWeights : Table → Type 0
  HasWeights t = AreWeights s.size vectors s d (λ v. slice_index_or (weights t (length vectors) (firsts p) (whole d) (length vectors)) v (whole (pos 0)))

  last_is : (k : ℕ) (b : Bool) → is_settled_first p ≡ b → last_table p k ≡ (if b then first_table p else table_after p k)
  last_is k b h = ap (λ (b : Bool). if b then first_table p else table_after p k) h

  pub inside_answer : (k : ℕ) (found : List Rational) → pos 1 ≤ℤ d → ((j : ℕ) → j < k → IsStepDue p j) → IsInsideAfter p found k
      → (length found ≡ length vectors) × (AreWeights s.size vectors s d (λ v. slice_index_or found v (whole (pos 0))))
  inside_answer k found hd due I = (
    ap length I.found_are ∙ length-weights (last_table p k) (length vectors) (firsts p) (whole d) (length vectors),
    subst (λ (found : List Rational). AreWeights s.size vectors s d (λ v. slice_index_or found v (whole (pos 0)))) (sym I.found_are)
        (by (is_settled_first p) refl),
  )
    where
      by : (b : Bool) → is_settled_first p ≡ b → HasWeights (last_table p k)
      by true h = subst (λ (t : Table). HasWeights t) (sym (last_is k true h)) (settled_right vectors s d g the_basis (firsts p) hd h)
      by false h =
          subst (λ (t : Table). HasWeights t) (sym (last_is k false h))
          (inside_right vectors s d g the_basis (table_after p k) (firsts p) (basis_after linear_program open_basis (steps_of p k) k)
          (coordinates_after linear_program open_coord (steps_of p k) k) hd
          (later_tableau k due) (last_inside p k I.last h))
