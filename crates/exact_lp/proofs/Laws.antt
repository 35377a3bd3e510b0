-- The laws of the linear program of a list of vectors and S.
use Rattle.std.specs.Prelude.{◌≡◌, ℕ, ◌+◌, ◌<◌, ◌⊎◌, ℤ, pos, true, not, List, [], ◌∷◌, length, Option, Some, None}
use Rattle.std.proofs.Common.{arith, sym, ◌∙◌, ap, refl, subst, inl, inr}
use Rattle.commutative_ring.proofs.Ring.{num, ◌⊕◌, neg, v0, v1}
use Rattle.commutative_ring.proofs.SmallCases.{same_unless_apart}
use Rattle.exact_forms.specs.Rational.{Rational, ◌+ℚ◌, neg_ℚ}
use Rattle.exact_forms.specs.Signs.{IsPositive, IsNonnegative}
use Rattle.exact_forms.proofs.Rational.{ring_ℚ}
use Rattle.exact_forms.proofs.Signs.{positive_add, zero_not_positive, negative_not_nonneg}
use Rattle.symmetric_matrix.specs.Symmetric.{Symmetric}
use Rattle.exact_linear.specs.Tables.{Table, rows_of, table_entry, basic_at, first_place, is_there}
use Rattle.exact_linear.proofs.Places.{first_found}
use Rattle.exact_lp.specs.Rule.{target, is_below, is_settled}
use Rattle.exact_lp.specs.Placement.{problem_of, first_table}
use Rattle.exact_lp.specs.OfVectors.{program_of, over_first, IsPlaceable}
use Rattle.exact_lp.specs.Program.{Program, IsProgram, IsLeastPlace}
use Rattle.exact_lp.specs.Simplex.{open_basis_of, open_coordinates_of, IsSimplexRun}
use Rattle.exact_lp.specs.Theorems.{HasNonnegativeFirst, SettledWhereNonnegative, OneRun, FrontIsRun, TablesHaveCoordinates}
use Rattle.exact_lp.proofs.InsideAnswer.{the_basis, is_linear_program, later_tableau}
use Rattle.exact_lp.proofs.InsideRight.{settled_nonneg}
use Rattle.exact_lp.proofs.OneRun.{steps_same}
use Rattle.exact_lp.proofs.Opening.{at_basic}
use Rattle.exact_lp.proofs.Right.{negative_fact, count_is}
use Rattle.exact_lp.proofs.RunFront.{front_is_run}

-- ---- two runs
least_once : (P : Program) (coord : ℕ → ℕ → Rational) (i j : ℕ) → IsLeastPlace P coord i → IsLeastPlace P coord j → i ≡ j
least_once P coord i j A B =
    same_unless_apart i j (λ l. not_both _ _ (A.last j l B.within) (B.least i A.within)) (λ l. not_both _ _ (B.last i l A.within) (A.least j B.within))
  where
    not_both : (x y : Rational) → IsPositive (x +ℚ neg_ℚ y) → IsNonnegative (y +ℚ neg_ℚ x) → ⊥
    not_both x y p n =
        zero_not_positive
        (subst IsPositive (ring_ℚ (x ∷ y ∷ []) ((v0 ⊕ neg v1) ⊕ (v1 ⊕ neg v0)) (num (pos 0)) refl)
        (positive_add (x +ℚ neg_ℚ y) (y +ℚ neg_ℚ x) p n))

pub one_run : OneRun
one_run vectors s xs ys X Y k lx ly =
    steps_same (program_of vectors s) (over_first vectors s) X.is_program (open_basis_of vectors s X.place) (open_coordinates_of vectors s X.place) xs ys X.run
    (subst (λ (i : ℕ). IsSimplexRun (program_of vectors s) (open_basis_of vectors s i) (open_coordinates_of vectors s i) ys)
    (least_once (program_of vectors s) (over_first vectors s) Y.place X.place Y.least X.least) Y.run)
    (k + 1) (omega arith) (omega arith) k (omega arith)

pub front_run : FrontIsRun
front_run vectors s steps X n l = record {
  is_program = X.is_program;
  of_vectors = X.of_vectors;
  place = X.place;
  least = X.least;
  run = front_is_run (program_of vectors s) (open_basis_of vectors s X.place) (open_coordinates_of vectors s X.place) steps X.run n l;
}

-- ---- the tables
pub tables_have_coordinates : TablesHaveCoordinates
tables_have_coordinates vectors s d L k due =
    let T = later_tableau vectors s d L k due in
    record { basis = _; coord = _; width = T.count; is_basis = T.state.basis; shown = T.shown }

-- ---- where the first basis settles it
settled_from : (t : Table) (m : ℕ) → ((i : ℕ) → i < rows_of t → IsNonnegative (table_entry t i (target t m))) → is_settled t m ≡ true
unfolding is_settled
settled_from t m h = by (first_place (is_below t m) 0 (rows_of t)) refl
  where
    by : (o : Option ℕ) → first_place (is_below t m) 0 (rows_of t) ≡ o → not (is_there (first_place (is_below t m) 0 (rows_of t))) ≡ true
    by None e = ap (λ (o : Option ℕ). not (is_there o)) e
    by (Some i) e =
        let f = first_found (is_below t m) 0 (rows_of t) i e in
        absurd (negative_not_nonneg _ (negative_fact (table_entry t i (target t m)) f.passes) (h i (let b = f.below in omega arith)))

module _ (vectors : List (List ℕ)) (s : Symmetric) (d : ℤ) (L : IsPlaceable vectors s) where
  abbrev f : Table
  f = first_table (problem_of vectors s d)

  R : IsProgram (program_of vectors s) (over_first vectors s)
  R = is_linear_program vectors s d L

  at_row : (i : ℕ) → i < rows_of f → over_first vectors s (program_of vectors s).target (basic_at f i) ≡ table_entry f i (target f (length vectors))
  at_row i l = at_basic vectors s d L (the_basis vectors s d L) i l

  settled_where : HasNonnegativeFirst vectors s → is_settled f (length vectors) ≡ true
  settled_where h = settled_from f (length vectors) (λ i l.
      let F = the_basis vectors s d L in
      let j = R.chosen_is_first (basic_at f i) (F.shown.within i l) (F.shown.in_basis i l) in
      subst IsNonnegative (ap (over_first vectors s (program_of vectors s).target) j.2 ∙ at_row i l) (h j.0 j.1))

  nonnegative_where : is_settled f (length vectors) ≡ true → HasNonnegativeFirst vectors s
  nonnegative_where h j l =
      let F = the_basis vectors s d L in
      let v = (R.first_is_vector j l).1 in
      let i = F.shown.every ((program_of vectors s).first j) (let c = count_is vectors s in omega arith) (R.first_is_chosen j l) in
      subst IsNonnegative (sym (at_row i.0 i.1) ∙ ap (over_first vectors s (program_of vectors s).target) i.2) (settled_nonneg f (length vectors) h i.0 i.1)

pub settled_where_nonnegative : SettledWhereNonnegative
settled_where_nonnegative vectors s d L = (settled_where vectors s d L, nonnegative_where vectors s d L)
