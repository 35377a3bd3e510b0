-- The answers after the steps, as ends of a run of the linear program.
use Rattle.std.specs.Prelude.{◌≡◌, ℕ, Bool, true, List, length}
use Rattle.std.proofs.Common.{arith, sym, subst}
use Rattle.exact_forms.specs.Rational.{Rational}
use Rattle.symmetric_matrix.specs.Symmetric.{Symmetric}
use Rattle.exact_lp.specs.declared.placed.Exchange.{Exchange}
use Rattle.exact_lp.specs.Rule.{is_inside}
use Rattle.exact_lp.specs.Program.{Program, IsProgram, EndsInside, EndsOutside, IsNonnegativeProgram}
use Rattle.exact_lp.specs.Placement.{Problem, firsts, table_after, outside_vector, IsRun, IsOutsideAfter}
use Rattle.exact_lp.specs.OfVectors.{IsProgramOf}
use Rattle.exact_lp.specs.Simplex.{basis_after, coordinates_after, IsSimplexRun, IsOutsideOf}
use Rattle.exact_linear.specs.Separation.{IsSeparating}
use Rattle.exact_lp.proofs.Named.{outside_names}
use Rattle.exact_lp.proofs.Right.{not_inside}
use Rattle.exact_lp.proofs.Runs.{tableau_at, simplex_run}
use Rattle.exact_lp.proofs.Separating.{separating}
use Rattle.exact_lp.proofs.Tableaux.{IsTableau}
use Rattle.exact_lp.proofs.TableFacts.{inside_fact, outside_fact}

module _ (P : Program) (p : Problem) (B : ℕ → Bool) (coord start : ℕ → ℕ → Rational) (R : IsProgram P start) (N : IsNonnegativeProgram P)
    (T : IsTableau P (table_after p 0) p.vectors (firsts p) B coord) (budget : ℕ) (steps : List Exchange) (run : IsRun p budget steps) where
  abbrev pub last_basis : ℕ → Bool
  last_basis = basis_after P B steps (length steps)

  abbrev pub last_coordinates : ℕ → ℕ → Rational
  last_coordinates = coordinates_after P coord steps (length steps)

  pub run_is : IsSimplexRun P B coord steps
  run_is = subst (λ (xs : List Exchange). IsSimplexRun P B coord xs) (sym run.are) (simplex_run P p B coord start R N (length steps) T run.due)

  -- the table after the steps shows the last state
  pub last_tableau : IsTableau P (table_after p (length steps)) p.vectors (firsts p) last_basis last_coordinates
  last_tableau =
      subst (λ (xs : List Exchange). IsTableau P (table_after p (length steps)) p.vectors (firsts p) (basis_after P B xs (length steps))
      (coordinates_after P coord xs (length steps)))
      (sym run.are) (tableau_at P p B coord start R N (length steps) T run.due (length steps) (omega arith))

  pub inside_end : is_inside (table_after p (length steps)) p.vectors ≡ true → EndsInside P last_coordinates
  inside_end h = inside_fact P (table_after p (length steps)) p.vectors (firsts p) last_basis last_coordinates last_tableau h

  module _ (zeros : List ℕ) (vector : ℕ) (out : IsOutsideAfter p zeros vector (length steps)) where
    pub outside_end : EndsOutside P last_coordinates
    outside_end =
        outside_fact P (table_after p (length steps)) p.vectors (firsts p) last_basis last_coordinates last_tableau out.none
        (not_inside p (length steps) out.not_last)

    pub outside_named : IsOutsideOf P last_basis last_coordinates zeros vector
    outside_named =
        subst (λ (v : ℕ). IsOutsideOf P last_basis last_coordinates zeros v) (sym out.vector_is)
        (subst (λ (zs : List ℕ). IsOutsideOf P last_basis last_coordinates zs (outside_vector (table_after p (length steps)) p.vectors (firsts p)))
        (sym out.zeros_are)
        (outside_names P (table_after p (length steps)) p.vectors (firsts p) last_basis last_coordinates start last_tableau R))

    -- in the words of vectors
    pub outside_separates : (vectors : List (List ℕ)) (s : Symmetric) → IsProgramOf P vectors s → IsSeparating s.size vectors s zeros vector
    outside_separates vectors s V = separating P last_basis last_coordinates start R last_tableau.state outside_end vectors s V zeros vector outside_named
