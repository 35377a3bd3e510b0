-- The steps on the tables are a run of the linear program.
use Rattle.std.specs.Prelude.{◌≡◌, ℕ, zero, suc, ◌+◌, ◌-◌, ◌<◌, ◌≤◌, ◌⊎◌, Bool, true, List, [], ◌∷◌, ◌++◌, length, Option, Some, None}
use Rattle.std.proofs.Common.{arith, sym, ◌∙◌, ap, refl, subst, inl, inr, length-append, get_or-append-add}
use Rattle.std.proofs.Math.ListN.{get_or-append}
use Rattle.commutative_ring.proofs.SmallCases.{here_or_before}
use Rattle.exact_forms.specs.Rational.{Rational}
use Rattle.exact_forms.specs.Coordinates.{swapped, exchanged_coordinates}
use Rattle.exact_forms.specs.Lexicographic.{IsLexBelow}
use Rattle.exact_linear.specs.Tables.{Table, rows_of, basic_at, or_zero, is_there}
use Rattle.exact_lp.specs.declared.placed.Exchange.{Exchange}
use Rattle.exact_lp.specs.Rule.{entering}
use Rattle.exact_lp.specs.Program.{Program, order, IsProgram, IsEntering, IsLeaving, IsNonnegativeProgram}
use Rattle.exact_lp.specs.Placement.{Problem, firsts, leaving, stepped, exchange_of, table_after, steps_of, IsStepDue}
use Rattle.exact_lp.specs.Simplex.{no_step, step_at, entering_column, leaving_column, basis_after, coordinates_after, IsSimplexRun}
use Rattle.exact_lp.proofs.Leaving.{lex_transitive}
use Rattle.exact_lp.proofs.Once.{grown_is_other}
use Rattle.exact_lp.proofs.Right.{not_inside}
use Rattle.exact_lp.proofs.Stepping.{leaving_fact, leaving_there, step_tableau}
use Rattle.exact_lp.proofs.Step.{step_grows}
use Rattle.exact_lp.proofs.Tableaux.{IsTableau}
use Rattle.exact_lp.proofs.TableFacts.{entering_fact, not_inside_fact}

-- ---- the list of the steps
abbrev step_from : Problem → ℕ → Exchange
step_from p k = exchange_of (table_after p k) p.vectors (firsts p) (or_zero (entering (table_after p k) p.vectors))

steps_more : (p : Problem) (n : ℕ) → steps_of p (suc n) ≡ steps_of p n ++ step_from p n ∷ []
unfolding steps_of
steps_more p n = refl

pub length-steps_of : (p : Problem) (n : ℕ) → length (steps_of p n) ≡ n
unfolding steps_of
length-steps_of p zero = refl
length-steps_of p (suc n) = let a = length-append (steps_of p n) (step_from p n ∷ []) in let b = length-steps_of p n in omega arith

pub step_is : (p : Problem) (n k : ℕ) → k < n → step_at (steps_of p n) k ≡ step_from p k
step_is p zero k l = absurd (omega arith)
step_is p (suc n) k l = ap (λ (xs : List Exchange). step_at xs k) (steps_more p n) ∙ by (here_or_before k n (omega arith)) (step_is p n k)
  where
    by : ((k ≡ n) ⊎ (k < n)) → (k < n → step_at (steps_of p n) k ≡ step_from p k) → step_at (steps_of p n ++ step_from p n ∷ []) k ≡ step_from p k
    by (inr m) rec = get_or-append (steps_of p n) (step_from p n ∷ []) no_step k (let a = length-steps_of p n in omega arith) ∙ rec m
    by (inl e) rec =
        ap (λ (k : ℕ). step_at (steps_of p n ++ step_from p n ∷ []) k) (let a = length-steps_of p n in let s : k ≡ length (steps_of p n) + 0 = omega arith in s)
        ∙ get_or-append-add (steps_of p n) (step_from p n ∷ []) 0 no_step
        ∙ ap (step_from p) (sym e)

pub some_entering : (o : Option ℕ) → is_there o ≡ true → (e : ℕ) × (o ≡ Some e)
some_entering None h = absurd cc
some_entering (Some e) h = (e, refl)

-- ---- a step that is due
pub record IsStep (P : Program) (p : Problem) (steps : List Exchange) (k e r : ℕ) : Type 0 where
  pub vector : entering (table_after p k) p.vectors ≡ Some e
  pub row : leaving (table_after p k) p.vectors (firsts p) e ≡ Some r
  pub enters : entering_column P steps k ≡ e
  pub leaves : leaving_column P steps k ≡ basic_at (table_after p k) r

module _ (P : Program) (p : Problem) (B : ℕ → Bool) (coord start : ℕ → ℕ → Rational) (R : IsProgram P start) (N : IsNonnegativeProgram P) (n : ℕ)
    (T : IsTableau P (table_after p 0) p.vectors (firsts p) B coord) (due : (j : ℕ) → j < n → IsStepDue p j) where
  abbrev basis : ℕ → ℕ → Bool
  basis k = basis_after P B (steps_of p n) k

  abbrev coords : ℕ → ℕ → ℕ → Rational
  coords k = coordinates_after P coord (steps_of p n) k

  step_there : (k : ℕ) → k < n → IsTableau P (table_after p k) p.vectors (firsts p) (basis k) (coords k) → (e : ℕ) × (r : ℕ) × (IsStep P p (steps_of p n) k e r)
  unfolding exchange_of
  step_there k l S =
      let v = some_entering (entering (table_after p k) p.vectors) (due k l).vector in
      let E : IsEntering P (coords k) v.0 = entering_fact P (table_after p k) p.vectors (firsts p) (basis k) (coords k) S v.0 v.1 in
      let r = leaving_there P (table_after p k) p.vectors (firsts p) (basis k) (coords k) start S R v.0 N E in
      let C = (leaving_fact P (table_after p k) p.vectors (firsts p) (basis k) (coords k) start S R v.0 r.0 E r.1).candidate in
      let low = (S.state.vectors (basic_at (table_after p k) r.0) C.within C.basic C.other).0 in
      let from = E.low in
      let units = S.low in (
        v.0,
        r.0,
        record {
          vector = v.1;
          row = r.1;
          enters = ap (λ (x : Exchange). P.low + x.entering) (step_is p n k l) ∙ ap (λ (o : Option ℕ). P.low + (or_zero o - rows_of (table_after p k))) v.1
              ∙ (let s : P.low + (v.0 - rows_of (table_after p k)) ≡ v.0 = omega arith in s);
          leaves = ap (λ (x : Exchange). P.low + x.leaving) (step_is p n k l)
              ∙ ap (λ (o : Option ℕ).
              P.low + (basic_at (table_after p k) (or_zero (leaving (table_after p k) p.vectors (firsts p) (or_zero o))) - rows_of (table_after p k)))
              v.1
              ∙ ap (λ (o : Option ℕ). P.low + (basic_at (table_after p k) (or_zero o) - rows_of (table_after p k))) r.1
              ∙ (let s : P.low + (basic_at (table_after p k) r.0 - rows_of (table_after p k)) ≡ basic_at (table_after p k) r.0 = omega arith in s);
        },
      )

  -- a row can leave
  row_found : (k : ℕ) → ((e : ℕ) × (r : ℕ) × (IsStep P p (steps_of p n) k e r))
      → (r : ℕ) × (leaving (table_after p k) p.vectors (firsts p) (or_zero (entering (table_after p k) p.vectors)) ≡ Some r)
  row_found k s = (s.1, ap (λ (o : Option ℕ). leaving (table_after p k) p.vectors (firsts p) (or_zero o)) s.2.vector ∙ s.2.row)

  stepped_tableau : (k e r : ℕ) → IsTableau P (table_after p k) p.vectors (firsts p) (basis k) (coords k) → IsStep P p (steps_of p n) k e r
      → IsTableau P (table_after p (suc k)) p.vectors (firsts p) (basis (suc k)) (coords (suc k))
  unfolding table_after basis_after coordinates_after
  stepped_tableau k e r S W =
      let t : Table = table_after p k in
      let m : ℕ = p.vectors in
      let cs : List ℕ = firsts p in
      subst (λ (x : ℕ). IsTableau P (stepped t m cs x) m cs (swapped (basis k) (leaving_column P (steps_of p n) k) (entering_column P (steps_of p n) k))
      (exchanged_coordinates (coords k) (leaving_column P (steps_of p n) k) (entering_column P (steps_of p n) k)))
      (sym (ap or_zero W.vector))
      (subst (λ (x : ℕ). IsTableau P (stepped t m cs e) m cs (swapped (basis k) x (entering_column P (steps_of p n) k))
      (exchanged_coordinates (coords k) x (entering_column P (steps_of p n) k)))
      (sym W.leaves)
      (subst (λ (x : ℕ). IsTableau P (stepped t m cs e) m cs (swapped (basis k) (basic_at t r) x) (exchanged_coordinates (coords k) (basic_at t r) x))
      (sym W.enters)
      (step_tableau P t m cs (basis k) (coords k) start S R e r (entering_fact P t m cs (basis k) (coords k) S e W.vector) W.row)))

  -- the table after k steps shows the state there
  pub tableau_at : (k : ℕ) → k ≤ n → IsTableau P (table_after p k) p.vectors (firsts p) (basis k) (coords k)
  unfolding basis_after coordinates_after
  tableau_at zero l = T
  tableau_at (suc k) l =
      let S = tableau_at k (omega arith) in
      let s = step_there k (omega arith) S in
      stepped_tableau k s.0 s.1 S s.2

  -- no step lacks a row
  pub row_there : (k : ℕ) → k < n → (r : ℕ) × (leaving (table_after p k) p.vectors (firsts p) (or_zero (entering (table_after p k) p.vectors)) ≡ Some r)
  row_there k l = row_found k (step_there k l (tableau_at k (omega arith)))

  -- ---- the run
  enters_at : (k : ℕ) → k < n → IsEntering P (coords k) (entering_column P (steps_of p n) k)
  enters_at k l =
      let S = tableau_at k (omega arith) in
      let s = step_there k l S in
      subst (IsEntering P (coords k)) (sym s.2.enters) (entering_fact P (table_after p k) p.vectors (firsts p) (basis k) (coords k) S s.0 s.2.vector)

  leaves_at : (k : ℕ) → k < n → IsLeaving P (basis k) (coords k) (entering_column P (steps_of p n) k) (leaving_column P (steps_of p n) k)
  leaves_at k l =
      let S = tableau_at k (omega arith) in
      let s = step_there k l S in
      let E = entering_fact P (table_after p k) p.vectors (firsts p) (basis k) (coords k) S s.0 s.2.vector in
      subst (λ (e : ℕ). IsLeaving P (basis k) (coords k) e (leaving_column P (steps_of p n) k)) (sym s.2.enters)
      (subst (λ (x : ℕ). IsLeaving P (basis k) (coords k) s.0 x) (sym s.2.leaves)
      (leaving_fact P (table_after p k) p.vectors (firsts p) (basis k) (coords k) start S R s.0 s.1 E s.2.row))

  grows_at : (k : ℕ) → k < n → IsLexBelow (suc P.rank) (λ j. coords k (order P j) P.top) (λ j. coords (suc k) (order P j) P.top)
  unfolding coordinates_after
  grows_at k l =
      step_grows P (basis k) (coords k) start R (tableau_at k (omega arith)).state (entering_column P (steps_of p n) k) (leaving_column P (steps_of p n) k)
      (enters_at k l) (leaves_at k l)

  grown : (i j : ℕ) → i < j → j ≤ n → IsLexBelow (suc P.rank) (λ c. coords i (order P c) P.top) (λ c. coords j (order P c) P.top)
  grown i zero h l = absurd (omega arith)
  grown i (suc j) h l = by (here_or_before i j (omega arith)) (λ m. grown i j m (omega arith))
    where
      by : ((i ≡ j) ⊎ (i < j)) → (i < j → IsLexBelow (suc P.rank) (λ c. coords i (order P c) P.top) (λ c. coords j (order P c) P.top))
          → IsLexBelow (suc P.rank) (λ c. coords i (order P c) P.top) (λ c. coords (suc j) (order P c) P.top)
      by (inl e) rec =
          subst (λ (i : ℕ). IsLexBelow (suc P.rank) (λ c. coords i (order P c) P.top) (λ c. coords (suc j) (order P c) P.top)) (sym e)
          (grows_at j (omega arith))
      by (inr m) rec = lex_transitive (suc P.rank) _ _ _ (rec m) (grows_at j (omega arith))

  pub simplex_run : IsSimplexRun P B coord (steps_of p n)
  simplex_run =
      let size = length-steps_of p n in
      record {
        state = λ k l. (tableau_at k (omega arith)).state;
        due = λ k l. not_inside_fact P (table_after p k) p.vectors (firsts p) (basis k) (coords k) (tableau_at k (omega arith))
            (not_inside p k (due k (omega arith)).not_last);
        enters = λ k l. enters_at k (omega arith);
        leaves = λ k l. leaves_at k (omega arith);
        grows = λ k l. grows_at k (omega arith);
        once = λ i j h l same.
            grown_is_other P (basis i) (basis j) (coords i) (coords j) start R (tableau_at i (omega arith)).state.basis (tableau_at j (omega arith)).state.basis
            (grown i j h (omega arith)) same;
      }
