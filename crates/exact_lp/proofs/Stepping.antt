-- A step on a table is a step of the linear program.
use Rattle.std.specs.Prelude.{◌≡◌, ◌≢◌, ℕ, zero, suc, ◌+◌, ◌<◌, ◌⊎◌, Bool, true, false, List, ◌∷◌, length, Option, Some, None, if◌then◌else◌}
use Rattle.std.proofs.Common.{arith, sym, ◌∙◌, ap, refl, subst, inl, inr}
use Rattle.commutative_ring.proofs.SmallCases.{here_or_before, same_or_not}
use Rattle.exact_forms.specs.Rational.{Rational, ◌+ℚ◌, neg_ℚ}
use Rattle.exact_forms.specs.Signs.{IsPositive}
use Rattle.exact_forms.specs.Coordinates.{IsShown, swapped, exchanged_coordinates}
use Rattle.exact_forms.specs.Lexicographic.{IsLexBelow}
use Rattle.exact_forms.proofs.Shown.{exchange_shown}
use Rattle.exact_linear.proofs.Rectangles.{exchanged_rectangle}
use Rattle.exact_linear.specs.Tables.{Table, rows_of, table_entry, basic_at}
use Rattle.exact_linear.specs.Exchange.{exchanged as exchanged_table}
use Rattle.exact_linear.proofs.Exchanges.{exchanged_rows, exchanged_width, exchanged_is}
use Rattle.exact_lp.specs.Rule.{target, beats, is_candidate, better, leaving_row}
use Rattle.exact_lp.specs.Program.{Program, IsProgram, IsEntering, IsLeaving, IsNonnegativeProgram, ratios}
use Rattle.exact_lp.specs.Placement.{leaving, stepped}
use Rattle.exact_lp.proofs.Leaving.{lex_cases, lex_transitive, no_ties, has_candidate}
use Rattle.exact_lp.proofs.Step.{entering_outside, step_keeps}
use Rattle.exact_lp.proofs.Tableaux.{IsTableau}
use Rattle.exact_lp.proofs.TableFacts.{quotients, beats_is, beats_not, vector_within, candidate_fact, candidate_row, quotients_are}

-- row b has the least list of the candidates before row i
pub record IsBestRow (P : Program) (t : Table) (m : ℕ) (coord : ℕ → ℕ → Rational) (e b i : ℕ) : Type 0 where
  pub row : b < rows_of t
  pub before : b < i
  pub candidate : is_candidate t m e b ≡ true
  pub least : (k : ℕ) → k < i → is_candidate t m e k ≡ true → k ≢ b
      → IsLexBelow (suc P.rank) (ratios P coord e (basic_at t b)) (ratios P coord e (basic_at t k))

abbrev pub IsBestBefore : Program → Table → ℕ → (ℕ → ℕ → Rational) → ℕ → Option ℕ → ℕ → Type 0
IsBestBefore P t m coord e None i = (k : ℕ) → k < i → is_candidate t m e k ≡ false
IsBestBefore P t m coord e (Some b) i = IsBestRow P t m coord e b i

lex_of : (n : ℕ) (f g p q : ℕ → Rational) → ((j : ℕ) → j < n → f j ≡ p j) → ((j : ℕ) → j < n → g j ≡ q j) → IsLexBelow n f g → IsLexBelow n p q
lex_of n f g p q e h L = record {
  place = L.place;
  within = L.within;
  before = λ k l. let w = L.within in sym (e k (omega arith)) ∙ L.before k l ∙ h k (omega arith);
  there = subst (λ x. IsPositive (x +ℚ neg_ℚ (p L.place))) (h L.place L.within) (subst (λ x. IsPositive (g L.place +ℚ neg_ℚ x)) (e L.place L.within) L.there);
}

pub stepped_is : (t : Table) (m : ℕ) (cs : List ℕ) (e r : ℕ) → leaving t m cs e ≡ Some r → stepped t m cs e ≡ exchanged_table t r e
unfolding stepped
stepped_is t m cs e r h = ap (λ (o : Option ℕ). elim o as (λ _. Table) [ None ↦ t | Some r ↦ exchanged_table t r e ]) h

module _ (P : Program) (t : Table) (m : ℕ) (cs : List ℕ) (B : ℕ → Bool) (coord start : ℕ → ℕ
    → Rational) (T : IsTableau P t m cs B coord) (R : IsProgram P start) where
  -- the ratios of one row are below those of another
  abbrev IsRowBelow : ℕ → ℕ → ℕ → Type 0
  IsRowBelow e a b = IsLexBelow (suc P.rank) (ratios P coord e (basic_at t a)) (ratios P coord e (basic_at t b))

  ranks_length : length (target t m ∷ cs) ≡ suc P.rank
  ranks_length = ap (λ (n : ℕ). suc n) T.rank

  beats_fact : (e b i : ℕ) → e < P.columns.count → b < rows_of t → i < rows_of t → beats t e b i (target t m ∷ cs) ≡ true
      → IsRowBelow e i b
  beats_fact e b i le lb li h =
      lex_of (suc P.rank) _ _ _ _ (λ j l. quotients_are P t m cs B coord start T R e i j le li l)
      (λ j l. quotients_are P t m cs B coord start T R e b j le lb l)
      (subst (λ (n : ℕ). IsLexBelow n (quotients t e i (target t m ∷ cs)) (quotients t e b (target t m ∷ cs))) ranks_length
      (beats_is t e b i (target t m ∷ cs) h))

  not_beats_fact : (e b i : ℕ) → e < P.columns.count → b < rows_of t → i < rows_of t → beats t e b i (target t m ∷ cs) ≡ false
      → IsRowBelow e i b → ⊥
  not_beats_fact e b i le lb li h L =
      beats_not t e b i (target t m ∷ cs) h
      (subst (λ (n : ℕ). IsLexBelow n (quotients t e i (target t m ∷ cs)) (quotients t e b (target t m ∷ cs))) (sym ranks_length)
      (lex_of (suc P.rank) _ _ _ _ (λ j l. sym (quotients_are P t m cs B coord start T R e i j le li l))
      (λ j l. sym (quotients_are P t m cs B coord start T R e b j le lb l)) L))

  -- a candidate that the best doesn't lose to
  stays_best : (e b i : ℕ) → e < P.columns.count → b < rows_of t → i < rows_of t → b ≢ i → is_candidate t m e b ≡ true → is_candidate t m e i ≡ true
      → beats t e b i (target t m ∷ cs) ≡ false
      → IsRowBelow e b i
  stays_best e b i le lb li ne cb ci h = by (lex_cases (suc P.rank) (ratios P coord e (basic_at t b)) (ratios P coord e (basic_at t i)))
    where
      by : (IsRowBelow e b i)
          ⊎ (((k : ℕ) → k < suc P.rank → ratios P coord e (basic_at t b) k ≡ ratios P coord e (basic_at t i) k)
          ⊎ (IsRowBelow e i b))
          → IsRowBelow e b i
      by (inl w) = w
      by (inr (inl s)) =
          absurd (no_ties P B coord start R T.state e (basic_at t b) (basic_at t i) (candidate_fact P t m cs B coord T e b le lb cb)
          (candidate_fact P t m cs B coord T e i le li ci) (T.shown.apart b i lb li ne) s)
      by (inr (inr w)) = absurd (not_beats_fact e b i le lb li h w)

  best_next : (e : ℕ) (best : Option ℕ) (i : ℕ) → e < P.columns.count → i < rows_of t → IsBestBefore P t m coord e best i
      → IsBestBefore P t m coord e (if is_candidate t m e i then better t e (target t m ∷ cs) best i else best) (i + 1)
  best_next e best i le li S = by (is_candidate t m e i) refl best S
    where
      by : (c : Bool) → is_candidate t m e i ≡ c → (best : Option ℕ) → IsBestBefore P t m coord e best i
          → IsBestBefore P t m coord e (if c then better t e (target t m ∷ cs) best i else best) (i + 1)
      by false c None S = λ k l. each k (here_or_before k i l)
        where
          each : (k : ℕ) → ((k ≡ i) ⊎ (k < i)) → is_candidate t m e k ≡ false
          each k (inl s) = ap (λ (k : ℕ). is_candidate t m e k) s ∙ c
          each k (inr l) = S k l
      by false c (Some b) S =
          record { row = S.row; before = let l = S.before in omega arith; candidate = S.candidate; least = λ k l d ne. each k d ne (here_or_before k i l) }
        where
          each : (k : ℕ) → is_candidate t m e k ≡ true → k ≢ b → ((k ≡ i) ⊎ (k < i))
              → IsRowBelow e b k
          each k d ne (inl s) = absurd (let u : is_candidate t m e k ≡ false = ap (λ (k : ℕ). is_candidate t m e k) s ∙ c in cc)
          each k d ne (inr l) = S.least k l d ne
      by true c None S = record { row = li; before = omega arith; candidate = c; least = λ k l d ne. each k d ne (here_or_before k i l) }
        where
          each : (k : ℕ) → is_candidate t m e k ≡ true → k ≢ i → ((k ≡ i) ⊎ (k < i))
              → IsRowBelow e i k
          each k d ne (inl s) = absurd (ne s)
          each k d ne (inr l) = absurd (let u = S k l in cc)
      by true c (Some b) S = choose (beats t e b i (target t m ∷ cs)) refl
        where
          new : beats t e b i (target t m ∷ cs) ≡ true → (k : ℕ) → is_candidate t m e k ≡ true → k ≢ i → ((k ≡ i) ⊎ (k < i)) → ((k ≡ b) ⊎ (k ≢ b))
              → IsRowBelow e i k
          new w k d ne (inl s) t' = absurd (ne s)
          new w k d ne (inr l) (inl s) =
              subst (λ (k : ℕ). IsRowBelow e i k) (sym s)
              (beats_fact e b i le S.row li w)
          new w k d ne (inr l) (inr n) = lex_transitive (suc P.rank) _ _ _ (beats_fact e b i le S.row li w) (S.least k l d n)

          kept : beats t e b i (target t m ∷ cs) ≡ false → (k : ℕ) → is_candidate t m e k ≡ true → k ≢ b → ((k ≡ i) ⊎ (k < i))
              → IsRowBelow e b k
          kept w k d ne (inl s) =
              subst (λ (k : ℕ). IsRowBelow e b k) (sym s)
              (stays_best e b i le S.row li (let l = S.before in λ s. absurd (omega arith)) S.candidate c w)
          kept w k d ne (inr l) = S.least k l d ne

          choose : (x : Bool) → beats t e b i (target t m ∷ cs) ≡ x → IsBestBefore P t m coord e (if x then Some i else Some b) (i + 1)
          choose true w = record { row = li; before = omega arith; candidate = c; least = λ k l d ne. new w k d ne (here_or_before k i l) (same_or_not k b) }
          choose false w =
              record {
                row = S.row;
                before = let l = S.before in omega arith;
                candidate = S.candidate;
                least = λ k l d ne. kept w k d ne (here_or_before k i l);
              }

  leaving_best : (e : ℕ) (best : Option ℕ) (i n : ℕ) → e < P.columns.count → i + n ≡ rows_of t → IsBestBefore P t m coord e best i
      → IsBestBefore P t m coord e (leaving_row t m e (target t m ∷ cs) best i n) (rows_of t)
  unfolding leaving_row
  leaving_best e best i zero le h S = subst (λ (i : ℕ). IsBestBefore P t m coord e best i) (let s : i ≡ rows_of t = omega arith in s) S
  leaving_best e best i (suc n) le h S =
      leaving_best e (if is_candidate t m e i then better t e (target t m ∷ cs) best i else best) (i + 1) n le (omega arith)
      (best_next e best i le (omega arith) S)

  best_of_all : (e : ℕ) → e < P.columns.count → IsBestBefore P t m coord e (leaving t m cs e) (rows_of t)
  unfolding leaving
  best_of_all e le = leaving_best e None 0 (rows_of t) le (omega arith) (λ k l. absurd (omega arith))

  entering_within : (e : ℕ) → IsEntering P coord e → e < P.columns.count
  entering_within e E = vector_within P t m cs B coord T e E.high

  leaving_row_is : (e r : ℕ) → IsEntering P coord e → leaving t m cs e ≡ Some r → IsBestRow P t m coord e r (rows_of t)
  leaving_row_is e r E h = subst (λ (o : Option ℕ). IsBestBefore P t m coord e o (rows_of t)) h (best_of_all e (entering_within e E))

  -- the column that leaves
  pub leaving_fact : (e r : ℕ) → IsEntering P coord e → leaving t m cs e ≡ Some r → IsLeaving P B coord e (basic_at t r)
  leaving_fact e r E h =
      let le : e < P.columns.count = entering_within e E in
      let best : IsBestRow P t m coord e r (rows_of t) = leaving_row_is e r E h in
      record {
        candidate = candidate_fact P t m cs B coord T e r le best.row best.candidate;
        least = λ k C ne.
            let i = candidate_row P t m cs B coord T e k le C in
            subst (λ (k : ℕ). IsLexBelow (suc P.rank) (ratios P coord e (basic_at t r)) (ratios P coord e k)) i.2
            (best.least i.0 i.1 i.3 (λ (s : i.0 ≡ r). ne (sym i.2 ∙ ap (basic_at t) s)));
      }

  -- there is one
  pub leaving_there : (e : ℕ) → IsNonnegativeProgram P → IsEntering P coord e → (r : ℕ) × (leaving t m cs e ≡ Some r)
  leaving_there e N E = by (leaving t m cs e) refl
    where
      by : (o : Option ℕ) → leaving t m cs e ≡ o → (r : ℕ) × (leaving t m cs e ≡ Some r)
      by (Some r) h = (r, h)
      by None h =
          let le : e < P.columns.count = entering_within e E in
          let c = has_candidate P B coord start R T.state e N E in
          let i = candidate_row P t m cs B coord T e c.0 le c.2 in
          let none = subst (λ (o : Option ℕ). IsBestBefore P t m coord e o (rows_of t)) h (best_of_all e le) in
          absurd (let u : is_candidate t m e i.0 ≡ false = none i.0 i.1 in let v = i.3 in cc)

  -- ---- the table after a step
  stepped_shown : (e r : ℕ) → IsEntering P coord e → r < rows_of t
      → IsShown P.columns (swapped B (basic_at t r) e) (exchanged_coordinates coord (basic_at t r) e) (rows_of (exchanged_table t r e))
      (table_entry (exchanged_table t r e)) (basic_at (exchanged_table t r e))
  stepped_shown e r E lr =
      let le : e < P.columns.count = entering_within e E in
      subst (λ (n : ℕ). IsShown P.columns (swapped B (basic_at t r) e) (exchanged_coordinates coord (basic_at t r) e) n (table_entry (exchanged_table t r e))
      (basic_at (exchanged_table t r e))) (sym (exchanged_rows t r e))
      (exchange_shown P.columns B coord (rows_of t) (table_entry t) (basic_at t) T.state.basis T.shown r e lr le
      (entering_outside P B coord start R T.state e E) (table_entry (exchanged_table t r e)) (basic_at (exchanged_table t r e))
      (exchanged_is t P.columns.count r e T.rectangle T.count lr (let c = T.count in omega arith)))

  pub step_tableau : (e r : ℕ) → IsEntering P coord e → leaving t m cs e ≡ Some r
      → IsTableau P (stepped t m cs e) m cs (swapped B (basic_at t r) e) (exchanged_coordinates coord (basic_at t r) e)
  step_tableau e r E h =
      let lr : r < rows_of t = (leaving_row_is e r E h).row in
      let le : e < P.columns.count = entering_within e E in
      let er = exchanged_rows t r e in
      let ew = exchanged_width t r e in
      subst (λ (n : Table). IsTableau P n m cs (swapped B (basic_at t r) e) (exchanged_coordinates coord (basic_at t r) e)) (sym (stepped_is t m cs e r h))
      record {
        state = step_keeps P B coord start R T.state e (basic_at t r) E (leaving_fact e r E h);
        shown = stepped_shown e r E lr;
        rectangle = exchanged_rectangle t r e T.rectangle lr (let c = T.count in omega arith);
        wide = let w = T.wide in omega arith;
        count = let c = T.count in omega arith;
        row = let o = T.row in omega arith;
        low = let l = T.low in omega arith;
        high = let l = T.high in omega arith;
        target_is = let l = T.target_is in omega arith;
        top_is = let l = T.top_is in omega arith;
        rank = T.rank;
        ranks = T.ranks;
      }
