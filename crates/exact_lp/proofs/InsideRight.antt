-- The weights of the answer Inside write S/d.
use Rattle.std.specs.Prelude.{◌≡◌, ◌≢◌, ℕ, ◌+◌, ◌-◌, ◌<◌, ◌≤◌, ◌⊎◌, ℤ, pos, ◌*ℤ◌, ◌≤ℤ◌, Bool, true, false, not, ◌&&◌, cond, nat_eq, List, [], ◌∷◌, length}
use Rattle.std.specs.Prelude.{slice_index_or, Option, Some, None, if◌then◌else◌}
use Rattle.std.proofs.Common.{arith, sym, ◌∙◌, ap, ap₂, refl, subst, inl, inr}
use Rattle.std.proofs.lemmas.List.FromFn.{get_or-map-range_with_len}
use Rattle.commutative_ring.proofs.Ring.{num, ◌⊕◌, ◌⊗◌, v0, v1, v2}
use Rattle.commutative_ring.proofs.SmallCases.{same_of_test, test_of_same, true_or_false}
use Rattle.exact_forms.specs.Rational.{Rational, whole, inverse, ◌+ℚ◌, ◌*ℚ◌, ◌/ℚ◌}
use Rattle.exact_forms.specs.Sums.{sum_ℚ}
use Rattle.exact_forms.specs.Signs.{IsPositive, IsNonnegative}
use Rattle.exact_forms.specs.Vectors.{coordinate}
use Rattle.exact_forms.specs.Coordinates.{Columns, IsBasis, IsShown}
use Rattle.exact_forms.proofs.Rational.{ring_ℚ, zero_mul_ℚ}
use Rattle.exact_forms.proofs.RationalSums.{sum_ℚ_same, mul-sum_ℚ}
use Rattle.exact_forms.proofs.RankOne.{rank_one_sum_is, rank_one_sum_same}
use Rattle.exact_forms.proofs.Signs.{positive_nonneg, positive_inverse, nonneg_product, nonneg_zero, whole_positive}
use Rattle.exact_forms.proofs.Slacks.{replaced_other}
use Rattle.symmetric_matrix.specs.Symmetric.{Symmetric, entry}
use Rattle.exact_linear.proofs.Listed.{contains_at, contained, basic_row, row_basic, sum_listed}
use Rattle.exact_linear.proofs.FirstTables.{first_coordinates}
use Rattle.exact_linear.specs.Tables.{Table, rows_of, table_entry, basic_at, first_place, is_there, holds, row_of, is_basic, contains}
use Rattle.exact_linear.proofs.Places.{first_found, first_none}
use Rattle.exact_linear.proofs.Summed.{coord_other}
use Rattle.exact_lp.specs.Rule.{target, top, is_below, is_settled, is_inside}
use Rattle.exact_lp.specs.Placement.{at_target, is_raised, coefficient, weights, first_table, problem_of}
use Rattle.exact_lp.specs.Program.{Program, IsProgram, weight}
use Rattle.exact_lp.specs.OfVectors.{IsPlaceable}
use Rattle.exact_lp.specs.Weights.{AreWeights}
use Rattle.exact_lp.proofs.Right.{not_negative_fact, start_columns, low_of, count_is, vector_entry_is, target_entry_is}
use Rattle.exact_lp.proofs.Outcome.{IsFactored, inside_factors}
use Rattle.exact_lp.proofs.FirstProgram.{IsFirst, the_first, the_program, first_free, first_coord, is_program, basic_vector}
use Rattle.exact_lp.proofs.Opening.{at_basic}
use Rattle.exact_lp.proofs.Tableaux.{IsTableau}
use Rattle.exact_lp.proofs.TableFacts.{inside_fact, top_within, target_within, vector_within}

-- ---- weights from coefficients
nonneg_quotient : (x y : Rational) → IsNonnegative x → IsPositive y → IsNonnegative (x /ℚ y)
unfolding ◌/ℚ◌
nonneg_quotient x y n p = nonneg_product x (inverse y.num y.den) n (positive_nonneg _ (positive_inverse y p))

pub weights_at : (t : Table) (m : ℕ) (cs : List ℕ) (d : Rational) (k : ℕ) → k < m
    → slice_index_or (weights t m cs d m) k (whole (pos 0)) ≡ coefficient t m cs k /ℚ d
unfolding weights
weights_at t m cs d k l = get_or-map-range_with_len (λ v. coefficient t m cs v /ℚ d) 0 m k k (whole (pos 0)) l (omega arith)

-- a sum divided by d
sum_quotient : (m : ℕ) (d : Rational) (x e : ℕ → Rational) → sum_ℚ m (λ v. (x v /ℚ d) *ℚ e v) ≡ sum_ℚ m (λ v. x v *ℚ e v) /ℚ d
unfolding ◌/ℚ◌
sum_quotient m d x e =
    sum_ℚ_same m _ _ (λ v l. ring_ℚ (x v ∷ inverse d.num d.den ∷ e v ∷ []) ((v0 ⊗ v1) ⊗ v2) (v1 ⊗ (v0 ⊗ v2)) refl)
    ∙ sym (mul-sum_ℚ (inverse d.num d.den) m (λ v. x v *ℚ e v))
    ∙ ring_ℚ (inverse d.num d.den ∷ sum_ℚ m (λ v. x v *ℚ e v) ∷ []) (v0 ⊗ v1) (v1 ⊗ v0) refl

-- nonnegative coefficients of the vectors' matrices that write S
pub record AreCoefficients (vectors : List (List ℕ)) (s : Symmetric) (t : Table) (cs : List ℕ) : Type 0 where
  pub nonnegative : (v : ℕ) → v < length vectors → IsNonnegative (coefficient t (length vectors) cs v)
  pub sum : (a b : ℕ) → a < s.size → b < s.size
      → sum_ℚ (length vectors)
      (λ v. coefficient t (length vectors) cs v *ℚ whole (coordinate (slice_index_or vectors v []) a *ℤ coordinate (slice_index_or vectors v []) b))
      ≡ whole (entry s a b)

pub weights_right : (vectors : List (List ℕ)) (s : Symmetric) (d : ℤ) (t : Table) (cs : List ℕ) → pos 1 ≤ℤ d → AreCoefficients vectors s t cs
    → AreWeights s.size vectors s d (λ k. slice_index_or (weights t (length vectors) cs (whole d) (length vectors)) k (whole (pos 0)))
weights_right vectors s d t cs hd C = record {
  nonnegative =
      λ k l. subst IsNonnegative (sym (weights_at t (length vectors) cs (whole d) k l))
      (nonneg_quotient (coefficient t (length vectors) cs k) (whole d) (C.nonnegative k l) (whole_positive d hd));
  sum = record {
    sum = λ a b la lb.
        rank_one_sum_same vectors _ (λ k. coefficient t (length vectors) cs k /ℚ whole d) a b (λ k l. weights_at t (length vectors) cs (whole d) k l)
        ∙ rank_one_sum_is vectors (λ k. coefficient t (length vectors) cs k /ℚ whole d) a b
        ∙ sum_quotient (length vectors) (whole d) (λ v. coefficient t (length vectors) cs v) _
        ∙ ap (λ w. w /ℚ whole d) (C.sum a b la lb);
  };
}

-- ---- the target's entry in the row of a column is its coordinate there
pub at_target_is : (A : Columns) (B : ℕ → Bool) (coord : ℕ → ℕ → Rational) (t : Table) (m c : ℕ) → IsBasis A B coord
    → IsShown A B coord (rows_of t) (table_entry t) (basic_at t)
    → target t m < A.count → c < A.count → at_target t m c ≡ coord (target t m) c
unfolding row_of
at_target_is A B coord t m c H S lt lc = by (first_place (holds t c) 0 (rows_of t)) refl
  where
    not_basic : first_place (holds t c) 0 (rows_of t) ≡ None → ((B c ≡ true) ⊎ (B c ≡ false)) → B c ≡ false
    not_basic e (inr f) = f
    not_basic e (inl b) = let i = S.every c lc b in
        absurd (let f = first_none (holds t c) 0 (rows_of t) e i.0 (omega arith) (let l = i.1 in omega arith) in let g = test_of_same (basic_at t i.0) c i.2 in
        cc)

    by : (o : Option ℕ) → first_place (holds t c) 0 (rows_of t) ≡ o → at_target t m c ≡ coord (target t m) c
    by None e =
        ap (λ (o : Option ℕ). elim o as (λ _. Rational) [ None ↦ whole (pos 0) | Some i ↦ table_entry t i (target t m) ]) e
        ∙ sym ((H.written (target t m) lt).outside c lc (not_basic e (true_or_false (B c))))
    by (Some i) e =
        let f = first_found (holds t c) 0 (rows_of t) i e in
        ap (λ (o : Option ℕ). elim o as (λ _. Rational) [ None ↦ whole (pos 0) | Some i ↦ table_entry t i (target t m) ]) e
        ∙ S.entry i (target t m) (let b = f.below in omega arith) lt ∙ ap (coord (target t m)) (same_of_test (basic_at t i) c f.passes)

-- ---- the coefficients of a table
pub coefficient_raised : (t : Table) (m : ℕ) (cs : List ℕ) (v : ℕ) → is_raised t m cs v ≡ true
    → coefficient t m cs v ≡ at_target t m (rows_of t + v) +ℚ at_target t m (top t m)
unfolding coefficient
coefficient_raised t m cs v h = ap (λ (b : Bool). if b then at_target t m (rows_of t + v) +ℚ at_target t m (top t m) else at_target t m (rows_of t + v)) h

pub coefficient_plain : (t : Table) (m : ℕ) (cs : List ℕ) (v : ℕ) → is_raised t m cs v ≡ false → coefficient t m cs v ≡ at_target t m (rows_of t + v)
unfolding coefficient
coefficient_plain t m cs v h = ap (λ (b : Bool). if b then at_target t m (rows_of t + v) +ℚ at_target t m (top t m) else at_target t m (rows_of t + v)) h

module _ (P : Program) (t : Table) (m : ℕ) (cs : List ℕ) (B : ℕ → Bool) (coord start : ℕ → ℕ
    → Rational) (T : IsTableau P t m cs B coord) (R : IsProgram P start) where
  listed : (v : ℕ) → v < m → contains cs (rows_of t + v) ≡ P.chosen (P.low + v)
  listed v l = by (true_or_false (contains cs (rows_of t + v))) (true_or_false (P.chosen (P.low + v)))
    where
      by : ((contains cs (rows_of t + v) ≡ true) ⊎ (contains cs (rows_of t + v) ≡ false)) → ((P.chosen (P.low + v) ≡ true) ⊎ (P.chosen (P.low + v) ≡ false))
          → contains cs (rows_of t + v) ≡ P.chosen (P.low + v)
      by (inl a) (inl b) = a ∙ sym b
      by (inr a) (inr b) = a ∙ sym b
      by (inl a) (inr b) =
          let k = contained cs (rows_of t + v) a in
          let lk : k.0 < P.rank = (let x = k.1 in let r = T.rank in omega arith) in
          let e : P.first k.0 ≡ P.low + v = (let x = T.ranks k.0 lk in let y = k.2 in let z = T.low in omega arith) in
          absurd (let c = R.first_is_chosen k.0 lk in let g : P.chosen (P.first k.0) ≡ P.chosen (P.low + v) = ap P.chosen e in cc)
      by (inr a) (inl b) =
          let j = R.chosen_is_first (P.low + v) (vector_within P t m cs B coord T (P.low + v) (let h = T.high in let z = T.low in omega arith)) b in
          let e : slice_index_or cs j.0 0 ≡ rows_of t + v = T.ranks j.0 j.1 ∙ j.2 ∙ ap (λ (r : ℕ). r + v) T.low in
          absurd (let c = contains_at cs j.0 (let r = T.rank in let x = j.1 in omega arith) in
          let g : contains cs (slice_index_or cs j.0 0) ≡ contains cs (rows_of t + v) = ap (contains cs) e in cc)

  top_basic : is_basic t (top t m) ≡ true
  top_basic = let i = T.shown.every P.top (top_within P t m cs B coord T) T.state.has_top in row_basic t (top t m) i.0 i.1 (i.2 ∙ T.top_is)

  raised_is : (v : ℕ) → v < m → is_raised t m cs v ≡ P.chosen (P.low + v)
  raised_is v l = ap₂ (λ (x : Bool) (y : Bool). x && y) top_basic (listed v l)

  at_target_of : (c : ℕ) → c < P.columns.count → at_target t m c ≡ coord P.target c
  at_target_of c lc =
      at_target_is P.columns B coord t m c T.state.basis T.shown (let a = T.target_is in let b = target_within P t m cs B coord T in omega arith) lc
      ∙ ap (λ (k : ℕ). coord k c) (sym T.target_is)

  pub coefficient_is : (v : ℕ) → v < m → coefficient t m cs v ≡ weight P coord (P.low + v)
  unfolding weight
  coefficient_is v l = by (true_or_false (P.chosen (P.low + v)))
    where
      within : P.low + v < P.columns.count
      within = vector_within P t m cs B coord T (P.low + v) (let h = T.high in let z = T.low in omega arith)

      apart : P.low + v ≢ P.top
      apart e = let h = T.high in let z = T.low in let w = T.top_is in absurd (omega arith)

      at_vector : at_target t m (rows_of t + v) ≡ cond (nat_eq (P.low + v) P.top) (whole (pos 0)) (coord P.target (P.low + v))
      at_vector =
          ap (λ (r : ℕ). at_target t m (r + v)) (sym T.low) ∙ at_target_of (P.low + v) within
          ∙ sym (replaced_other (coord P.target) P.top (whole (pos 0)) (P.low + v) apart)

      by : ((P.chosen (P.low + v) ≡ true) ⊎ (P.chosen (P.low + v) ≡ false))
          → coefficient t m cs v
          ≡ cond (nat_eq (P.low + v) P.top) (whole (pos 0)) (coord P.target (P.low + v)) +ℚ cond (P.chosen (P.low + v)) (coord P.target P.top) (whole (pos 0))
      by (inl c) =
          coefficient_raised t m cs v (raised_is v l ∙ c)
          ∙ ap₂ (λ x y. x +ℚ y) at_vector
          (ap (at_target t m) (sym T.top_is) ∙ at_target_of P.top (top_within P t m cs B coord T)
          ∙ sym (ap (λ (b : Bool). cond b (coord P.target P.top) (whole (pos 0))) c))
      by (inr c) =
          coefficient_plain t m cs v (raised_is v l ∙ c)
          ∙ at_vector
          ∙ ring_ℚ (cond (nat_eq (P.low + v) P.top) (whole (pos 0)) (coord P.target (P.low + v)) ∷ []) v0 (v0 ⊕ num (pos 0)) refl
          ∙ ap (λ w. cond (nat_eq (P.low + v) P.top) (whole (pos 0)) (coord P.target (P.low + v)) +ℚ w)
          (sym (ap (λ (b : Bool). cond b (coord P.target P.top) (whole (pos 0))) c))

-- ---- no negative entry of the target
pub settled_nonneg : (t : Table) (m : ℕ) → is_settled t m ≡ true → (i : ℕ) → i < rows_of t → IsNonnegative (table_entry t i (target t m))
unfolding is_settled
settled_nonneg t m h i l = by (first_place (is_below t m) 0 (rows_of t)) refl h
  where
    by : (o : Option ℕ) → first_place (is_below t m) 0 (rows_of t) ≡ o → not (is_there o) ≡ true → IsNonnegative (table_entry t i (target t m))
    by None e h = not_negative_fact (table_entry t i (target t m)) (first_none (is_below t m) 0 (rows_of t) e i (omega arith) (omega arith))
    by (Some k) e h = absurd cc

-- ---- columns from low on
-- a sum over all columns that is zero beside the vectors
vector_or_not : (k low m : ℕ) → ((low ≤ k) × (k < low + m)) ⊎ ((k < low) ⊎ (low + m ≤ k))
vector_or_not k low m = grind arith

pub sum_of_vectors : (count low m : ℕ) (w e : ℕ → Rational) → low + m ≤ count → ((k : ℕ) → k < count → ((k < low) ⊎ (low + m ≤ k)) → w k ≡ whole (pos 0))
    → sum_ℚ m (λ v. w (low + v) *ℚ e (low + v)) ≡ sum_ℚ count (λ k. w k *ℚ e k)
sum_of_vectors count low m w e h off =
    sum_listed count m (λ v. low + v) (λ k. w k *ℚ e k) (λ v l. omega arith) (λ i j li lj ne s. ne (omega arith)) (λ k l. by k l (vector_or_not k low m))
  where
    by : (k : ℕ) → k < count → (((low ≤ k) × (k < low + m)) ⊎ ((k < low) ⊎ (low + m ≤ k))) → ((v : ℕ) × (v < m) × (low + v ≡ k)) ⊎ (w k *ℚ e k ≡ whole (pos 0))
    by k l (inl h) = let a = h.0 in let b = h.1 in inl (k - low, omega arith, omega arith)
    by k l (inr n) = inr (ap (λ x. x *ℚ e k) (off k l n) ∙ zero_mul_ℚ (e k))

-- ---- the answer
module _ (vectors : List (List ℕ)) (s : Symmetric) (d : ℤ) (g : IsPlaceable vectors s) (F : IsFirst vectors s d) where
  abbrev P : Program
  P = the_program vectors s d g F

  -- from coefficients of the columns
  from_columns : (w : ℕ → Rational) (t : Table) (cs : List ℕ) → ((v : ℕ) → v < length vectors → coefficient t (length vectors) cs v ≡ w (low_of s + v))
      → IsFactored P w → AreCoefficients vectors s t cs
  from_columns w t cs same W = record {
    nonnegative = λ v l. subst IsNonnegative (sym (same v l)) (W.nonnegative (low_of s + v) (let c = count_is vectors s in omega arith));
    sum = λ a b la lb.
        sum_ℚ_same (length vectors) _ _ (λ v l. ap₂ (λ x y. x *ℚ y) (same v l) (sym (vector_entry_is vectors s d v a b l (g.sizes v l) la lb)))
        ∙ sum_of_vectors P.columns.count (low_of s) (length vectors) w (λ k. P.columns.entry k a b) (let c = count_is vectors s in omega arith) W.vectors
        ∙ W.sum a b la lb
        ∙ target_entry_is vectors s d a b;
  }

  -- after any number of steps
  pub inside_right : (t : Table) (cs : List ℕ) (B : ℕ → Bool) (coord : ℕ → ℕ → Rational) → pos 1 ≤ℤ d → IsTableau P t (length vectors) cs B coord
      → is_inside t (length vectors) ≡ true
      → AreWeights s.size vectors s d (λ k. slice_index_or (weights t (length vectors) cs (whole d) (length vectors)) k (whole (pos 0)))
  inside_right t cs B coord hd T h =
      weights_right vectors s d t cs hd
      (from_columns (weight P coord) t cs
      (λ v l. coefficient_is P t (length vectors) cs B coord (first_coord vectors s d g F) T
      (is_program vectors s d g F) v l)
      (inside_factors P (first_coord vectors s d g F) (is_program vectors s d g F) B coord T.state
      (inside_fact P t (length vectors) cs B coord T h)))

  -- ---- where the first basis settles it
  abbrev f : Table
  f = the_first vectors s d g F

  abbrev start : ℕ → ℕ → Rational
  start = first_coord vectors s d g F

  R : IsProgram P start
  R = is_program vectors s d g F

  settled_factors : is_settled f (length vectors) ≡ true → IsFactored P (start P.target)
  settled_factors h = record {
    vectors = λ k l n. beside k l n (true_or_false (F.basis k));
    nonnegative = λ k l. nonnegative k l (true_or_false (F.basis k));
    sum = (R.basis.written P.target R.target_within).sum;
  }
    where
      beside : (k : ℕ) → k < P.columns.count → ((k < P.low) ⊎ (P.high ≤ k)) → ((F.basis k ≡ true) ⊎ (F.basis k ≡ false)) → start P.target k ≡ whole (pos 0)
      beside k l n (inr o) = (R.basis.written P.target R.target_within).outside k l o
      beside k l (inl n) (inl b) = let v = (basic_vector vectors s d g F k l b).0 in absurd (omega arith)
      beside k l (inr n) (inl b) = let v = (basic_vector vectors s d g F k l b).1 in absurd (omega arith)

      nonnegative : (k : ℕ) → k < P.columns.count → ((F.basis k ≡ true) ⊎ (F.basis k ≡ false)) → IsNonnegative (start P.target k)
      nonnegative k l (inr o) = nonneg_zero _ ((R.basis.written P.target R.target_within).outside k l o)
      nonnegative k l (inl b) =
          let i = F.shown.every k l b in
          subst (λ (k : ℕ). IsNonnegative (start P.target k)) i.2
          (subst IsNonnegative (sym (at_basic vectors s d g F i.0 i.1)) (settled_nonneg f (length vectors) h i.0 i.1))

  not_raised : (cs : List ℕ) (v : ℕ) → is_raised f (length vectors) cs v ≡ false
  not_raised cs v = ap (λ (x : Bool). x && contains cs (rows_of f + v)) (by (true_or_false (is_basic f (top f (length vectors)))))
    where
      by : ((is_basic f (top f (length vectors)) ≡ true) ⊎ (is_basic f (top f (length vectors)) ≡ false)) → is_basic f (top f (length vectors)) ≡ false
      by (inr n) = n
      by (inl b) =
          let i = basic_row f (top f (length vectors)) b in
          absurd ((first_free vectors s d g F).free i.0 i.1 (let e = i.2 in let w = F.width in let r = F.rows in let c = count_is vectors s in
          omega arith))

  pub settled_coefficient : (cs : List ℕ) (v : ℕ) → v < length vectors → coefficient f (length vectors) cs v ≡ start P.target (low_of s + v)
  settled_coefficient cs v l =
      coefficient_plain f (length vectors) cs v (not_raised cs v)
      ∙ ap (λ (r : ℕ). at_target f (length vectors) (r + v)) F.rows
      ∙ at_target_is (start_columns vectors s) F.basis F.coord f (length vectors) (low_of s + v) F.first.basis F.shown (let r = F.rows in
      let c = count_is vectors s in omega arith) (let c = count_is vectors s in omega arith)
      ∙ ap (λ (r : ℕ). F.coord (r + length vectors) (low_of s + v)) F.rows
      ∙ sym (coord_other (start_columns vectors s) f (first_coordinates (start_columns vectors s) (low_of s) (low_of s + length vectors) f F)
      (first_free vectors s d g F) P.target (low_of s + v) (let c = count_is vectors s in omega arith))

  pub settled_right : (cs : List ℕ) → pos 1 ≤ℤ d → is_settled f (length vectors) ≡ true
      → AreWeights s.size vectors s d (λ k. slice_index_or (weights f (length vectors) cs (whole d) (length vectors)) k (whole (pos 0)))
  settled_right cs hd h = weights_right vectors s d f cs hd (from_columns (start P.target) f cs (settled_coefficient cs) (settled_factors h))
