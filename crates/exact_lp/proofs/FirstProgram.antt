-- The linear program of a perfect list of vectors, with its first basis.
use Rattle.std.specs.Prelude.{◌≡◌, ◌≢◌, ℕ, ◌+◌, ◌-◌, ◌*◌, ◌<◌, ◌≤◌, ◌⊎◌, ℤ, pos, ◌*ℤ◌, ◌≤ℤ◌, Bool, true, false, cond, List, [], length, slice_index_or}
use Rattle.std.specs.Prelude.{if◌then◌else◌}
use Rattle.std.proofs.Common.{arith, sym, ◌∙◌, ap, refl, subst, inl, inr}
use Rattle.std.proofs.lemmas.Int.{ints}
use Rattle.commutative_ring.proofs.SmallCases.{below_or_not, names_apart, test_of_same, true_or_false}
use Rattle.exact_forms.specs.Rational.{Rational, whole}
use Rattle.exact_forms.specs.Sums.{sum_ℚ}
use Rattle.exact_forms.specs.Signs.{IsNonnegative}
use Rattle.exact_forms.proofs.RationalSums.{sum_ℚ_same}
use Rattle.exact_forms.proofs.Signs.{whole_nonneg, total_nonneg}
use Rattle.symmetric_matrix.specs.Symmetric.{Symmetric}
use Rattle.exact_linear.proofs.Listed.{IsPassing, places_pass, places_increase, places_all, basic_row, row_basic, sum_listed}
use Rattle.exact_linear.proofs.FirstTables.{IsFirstTable, first_coordinates}
use Rattle.exact_linear.specs.Tables.{Table, rows_of, basic_at, is_basic}
use Rattle.exact_linear.specs.Columns.{IsLastFree}
use Rattle.exact_linear.proofs.Summed.{summed_coord, summed_basis}
use Rattle.exact_lp.specs.Rule.{first_columns}
use Rattle.exact_lp.specs.Placement.{first_table, firsts, problem_of}
use Rattle.exact_lp.specs.Program.{Program, IsProgram, IsNonnegativeProgram}
use Rattle.exact_lp.specs.OfVectors.{IsPlaceable}
use Rattle.exact_lp.proofs.Placing.{last_free}
use Rattle.exact_lp.proofs.Right.{all_columns, other_column, start_columns, low_of, count_is, vector_entry_is}
use Rattle.exact_lp.proofs.FirstBasis.{no_unit_left}
use Rattle.exact_lp.proofs.Starting.{IsStart, start_is}

-- ---- the columns of the first basis, in a list
pub first_pass : (t : Table) (m k : ℕ) → k < length (first_columns t m) → IsPassing (is_basic t) (rows_of t) m (slice_index_or (first_columns t m) k 0)
unfolding first_columns
first_pass t m k l = places_pass (is_basic t) (rows_of t) m k l

pub first_increase : (t : Table) (m j k : ℕ) → j < k → k < length (first_columns t m)
    → slice_index_or (first_columns t m) j 0 < slice_index_or (first_columns t m) k 0
unfolding first_columns
first_increase t m j k h l = places_increase (is_basic t) (rows_of t) m j k h l

pub first_all : (t : Table) (m c : ℕ) → is_basic t c ≡ true → rows_of t ≤ c → c < rows_of t + m
    → (k : ℕ) × (k < length (first_columns t m)) × (slice_index_or (first_columns t m) k 0 ≡ c)
unfolding first_columns
first_all t m c h f b = places_all (is_basic t) (rows_of t) m c h f b

-- ---- the columns
abbrev pub program_with : List (List ℕ) → Symmetric → ℤ → (ℕ → Bool) → Program
program_with vectors s d chosen = record {
  columns = all_columns vectors s d;
  low = low_of s;
  high = low_of s + length vectors;
  target = low_of s + length vectors;
  top = low_of s + length vectors + 1;
  rank = length (firsts (problem_of vectors s d));
  first = λ j. slice_index_or (firsts (problem_of vectors s d)) j 0;
  chosen = chosen;
}

-- ---- the program
-- its table over the first basis
abbrev pub IsFirst : List (List ℕ) → Symmetric → ℤ → Type 0
IsFirst vectors s d = IsFirstTable (start_columns vectors s) (low_of s) (low_of s + length vectors) (first_table (problem_of vectors s d))

module _ (vectors : List (List ℕ)) (s : Symmetric) (d : ℤ) (g : IsPlaceable vectors s) (F : IsFirst vectors s d) where
  abbrev pub the_first : Table
  the_first = first_table (problem_of vectors s d)

  pub first_free : IsLastFree the_first
  first_free =
      let S : IsStart (problem_of vectors s d).start (length vectors) = start_is vectors s (problem_of vectors s d).start g.some refl in
      last_free (problem_of vectors s d).start the_first (length vectors) refl S.units S.width

  -- the coordinates over the first basis
  abbrev pub first_coord : ℕ → ℕ → Rational
  first_coord =
      summed_coord (start_columns vectors s) the_first (first_coordinates (start_columns vectors s) (low_of s) (low_of s + length vectors) the_first F)
      first_free

  abbrev pub the_program : Program
  the_program = program_with vectors s d F.basis

  size : (start_columns vectors s).count ≡ low_of s + length vectors + 2
  size = count_is vectors s

  -- a basic column is a vector's
  pub basic_vector : (k : ℕ) → k < (start_columns vectors s).count → F.basis k ≡ true → (low_of s ≤ k) × (k < low_of s + length vectors)
  basic_vector k l b = (by (below_or_not k (low_of s)), by_end (below_or_not k (low_of s + length vectors)))
    where
      by : ((k < low_of s) ⊎ (low_of s ≤ k)) → low_of s ≤ k
      by (inr h) = h
      by (inl h) = absurd (let f = no_unit_left vectors s the_first g.sizes g.perfect F k h in cc)

      by_end : ((k < low_of s + length vectors) ⊎ (low_of s + length vectors ≤ k)) → k < low_of s + length vectors
      by_end (inl h) = h
      by_end (inr h) = absurd (let f = F.first.later k h l in cc)

  in_list : (j : ℕ) → j < the_program.rank → IsPassing (is_basic the_first) (rows_of the_first) (length vectors) (the_program.first j)
  in_list j l = first_pass the_first (length vectors) j l

  listed : (k : ℕ) → k < (start_columns vectors s).count → F.basis k ≡ true → (j : ℕ) × (j < the_program.rank) × (the_program.first j ≡ k)
  listed k l b =
      let v = basic_vector k l b in
      let i = F.shown.every k l b in
      let r = F.rows in
      first_all the_first (length vectors) k (row_basic the_first k i.0 i.1 i.2) (let a = v.0 in omega arith) (let a = v.1 in omega arith)

  is_chosen : (j : ℕ) → j < the_program.rank → F.basis (the_program.first j) ≡ true
  is_chosen j l = let i = basic_row the_first (the_program.first j) (in_list j l).passes in ap F.basis (sym i.2) ∙ F.shown.in_basis i.0 i.1

  is_vector : (j : ℕ) → j < the_program.rank → (low_of s ≤ the_program.first j) × (the_program.first j < low_of s + length vectors)
  is_vector j l = let p = in_list j l in let r = F.rows in ((let a = p.from in omega arith), (let a = p.below in omega arith))

  apart : (i j : ℕ) → i < the_program.rank → j < the_program.rank → i ≢ j → the_program.first i ≢ the_program.first j
  apart = names_apart the_program.first the_program.rank (λ i j l lj e. let a = first_increase the_first (length vectors) i j l lj in omega arith)

  abbrev chosen_entry : ℕ → ℕ → ℕ → Rational
  chosen_entry a b k = cond (F.basis k) ((start_columns vectors s).entry k a b) (whole (pos 0))

  -- the sum over the rows is the sum over the list
  top_is_sum : (a b : ℕ) → the_program.columns.entry the_program.top a b ≡ sum_ℚ the_program.rank (λ j. the_program.columns.entry (the_program.first j) a b)
  top_is_sum a b =
      ap (λ (x : Bool). if x then sum_ℚ (rows_of the_first) (λ i. (start_columns vectors s).entry (basic_at the_first i) a b) else
      (start_columns vectors s).entry the_program.top a b) (test_of_same (the_program.top + 1) (start_columns vectors s).count (let c = size in
      omega arith))
      ∙ sum_ℚ_same (rows_of the_first) _ (λ i. chosen_entry a b (basic_at the_first i)) (λ i li. sym (at_basis (basic_at the_first i) (F.shown.in_basis i li)))
      ∙ sum_listed (start_columns vectors s).count (rows_of the_first) (basic_at the_first) (chosen_entry a b) F.shown.within
      (λ i j li lj ne. F.shown.apart i j li lj ne) (λ k l. each_row k l (true_or_false (F.basis k)))
      ∙ sym (sum_listed (start_columns vectors s).count the_program.rank the_program.first (chosen_entry a b) (λ j l. let a = (is_vector j l).1 in
      let c = size in omega arith) apart (λ k l. each_listed k l (true_or_false (F.basis k))))
      ∙ sum_ℚ_same the_program.rank _ _ (λ j l. at_basis (the_program.first j) (is_chosen j l)
      ∙ sym (other_column (start_columns vectors s) the_first (the_program.first j) a b (let v = (is_vector j l).1 in let c = size in omega arith)))
    where
      at_basis : (k : ℕ) → F.basis k ≡ true → chosen_entry a b k ≡ (start_columns vectors s).entry k a b
      at_basis k t = ap (λ (x : Bool). cond x ((start_columns vectors s).entry k a b) (whole (pos 0))) t

      off_basis : (k : ℕ) → F.basis k ≡ false → chosen_entry a b k ≡ whole (pos 0)
      off_basis k f = ap (λ (x : Bool). cond x ((start_columns vectors s).entry k a b) (whole (pos 0))) f

      each_row : (k : ℕ) → k < (start_columns vectors s).count → ((F.basis k ≡ true) ⊎ (F.basis k ≡ false))
          → ((i : ℕ) × (i < rows_of the_first) × (basic_at the_first i ≡ k)) ⊎ (chosen_entry a b k ≡ whole (pos 0))
      each_row k l (inl t) = inl (F.shown.every k l t)
      each_row k l (inr f) = inr (off_basis k f)

      each_listed : (k : ℕ) → k < (start_columns vectors s).count → ((F.basis k ≡ true) ⊎ (F.basis k ≡ false))
          → ((j : ℕ) × (j < the_program.rank) × (the_program.first j ≡ k)) ⊎ (chosen_entry a b k ≡ whole (pos 0))
      each_listed k l (inl t) = inl (listed k l t)
      each_listed k l (inr f) = inr (off_basis k f)

  pub is_program : IsProgram the_program first_coord
  is_program = record {
    basis = summed_basis (start_columns vectors s) the_first (first_coordinates (start_columns vectors s) (low_of s) (low_of s + length vectors) the_first F)
        first_free;
    vectors = let c = size in omega arith;
    target_within = let c = size in omega arith;
    top_within = let c = size in omega arith;
    top_apart = λ k a b. omega arith;
    first_is_vector = is_vector;
    first_is_chosen = is_chosen;
    chosen_is_first = listed;
    increasing = λ i j h l. first_increase the_first (length vectors) i j h l;
    top_is_sum = λ a b la lb. top_is_sum a b;
  }

  vector_nonneg : (k a b : ℕ) → a < s.size → b < s.size → low_of s ≤ k → k < low_of s + length vectors → IsNonnegative (the_program.columns.entry k a b)
  vector_nonneg k a b la lb lo hi =
      let e : low_of s + (k - low_of s) ≡ k = omega arith in
      let l : k - low_of s < length vectors = omega arith in
      subst (λ (k : ℕ). IsNonnegative (the_program.columns.entry k a b)) e
      (subst IsNonnegative (sym (vector_entry_is vectors s d (k - low_of s) a b l (g.sizes (k - low_of s) l) la lb))
      (whole_nonneg _ (nonneg (slice_index_or (slice_index_or vectors (k - low_of s) []) a 0) (slice_index_or (slice_index_or vectors (k - low_of s) []) b 0))))
    where
      nonneg : (x y : ℕ) → pos 0 ≤ℤ (pos x *ℤ pos y)
      nonneg x y = let p : pos 0 ≤ℤ pos (x * y) = omega (arith, ints) in p

  pub is_nonnegative : IsNonnegativeProgram the_program
  is_nonnegative = record {
    vectors = vector_nonneg;
    top = λ a b la lb. subst IsNonnegative (sym (top_is_sum a b))
        (total_nonneg the_program.rank (λ j. the_program.columns.entry (the_program.first j) a b) (λ j l. let v = is_vector j l in
        vector_nonneg (the_program.first j) a b la lb v.0 v.1));
  }
