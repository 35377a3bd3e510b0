-- The answer Outside is right.
use Rattle.std.specs.Prelude.{◌≡◌, ◌≢◌, ℕ, ◌+◌, ◌<◌, ℤ, pos, negsuc, ◌≤ℤ◌, ◌<ℤ◌, ◌*ℤ◌, Bool, true, false, ◌||◌, List, [], ◌∷◌, ◌++◌, length, slice_index_or}
use Rattle.std.specs.Prelude.{None, if◌then◌else◌}
use Rattle.std.proofs.Common.{arith, sym, ◌∙◌, ap, refl, subst, length-append}
use Rattle.std.proofs.lemmas.Int.{ints}
use Rattle.commutative_ring.proofs.Ring.{◌⊗◌, v0, v1, v2}
use Rattle.commutative_ring.proofs.SmallCases.{not_false, test_of_apart}
use Rattle.exact_forms.specs.Rational.{Rational, whole, ◌*ℚ◌, ◌/ℚ◌}
use Rattle.exact_forms.specs.Sums.{sum_ℚ}
use Rattle.exact_forms.specs.Signs.{IsNegative, IsNonnegative}
use Rattle.exact_forms.specs.Triangles.{triangle}
use Rattle.exact_forms.specs.Vectors.{coordinate}
use Rattle.exact_forms.specs.Coordinates.{Columns, mark}
use Rattle.exact_forms.proofs.Rational.{ring_ℚ, div-mul}
use Rattle.exact_forms.proofs.RationalSums.{sum_ℚ_same, sum_ℚ_swap, mul-sum_ℚ, sum_ℚ-mul}
use Rattle.exact_forms.proofs.Signs.{nonneg_product, total_nonneg, positive_nonneg, whole_positive, positive_not_zero, negative_not_nonneg}
use Rattle.exact_forms.proofs.Coordinates.{read_off, sum_marked}
use Rattle.exact_forms.proofs.RankOne.{rank_one_sum_is}
use Rattle.symmetric_matrix.specs.Symmetric.{Symmetric, entry}
use Rattle.exact_linear.proofs.SquareLists.{length-squares}
use Rattle.exact_linear.specs.Squares.{squares}
use Rattle.exact_linear.specs.Tables.{Table, rows_of, table_entry, basic_at}
use Rattle.exact_linear.specs.Columns.{columns_of, with_sum_of, HasCoordinates}
use Rattle.exact_linear.proofs.Places.{first_none}
use Rattle.exact_linear.proofs.SquareColumns.{vector_column, target_column}
use Rattle.exact_lp.specs.Rule.{target, top, is_negative, top_row, is_inside, goes_down, entering}
use Rattle.exact_lp.specs.Placement.{Problem, first_table, table_after, is_settled_first, is_last, problem_of}
use Rattle.exact_lp.specs.Weights.{AreWeights}
use Rattle.exact_lp.proofs.Meaning.{IsReady, top_row_is}

-- ---- signs
pub negative_fact : (x : Rational) → is_negative x ≡ true → IsNegative x
negative_fact x h = record { numerator = by x.num h }
  where
    by : (n : ℤ) → elim n as (λ _. Bool) [ pos n ↦ false | negsuc n ↦ true ] ≡ true → n <ℤ pos 0
    by (pos n) h = absurd cc
    by (negsuc n) h = omega (arith, ints)

pub not_negative_fact : (x : Rational) → is_negative x ≡ false → IsNonnegative x
not_negative_fact x h = record { numerator = by x.num h }
  where
    by : (n : ℤ) → elim n as (λ _. Bool) [ pos n ↦ false | negsuc n ↦ true ] ≡ false → pos 0 ≤ℤ n
    by (pos n) h = omega (arith, ints)
    by (negsuc n) h = absurd cc

-- ---- a combination of some of the columns
spread : (count m low : ℕ) (w f : ℕ → Rational) → ((j : ℕ) → j < m → low + j < count)
    → sum_ℚ count (λ k. sum_ℚ m (λ j. w j *ℚ mark (low + j) k) *ℚ f k) ≡ sum_ℚ m (λ j. w j *ℚ f (low + j))
spread count m low w f h =
    sum_ℚ_same count _ _ (λ k lk. sum_ℚ-mul (f k) m (λ j. w j *ℚ mark (low + j) k)
    ∙ sum_ℚ_same m _ _ (λ j lj. ring_ℚ (w j ∷ mark (low + j) k ∷ f k ∷ []) ((v0 ⊗ v1) ⊗ v2) (v0 ⊗ (v1 ⊗ v2)) refl))
    ∙ sum_ℚ_swap count m (λ k j. w j *ℚ (mark (low + j) k *ℚ f k))
    ∙ sum_ℚ_same m _ _ (λ j lj. sym (mul-sum_ℚ (w j) count (λ k. mark (low + j) k *ℚ f k)) ∙ ap (λ x. w j *ℚ x) (sum_marked count f (low + j) (h j lj)))

-- ---- where the row of t has no negative vector, a nonnegative combination is not negative there
pub no_weights : (A : Columns) (t : Table) (m : ℕ) (w : ℕ → Rational) → IsReady A t m → is_inside t m ≡ false → entering t m ≡ None
    → ((j : ℕ) → j < m → IsNonnegative (w j))
    → ((a b : ℕ) → a < A.size → b < A.size → sum_ℚ m (λ j. w j *ℚ A.entry (rows_of t + j) a b) ≡ A.entry (target t m) a b) → ⊥
unfolding is_inside entering
no_weights A t m w R h e nn sums =
    negative_not_nonneg (H.coord (target t m) (top t m))
    (subst IsNegative (at_top (target t m) (omega arith))
    (negative_fact (table_entry t (top_row t m) (target t m)) (not_false (is_negative (table_entry t (top_row t m) (target t m))) h)))
    (subst IsNonnegative (sym (
    read_off A H.basis H.coord (λ k. sum_ℚ m (λ j. w j *ℚ mark (rows_of t + j) k)) (H.coord (target t m)) (A.entry (target t m)) H.is_basis
    (H.is_basis.written (target t m) (omega arith))
    (λ a b la lb. spread A.count m (rows_of t) w (λ k. A.entry k a b) (λ j lj. within j lj) ∙ sums a b la lb) (top t m) (omega arith)
    ∙ spread A.count m (rows_of t) w (λ k. H.coord k (top t m)) (λ j lj. within j lj)))
    (total_nonneg m (λ j. w j *ℚ H.coord (rows_of t + j) (top t m)) (λ j lj. nonneg_product (w j) (H.coord (rows_of t + j) (top t m)) (nn j lj)
    (subst IsNonnegative (at_top (rows_of t + j) (within j lj))
    (not_negative_fact (table_entry t (top_row t m) (rows_of t + j))
    (first_none (goes_down t m) (rows_of t) m e (rows_of t + j) (omega arith) (omega arith)))))))
  where
    H : HasCoordinates A t
    H = R.good.coordinates

    size : A.count ≡ rows_of t + m + 2
    size = H.width ∙ sym R.width

    within : (j : ℕ) → j < m → rows_of t + j < A.count
    within j l = let s = size in omega arith

    at_top : (j : ℕ) → j < A.count → table_entry t (top_row t m) j ≡ H.coord j (top t m)
    at_top j l = let r = top_row_is A t m R in H.shown.entry (top_row t m) j r.0 l ∙ ap (H.coord j) r.1

-- the columns of the linear program, the last one being the sum of the first basis
abbrev pub all_columns : List (List ℕ) → Symmetric → ℤ → Columns
all_columns vectors s d = with_sum_of (columns_of s.size (squares vectors ++ s ∷ [])) (first_table (problem_of vectors s d))

-- ---- the answer
pub other_column : (A : Columns) (t : Table) (j a b : ℕ) → j + 1 ≢ A.count → (with_sum_of A t).entry j a b ≡ A.entry j a b
other_column A t j a b n = ap (λ (x : Bool). if x then sum_ℚ (rows_of t) (λ i. A.entry (basic_at t i) a b) else A.entry j a b) (test_of_apart (j + 1) A.count n)

abbrev pub start_columns : List (List ℕ) → Symmetric → Columns
start_columns vectors s = columns_of s.size (squares vectors ++ s ∷ [])

-- how many columns there are before the vectors'
abbrev pub low_of : Symmetric → ℕ
low_of s = triangle s.size

pub count_is : (vectors : List (List ℕ)) (s : Symmetric) → (start_columns vectors s).count ≡ low_of s + length vectors + 2
count_is vectors s = let a = length-append (squares vectors) (s ∷ []) in let b = length-squares vectors in omega arith

pub vector_entry_is : (vectors : List (List ℕ)) (s : Symmetric) (d : ℤ) (j a b : ℕ) → j < length vectors → length (slice_index_or vectors j []) ≡ s.size
    → a < s.size → b < s.size
    → (all_columns vectors s d).entry (low_of s + j) a b ≡ whole (coordinate (slice_index_or vectors j []) a *ℤ coordinate (slice_index_or vectors j []) b)
vector_entry_is vectors s d j a b lj size la lb =
    other_column (start_columns vectors s) (first_table (problem_of vectors s d)) (low_of s + j) a b (let c = count_is vectors s in omega arith)
    ∙ vector_column s.size vectors (s ∷ []) j a b lj size la lb

pub target_entry_is : (vectors : List (List ℕ)) (s : Symmetric) (d : ℤ) (a b : ℕ)
    → (all_columns vectors s d).entry (low_of s + length vectors) a b ≡ whole (entry s a b)
target_entry_is vectors s d a b =
    other_column (start_columns vectors s) (first_table (problem_of vectors s d)) (low_of s + length vectors) a b (let c = count_is vectors s in omega arith)
    ∙ target_column s.size vectors s a b

pub not_inside : (p : Problem) (k : ℕ) → is_last p k ≡ false → is_inside (table_after p k) p.vectors ≡ false
unfolding is_last
not_inside p k h = by (is_settled_first p) (is_inside (table_after p k) p.vectors) h
  where
    by : (x y : Bool) → (x || y) ≡ false → y ≡ false
    by true y h = absurd cc
    by false y h = h

pub outside_right : (vectors : List (List ℕ)) (s : Symmetric) (d : ℤ) (t : Table) (c : ℕ → Rational) → pos 1 ≤ℤ d
    → ((k : ℕ) → k < length vectors → length (slice_index_or vectors k []) ≡ s.size)
    → IsReady (all_columns vectors s d) t (length vectors) → is_inside t (length vectors) ≡ false → entering t (length vectors) ≡ None
    → AreWeights s.size vectors s d c → ⊥
outside_right vectors s d t c hd sizes R last none W =
    no_weights A t (length vectors) (λ j. whole d *ℚ c j) R last none
    (λ j l. nonneg_product (whole d) (c j) (positive_nonneg (whole d) (whole_positive d hd)) (W.nonnegative j l))
    (λ a b la lb.
    sum_ℚ_same (length vectors) _ _ (λ j lj. ap (λ x. (whole d *ℚ c j) *ℚ x) (vector_entry j a b lj la lb)
    ∙ ring_ℚ (whole d ∷ c j ∷ whole (coordinate (slice_index_or vectors j []) a *ℤ coordinate (slice_index_or vectors j []) b) ∷ []) ((v0 ⊗ v1) ⊗ v2)
    (v0 ⊗ (v1 ⊗ v2)) refl)
    ∙ sym (mul-sum_ℚ (whole d) (length vectors) (λ j. c j *ℚ whole (coordinate (slice_index_or vectors j []) a *ℤ coordinate (slice_index_or vectors j []) b)))
    ∙ ap (λ x. whole d *ℚ x) (sym (rank_one_sum_is vectors c a b) ∙ W.sum.sum a b la lb)
    ∙ ring_ℚ (whole d ∷ (whole (entry s a b) /ℚ whole d) ∷ []) (v0 ⊗ v1) (v1 ⊗ v0) refl
    ∙ div-mul (whole (entry s a b)) (whole d) (positive_not_zero (whole d) (whole_positive d hd))
    ∙ sym (target_entry a b))
  where
    A : Columns
    A = all_columns vectors s d

    rows : rows_of t ≡ triangle s.size
    rows = let w = R.width in let x = R.good.coordinates.width in let a = length-append (squares vectors) (s ∷ []) in let b = length-squares vectors in
        omega arith

    vector_entry : (j a b : ℕ) → j < length vectors → a < s.size → b < s.size
        → A.entry (rows_of t + j) a b ≡ whole (coordinate (slice_index_or vectors j []) a *ℤ coordinate (slice_index_or vectors j []) b)
    vector_entry j a b lj la lb = ap (λ (r : ℕ). A.entry (r + j) a b) rows ∙ vector_entry_is vectors s d j a b lj (sizes j lj) la lb

    target_entry : (a b : ℕ) → A.entry (target t (length vectors)) a b ≡ whole (entry s a b)
    target_entry a b = ap (λ (r : ℕ). A.entry (r + length vectors) a b) rows ∙ target_entry_is vectors s d a b
