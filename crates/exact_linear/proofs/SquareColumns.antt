-- The columns of the tableau of a list of vectors are their squares, then the target.
use Rattle.std.specs.Prelude.{◌≡◌, ℕ, zero, suc, ◌+◌, ◌-◌, ◌<◌, ◌≤◌, ◌⊎◌, pos, ◌*ℤ◌, Bool, true, false, nat_lt, List, [], ◌∷◌, ◌++◌, length, get_or}
use Rattle.std.specs.Prelude.{slice_index_or, if◌then◌else◌}
use Rattle.std.proofs.Common.{arith, sym, ◌∙◌, ap, refl, subst, inl, inr, length-append, append-nil}
use Rattle.std.proofs.lemmas.List.{get_or-append-add}
use Rattle.std.proofs.Math.ListN.{get_or-append}
use Rattle.std.proofs.lemmas.List.FromFn.{get_or-map-range_with_len}
use lib.IntN.{*ℤ_comm}
use Rattle.commutative_ring.proofs.SmallCases.{at_least_of_test, at_most_of_test, last_or_before}
use Rattle.exact_forms.specs.Rational.{whole}
use Rattle.exact_forms.specs.Triangles.{triangle, entry_in}
use Rattle.exact_forms.specs.RankOne.{HasVectors}
use Rattle.exact_forms.proofs.Triangles.{entry_before}
use Rattle.exact_forms.specs.Vectors.{coordinate}
use Rattle.symmetric_matrix.specs.Symmetric.{Symmetric, entry}
use Rattle.exact_linear.proofs.SquareLists.{rows_length, length-squares, squares_at, at_end}
use Rattle.exact_linear.specs.Squares.{square_row, square_rows, squares}
use Rattle.exact_linear.specs.Columns.{place_in, start_cell, no_matrix, columns_of}
use Rattle.exact_linear.proofs.StartTable.{cell_given}

row_at : (x : List ℕ) (i j : ℕ) → j ≤ i → get_or (square_row x i) j (pos 0) ≡ coordinate x i *ℤ coordinate x j
row_at x i j l = get_or-map-range_with_len (λ j. coordinate x i *ℤ coordinate x j) 0 (i + 1) j j (pos 0) (omega arith) (omega arith)

square_at : (x : List ℕ) (n a b : ℕ) → b ≤ a → a < n → get_or (square_rows x n) (triangle a + b) (pos 0) ≡ coordinate x a *ℤ coordinate x b
unfolding square_rows
square_at x zero a b h l = absurd (omega arith)
square_at x (suc n) a b h l = by (last_or_before a n l) (λ m. square_at x n a b h m)
  where
    by : ((a ≡ n) ⊎ (a < n)) → (a < n → get_or (square_rows x n) (triangle a + b) (pos 0) ≡ coordinate x a *ℤ coordinate x b)
        → get_or (square_rows x n ++ square_row x n) (triangle a + b) (pos 0) ≡ coordinate x a *ℤ coordinate x b
    by (inl e) rec =
        let size = rows_length x n in
        ap (λ (k : ℕ). get_or (square_rows x n ++ square_row x n) (k + b) (pos 0)) (ap triangle e ∙ sym size)
        ∙ get_or-append-add (square_rows x n) (square_row x n) b (pos 0)
        ∙ row_at x n b (omega arith)
        ∙ ap (λ (a : ℕ). coordinate x a *ℤ coordinate x b) (sym e)
    by (inr m) rec =
        let size = rows_length x n in
        let before = entry_before a b n h m in
        get_or-append (square_rows x n) (square_row x n) (pos 0) (triangle a + b) (omega arith) ∙ rec m

pub square_entry : (x : List ℕ) (i j : ℕ) → i < length x → j < length x
    → get_or (square_rows x (length x)) (place_in i j) (pos 0) ≡ coordinate x i *ℤ coordinate x j
unfolding place_in
square_entry x i j li lj = by (nat_lt i j) refl
  where
    by : (t : Bool) → nat_lt i j ≡ t
        → get_or (square_rows x (length x)) (if t then triangle j + i else triangle i + j) (pos 0) ≡ coordinate x i *ℤ coordinate x j
    by true e = square_at x (length x) j i (at_most_of_test i j e) lj ∙ *ℤ_comm (coordinate x j) (coordinate x i)
    by false e = square_at x (length x) i j (at_least_of_test i j e) li

pub target_entry : (s : Symmetric) (i j : ℕ) → get_or s.lower (place_in i j) (pos 0) ≡ entry s i j
unfolding place_in entry entry_in
target_entry s i j = by (nat_lt i j)
  where
    by : (t : Bool)
        → get_or s.lower (if t then triangle j + i else triangle i + j) (pos 0)
        ≡ (if t then slice_index_or s.lower (triangle j + i) (pos 0) else slice_index_or s.lower (triangle i + j) (pos 0))
    by true = refl
    by false = refl

back : (n k : ℕ) → (n + k) - n ≡ k
back n k = omega arith

pub vector_column : (n : ℕ) (vectors : List (List ℕ)) (more : List Symmetric) (k i j : ℕ)
    → k < length vectors → length (slice_index_or vectors k []) ≡ n → i < n → j < n
    → start_cell (triangle n) (squares vectors ++ more) (place_in i j) (triangle n + k)
    ≡ whole (coordinate (slice_index_or vectors k []) i *ℤ coordinate (slice_index_or vectors k []) j)
vector_column n vectors more k i j l e li lj =
    sym (cell_given (triangle n) (squares vectors ++ more) (place_in i j) (triangle n + k) (omega arith))
    ∙ ap (λ (k : ℕ). whole (slice_index_or (slice_index_or (squares vectors ++ more) k no_matrix).lower (place_in i j) (pos 0))) (back (triangle n) k)
    ∙ ap (λ (q : Symmetric). whole (slice_index_or q.lower (place_in i j) (pos 0)))
    (get_or-append (squares vectors) more no_matrix k (let a = length-squares vectors in omega arith) ∙ squares_at vectors k no_matrix l)
    ∙ ap whole (square_entry (slice_index_or vectors k []) i j (omega arith) (omega arith))

-- the vectors' columns come first among the given ones
pub has_vectors : (n : ℕ) (vectors : List (List ℕ)) (more : List Symmetric) → ((k : ℕ) → k < length vectors → length (slice_index_or vectors k []) ≡ n)
    → HasVectors (columns_of n (squares vectors ++ more)) (triangle n) vectors
has_vectors n vectors more sizes = record {
  within = let a = length-append (squares vectors) more in let b = length-squares vectors in omega arith;
  entry = λ k i j l li lj. vector_column n vectors more k i j l (sizes k l) li lj;
}

pub has_vectors_alone : (n : ℕ) (vectors : List (List ℕ)) → ((k : ℕ) → k < length vectors → length (slice_index_or vectors k []) ≡ n)
    → HasVectors (columns_of n (squares vectors)) (triangle n) vectors
has_vectors_alone n vectors sizes =
    subst (λ (given : List Symmetric). HasVectors (columns_of n given) (triangle n) vectors) (append-nil (squares vectors)) (has_vectors n vectors [] sizes)

pub target_column : (n : ℕ) (vectors : List (List ℕ)) (s : Symmetric) (i j : ℕ)
    → start_cell (triangle n) (squares vectors ++ s ∷ []) (place_in i j) (triangle n + length vectors) ≡ whole (entry s i j)
target_column n vectors s i j =
    sym (cell_given (triangle n) (squares vectors ++ s ∷ []) (place_in i j) (triangle n + length vectors) (omega arith))
    ∙ ap (λ (k : ℕ). whole (slice_index_or (slice_index_or (squares vectors ++ s ∷ []) k no_matrix).lower (place_in i j) (pos 0)))
    (back (triangle n) (length vectors) ∙ sym (length-squares vectors))
    ∙ ap (λ (q : Symmetric). whole (slice_index_or q.lower (place_in i j) (pos 0))) (at_end (squares vectors) s)
    ∙ ap whole (target_entry s i j)
