-- Squares of vectors as lists.
use Rattle.std.specs.Prelude.{◌≡◌, ℕ, zero, suc, ◌+◌, ◌-◌, ◌*◌, ◌^◌, ◌<◌, ◌≤◌, ◌⊎◌, ℤ, pos, ◌*ℤ◌, nat_abs, List, [], ◌∷◌, ◌++◌, map, length, get_or}
use Rattle.std.specs.Prelude.{slice_index_or, slice_get, Some}
use Rattle.std.proofs.Common.{arith, sym, ◌∙◌, ap, ap₂, refl, subst, inl, inr, mul-le-mul, append_assoc, append-nil, length-append, lit≤}
use Rattle.std.specs.List.{range_with_len}
use Rattle.std.proofs.lemmas.List.{get_or_past}
use Rattle.std.proofs.Math.ListN.{get_or-append}
use Rattle.std.proofs.lemmas.List.FromFn.{length-map-range_with_len, get_or-map-range_with_len, map-range_with_len_more}
use Rattle.commutative_ring.proofs.SmallCases.{below_or_not}
use Rattle.exact_forms.specs.Triangles.{triangle}
use Rattle.exact_forms.specs.Vectors.{coordinate}
use Rattle.symmetric_matrix.specs.Symmetric.{Symmetric, FitsInt, IsLower}
use Rattle.symmetric_matrix.specs.Lists.{IsVector}
use Rattle.exact_linear.specs.Squares.{square_row, square_rows, square, squares}
use Rattle.exact_linear.specs.Columns.{no_matrix}

pub product_small : (a b : ℕ) → a ≤ 2 ^ 62 → b ≤ 2 ^ 62 → a * b ≤ 2 ^ 124
product_small a b h k = let p : a * b ≤ 2 ^ 62 * 2 ^ 62 = mul-le-mul h k in p

pub product_is : (a b : ℕ) → pos a *ℤ pos b ≡ pos (a * b)
product_is a b = refl

-- ---- a row, entry after entry
abbrev pub row_until : List ℕ → ℕ → ℕ → List ℤ
row_until x i k = map (λ j. coordinate x i *ℤ coordinate x j) (range_with_len 0 k)

pub row_more : (x : List ℕ) (i k : ℕ) (old now new : List ℤ) (z : ℤ) → now ≡ old ++ row_until x i k → z ≡ coordinate x i *ℤ coordinate x k → new ≡ now ++ z ∷ []
    → new ≡ old ++ row_until x i (k + 1)
row_more x i k old now new z e f g =
    g ∙ ap₂ (λ (xs : List ℤ) (z : ℤ). xs ++ z ∷ []) e f ∙ append_assoc old (row_until x i k) ((coordinate x i *ℤ coordinate x k) ∷ [])
    ∙ ap (λ (ys : List ℤ). old ++ ys) (sym (map-range_with_len_more (λ j. coordinate x i *ℤ coordinate x j) 0 k k (omega arith)))

pub row_none : (x : List ℕ) (i : ℕ) (old : List ℤ) → old ≡ old ++ row_until x i 0
row_none x i old = sym (append-nil old)

pub rows_none : (x : List ℕ) → square_rows x 0 ≡ []
unfolding square_rows
rows_none x = refl

pub rows_more : (x : List ℕ) (n : ℕ) → square_rows x (n + 1) ≡ square_rows x n ++ square_row x n
unfolding square_rows
rows_more x n = let e : n + 1 ≡ suc n = omega arith in ap (λ (k : ℕ). square_rows x k) e

pub rows_length : (x : List ℕ) (n : ℕ) → length (square_rows x n) ≡ triangle n
unfolding square_rows triangle
rows_length x zero = refl
rows_length x (suc n) = length-append (square_rows x n) (square_row x n)
    ∙ ap₂ (λ (a : ℕ) (b : ℕ). a + b) (rows_length x n) (length-map-range_with_len (λ j. coordinate x n *ℤ coordinate x j) 0 (n + 1)
    ∙ (let e : n + 1 ≡ suc n = omega arith in e))

-- ---- each entry is narrow
AllNarrow : List ℤ → Type 0
AllNarrow xs = (k : ℕ) → k < length xs → FitsInt (get_or xs k (pos 0))

narrow_append : (xs ys : List ℤ) → AllNarrow xs → AllNarrow ys → AllNarrow (xs ++ ys)
unfolding AllNarrow
narrow_append [] ys a b k l = b k l
narrow_append (x ∷ xs) ys a b zero l = a zero (omega arith)
narrow_append (x ∷ xs) ys a b (suc k) l = narrow_append xs ys (λ k l. a (suc k) (omega arith)) b k (omega arith)

small_or_none : (x : List ℕ) (p : ℕ) → IsVector x → get_or x p 0 ≤ 2 ^ 62
small_or_none x p V = by (below_or_not p (length x))
  where
    by : ((p < length x) ⊎ (length x ≤ p)) → get_or x p 0 ≤ 2 ^ 62
    by (inl l) = V.small p l
    by (inr m) = let e : get_or x p 0 ≡ 0 = get_or_past x p 0 m in subst (λ (n : ℕ). n ≤ 2 ^ 62) (sym e) (lit≤ tt)

pub narrow_product : (a b : ℕ) → a ≤ 2 ^ 62 → b ≤ 2 ^ 62 → nat_abs (pos a *ℤ pos b) ≤ 2 ^ 127 - 1
narrow_product a b h k = let p = product_small a b h k in let q : 2 ^ 124 ≤ 2 ^ 127 - 1 = lit≤ tt in omega arith

narrow_row : (x : List ℕ) (i : ℕ) → IsVector x → AllNarrow (square_row x i)
unfolding AllNarrow
narrow_row x i V k l =
    let s = length-map-range_with_len (λ j. coordinate x i *ℤ coordinate x j) 0 (i + 1) in
    subst (λ (z : ℤ). FitsInt z) (sym (get_or-map-range_with_len (λ j. coordinate x i *ℤ coordinate x j) 0 (i + 1) k k (pos 0) (omega arith) (omega arith)))
    (narrow_product (get_or x i 0) (get_or x k 0) (small_or_none x i V) (small_or_none x k V))

narrow_none : AllNarrow []
unfolding AllNarrow
narrow_none k l = absurd (omega arith)

narrow_rows : (x : List ℕ) (n : ℕ) → IsVector x → AllNarrow (square_rows x n)
unfolding square_rows
narrow_rows x zero V = narrow_none
narrow_rows x (suc n) V = narrow_append (square_rows x n) (square_row x n) (narrow_rows x n V) (narrow_row x n V)

pub square_lower : (x : List ℕ) (n : ℕ) (lower : List ℤ) → IsVector x → lower ≡ square_rows x n → IsLower n lower
unfolding AllNarrow
square_lower x n lower V e = record {
  entries = ap length e ∙ rows_length x n;
  fits = λ k l. subst (λ (xs : List ℤ). k < length xs → FitsInt (get_or xs k (pos 0))) (sym e) (narrow_rows x n V k) l;
}

-- ---- the columns, one after the other
abbrev pub squares_until : List (List ℕ) → ℕ → List Symmetric
squares_until vectors n = map (λ k. square (slice_index_or vectors k [])) (range_with_len 0 n)

pub squares_more : (vectors : List (List ℕ)) (k : ℕ) (now new : List Symmetric) (q : Symmetric) → now ≡ squares_until vectors k
    → q ≡ square (slice_index_or vectors k []) → new ≡ now ++ q ∷ [] → new ≡ squares_until vectors (k + 1)
squares_more vectors k now new q e f g = g ∙ ap₂ (λ (xs : List Symmetric) (q : Symmetric). xs ++ q ∷ []) e f
    ∙ sym (map-range_with_len_more (λ k. square (slice_index_or vectors k [])) 0 k k (omega arith))

pub squares_all : (vectors : List (List ℕ)) (k : ℕ) (now new : List Symmetric) (s : Symmetric) → now ≡ squares_until vectors k → k ≡ length vectors
    → new ≡ now ++ s ∷ [] → new ≡ squares vectors ++ s ∷ []
unfolding squares
squares_all vectors k now new s e f g = g ∙ ap (λ (xs : List Symmetric). xs ++ s ∷ []) (e ∙ ap (λ (k : ℕ). squares_until vectors k) f)

pub length-squares : (vectors : List (List ℕ)) → length (squares vectors) ≡ length vectors
unfolding squares
length-squares vectors = length-map-range_with_len (λ k. square (slice_index_or vectors k [])) 0 (length vectors)

pub squares_at : (vectors : List (List ℕ)) (k : ℕ) (d : Symmetric) → k < length vectors → get_or (squares vectors) k d ≡ square (slice_index_or vectors k [])
unfolding squares
squares_at vectors k d l = get_or-map-range_with_len (λ k. square (slice_index_or vectors k [])) 0 (length vectors) k k d l (omega arith)

pub at_end : (xs : List Symmetric) (s : Symmetric) → get_or (xs ++ s ∷ []) (length xs) no_matrix ≡ s
at_end [] s = refl
at_end (x ∷ xs) s = at_end xs s

pub sizes : (vectors : List (List ℕ)) (s : Symmetric) → ((k : ℕ) → k < length vectors → length (slice_index_or vectors k []) ≡ s.size)
    → (k : ℕ) → k < length (squares vectors ++ s ∷ []) → (slice_index_or (squares vectors ++ s ∷ []) k no_matrix).size ≡ s.size
sizes vectors s h k l = by (below_or_not k (length vectors)) (length-append (squares vectors) (s ∷ [])) (length-squares vectors)
  where
    by : ((k < length vectors) ⊎ (length vectors ≤ k)) → length (squares vectors ++ s ∷ []) ≡ length (squares vectors) + length (s ∷ [])
        → length (squares vectors) ≡ length vectors
        → (slice_index_or (squares vectors ++ s ∷ []) k no_matrix).size ≡ s.size
    by (inl m) a b = ap (λ (q : Symmetric). q.size) (get_or-append (squares vectors) (s ∷ []) no_matrix k (omega arith) ∙ squares_at vectors k no_matrix m)
        ∙ h k m
    by (inr m) a b =
        let e : k ≡ length (squares vectors) = omega arith in
        ap (λ (k : ℕ). (slice_index_or (squares vectors ++ s ∷ []) k no_matrix).size) e ∙ ap (λ (q : Symmetric). q.size) (at_end (squares vectors) s)

pub at_index : (xs : List (List ℕ)) (k : ℕ) (x d : List ℕ) → slice_get xs k ≡ Some x → x ≡ slice_index_or xs k d
at_index [] k x d h = absurd cc
at_index (y ∷ xs) zero x d h = sym cc
at_index (y ∷ xs) (suc k) x d h = at_index xs k x d h
