-- The lists that the loops make.
use Rattle.std.specs.Prelude.{◌≡◌, ℕ, suc, ◌+◌, ◌-◌, ◌<◌, ◌≤◌, true, false, nat_eq, List, [], ◌∷◌, ◌++◌, map, length, slice_index_or}
use Rattle.std.specs.List.{range_with_len}
use Rattle.std.proofs.Common.{arith, sym, ◌∙◌, ap, ap₂, append_assoc}
use Rattle.std.proofs.lemmas.List.FromFn.{map-range_with_len_more}
use Rattle.exact_forms.specs.Triangles.{triangle}
use Rattle.exact_forms.proofs.Triangles.{triangle-suc, triangle_grows}
use Rattle.symmetric_matrix.specs.Symmetric.{Symmetric}
use Rattle.exact_forms.specs.Rational.{Rational}
use Rattle.exact_linear.specs.Tables.{Table, table_entry}
use Rattle.exact_linear.specs.Columns.{no_matrix}
use Rattle.exact_linear.specs.Squares.{name_at, squares, vector_at, named}
use Rattle.exact_linear.proofs.SquareLists.{squares_until, length-squares, squares_at}
use Rattle.extreme_ray.specs.declared.clearing.Coefficient.{Coefficient}
use Rattle.extreme_ray.specs.Rays.{coefficient_at, row_coefficients, coefficients, is_name}
use Rattle.extreme_ray.proofs.Names.{named_at, named_length}

-- ---- the columns
pub squares_end : (vs : List (List ℕ)) (k : ℕ) (now : List Symmetric) → now ≡ squares_until vs k → k ≡ length vs → now ≡ squares vs
unfolding squares
squares_end vs k now e f = e ∙ ap (squares_until vs) f

pub column_sizes : (n : ℕ) (vectors : List (List ℕ)) (names : List ℕ) → ((i : ℕ) → i < length names → name_at names i < length vectors)
    → ((k : ℕ) → k < length vectors → length (vector_at vectors k) ≡ n)
    → (k : ℕ) → k < length (squares (named vectors names)) → (slice_index_or (squares (named vectors names)) k no_matrix).size ≡ n
column_sizes n vectors names within sizes k l =
    let a = length-squares (named vectors names) in
    let b = named_length vectors names in
    ap (λ (q : Symmetric). q.size) (squares_at (named vectors names) k no_matrix (omega arith)) ∙ ap length (named_at vectors names k (omega arith))
    ∙ sizes (name_at names k) (within k (omega arith))

-- ---- the coefficients
pub row_step : (t : Table) (r i j : ℕ) (old now new : List Coefficient) (c : Coefficient) → now ≡ old ++ map (coefficient_at t r i) (range_with_len 0 j)
    → c ≡ coefficient_at t r i j → new ≡ now ++ c ∷ []
    → new ≡ old ++ map (coefficient_at t r i) (range_with_len 0 (j + 1))
row_step t r i j old now new c e f g =
    g ∙ ap₂ (λ (xs : List Coefficient) (c : Coefficient). xs ++ c ∷ []) e f
    ∙ append_assoc old (map (coefficient_at t r i) (range_with_len 0 j)) (coefficient_at t r i j ∷ [])
    ∙ ap (λ (ys : List Coefficient). old ++ ys) (sym (map-range_with_len_more (coefficient_at t r i) 0 j j (omega arith)))

pub coefficients_none : (t : Table) (r : ℕ) (xs : List Coefficient) → xs ≡ [] → xs ≡ coefficients t r 0
unfolding coefficients
coefficients_none t r xs e = e

pub coefficients_step : (t : Table) (r i : ℕ) (now new : List Coefficient) → now ≡ coefficients t r i → new ≡ now ++ row_coefficients t r i
    → new ≡ coefficients t r (i + 1)
unfolding coefficients
coefficients_step t r i now new e f = let s : i + 1 ≡ suc i = omega arith in f ∙ ap (λ (xs : List Coefficient). xs ++ row_coefficients t r i) e
    ∙ sym (ap (coefficients t r) s)

pub triangle_step : (i : ℕ) → triangle i + (i + 1) ≡ triangle (i + 1)
triangle_step i = let s : i + 1 ≡ suc i = omega arith in ap (λ (k : ℕ). triangle i + k) s ∙ sym (triangle-suc i) ∙ sym (ap triangle s)

pub triangle_below : (i n width : ℕ) → i < n → triangle n ≤ width → triangle i + (i + 1) ≤ width
triangle_below i n width l h = let a = triangle_step i in let b = triangle_grows (i + 1) n (omega arith) in omega arith

pub row_fits : (i j first : ℕ) → first ≡ triangle i → ((first + j) ≡ (triangle i + j))
row_fits i j first e = ap (λ (k : ℕ). k + j) e

-- ---- a name
pub name_yes : (names : List ℕ) (l i : ℕ) → name_at names i ≡ l → is_name names l i ≡ true
name_yes names l i e = grind arith

pub name_no : (names : List ℕ) (l i : ℕ) → (name_at names i ≡ l → ⊥) → is_name names l i ≡ false
name_no names l i n = grind arith

pub coefficient_made : (t : Table) (r i j first : ℕ) (x : Rational) → first ≡ triangle i → x ≡ table_entry t (r + 1 - 1) (first + j + 1 - 1)
    → (let c : Coefficient = record { value = x; diagonal = nat_eq i j } in c) ≡ coefficient_at t r i j
coefficient_made t r i j first x e f =
    let row : r + 1 - 1 ≡ r = omega arith in
    let column : first + j + 1 - 1 ≡ triangle i + j = omega arith in
    ap (λ (x : Rational). (let c : Coefficient = record { value = x; diagonal = nat_eq i j } in c)) (f ∙ ap₂ (table_entry t) row column)
