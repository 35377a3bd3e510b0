-- The operations of a row, from an entry on.
use Rattle.std.specs.Prelude.{◌≡◌, ◌≢◌, ℕ, ◌+◌, ◌*◌, ◌<◌, ◌≤◌, ◌⊎◌, nat_eq, true, false, List, [], ◌∷◌, ◌++◌, length, take, drop, get_or, set, Ok, Err}
use Rattle.std.proofs.Common.{arith, sym, ◌∙◌, ap, ap₂, drop_of_length-le, append_assoc, take_all, append-nil, mul-le-mul, inl, inr}
use Rattle.std.proofs.lemmas.List.{take_more_set}
use Rattle.commutative_ring.proofs.SmallCases.{at_most_itself}
use Rattle.exact_forms.specs.Rational.{Rational, ◌*ℚ◌, ◌-ℚ◌, ◌/ℚ◌}
use Rattle.exact_forms.proofs.Lists.{drop_at}
use Rattle.symmetric_matrix.specs.Owed.{answer}
use Rattle.symmetric_matrix.proofs.Owed.{answer-append_err, answer-append_ok}
use Rattle.exact_linear.specs.declared.entry.EntryOp.{EntryOp}
use Rattle.exact_linear.specs.Tables.{entry_of}
use Rattle.exact_linear.specs.Exchange.{entry_is_owed, divide_entry, clear_entry, divide_ops, divided_row, cell_ops, new_cell, rest_ops, rest_cells, next_row}
use Rattle.exact_linear.specs.Exchange.{next_column, table_row, pivot_row, table_ops, table_cells}

-- the row so far, and what is left of it
pub joined : {A : Type 0} (into : List A) (j : ℕ) (z : A) (rest : List A) → j < length into → take j into ++ z ∷ rest ≡ take (j + 1) (set into j z) ++ rest
joined into j z rest l = sym (append_assoc (take j into) (z ∷ []) rest) ∙ ap (λ t. t ++ rest) (sym (take_more_set into j z l))

pub divide_refused : (i j : ℕ) (p x : Rational) (xs : List Rational) (err : EntryOp) → j < length xs → x ≡ get_or xs j x
    → answer entry_is_owed (divide_entry i j x p) ((x /ℚ p)) ≡ Err err
    → answer entry_is_owed (divide_ops i j p (drop j xs)) (tt {0}) ≡ Err err
unfolding divide_ops
divide_refused i j p x xs err l e h =
    rw (drop_at xs j x l e) (answer-append_err entry_is_owed (divide_entry i j x p) (divide_ops i (j + 1) p (drop (j + 1) xs)) ((x /ℚ p)) (tt {0}) err h)

pub divide_done : (i j : ℕ) (p x z : Rational) (xs into : List Rational) → j < length xs → x ≡ get_or xs j x
    → answer entry_is_owed (divide_entry i j x p) ((x /ℚ p)) ≡ Ok z
    → answer entry_is_owed (divide_ops i j p (drop j xs)) (tt {0}) ≡ answer entry_is_owed (divide_ops i (j + 1) p (drop (j + 1) xs)) (tt {0})
unfolding divide_ops
divide_done i j p x z xs into l e h =
    rw (drop_at xs j x l e) (answer-append_ok entry_is_owed (divide_entry i j x p) (divide_ops i (j + 1) p (drop (j + 1) xs)) ((x /ℚ p)) z (tt {0}) h).0

pub divide_made : (i j : ℕ) (p x z : Rational) (xs into : List Rational) → j < length xs → length into ≡ length xs → x ≡ get_or xs j x
    → answer entry_is_owed (divide_entry i j x p) ((x /ℚ p)) ≡ Ok z
    → take j into ++ divided_row p (drop j xs) ≡ take (j + 1) (set into j z) ++ divided_row p (drop (j + 1) xs)
unfolding divided_row
divide_made i j p x z xs into l s e h =
    let v : (x /ℚ p) ≡ z = (answer-append_ok entry_is_owed (divide_entry i j x p) [] ((x /ℚ p)) z (tt {0}) h).1 in
    rw (drop_at xs j x l e, v) (joined into j z (divided_row p (drop (j + 1) xs)) (omega arith))

pub divide_nothing : (i j : ℕ) (p : Rational) (xs : List Rational) → length xs ≤ j → answer entry_is_owed (divide_ops i j p (drop j xs)) (tt {0}) ≡ Ok (tt {0})
unfolding divide_ops answer
divide_nothing i j p xs l = let e : drop j xs ≡ [] = drop_of_length-le xs {i = j} l in rw e

pub divide_whole : (j : ℕ) (p : Rational) (xs into : List Rational) → length xs ≤ j → length into ≡ length xs → take j into ++ divided_row p (drop j xs) ≡ into
unfolding divided_row
divide_whole j p xs into l s =
    let e : drop j xs ≡ [] = drop_of_length-le xs {i = j} l in
    rw e (append-nil (take j into) ∙ take_all j into (omega arith))

-- ---- a cell
pub cell_here : (r i j : ℕ) (x f y : Rational) → i ≡ r → Ok y ≡ answer entry_is_owed (cell_ops r i j x f y) (new_cell r i x f y)
unfolding cell_ops new_cell answer
cell_here r i j x f y e = let t : nat_eq i r ≡ true = grind arith in rw t

pub cell_other : (r i j : ℕ) (x f y : Rational) → i ≢ r
    → answer entry_is_owed (clear_entry i j x f y) ((x -ℚ f *ℚ y)) ≡ answer entry_is_owed (cell_ops r i j x f y) (new_cell r i x f y)
unfolding cell_ops new_cell
cell_other r i j x f y n = let t : nat_eq i r ≡ false = grind arith in rw t

-- ---- the table, from a cell on
-- the entries that a cell is made of
pub record IsRead (c w i j k : ℕ) (new old : List Rational) (x f y : Rational) : Type 0 where
  pub within : k < length old
  pub here : x ≡ get_or old k x
  pub factor : f ≡ entry_of old (i * w + c)
  pub pivot : y ≡ entry_of new j

cell_read : (r c w i j k : ℕ) (new old : List Rational) (x f y : Rational) → IsRead c w i j k new old x f y
    → answer entry_is_owed (cell_ops r i j x (entry_of old (i * w + c)) (entry_of new j)) (new_cell r i x (entry_of old (i * w + c)) (entry_of new j))
    ≡ answer entry_is_owed (cell_ops r i j x f y) (new_cell r i x f y)
cell_read r c w i j k new old x f y R =
    ap₂ (λ (f : Rational) (y : Rational). answer entry_is_owed (cell_ops r i j x f y) (new_cell r i x f y)) (sym R.factor) (sym R.pivot)

pub rest_refused : (r c w i j k : ℕ) (new old : List Rational) (x f y : Rational) (err : EntryOp) → IsRead c w i j k new old x f y
    → answer entry_is_owed (cell_ops r i j x f y) (new_cell r i x f y) ≡ Err err
    → answer entry_is_owed (rest_ops r c w new old (drop k old) i j) (tt {0}) ≡ Err err
unfolding rest_ops
rest_refused r c w i j k new old x f y err R h =
    rw (drop_at old k x R.within R.here)
    (answer-append_err entry_is_owed (cell_ops r i j x (entry_of old (i * w + c)) (entry_of new j)) _ _ (tt {0}) err
    (cell_read r c w i j k new old x f y R ∙ h))

pub rest_done : (r c w i j k : ℕ) (new old : List Rational) (x f y z : Rational) → IsRead c w i j k new old x f y
    → answer entry_is_owed (cell_ops r i j x f y) (new_cell r i x f y) ≡ Ok z
    → answer entry_is_owed (rest_ops r c w new old (drop k old) i j) (tt {0})
    ≡ answer entry_is_owed (rest_ops r c w new old (drop (k + 1) old) (next_row w i j) (next_column w i j)) (tt {0})
unfolding rest_ops
rest_done r c w i j k new old x f y z R h =
    rw (drop_at old k x R.within R.here)
    (answer-append_ok entry_is_owed (cell_ops r i j x (entry_of old (i * w + c)) (entry_of new j))
    (rest_ops r c w new old (drop (k + 1) old) (next_row w i j) (next_column w i j)) _ z (tt {0}) (cell_read r c w i j k new old x f y R ∙ h)).0

-- what is written up to a place, and the cells from there on
abbrev pub cells_from : ℕ → ℕ → ℕ → List Rational → List Rational → List Rational → ℕ → ℕ → ℕ → List Rational
cells_from r c w new old into k i j = take k into ++ rest_cells r c w new old (drop k old) i j

-- an entry is written
pub rest_written : (r c w i j k : ℕ) (new old into : List Rational) (x z : Rational) → k < length old → length into ≡ length old → x ≡ get_or old k x
    → new_cell r i x (entry_of old (i * w + c)) (entry_of new j) ≡ z
    → cells_from r c w new old into k i j ≡ cells_from r c w new old (set into k z) (k + 1) (next_row w i j) (next_column w i j)
unfolding rest_cells
rest_written r c w i j k new old into x z l s e u =
    rw (drop_at old k x l e, u) (joined into k z (rest_cells r c w new old (drop (k + 1) old) (next_row w i j) (next_column w i j)) (omega arith))

pub rest_made : (r c w i j k : ℕ) (new old into : List Rational) (x f y z : Rational) → length into ≡ length old → IsRead c w i j k new old x f y
    → answer entry_is_owed (cell_ops r i j x f y) (new_cell r i x f y) ≡ Ok z
    → cells_from r c w new old into k i j ≡ cells_from r c w new old (set into k z) (k + 1) (next_row w i j) (next_column w i j)
rest_made r c w i j k new old into x f y z s R h =
    let v : new_cell r i x f y ≡ z = (answer-append_ok entry_is_owed (cell_ops r i j x f y) [] (new_cell r i x f y) z (tt {0}) h).1 in
    rest_written r c w i j k new old into x z R.within s R.here
    (ap₂ (λ (f : Rational) (y : Rational). new_cell r i x f y) (sym R.factor) (sym R.pivot) ∙ v)

pub rest_nothing : (r c w i j k : ℕ) (new old : List Rational) → length old ≤ k
    → answer entry_is_owed (rest_ops r c w new old (drop k old) i j) (tt {0}) ≡ Ok (tt {0})
unfolding rest_ops answer
rest_nothing r c w i j k new old l = let e : drop k old ≡ [] = drop_of_length-le old {i = k} l in rw e

pub rest_whole : (r c w i j k : ℕ) (new old into : List Rational) → length old ≤ k → length into ≡ length old
    → cells_from r c w new old into k i j ≡ into
unfolding rest_cells
rest_whole r c w i j k new old into l s =
    let e : drop k old ≡ [] = drop_of_length-le old {i = k} l in
    rw e (append-nil (take k into) ∙ take_all k into (omega arith))

-- ---- places
-- place k is that of row i and column j, and as many entries are written over as there are
pub record IsAtCell (k i j w written all : ℕ) : Type 0 where
  pub place : k ≡ i * w + j
  pub column : j < w
  pub size : written ≡ all

pub cell_within : (k i j w n m c rows : ℕ) → IsAtCell k i j w n m → k < rows * w → c < w → i * w + c < rows * w
cell_within k i j w n m c rows A l h = let e = A.place in let d = A.column in by (below_or_not i rows)
  where
    below_or_not : (i rows : ℕ) → (i + 1 ≤ rows) ⊎ (rows ≤ i)
    below_or_not i rows = grind arith

    by : ((i + 1 ≤ rows) ⊎ (rows ≤ i)) → i * w + c < rows * w
    by (inl m) = let p : (i + 1) * w ≤ rows * w = mul-le-mul m (at_most_itself w) in omega arith
    by (inr m) = let p : rows * w ≤ i * w = mul-le-mul m (at_most_itself w) in absurd (omega arith)

pub next_inside : (w i j : ℕ) → j + 1 < w → (next_row w i j ≡ i) × (next_column w i j ≡ j + 1)
next_inside w i j h = grind arith

pub next_after : (w i j : ℕ) → w ≤ j + 1 → (next_row w i j ≡ i + 1) × (next_column w i j ≡ 0)
next_after w i j h = grind arith

pub last_column : (k i j w : ℕ) → k ≡ i * w + j → j < w → w ≤ j + 1 → k + 1 ≡ (i + 1) * w + 0
last_column k i j w e l h = let f : w ≡ j + 1 = omega arith in omega arith

pub cell_beside : (k i j w n m new : ℕ) → IsAtCell k i j w n m → new ≡ n → j + 1 < w → IsAtCell (k + 1) i (j + 1) w new m
cell_beside k i j w n m new A e h = record { place = let p = A.place in omega arith; column = h; size = e ∙ A.size }

pub cell_below : (k i j w n m new : ℕ) → IsAtCell k i j w n m → new ≡ n → w ≤ j + 1 → IsAtCell (k + 1) (i + 1) 0 w new m
cell_below k i j w n m new A e h = record {
  place = last_column k i j w A.place A.column h;
  column = let l = A.column in omega arith;
  size = e ∙ A.size;
}

-- ---- the whole exchange
pub exchange_refused : (w r c : ℕ) (old row : List Rational) (x : Rational) (err : EntryOp) → x ≡ entry_of old (r * w + c) → row ≡ table_row w old r
    → answer entry_is_owed (divide_ops r 0 x row) (tt {0}) ≡ Err err → answer entry_is_owed (table_ops w old r c) (tt {0}) ≡ Err err
unfolding table_ops
exchange_refused w r c old row x err e f h =
    answer-append_err entry_is_owed (divide_ops r 0 (entry_of old (r * w + c)) (table_row w old r)) (rest_ops r c w (pivot_row w old r c) old old 0 0) (tt {0})
    (tt {0}) err
    (ap₂ (λ (x : Rational) (row : List Rational). answer entry_is_owed (divide_ops r 0 x row) (tt {0})) (sym e) (sym f) ∙ h)

pub exchange_then : (w r c : ℕ) (old row new : List Rational) (x : Rational) → x ≡ entry_of old (r * w + c) → row ≡ table_row w old r
    → answer entry_is_owed (divide_ops r 0 x row) (tt {0}) ≡ Ok (tt {0}) → new ≡ divided_row x row
    → answer entry_is_owed (rest_ops r c w new old old 0 0) (tt {0}) ≡ answer entry_is_owed (table_ops w old r c) (tt {0})
unfolding table_ops pivot_row
exchange_then w r c old row new x e f h m =
    ap (λ (new : List Rational). answer entry_is_owed (rest_ops r c w new old old 0 0) (tt {0})) (m ∙ ap₂ divided_row e f)
    ∙ sym (answer-append_ok entry_is_owed (divide_ops r 0 (entry_of old (r * w + c)) (table_row w old r))
    (rest_ops r c w (divided_row (entry_of old (r * w + c)) (table_row w old r)) old old 0 0) (tt {0}) (tt {0}) (tt {0})
    (ap₂ (λ (x : Rational) (row : List Rational). answer entry_is_owed (divide_ops r 0 x row) (tt {0})) (sym e) (sym f) ∙ h)).0

pub exchange_made : (w r c : ℕ) (old row new : List Rational) (x : Rational) → x ≡ entry_of old (r * w + c) → row ≡ table_row w old r → new ≡ divided_row x row
    → rest_cells r c w new old old 0 0 ≡ table_cells w old r c
unfolding table_cells pivot_row
exchange_made w r c old row new x e f m = ap (λ (new : List Rational). rest_cells r c w new old old 0 0) (m ∙ ap₂ divided_row e f)

pub row_within : (i w c rows : ℕ) → i < rows → c < w → i * w + c < rows * w
row_within i w c rows l h = let m : i + 1 ≤ rows = omega arith in let p : (i + 1) * w ≤ rows * w = mul-le-mul m (at_most_itself w) in omega arith
