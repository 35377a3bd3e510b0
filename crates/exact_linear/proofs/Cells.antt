-- The entries of the table after an exchange.
use Rattle.std.specs.Prelude.{◌≡◌, ℕ, zero, suc, ◌+◌, ◌*◌, ◌-◌, ◌<◌, ◌≤◌, ◌⊎◌, pos, List, [], ◌∷◌, length, drop}
use Rattle.std.proofs.Common.{arith, ◌∙◌, ap, ap₂, refl, mul-le-mul, inl, inr, get_or-take, get_or-drop, length-drop, length-take-le}
use Rattle.commutative_ring.proofs.SmallCases.{at_most_itself, three_ways}
use Rattle.exact_forms.specs.Rational.{Rational, whole, ◌/ℚ◌}
use Rattle.exact_linear.specs.Tables.{Table, entry_of, table_entry}
use Rattle.exact_linear.specs.Exchange.{divided_row, new_cell, rest_cells, next_row, next_column, table_row, pivot_row, table_cells, exchanged}
use Rattle.exact_linear.proofs.Rows.{next_inside, next_after, last_column}

pub below_row : (i a w : ℕ) → i < a → i * w + w ≤ a * w
below_row i a w l = let m : i + 1 ≤ a = omega arith in let p : (i + 1) * w ≤ a * w = mul-le-mul m (at_most_itself w) in omega arith

-- a place has one row and one column
pub same_place : (i j a b w : ℕ) → i * w + j ≡ a * w + b → j < w → b < w → (i ≡ a) × (j ≡ b)
same_place i j a b w e lj lb = by (three_ways i a)
  where
    by : ((i < a) ⊎ ((i ≡ a) ⊎ (a < i))) → (i ≡ a) × (j ≡ b)
    by (inl l) = let p = below_row i a w l in absurd (omega arith)
    by (inr (inl s)) = let p : i * w ≡ a * w = ap (λ (n : ℕ). n * w) s in (s, omega arith)
    by (inr (inr l)) = let p = below_row a i w l in absurd (omega arith)

-- the cells after xs are the new ones, each at its row and column
abbrev AreCells : ℕ → ℕ → ℕ → List Rational → List Rational → List Rational → Type 0
AreCells r c w new old xs =
    (i j n a b : ℕ) → n < length xs → j < w → b < w → i * w + j + n ≡ a * w + b
    → entry_of (rest_cells r c w new old xs i j) n ≡ new_cell r a (entry_of xs n) (entry_of old (a * w + c)) (entry_of new b)

pub rest_at : (r c w : ℕ) (new old xs : List Rational) → AreCells r c w new old xs
unfolding rest_cells
rest_at r c w new old [] i j n a b l lj lb e = absurd (omega arith)
rest_at r c w new old (x ∷ xs) i j zero a b l lj lb e =
    let s = same_place i j a b w (omega arith) lj lb in
    ap₂ (λ (i : ℕ) (j : ℕ). new_cell r i x (entry_of old (i * w + c)) (entry_of new j)) s.0 s.1
rest_at r c w new old (x ∷ xs) i j (suc n) a b l lj lb e = by (inside_or_not j w) (rest_at r c w new old xs)
  where
    inside_or_not : (j w : ℕ) → (j + 1 < w) ⊎ (w ≤ j + 1)
    inside_or_not j w = grind arith

    by : ((j + 1 < w) ⊎ (w ≤ j + 1)) → AreCells r c w new old xs
        → entry_of (rest_cells r c w new old xs (next_row w i j) (next_column w i j)) n
        ≡ new_cell r a (entry_of xs n) (entry_of old (a * w + c)) (entry_of new b)
    by (inl m) rec = let s = next_inside w i j m in rw (s.0, s.1) (rec i (j + 1) n a b (omega arith) m lb (omega arith))
    by (inr m) rec =
        let s = next_after w i j m in
        let p : (i * w + j) + 1 ≡ (i + 1) * w + 0 = last_column (i * w + j) i j w refl lj m in
        rw (s.0, s.1) (rec (i + 1) 0 n a b (omega arith) (omega arith) lb (omega arith))

pub divided_at : (p : Rational) (xs : List Rational) (n : ℕ) → n < length xs → entry_of (divided_row p xs) n ≡ entry_of xs n /ℚ p
unfolding divided_row
divided_at p [] n l = absurd (omega arith)
divided_at p (x ∷ xs) zero l = refl
divided_at p (x ∷ xs) (suc n) l = divided_at p xs n (omega arith)

pub row_length : (w r rows : ℕ) (old : List Rational) → length old ≡ rows * w → r < rows → length (table_row w old r) ≡ w
row_length w r rows old e l =
    let p : r * w + w ≤ rows * w = below_row r rows w l in
    let d : length (drop (r * w) old) ≡ length old - r * w = length-drop (r * w) old in
    length-take-le ((r * w + w) - r * w) (drop (r * w) old) (omega arith) ∙ (let q : (r * w + w) - r * w ≡ w = omega arith in q)

pub row_at : (w r b : ℕ) (old : List Rational) → b < w → entry_of (table_row w old r) b ≡ entry_of old (r * w + b)
row_at w r b old l =
    get_or-take ((r * w + w) - r * w) (drop (r * w) old) b (whole (pos 0)) (omega arith) ∙ get_or-drop (r * w) old b (whole (pos 0))

-- the entries after an exchange
pub exchanged_entry : (t : Table) (rows r c i j : ℕ) → length t.entries ≡ rows * t.width → r < rows → i < rows → c < t.width → j < t.width
    → table_entry (exchanged t r c) i j ≡ new_cell r i (table_entry t i j) (table_entry t i c) (table_entry t r j /ℚ table_entry t r c)
unfolding exchanged table_cells pivot_row
exchanged_entry t rows r c i j e lr li lc lj =
    let w : ℕ = t.width in
    let p : i * w + w ≤ rows * w = below_row i rows w li in
    rest_at r c w (divided_row (entry_of t.entries (r * w + c)) (table_row w t.entries r)) t.entries t.entries 0 0 (i * w + j) i j (omega arith) (omega arith)
    lj (omega arith)
    ∙ ap (λ (y : Rational). new_cell r i (table_entry t i j) (table_entry t i c) y)
    (divided_at (entry_of t.entries (r * w + c)) (table_row w t.entries r) j (let q = row_length w r rows t.entries e lr in omega arith)
    ∙ ap (λ (x : Rational). x /ℚ table_entry t r c) (row_at w r j t.entries lj))
