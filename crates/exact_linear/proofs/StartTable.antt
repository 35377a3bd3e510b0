-- The table over the units shows the coordinates over them.
use Rattle.std.specs.Prelude.{◌≡◌, ◌≢◌, ℕ, ◌+◌, ◌-◌, ◌*◌, ◌/◌, ◌%◌, ◌<◌, ◌≤◌, ◌⊎◌, pos, Bool, true, false, nat_eq, nat_lt, List, [], ◌∷◌, ◌++◌, map, length}
use Rattle.std.specs.Prelude.{if◌then◌else◌, slice_index_or}
use Rattle.std.proofs.Common.{arith, sym, ◌∙◌, ap, ap₂, refl, subst, inl, inr, mul-le-mul}
use Rattle.std.proofs.lemmas.List.FromFn.{length-range_with_len, get_or-range_with_len, map-range_with_len_more}
use Rattle.std.specs.List.{range_with_len}
use Rattle.commutative_ring.proofs.SmallCases.{at_least_of_test, at_most_itself, at_most_of_test, below_of_test, same_or_not, test_of_at_least, test_of_below}
use Rattle.exact_forms.specs.Rational.{Rational, whole}
use Rattle.exact_forms.specs.Triangles.{triangle}
use Rattle.exact_forms.proofs.Triangles.{entry_before, place_of, triangle_grows}
use Rattle.exact_forms.specs.Coordinates.{IsShown, mark}
use Rattle.exact_forms.proofs.Slacks.{replaced_here, replaced_other}
use Rattle.symmetric_matrix.specs.Symmetric.{Symmetric}
use Rattle.exact_linear.specs.Tables.{Table, rows_of, table_entry, basic_at, cells}
use Rattle.exact_linear.specs.Columns.{place_in, start_cell, no_matrix, width_of, columns_of, start_table, HasCoordinates}
use Rattle.exact_linear.proofs.SoFar.{AreUnits, over_units}
use Rattle.exact_linear.proofs.Units.{over_below, units_basis}
use Rattle.exact_linear.proofs.Fill.{cells_at}

pub cell_one : (units : ℕ) (given : List Symmetric) (k j : ℕ) → j < units → k ≡ j → whole (pos 1) ≡ start_cell units given k j
unfolding start_cell
cell_one units given k j l e = let a : nat_lt j units ≡ true = grind arith in let b : nat_eq k j ≡ true = grind arith in rw (a, b) refl

pub cell_zero : (units : ℕ) (given : List Symmetric) (k j : ℕ) → j < units → k ≢ j → whole (pos 0) ≡ start_cell units given k j
unfolding start_cell
cell_zero units given k j l n = let a : nat_lt j units ≡ true = grind arith in let b : nat_eq k j ≡ false = grind arith in rw (a, b) refl

pub cell_given : (units : ℕ) (given : List Symmetric) (k j : ℕ) → units ≤ j
    → whole (slice_index_or (slice_index_or given (j - units) no_matrix).lower k (pos 0)) ≡ start_cell units given k j
unfolding start_cell
cell_given units given k j l = let a : nat_lt j units ≡ false = grind arith in rw a refl

place_below : (n a b : ℕ) → a < n → b < n → place_in a b < triangle n
unfolding place_in
place_below n a b la lb = by (nat_lt a b) refl
  where
    by : (t : Bool) → nat_lt a b ≡ t → (if t then triangle b + a else triangle a + b) < triangle n
    by true e = entry_before b a n (at_most_of_test a b e) lb
    by false e = entry_before a b n (at_least_of_test a b e) la

reached : (n k : ℕ) → k < triangle n → (a : ℕ) × (b : ℕ) × (a < n) × (b < n) × (place_in a b ≡ k)
unfolding place_in
reached n k l =
    let p = place_of n k l in
    let t : nat_lt p.0 p.1 ≡ false = test_of_at_least p.0 p.1 p.3 in
    (p.0, p.1, p.2, (let a = p.2 in let b = p.3 in omega arith), rw t (sym p.4))

pub unit_cell : (units : ℕ) (given : List Symmetric) (u k : ℕ) → u < units → k < units → start_cell units given k u ≡ mark u k
unit_cell units given u k lu lk = by (same_or_not k u)
  where
    by : ((k ≡ u) ⊎ (k ≢ u)) → start_cell units given k u ≡ mark u k
    by (inl e) = sym (cell_one units given k u lu e) ∙ sym (replaced_here (λ k. whole (pos 0)) u (whole (pos 1)) k e)
    by (inr n) = sym (cell_zero units given k u lu n) ∙ sym (replaced_other (λ k. whole (pos 0)) u (whole (pos 1)) k n)

pub are_units : (n : ℕ) (given : List Symmetric) → AreUnits (columns_of n given) (triangle n) place_in (start_cell (triangle n) given)
are_units n given = record {
  entry = λ j a b lj la lb. refl;
  unit = λ u k lu lk. unit_cell (triangle n) given u k lu lk;
  place_below = λ a b la lb. place_below n a b la lb;
  reached = λ k l. reached n k l;
  low_within = omega arith;
}

-- ---- the table
pub start_rows : (n : ℕ) (given : List Symmetric) → rows_of (start_table n given) ≡ triangle n
start_rows n given = length-range_with_len 0 (triangle n)

pub start_basic : (n : ℕ) (given : List Symmetric) (i : ℕ) → i < triangle n → basic_at (start_table n given) i ≡ i
start_basic n given i l = get_or-range_with_len 0 (triangle n) i 0 l ∙ (let e : 0 + i ≡ i = omega arith in e)

pub start_entry_is : (n : ℕ) (given : List Symmetric) (i j : ℕ) → i < triangle n → j < width_of n given
    → table_entry (start_table n given) i j ≡ start_cell (triangle n) given i j
start_entry_is n given i j li lj = cells_at (triangle n) (width_of n given) (start_cell (triangle n) given) i j li lj

pub start_shown : (n : ℕ) (given : List Symmetric)
    → IsShown (columns_of n given) (λ k. nat_lt k (triangle n)) (over_units (triangle n) (start_cell (triangle n) given)) (rows_of (start_table n given))
    (table_entry (start_table n given)) (basic_at (start_table n given))
start_shown n given = record {
  entry = λ i j li lj. start_entry_is n given i j (inside i li) lj
      ∙ sym (ap (λ (k : ℕ). over_units (triangle n) (start_cell (triangle n) given) j k) (start_basic n given i (inside i li))
      ∙ over_below (columns_of n given) (triangle n) place_in (start_cell (triangle n) given) (are_units n given) j i (inside i li));
  within = λ i li. subst (λ (k : ℕ). k < width_of n given) (sym (start_basic n given i (inside i li))) (let l = inside i li in omega arith);
  in_basis = λ i li. ap (λ (k : ℕ). nat_lt k (triangle n)) (start_basic n given i (inside i li)) ∙ test_of_below i (triangle n) (inside i li);
  every = λ k lk b. let l = below_of_test k (triangle n) b in (k, (let e = start_rows n given in omega arith), start_basic n given k l);
  apart = λ i j li lj ne s. ne (sym (start_basic n given i (inside i li)) ∙ s ∙ start_basic n given j (inside j lj));
}
  where
    inside : (i : ℕ) → i < rows_of (start_table n given) → i < triangle n
    inside i l = let e = start_rows n given in omega arith

pub start_has_coordinates : (n : ℕ) (given : List Symmetric) → HasCoordinates (columns_of n given) (start_table n given)
start_has_coordinates n given = record {
  basis = λ k. nat_lt k (triangle n);
  coord = over_units (triangle n) (start_cell (triangle n) given);
  width = refl;
  is_basis = units_basis (columns_of n given) (triangle n) place_in (start_cell (triangle n) given) (are_units n given);
  shown = start_shown n given;
}

-- ---- the entries, one after the other
pub start_cells : ℕ → ℕ → List Symmetric → ℕ → List Rational
start_cells rows width given n = map (λ k. start_cell rows given (k / width) (k % width)) (range_with_len 0 n)

pub start_cells_none : (rows width : ℕ) (given : List Symmetric) → [] ≡ start_cells rows width given 0
unfolding start_cells
start_cells_none rows width given = refl

pub start_cells_more : (rows width : ℕ) (given : List Symmetric) (k : ℕ) (xs ys : List Rational) (x : Rational) → xs ≡ start_cells rows width given k
    → x ≡ start_cell rows given (k / width) (k % width)
    → ys ≡ xs ++ x ∷ [] → ys ≡ start_cells rows width given (k + 1)
unfolding start_cells
start_cells_more rows width given k xs ys x e f g =
    g ∙ ap₂ (λ (xs : List Rational) (x : Rational). xs ++ x ∷ []) e f
    ∙ sym (map-range_with_len_more (λ k. start_cell rows given (k / width) (k % width)) 0 k k (omega arith))

pub start_cells_all : (rows width : ℕ) (given : List Symmetric) (k : ℕ) (xs : List Rational) → xs ≡ start_cells rows width given k → k ≡ rows * width
    → xs ≡ cells rows width (start_cell rows given)
unfolding start_cells cells
start_cells_all rows width given k xs e f = e ∙ ap (λ (k : ℕ). map (λ k. start_cell rows given (k / width) (k % width)) (range_with_len 0 k)) f

pub some_units : (n : ℕ) → 1 ≤ n → 1 ≤ triangle n
unfolding triangle
some_units n h = let one : triangle 1 ≡ 1 = refl in let g = triangle_grows 1 n h in omega arith

pub half : (m t : ℕ) → 2 * t ≡ m → m / 2 ≡ t
half m t e = omega arith

pub a_row : (rows width size : ℕ) → size ≡ rows * width → 1 ≤ rows → width ≤ size
a_row rows width size e h = let p : 1 * width ≤ rows * width = mul-le-mul h (at_most_itself width) in omega arith

pub start_table_made : (n rows : ℕ) (given : List Symmetric) (entries : List Rational) (basic : List ℕ) → rows ≡ triangle n
    → entries ≡ cells rows (rows + length given + 1) (start_cell rows given) → basic ≡ range_with_len 0 rows
    → (let t : Table = record { width = rows + length given + 1; entries = entries; basic = basic } in t) ≡ start_table n given
start_table_made n rows given entries basic e f g =
    ap₂ (λ (entries : List Rational) (basic : List ℕ). (let t : Table = record { width = rows + length given + 1; entries = entries; basic = basic } in t)) f g
    ∙ ap (λ (rows : ℕ). (let t : Table = record {
      width = rows + length given + 1;
      entries = cells rows (rows + length given + 1) (start_cell rows given);
      basic = range_with_len 0 rows;
    } in t)) e

pub numbers_within : (rows width : ℕ) (basic : List ℕ) (i : ℕ) → basic ≡ range_with_len 0 rows → i < rows → rows ≤ width → slice_index_or basic i 0 < width
numbers_within rows width basic i e l h =
    let f : slice_index_or basic i 0 ≡ 0 + i = ap (λ (xs : List ℕ). slice_index_or xs i 0) e ∙ get_or-range_with_len 0 rows i 0 l in omega arith
