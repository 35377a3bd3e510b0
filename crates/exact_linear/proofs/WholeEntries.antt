-- The entries of a table over one denominator, and those after an exchange.
use Rattle.std.specs.Prelude.{◌≡◌, ◌≢◌, ℕ, ◌+◌, ◌*◌, ◌<◌, ◌≤◌, ◌^◌, ℤ, pos, neg_ℤ, nat_abs, ◌+ℤ◌, ◌-ℤ◌, ◌*ℤ◌, nat_eq, false, List, [], ◌∷◌, length, get_or, ◌⊎◌}
use Rattle.std.specs.Prelude.{◌++◌, take, drop, set}
use Rattle.std.proofs.Common.{arith, sym, ◌∙◌, ap, ap₂, refl, mul-pos, mul-le-mul, inl, inr}
use Rattle.std.proofs.lemmas.Int.{ints}
use Rattle.std.proofs.Math.ListN.{get_or-map}
use Rattle.std.proofs.lemmas.List.{length-map, map-set, get_or-set_same, get_or-set_other, get_or_past}
use Rattle.commutative_ring.proofs.Ring.{ring, num, neg, v0, v1, v2, v3, v4, ◌⊗◌, ◌⊕◌}
use Rattle.commutative_ring.proofs.SmallCases.{below_or_not, here_or_before}
use Rattle.exact_forms.specs.Rational.{Rational, ratio, whole, neg_ℚ, ◌*ℚ◌, ◌-ℚ◌, ◌+ℚ◌, ◌/ℚ◌}
use Rattle.exact_forms.proofs.Rational.{ratio_same, ratio_value, cancel_pos, den_positive, mul-ratio, neg-ratio, add-ratio}
use Rattle.exact_forms.proofs.Lowest.{zero_num}
use Rattle.exact_linear.specs.Tables.{entry_of}
use Rattle.exact_linear.specs.Whole.{fractions_over, whole_at, AreSmallWholes, turned}
use Rattle.exact_linear.specs.Exchange.{new_cell, table_row, pivot_row, table_cells, rest_cells, next_row, next_column}
use Rattle.exact_linear.proofs.Cells.{divided_at, row_length, row_at}
use Rattle.exact_linear.proofs.Results.{read_map}
use Rattle.exact_linear.proofs.Rows.{rest_written, rest_whole}
use Rattle.exact_linear.proofs.NothingOwed.{IsOver, IsScale, IsPivot, abs_positive, quotient_is}

pub fractions_entry : (d : ℕ) (ws : List ℤ) (k : ℕ) → 0 < d → entry_of (fractions_over d ws) k ≡ ratio (whole_at ws k) d
unfolding whole
fractions_entry d ws k h =
    ap (λ (z : Rational). get_or (fractions_over d ws) k z)
    (ratio_same (pos 0) (pos 0) 1 d (let o : 0 < 1 = omega arith in o) h (ring (pos d ∷ []) (num (pos 0) ⊗ v0) (num (pos 0) ⊗ num (pos 1)) refl))
    ∙ get_or-map (λ (w : ℤ). ratio w d) ws k (pos 0)

pub entries_over : (d : ℕ) (ws : List ℤ) → IsScale d → AreSmallWholes ws → (k : ℕ) → IsOver d (entry_of (fractions_over d ws) k)
entries_over d ws h s k = record { num = whole_at ws k; is = fractions_entry d ws k h.positive; small = s.small k }

ratio_some : (p : ℤ) (d : ℕ) → 0 < d → p ≢ pos 0 → ratio p d ≢ whole (pos 0)
ratio_some p d h ne e =
    let x : Rational = ratio p d in
    let none : x.num ≡ pos 0 = (zero_num x).1 e in
    ne (cancel_pos x.den p (pos 0) (den_positive x)
    (sym (ratio_value p d h) ∙ ap (λ (z : ℤ). z *ℤ pos d) none ∙ ring (pos d ∷ pos x.den ∷ []) (num (pos 0) ⊗ v0) (num (pos 0) ⊗ v1) refl))

pub pivot_over : (d : ℕ) (ws : List ℤ) (k : ℕ) → IsScale d → AreSmallWholes ws → whole_at ws k ≢ pos 0
    → IsPivot d (entry_of (fractions_over d ws) k) (whole_at ws k)
pivot_over d ws k h s ne = record {
  is = fractions_entry d ws k h.positive;
  some = λ e. ratio_some (whole_at ws k) d h.positive ne (sym (fractions_entry d ws k h.positive) ∙ e);
  scale = h;
  size = record { positive = abs_positive (whole_at ws k) ne; small = s.small k };
}

-- an entry of the new row
pub pivot_row_at : (w r c rows d j : ℕ) (ws : List ℤ) → IsScale d → AreSmallWholes ws → whole_at ws (r * w + c) ≢ pos 0 → length ws ≡ rows * w
    → r < rows → j < w
    → ratio (turned (whole_at ws (r * w + c)) (whole_at ws (r * w + j))) (nat_abs (whole_at ws (r * w + c))) ≡ entry_of
    (pivot_row w (fractions_over d ws) r c) j
unfolding pivot_row
pivot_row_at w r c rows d j ws h s ne e lr lj =
    let old : List Rational = fractions_over d ws in
    let size : length old ≡ rows * w = length-map ws (λ (w : ℤ). ratio w d) ∙ e in
    sym (divided_at (entry_of old (r * w + c)) (table_row w old r) j (let q = row_length w r rows old size lr in omega arith)
    ∙ ap (λ (x : Rational). x /ℚ entry_of old (r * w + c)) (row_at w r j old lj ∙ fractions_entry d ws (r * w + j) h.positive)
    ∙ quotient_is d (entry_of old (r * w + c)) (whole_at ws (r * w + c)) (whole_at ws (r * w + j)) (pivot_over d ws (r * w + c) h s ne))

-- ---- a new entry
-- x/d - f/d · y/e = q/e
difference_is : (x f y q : ℤ) (d e : ℕ) → 0 < d → 0 < e → q *ℤ pos d ≡ x *ℤ pos e -ℤ f *ℤ y → ratio x d -ℚ ratio f d *ℚ ratio y e ≡ ratio q e
unfolding ◌-ℚ◌
difference_is x f y q d e hd he h =
    ap (λ (m : Rational). ratio x d +ℚ m) (ap neg_ℚ (mul-ratio f y d e hd he) ∙ neg-ratio (f *ℤ y) (d * e) (mul-pos hd he))
    ∙ add-ratio x (neg_ℤ (f *ℤ y)) d (d * e) hd (mul-pos hd he)
    ∙ ratio_same _ q (d * (d * e)) e (mul-pos hd (mul-pos hd he)) he
    (ring (x ∷ f ∷ y ∷ pos d ∷ pos e ∷ []) ((v0 ⊗ (v3 ⊗ v4) ⊕ neg (v1 ⊗ v2) ⊗ v3) ⊗ v4) ((v0 ⊗ v4 ⊕ neg (v1 ⊗ v2)) ⊗ (v3 ⊗ v4)) refl
    ∙ ap (λ (z : ℤ). z *ℤ (pos d *ℤ pos e)) (let s : x *ℤ pos e +ℤ neg_ℤ (f *ℤ y) ≡ q *ℤ pos d = omega (arith, ints) in s)
    ∙ ring (q ∷ pos d ∷ pos e ∷ []) (v0 ⊗ v1 ⊗ (v1 ⊗ v2)) (v0 ⊗ (v1 ⊗ (v1 ⊗ v2))) refl)

pub whole_other : (r i d e : ℕ) (x f y q : ℤ) → i ≢ r → 0 < d → 0 < e → q *ℤ pos d ≡ x *ℤ pos e -ℤ f *ℤ y
    → new_cell r i (ratio x d) (ratio f d) (ratio y e) ≡ ratio q e
unfolding new_cell
whole_other r i d e x f y q n hd he h = let t : nat_eq i r ≡ false = grind arith in rw t (difference_is x f y q d e hd he h)

-- ---- the table so far
unit_fractions : (d e : ℕ) (q : ℤ) (into : List ℤ) (k : ℕ) → fractions_over e (set into k q) ≡ set (fractions_over e into) k (ratio q e)
unit_fractions d e q into k = map-set (λ (w : ℤ). ratio w e) into k q

-- the new entry at row i, column j is written at place k
pub written : (r c w rows d i j k : ℕ) (ws into : List ℤ) (q : ℤ) → IsScale d → AreSmallWholes ws → whole_at ws (r * w + c) ≢ pos 0
    → length ws ≡ rows * w → r < rows → j < w → k < length ws → length into ≡ length ws
    → let P : ℤ = whole_at ws (r * w + c) in
    let O : List Rational = fractions_over d ws in
    let N : List Rational = pivot_row w O r c in
    new_cell r i (ratio (whole_at ws k) d) (ratio (whole_at ws (i * w + c)) d) (ratio (turned P (whole_at ws (r * w + j))) (nat_abs P)) ≡ ratio q (nat_abs P)
    → take k (fractions_over (nat_abs P) into) ++ rest_cells r c w N O (drop k O) i j ≡ take (k + 1) (fractions_over (nat_abs P) (set into k q))
    ++ rest_cells r c w N O (drop (k + 1) O) (next_row w i j) (next_column w i j)
written r c w rows d i j k ws into q h s ne e lr lj lk li value =
    let P : ℤ = whole_at ws (r * w + c) in
    let O : List Rational = fractions_over d ws in
    let N : List Rational = pivot_row w O r c in
    let size : length O ≡ length ws = length-map ws (λ (w : ℤ). ratio w d) in
    let room : length (fractions_over (nat_abs P) into) ≡ length into = length-map into (λ (w : ℤ). ratio w (nat_abs P)) in
    let x_is : ratio (whole_at ws k) d ≡ get_or O k (ratio (whole_at ws k) d) =
    sym (read_map (λ (w : ℤ). ratio w d) ws k (pos 0) (ratio (whole_at ws k) d) lk) in
    let there : new_cell r i (ratio (whole_at ws k) d) (entry_of O (i * w + c)) (entry_of N j) ≡ ratio q (nat_abs P) =
    ap₂ (λ (f : Rational) (y : Rational). new_cell r i (ratio (whole_at ws k) d) f y) (fractions_entry d ws (i * w + c) h.positive)
    (sym (pivot_row_at w r c rows d j ws h s ne e lr lj)) ∙ value in
    rest_written r c w i j k N O (fractions_over (nat_abs P) into) (ratio (whole_at ws k) d) (ratio q (nat_abs P)) (omega arith) (omega arith) x_is there
    ∙ ap (λ (t : List Rational). take (k + 1) t ++ rest_cells r c w N O (drop (k + 1) O) (next_row w i j) (next_column w i j))
    (sym (unit_fractions d (nat_abs P) q into k))

pub written_small : (ws : List ℤ) (k m : ℕ) (q : ℤ) → k < length ws → ((m : ℕ) → m < k → nat_abs (whole_at ws m) < 2 ^ 63) → nat_abs q < 2 ^ 63
    → m < k + 1 → nat_abs (whole_at (set ws k q) m) < 2 ^ 63
written_small ws k m q l h hq lm = by (here_or_before m k lm)
  where
    by : ((m ≡ k) ⊎ (m < k)) → nat_abs (whole_at (set ws k q) m) < 2 ^ 63
    by (inl e) = rw (e, get_or-set_same ws k q (pos 0) l) hq
    by (inr b) = rw (get_or-set_other ws k m q (pos 0) (let n : m ≢ k = omega arith in n)) (h m b)

-- all of the table is written
pub all_written : (r c w e k i j : ℕ) (into : List ℤ) (old : List Rational) → length old ≤ k → length into ≡ length old
    → take k (fractions_over e into) ++ rest_cells r c w (pivot_row w old r c) old (drop k old) i j ≡ rest_cells r c w (pivot_row w old r c) old old 0 0
    → fractions_over e into ≡ table_cells w old r c
unfolding table_cells
all_written r c w e k i j into old l s h =
    sym (rest_whole r c w i j k (pivot_row w old r c) old (fractions_over e into) l (length-map into (λ (w : ℤ). ratio w e) ∙ s)) ∙ h

pub all_small : (ws : List ℤ) (k : ℕ) → length ws ≤ k → ((m : ℕ) → m < k → nat_abs (whole_at ws m) < 2 ^ 63) → AreSmallWholes ws
all_small ws k l h = record { small = λ m. by m (below_or_not m k) }
  where
    by : (m : ℕ) → ((m < k) ⊎ (k ≤ m)) → nat_abs (whole_at ws m) < 2 ^ 63
    by m (inl b) = h m b
    by m (inr b) = rw (get_or_past ws m (pos 0) (omega arith)) (let o : 0 < 2 ^ 63 = omega arith in o)

pub row_below : (i j w rows k : ℕ) → k ≡ i * w + j → k < rows * w → i < rows
row_below i j w rows k e l = by (below_or_not i rows)
  where
    by : ((i < rows) ⊎ (rows ≤ i)) → i < rows
    by (inl m) = m
    by (inr m) = let p : rows * w ≤ i * w = mul-le-mul m (let q : w ≤ w = omega arith in q) in absurd (omega arith)
