-- Laws of triangles.
use Rattle.std.specs.Prelude.{◌⊎◌, ◌≡◌, ℕ, zero, suc, ◌+◌, ◌*◌, ◌<◌, ◌≤◌, ℤ, pos, ◌+ℤ◌, ◌*ℤ◌, Bool, true, false, nat_lt, if◌then◌else◌, List, [], ◌∷◌, map}
use Rattle.std.specs.Prelude.{length, slice_index_or}
use Rattle.std.proofs.Common.{inl, inr, arith, sym, ◌∙◌, ap, ap₂, refl}
use Rattle.std.proofs.Math.ListN.{get_or-map}
use Rattle.commutative_ring.proofs.Expand.{expand, linear}
use Rattle.commutative_ring.proofs.Ring.{num, ◌⊕◌, ◌⊗◌, v0, v1, v2}
use Rattle.commutative_ring.proofs.SmallCases.{below_or_not, next_or_within, three_ways, at_least_or_at_most}
use Rattle.exact_forms.specs.Rational.{Rational, whole, ◌+ℚ◌, ◌*ℚ◌}
use Rattle.exact_forms.specs.Sums.{sum_to, sum_ℚ}
use Rattle.exact_forms.specs.Forms.{IsSymmetric}
use Rattle.exact_forms.specs.Triangles.{triangle, entry_in}
use Rattle.exact_forms.proofs.Rational.{ring_ℚ}
use Rattle.exact_forms.proofs.Sums.{sum_to-zero, sum_to-suc, sum_to_same, sum_to-add}
use Rattle.exact_forms.proofs.RationalSums.{sum_ℚ-zero, sum_ℚ-suc, sum_ℚ_same, sum_ℚ-add}

pub triangle-zero : triangle 0 ≡ 0
unfolding triangle
triangle-zero = refl

pub triangle-suc : (n : ℕ) → triangle (suc n) ≡ triangle n + suc n
unfolding triangle
triangle-suc n = refl

-- the step of a loop
pub triangle_more : (n : ℕ) → triangle (n + 1) ≡ triangle n + n + 1
triangle_more n = let e : n + 1 ≡ suc n = omega arith in let t = triangle-suc n in rw e (omega arith)

pub twice_triangle : (n : ℕ) → 2 * triangle n ≡ n * (n + 1)
twice_triangle zero = let t = triangle-zero in omega arith
twice_triangle (suc n) = let e : 2 * triangle n ≡ n * (n + 1) = twice_triangle n in let t = triangle-suc n in omega arith

-- it grows
pub triangle_grows : (i n : ℕ) → i ≤ n → triangle i ≤ triangle n
triangle_grows i zero h = let e : i ≡ 0 = omega arith in rw e (omega arith)
triangle_grows i (suc n) h = by (next_or_within i n h) (triangle_grows i n)
  where
    by : ((i ≡ suc n) ⊎ (i ≤ n)) → (i ≤ n → triangle i ≤ triangle n) → triangle i ≤ triangle (suc n)
    by (inl e) step = rw e (omega arith)
    by (inr l) step = let s = step l in let t = triangle-suc n in omega arith

-- the entries of a row stand before the next row
pub entry_before : (i j n : ℕ) → j ≤ i → i < n → triangle i + j < triangle n
entry_before i j n h l = let t = triangle-suc i in let g : triangle (suc i) ≤ triangle n = triangle_grows (suc i) n (omega arith) in omega arith

-- what stands before row n stands in a row before it
pub row_before : (i j n : ℕ) → triangle i + j < triangle n → i < n
row_before i j n h = by (below_or_not i n)
  where
    by : ((i < n) ⊎ (n ≤ i)) → i < n
    by (inl l) = l
    by (inr l) = absurd (let g : triangle n ≤ triangle i = triangle_grows n i l in omega arith)

-- the same by the formula, for code that keeps no sums
pub row_below : (i j k n : ℕ) → 2 * k ≡ i * (i + 1) + 2 * j → k < triangle n → i < n
row_below i j k n f h = row_before i j n (let t = twice_triangle i in omega arith)

-- a place of the list is that of one row and column
pub place_decides : (i j k l : ℕ) → j ≤ i → l ≤ k → triangle i + j ≡ triangle k + l → (i ≡ k) × (j ≡ l)
place_decides i j k l hj hl e = by (three_ways i k)
  where
    by : ((i < k) ⊎ ((i ≡ k) ⊎ (k < i))) → (i ≡ k) × (j ≡ l)
    by (inl h) = absurd (let b = entry_before i j k hj h in omega arith)
    by (inr (inl same)) = (same, let t : triangle i ≡ triangle k = ap triangle same in omega arith)
    by (inr (inr h)) = absurd (let b = entry_before k l i hl h in omega arith)

-- ---- entries
pub entry_in_below : {A : Type 0} (none : A) (xs : List A) (i j : ℕ) → j ≤ i → entry_in none xs i j ≡ slice_index_or xs (triangle i + j) none
unfolding entry_in
entry_in_below none xs i j h = grind arith

pub entry_in_above : {A : Type 0} (none : A) (xs : List A) (i j : ℕ) → i ≤ j → entry_in none xs i j ≡ slice_index_or xs (triangle j + i) none
unfolding entry_in
entry_in_above none xs i j h = grind arith

pub entry_in_symmetric : {A : Type 0} (none : A) (xs : List A) (i j : ℕ) → entry_in none xs i j ≡ entry_in none xs j i
entry_in_symmetric none xs i j = by (at_least_or_at_most j i)
  where
    by : ((i ≤ j) ⊎ (j ≤ i)) → entry_in none xs i j ≡ entry_in none xs j i
    by (inl h) = entry_in_above none xs i j h ∙ sym (entry_in_below none xs j i h)
    by (inr h) = entry_in_below none xs i j h ∙ sym (entry_in_above none xs j i h)

pub entry_symmetric : (n : ℕ) (none : ℤ) (xs : List ℤ) → IsSymmetric n (entry_in none xs)
entry_symmetric n none xs i j li lj = entry_in_symmetric none xs i j

-- each place before row n is that of a row and a column
pub place_of : (n k : ℕ) → k < triangle n → (i : ℕ) × (j : ℕ) × (i < n) × (j ≤ i) × (k ≡ triangle i + j)
place_of zero k h = absurd (let t = triangle-zero in omega arith)
place_of (suc n) k h = by (below_or_not k (triangle n)) (place_of n k)
  where
    by : ((k < triangle n) ⊎ (triangle n ≤ k)) → (k < triangle n → (i : ℕ) × (j : ℕ) × (i < n) × (j ≤ i) × (k ≡ triangle i + j))
        → (i : ℕ) × (j : ℕ) × (i < suc n) × (j ≤ i) × (k ≡ triangle i + j)
    by (inl l) step = let s = step l in (s.0, s.1, (omega (arith, s.2)), s.3, s.4)
    by (inr l) step =
        let t = triangle-suc n in
        let c : (c : ℕ) × (triangle n + c ≡ k) = difference (triangle n) k l in
        (n, c.0, omega arith, (let e = c.1 in omega arith), sym c.1)
      where
        difference : (a b : ℕ) → a ≤ b → (c : ℕ) × (a + c ≡ b)
        difference zero b h = (b, omega arith)
        difference (suc a) zero h = absurd (omega arith)
        difference (suc a) (suc b) h = let d = difference a b (omega arith) in (d.0, (let e = d.1 in omega arith))

-- the entries decide the list
pub entries_decide : {A : Type 0} (none : A) (n : ℕ) (xs ys : List A) → length xs ≡ triangle n → length ys ≡ triangle n
    → ((i j : ℕ) → j ≤ i → i < n → entry_in none xs i j ≡ entry_in none ys i j) → xs ≡ ys
entries_decide none n xs ys lx ly same = lists_same none xs ys (lx ∙ sym ly) (λ k l. at (place_of n k (omega arith)))
  where
    at : {k : ℕ} → ((i : ℕ) × (j : ℕ) × (i < n) × (j ≤ i) × (k ≡ triangle i + j)) → slice_index_or xs k none ≡ slice_index_or ys k none
    at (i, j, li, lj, e) =
        ap (λ (k : ℕ). slice_index_or xs k none) e ∙ sym (entry_in_below none xs i j lj) ∙ same i j lj li
        ∙ entry_in_below none ys i j lj ∙ ap (λ (k : ℕ). slice_index_or ys k none) (sym e)

    lists_same : {A : Type 0} (none : A) (xs ys : List A) → length xs ≡ length ys
        → ((k : ℕ) → k < length xs → slice_index_or xs k none ≡ slice_index_or ys k none) → xs ≡ ys
    lists_same none [] [] e h = refl
    lists_same none [] (y ∷ ys) e h = absurd (omega arith)
    lists_same none (x ∷ xs) [] e h = absurd (omega arith)
    lists_same none (x ∷ xs) (y ∷ ys) e h = ap₂ (λ a b. a ∷ b) (h 0 (omega arith)) (lists_same none xs ys (omega arith) (λ k l. h (suc k) (omega arith)))

-- ---- a symmetric double sum, by the lower triangle
pub sum_by_triangle : (n : ℕ) (f : ℕ → ℕ → ℤ) → ((i j : ℕ) → i < n → j < n → f i j ≡ f j i)
    → sum_to n (λ i. sum_to n (λ j. f i j)) ≡ sum_to n (λ i. pos 2 *ℤ sum_to i (λ j. f i j) +ℤ f i i)
sum_by_triangle zero f s = sum_to-zero (λ i. sum_to 0 (λ j. f i j)) ∙ sym (sum_to-zero (λ i. pos 2 *ℤ sum_to i (λ j. f i j) +ℤ f i i))
sum_by_triangle (suc n) f s =
    let inner : sum_to n (λ i. sum_to (suc n) (λ j. f i j)) ≡ sum_to n (λ i. sum_to n (λ j. f i j)) +ℤ sum_to n (λ i. f i n) =
    sum_to_same n (λ i. sum_to (suc n) (λ j. f i j)) (λ i. sum_to n (λ j. f i j) +ℤ f i n) (λ i l. sum_to-suc n (λ j. f i j))
    ∙ sum_to-add n (λ i. sum_to n (λ j. f i j)) (λ i. f i n) in
    let mirrored : sum_to n (λ i. f i n) ≡ sum_to n (λ j. f n j) = sum_to_same n (λ i. f i n) (λ j. f n j) (λ i l. s i n (omega arith) (omega arith)) in
    let last : sum_to (suc n) (λ j. f n j) ≡ sum_to n (λ j. f n j) +ℤ f n n = sum_to-suc n (λ j. f n j) in
    let before : sum_to n (λ i. sum_to n (λ j. f i j)) ≡ sum_to n (λ i. pos 2 *ℤ sum_to i (λ j. f i j) +ℤ f i i) =
    sum_by_triangle n f (λ i j li lj. s i j (omega arith) (omega arith)) in
    let twice : pos 2 *ℤ sum_to n (λ j. f n j) ≡ sum_to n (λ j. f n j) +ℤ sum_to n (λ j. f n j) = simp expand in
    rw (sum_to-suc n (λ i. sum_to (suc n) (λ j. f i j)), sum_to-suc n (λ i. pos 2 *ℤ sum_to i (λ j. f i j) +ℤ f i i)) (omega (arith, linear))

-- the same of rational numbers
pub sum_ℚ_by_triangle : (n : ℕ) (f : ℕ → ℕ → Rational) → ((i j : ℕ) → i < n → j < n → f i j ≡ f j i)
    → sum_ℚ n (λ i. sum_ℚ n (f i)) ≡ sum_ℚ n (λ i. whole (pos 2) *ℚ sum_ℚ i (f i) +ℚ f i i)
sum_ℚ_by_triangle zero f s = sum_ℚ-zero (λ i. sum_ℚ 0 (f i)) ∙ sym (sum_ℚ-zero (λ i. whole (pos 2) *ℚ sum_ℚ i (f i) +ℚ f i i))
sum_ℚ_by_triangle (suc n) f s =
    let half : Rational = sum_ℚ n (λ i. sum_ℚ n (f i)) in
    let last : Rational = sum_ℚ n (f n) in
    let inner : sum_ℚ n (λ i. sum_ℚ (suc n) (f i)) ≡ half +ℚ last =
    sum_ℚ_same n (λ i. sum_ℚ (suc n) (f i)) (λ i. sum_ℚ n (f i) +ℚ f i n) (λ i l. sum_ℚ-suc n (f i)) ∙ sum_ℚ-add n (λ i. sum_ℚ n (f i)) (λ i. f i n)
    ∙ ap (λ (x : Rational). half +ℚ x) (sum_ℚ_same n (λ i. f i n) (f n) (λ i l. s i n (omega arith) (omega arith))) in
    sum_ℚ-suc n (λ i. sum_ℚ (suc n) (f i))
    ∙ ap₂ (λ (x : Rational) (y : Rational). x +ℚ y) inner (sum_ℚ-suc n (f n))
    ∙ ring_ℚ (half ∷ last ∷ f n n ∷ []) ((v0 ⊕ v1) ⊕ (v1 ⊕ v2)) (v0 ⊕ (num (pos 2) ⊗ v1 ⊕ v2)) refl
    ∙ ap (λ (x : Rational). x +ℚ (whole (pos 2) *ℚ last +ℚ f n n)) (sum_ℚ_by_triangle n f (λ i j li lj. s i j (omega arith) (omega arith)))
    ∙ sym (sum_ℚ-suc n (λ i. whole (pos 2) *ℚ sum_ℚ i (f i) +ℚ f i i))

pub entry_in-map : {A B : Type 0} (f : A → B) (none : A) (xs : List A) (i j : ℕ) → entry_in (f none) (map f xs) i j ≡ f (entry_in none xs i j)
unfolding entry_in
entry_in-map f none xs i j = by (nat_lt i j)
  where
    by : (b : Bool) → (if b then slice_index_or (map f xs) (triangle j + i) (f none) else slice_index_or (map f xs) (triangle i + j) (f none))
        ≡ f (if b then slice_index_or xs (triangle j + i) none else slice_index_or xs (triangle i + j) none)
    by true = get_or-map f xs (triangle j + i) none
    by false = get_or-map f xs (triangle i + j) none
