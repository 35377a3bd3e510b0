-- The sums of a sample, entry by entry of a lower triangle.
use Rattle.std.proofs.Common.{◌≡◌, ℕ, zero, suc, ◌+◌, ◌*◌, ◌/◌, ◌<◌, ◌≤◌, ◌⊎◌, ℤ, pos, ◌+ℤ◌, ◌≤ℤ◌, List, length, set, take, map, replicate, slice_index_or}
use Rattle.std.proofs.Common.{refl, sym, ap, ap₂, ◌∙◌, inl, inr, arith, get_or-set_same, get_or-set_other}
use Rattle.std.proofs.lemmas.Int.{ints}
use Rattle.std.proofs.lemmas.Nat.{mul-le}
use Rattle.std.proofs.lemmas.List.{length-map, length-take-le, get_or-take, take_all}
use Rattle.std.proofs.Math.ListN.{get_or-map}
use Rattle.std.proofs.Math.Nat.{mul_comm}
use Rattle.commutative_ring.proofs.SmallCases.{at_least_or_at_most, here_or_before}
use Rattle.exact_forms.specs.Rational.{Rational, whole}
use Rattle.exact_forms.specs.Triangles.{triangle, entry_in}
use Rattle.exact_forms.proofs.Sums.{sum_to-zero, sum_to-suc, sum_to_more, sum_to_same}
use Rattle.exact_forms.proofs.Triangles.{triangle-suc, twice_triangle, triangle_grows, entry_before, entry_in_symmetric, entry_in_below, entries_decide}
use Rattle.matrix_text.specs.RationalMatrix.{rational_entry}
use Rattle.matrix_sample.specs.Samples.{number_at, coordinate_from, sample_coordinate, sample_sum, IsSample, OneSample}
use Rattle.matrix_sample.proofs.Draws.{number_at_later, coordinate_from_small}

pub triangle_of_five : triangle 5 ≡ 15
unfolding triangle
triangle_of_five = refl

-- a row of at most six begins at 15 or before
pub row_start : (row : ℕ) → row < 6 → triangle row ≤ 15
row_start row l = let g : triangle row ≤ triangle 5 = triangle_grows row 5 (omega arith) in let t = triangle_of_five in omega arith

pub triangle_fits : (n : ℕ) → n ≤ 6 → triangle n ≤ 21
triangle_fits n l =
    let g : triangle n ≤ triangle 6 = triangle_grows n 6 l in
    let t : triangle 6 ≡ triangle 5 + 6 = triangle-suc 5 in
    let f = triangle_of_five in
    omega arith

pub small_product : (a b : ℕ) → a ≤ 2 → b ≤ 2 → a * b ≤ 4
small_product a b la lb = mul-le a b 2 2 la lb

pub row_begins : (row : ℕ) → row * (row + 1) / 2 ≡ triangle row
row_begins row = let e = twice_triangle row in omega arith

-- ---- one vector more, entry by entry
-- the list with x more at a place
abbrev added_at : List ℕ → ℕ → ℕ → List ℕ
added_at xs place x = set xs place (slice_index_or xs place 0 + x)

-- the step of a loop that adds f to each entry of a part of a list
pub part_more : (xs old : List ℕ) (start column : ℕ) (f : ℕ → ℕ) → start + column < length xs
    → ((j : ℕ) → j < column → slice_index_or xs (start + j) 0 ≡ slice_index_or old (start + j) 0 + f j)
    → ((m : ℕ) → start + column ≤ m → slice_index_or xs m 0 ≡ slice_index_or old m 0)
    → (j : ℕ) → j < column + 1 → slice_index_or (added_at xs (start + column) (f column)) (start + j) 0 ≡ slice_index_or old (start + j) 0 + f j
part_more xs old start column f l done after j lj = by (here_or_before j column lj)
  where
    by : ((j ≡ column) ⊎ (j < column)) → slice_index_or (added_at xs (start + column) (f column)) (start + j) 0 ≡ slice_index_or old (start + j) 0 + f j
    by (inl same) =
        rw same (get_or-set_same xs (start + column) (slice_index_or xs (start + column) 0 + f column) 0 l
        ∙ ap (λ (x : ℕ). x + f column) (after (start + column) (omega arith)))
    by (inr less) =
        get_or-set_other xs (start + column) (start + j) (slice_index_or xs (start + column) 0 + f column) 0 (omega arith) ∙ done j less

-- a row more of a lower triangle
pub rows_more : (old xs new : List ℕ) (row : ℕ) (f : ℕ → ℕ → ℕ)
    → ((i j : ℕ) → j ≤ i → i < row → slice_index_or xs (triangle i + j) 0 ≡ slice_index_or old (triangle i + j) 0 + f i j)
    → ((m : ℕ) → triangle row ≤ m → slice_index_or xs m 0 ≡ slice_index_or old m 0)
    → ((j : ℕ) → j ≤ row → slice_index_or new (triangle row + j) 0 ≡ slice_index_or xs (triangle row + j) 0 + f row j)
    → ((m : ℕ) → m < triangle row → slice_index_or new m 0 ≡ slice_index_or xs m 0)
    → (i j : ℕ) → j ≤ i → i < row + 1 → slice_index_or new (triangle i + j) 0 ≡ slice_index_or old (triangle i + j) 0 + f i j
rows_more old xs new row f done after added before i j lj li = by (here_or_before i row li)
  where
    by : ((i ≡ row) ⊎ (i < row)) → slice_index_or new (triangle i + j) 0 ≡ slice_index_or old (triangle i + j) 0 + f i j
    by (inl same) = rw same (added j (omega arith) ∙ ap (λ (x : ℕ). x + f row j) (after (triangle row + j) (omega arith)))
    by (inr less) = before (triangle i + j) (entry_before i j row lj less) ∙ done i j lj less

-- ---- the sums of one vector more
-- number_at first (t * n) is where the vector t is drawn from
pub drawn_coordinate : (n first t p x : ℕ) → x ≡ coordinate_from (number_at (number_at first (t * n)) (p + 1)) → x ≡ sample_coordinate n first t p
unfolding sample_coordinate
drawn_coordinate n first t p x e =
    let place : t * n + (p + 1) ≡ t * n + p + 1 = omega arith in
    e ∙ ap coordinate_from (number_at_later first (t * n) (p + 1) ∙ ap (number_at first) place)

pub next_drawn : (n first t : ℕ) → number_at (number_at first (t * n)) n ≡ number_at first ((t + 1) * n)
next_drawn n first t = let e : t * n + n ≡ (t + 1) * n = omega arith in number_at_later first (t * n) n ∙ ap (number_at first) e

abbrev zeros : ℕ → List ℕ
zeros m = replicate m 0

pub zeros_are_zero : (m k : ℕ) → ◌≡◌ {A = ℕ} (slice_index_or (zeros m) k 0) 0
zeros_are_zero zero k = refl
zeros_are_zero (suc m) zero = refl
zeros_are_zero (suc m) (suc k) = zeros_are_zero m k

pub no_sum : (n first i j : ℕ) → pos 0 ≡ sample_sum n 0 first i j
unfolding sample_sum
no_sum n first i j = sym (sum_to-zero (λ (t : ℕ). pos (sample_coordinate n first t i * sample_coordinate n first t j)))

pub sum_with_next : (n first t i j old a b new : ℕ) → pos old ≡ sample_sum n t first i j
    → a ≡ sample_coordinate n first t i → b ≡ sample_coordinate n first t j → new ≡ old + a * b
    → pos new ≡ sample_sum n (t + 1) first i j
unfolding sample_sum
sum_with_next n first t i j old a b new e ea eb en =
    ap pos en ∙ split old (a * b) ∙ ap₂ (λ (x : ℤ) (y : ℤ). x +ℤ y) e (ap₂ (λ (x : ℕ) (y : ℕ). pos (x * y)) ea eb)
    ∙ sym (sum_to_more t (λ (t : ℕ). pos (sample_coordinate n first t i * sample_coordinate n first t j)))
  where
    split : (x y : ℕ) → pos (x + y) ≡ pos x +ℤ pos y
    split x y = refl

-- each product is at most 4
pub sum_small : (n k first i j s : ℕ) → k ≤ 100000 → pos s ≡ sample_sum n k first i j → s ≤ 400000
unfolding sample_sum sample_coordinate
sum_small n k first i j s l e = let b : sample_sum n k first i j ≤ℤ pos (4 * k) = at_most k in grind (arith, ints)
  where
    at_most : (k : ℕ) → sample_sum n k first i j ≤ℤ pos (4 * k)
    at_most zero = rw (sum_to-zero (λ (t : ℕ). pos (sample_coordinate n first t i * sample_coordinate n first t j))) (omega (arith, ints))
    at_most (suc k) =
        let h : sample_sum n k first i j ≤ℤ pos (4 * k) = at_most k in
        let p : sample_coordinate n first k i * sample_coordinate n first k j ≤ 4 = small_product _ _ (coordinate_from_small _) (coordinate_from_small _) in
        rw (sum_to-suc k (λ (t : ℕ). pos (sample_coordinate n first t i * sample_coordinate n first t j))) (omega (arith, ints))

-- ---- the matrix of these sums
pub sample_sum_symmetric : (n k first i j : ℕ) → sample_sum n k first i j ≡ sample_sum n k first j i
unfolding sample_sum
sample_sum_symmetric n k first i j =
    sum_to_same k (λ (t : ℕ). pos (sample_coordinate n first t i * sample_coordinate n first t j))
    (λ (t : ℕ). pos (sample_coordinate n first t j * sample_coordinate n first t i))
    (λ t l. ap pos (mul_comm (sample_coordinate n first t i) (sample_coordinate n first t j)))

pub is_sample : (n k first : ℕ) (sums : List ℕ) (lower : List Rational) → 1 ≤ n → n ≤ 6 → length sums ≡ 21
    → ((i j : ℕ) → j ≤ i → i < n → pos (slice_index_or sums (triangle i + j) 0) ≡ sample_sum n k first i j)
    → lower ≡ map (λ (s : ℕ). whole (pos s)) (take (triangle n) sums) → IsSample n k first (record { size = n; lower = lower })
unfolding rational_entry
is_sample n k first sums lower low high long same e = rw e record {
  size = refl;
  matrix = record { positive = low; small = omega arith; triangle = size };
  entries = λ i j li lj. either i j li lj (at_least_or_at_most i j);
}
  where
    size : length (map (λ (s : ℕ). whole (pos s)) (take (triangle n) sums)) ≡ triangle n
    size = length-map (take (triangle n) sums) (λ (s : ℕ). whole (pos s)) ∙ length-take-le (triangle n) sums (let t = triangle_fits n high in omega arith)

    below : (i j : ℕ) → j ≤ i → i < n
        → entry_in (whole (pos 0)) (map (λ (s : ℕ). whole (pos s)) (take (triangle n) sums)) i j ≡ whole (sample_sum n k first i j)
    below i j lj li =
        entry_in_below (whole (pos 0)) (map (λ (s : ℕ). whole (pos s)) (take (triangle n) sums)) i j lj
        ∙ get_or-map (λ (s : ℕ). whole (pos s)) (take (triangle n) sums) (triangle i + j) 0
        ∙ ap (λ (s : ℕ). whole (pos s)) (get_or-take (triangle n) sums (triangle i + j) 0 (entry_before i j n lj li))
        ∙ ap whole (same i j lj li)

    either : (i j : ℕ) → i < n → j < n → ((j ≤ i) ⊎ (i ≤ j))
        → entry_in (whole (pos 0)) (map (λ (s : ℕ). whole (pos s)) (take (triangle n) sums)) i j ≡ whole (sample_sum n k first i j)
    either i j li lj (inl h) = below i j h li
    either i j li lj (inr h) =
        entry_in_symmetric (whole (pos 0)) (map (λ (s : ℕ). whole (pos s)) (take (triangle n) sums)) i j
        ∙ below j i h lj ∙ ap whole (sample_sum_symmetric n k first j i)

-- the same from the list of entries as it was made
pub sampled : (n k first rows index : ℕ) (sums : List ℕ) (lower shown : List Rational) → 1 ≤ n → n ≤ 6 → length sums ≡ 21
    → ((i j : ℕ) → j ≤ i → i < n → pos (slice_index_or sums (triangle i + j) 0) ≡ sample_sum n k first i j) → rows ≡ n
    → lower ≡ map (λ (s : ℕ). whole (pos s)) (take index (take (rows * (rows + 1) / 2) sums))
    → length (take (rows * (rows + 1) / 2) sums) ≤ index → shown ≡ lower
    → IsSample n k first (record { size = n; lower = shown })
sampled n k first rows index sums lower shown low high long same is made all e =
    is_sample n k first sums shown low high long same
    (e ∙ made ∙ ap (map (λ (s : ℕ). whole (pos s))) (take_all index (take (rows * (rows + 1) / 2) sums) all)
    ∙ ap (λ (m : ℕ). map (λ (s : ℕ). whole (pos s)) (take m sums)) (row_begins rows ∙ ap triangle is))

pub one_sample : OneSample
unfolding rational_entry
one_sample n k first a b sa sb = by a.size b.size (sa.size ∙ sym sb.size)
  where
    same : a.lower ≡ b.lower
    same = entries_decide (whole (pos 0)) n a.lower b.lower (sa.matrix.triangle ∙ ap triangle sa.size) (sb.matrix.triangle ∙ ap triangle sb.size)
        (λ i j lj li. sa.entries i j li (omega arith) ∙ sym (sb.entries i j li (omega arith)))

    by : (m o : ℕ) → a.size ≡ b.size → a ≡ b
    by m o e = ap₂ (λ (size : ℕ) (lower : List Rational). record { size = size; lower = lower }) e same
