-- Laws of finite sums.
use Rattle.std.specs.Prelude.{◌≡◌, ◌≢◌, ℕ, zero, suc, ◌+◌, ◌<◌, ℤ, pos, ◌+ℤ◌, ◌*ℤ◌, ◌≤ℤ◌, neg_ℤ, ◌⊎◌}
use Rattle.std.proofs.Common.{arith, inl, inr}
use Rattle.std.proofs.lemmas.Int.{ints}
use Rattle.commutative_ring.proofs.Ring.{int_ring}
use Rattle.commutative_ring.proofs.SumOf.{total-zero, total-suc, total_more, total_head, total_same, total_none, total-add, mul-total, total-mul, total-neg}
use Rattle.commutative_ring.proofs.SumOf.{total_swap, total_product, total_but_one, total_one, totals_same, totals-add, mul-totals}
use Rattle.commutative_ring.proofs.Expand.{linear}
use Rattle.commutative_ring.proofs.SmallCases.{last_or_before}
use Rattle.exact_forms.specs.Sums.{sum_to}

-- ---- the laws of every ring's sums
pub sum_to-zero : (f : ℕ → ℤ) → sum_to 0 f ≡ pos 0
unfolding sum_to
sum_to-zero f = total-zero int_ring f

pub sum_to-suc : (n : ℕ) (f : ℕ → ℤ) → sum_to (suc n) f ≡ sum_to n f +ℤ f n
unfolding sum_to
sum_to-suc n f = total-suc int_ring n f

-- the step of a loop
pub sum_to_more : (n : ℕ) (f : ℕ → ℤ) → sum_to (n + 1) f ≡ sum_to n f +ℤ f n
unfolding sum_to
sum_to_more n f = total_more int_ring n f

-- the first term apart
pub sum_to_head : (n : ℕ) (f : ℕ → ℤ) → sum_to (suc n) f ≡ f 0 +ℤ sum_to n (λ k. f (suc k))
unfolding sum_to
sum_to_head n f = total_head int_ring n f

-- the terms below n decide
pub sum_to_same : (n : ℕ) (f g : ℕ → ℤ) → ((k : ℕ) → k < n → f k ≡ g k) → sum_to n f ≡ sum_to n g
unfolding sum_to
sum_to_same n f g h = total_same int_ring n f g h

pub sum_to_none : (n : ℕ) (f : ℕ → ℤ) → ((k : ℕ) → k < n → f k ≡ pos 0) → sum_to n f ≡ pos 0
unfolding sum_to
sum_to_none n f h = total_none int_ring n f h

pub sum_to-add : (n : ℕ) (f g : ℕ → ℤ) → sum_to n (λ k. f k +ℤ g k) ≡ sum_to n f +ℤ sum_to n g
unfolding sum_to
sum_to-add n f g = total-add int_ring n f g

pub mul-sum_to : (c : ℤ) (n : ℕ) (f : ℕ → ℤ) → c *ℤ sum_to n f ≡ sum_to n (λ k. c *ℤ f k)
unfolding sum_to
mul-sum_to c n f = mul-total int_ring c n f

pub sum_to-mul : (c : ℤ) (n : ℕ) (f : ℕ → ℤ) → sum_to n f *ℤ c ≡ sum_to n (λ k. f k *ℤ c)
unfolding sum_to
sum_to-mul c n f = total-mul int_ring c n f

pub sum_to-neg : (n : ℕ) (f : ℕ → ℤ) → sum_to n (λ k. neg_ℤ (f k)) ≡ neg_ℤ (sum_to n f)
unfolding sum_to
sum_to-neg n f = total-neg int_ring n f

-- the order of two sums
pub sum_to_swap : (m n : ℕ) (f : ℕ → ℕ → ℤ) → sum_to m (λ i. sum_to n (λ j. f i j)) ≡ sum_to n (λ j. sum_to m (λ i. f i j))
unfolding sum_to
sum_to_swap m n f = total_swap int_ring m n f

pub sum_to_product : (m n : ℕ) (f g : ℕ → ℤ) → sum_to m f *ℤ sum_to n g ≡ sum_to m (λ i. sum_to n (λ j. f i *ℤ g j))
unfolding sum_to
sum_to_product m n f g = total_product int_ring m n f g

-- two sums that differ in one term
pub sum_to_but_one : (n : ℕ) (f g : ℕ → ℤ) (i : ℕ) → i < n → ((k : ℕ) → k < n → k ≢ i → f k ≡ g k) → sum_to n f +ℤ g i ≡ sum_to n g +ℤ f i
unfolding sum_to
sum_to_but_one n f g i l h = total_but_one int_ring n f g i l h

-- a sum of one term
pub sum_to_one : (n : ℕ) (f : ℕ → ℤ) (i : ℕ) → i < n → ((k : ℕ) → k < n → k ≢ i → f k ≡ pos 0) → sum_to n f ≡ f i
unfolding sum_to
sum_to_one n f i l h = total_one int_ring n f i l h

-- the terms of a double sum decide
pub sums_same : (m n : ℕ) (f g : ℕ → ℕ → ℤ) → ((i j : ℕ) → i < m → j < n → f i j ≡ g i j)
    → sum_to m (λ i. sum_to n (λ j. f i j)) ≡ sum_to m (λ i. sum_to n (λ j. g i j))
unfolding sum_to
sums_same m n f g h = totals_same int_ring m n f g h

pub sums-add : (m n : ℕ) (f g : ℕ → ℕ → ℤ)
    → sum_to m (λ i. sum_to n (λ j. f i j +ℤ g i j)) ≡ sum_to m (λ i. sum_to n (λ j. f i j)) +ℤ sum_to m (λ i. sum_to n (λ j. g i j))
unfolding sum_to
sums-add m n f g = totals-add int_ring m n f g

pub mul-sums : (c : ℤ) (m n : ℕ) (f : ℕ → ℕ → ℤ) → c *ℤ sum_to m (λ i. sum_to n (λ j. f i j)) ≡ sum_to m (λ i. sum_to n (λ j. c *ℤ f i j))
unfolding sum_to
mul-sums c m n f = mul-totals int_ring c m n f

-- ---- sums and the order
pub sum_to_le : (n : ℕ) (f g : ℕ → ℤ) → ((k : ℕ) → k < n → f k ≤ℤ g k) → sum_to n f ≤ℤ sum_to n g
sum_to_le zero f g h = rw (sum_to-zero f, sum_to-zero g) (omega (arith, ints))
sum_to_le (suc n) f g h =
    let r : sum_to n f ≤ℤ sum_to n g = sum_to_le n f g (λ k l. h k (omega arith)) in
    let s : f n ≤ℤ g n = h n (omega arith) in
    rw (sum_to-suc n f, sum_to-suc n g) (omega (arith, linear))

pub sum_to_nonneg : (n : ℕ) (f : ℕ → ℤ) → ((k : ℕ) → k < n → pos 0 ≤ℤ f k) → pos 0 ≤ℤ sum_to n f
sum_to_nonneg zero f h = rw (sum_to-zero f) (omega (arith, ints))
sum_to_nonneg (suc n) f h =
    let r : pos 0 ≤ℤ sum_to n f = sum_to_nonneg n f (λ k l. h k (omega arith)) in
    let s : pos 0 ≤ℤ f n = h n (omega arith) in
    rw (sum_to-suc n f) (omega (arith, linear))

-- one term is at most the sum
pub term_le_sum : (n : ℕ) (f : ℕ → ℤ) (i : ℕ) → i < n → ((k : ℕ) → k < n → pos 0 ≤ℤ f k) → f i ≤ℤ sum_to n f
term_le_sum zero f i l h = absurd (omega arith)
term_le_sum (suc n) f i l h =
    by (last_or_before i n l) (λ b. term_le_sum n f i b (λ k m. h k (omega arith)))
  where
    by : ((i ≡ n) ⊎ (i < n)) → (i < n → f i ≤ℤ sum_to n f) → f i ≤ℤ sum_to (suc n) f
    by (inl e) step =
        let r : pos 0 ≤ℤ sum_to n f = sum_to_nonneg n f (λ k m. h k (omega arith)) in
        rw (sum_to-suc n f, e) (omega (arith, linear))
    by (inr b) step =
        let r : f i ≤ℤ sum_to n f = step b in
        let t : pos 0 ≤ℤ f n = h n (omega arith) in
        rw (sum_to-suc n f) (omega (arith, linear))
