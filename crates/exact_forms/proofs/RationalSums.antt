-- Laws of finite sums of rational numbers, and of whole numbers among them.
use Rattle.std.specs.Prelude.{◌≡◌, ◌≢◌, ℕ, zero, suc, ◌+◌, ◌<◌, ℤ, pos}
use Rattle.std.proofs.Common.{sym, ◌∙◌, ap}
use Rattle.commutative_ring.proofs.SumOf.{total-zero, total-suc, total_more, total_head, total_same, total_none, total-add, mul-total, total-mul, total-neg}
use Rattle.commutative_ring.proofs.SumOf.{total_swap, total_product, total_but_one, total_one, totals_same, totals-add, mul-totals}
use Rattle.exact_forms.specs.Rational.{Rational, whole, neg_ℚ, ◌+ℚ◌, ◌*ℚ◌}
use Rattle.exact_forms.specs.Sums.{sum_to, sum_ℚ}
use Rattle.exact_forms.proofs.Rational.{rational_ring, whole-add}
use Rattle.exact_forms.proofs.Sums.{sum_to-zero, sum_to-suc}

pub sum_ℚ-zero : (f : ℕ → Rational) → sum_ℚ 0 f ≡ whole (pos 0)
unfolding sum_ℚ
sum_ℚ-zero f = total-zero rational_ring f

pub sum_ℚ-suc : (n : ℕ) (f : ℕ → Rational) → sum_ℚ (suc n) f ≡ sum_ℚ n f +ℚ f n
unfolding sum_ℚ
sum_ℚ-suc n f = total-suc rational_ring n f

-- the step of a loop
pub sum_ℚ_more : (n : ℕ) (f : ℕ → Rational) → sum_ℚ (n + 1) f ≡ sum_ℚ n f +ℚ f n
unfolding sum_ℚ
sum_ℚ_more n f = total_more rational_ring n f

-- the first term apart
pub sum_ℚ_head : (n : ℕ) (f : ℕ → Rational) → sum_ℚ (suc n) f ≡ f 0 +ℚ sum_ℚ n (λ k. f (suc k))
unfolding sum_ℚ
sum_ℚ_head n f = total_head rational_ring n f

-- the terms below n decide
pub sum_ℚ_same : (n : ℕ) (f g : ℕ → Rational) → ((k : ℕ) → k < n → f k ≡ g k) → sum_ℚ n f ≡ sum_ℚ n g
unfolding sum_ℚ
sum_ℚ_same n f g h = total_same rational_ring n f g h

pub sum_ℚ_none : (n : ℕ) (f : ℕ → Rational) → ((k : ℕ) → k < n → f k ≡ whole (pos 0)) → sum_ℚ n f ≡ whole (pos 0)
unfolding sum_ℚ
sum_ℚ_none n f h = total_none rational_ring n f h

pub sum_ℚ-add : (n : ℕ) (f g : ℕ → Rational) → sum_ℚ n (λ k. f k +ℚ g k) ≡ sum_ℚ n f +ℚ sum_ℚ n g
unfolding sum_ℚ
sum_ℚ-add n f g = total-add rational_ring n f g

pub mul-sum_ℚ : (c : Rational) (n : ℕ) (f : ℕ → Rational) → c *ℚ sum_ℚ n f ≡ sum_ℚ n (λ k. c *ℚ f k)
unfolding sum_ℚ
mul-sum_ℚ c n f = mul-total rational_ring c n f

pub sum_ℚ-mul : (c : Rational) (n : ℕ) (f : ℕ → Rational) → sum_ℚ n f *ℚ c ≡ sum_ℚ n (λ k. f k *ℚ c)
unfolding sum_ℚ
sum_ℚ-mul c n f = total-mul rational_ring c n f

pub sum_ℚ-neg : (n : ℕ) (f : ℕ → Rational) → sum_ℚ n (λ k. neg_ℚ (f k)) ≡ neg_ℚ (sum_ℚ n f)
unfolding sum_ℚ
sum_ℚ-neg n f = total-neg rational_ring n f

-- the order of two sums
pub sum_ℚ_swap : (m n : ℕ) (f : ℕ → ℕ → Rational) → sum_ℚ m (λ i. sum_ℚ n (λ j. f i j)) ≡ sum_ℚ n (λ j. sum_ℚ m (λ i. f i j))
unfolding sum_ℚ
sum_ℚ_swap m n f = total_swap rational_ring m n f

pub sum_ℚ_product : (m n : ℕ) (f g : ℕ → Rational) → sum_ℚ m f *ℚ sum_ℚ n g ≡ sum_ℚ m (λ i. sum_ℚ n (λ j. f i *ℚ g j))
unfolding sum_ℚ
sum_ℚ_product m n f g = total_product rational_ring m n f g

-- two sums that differ in one term
pub sum_ℚ_but_one : (n : ℕ) (f g : ℕ → Rational) (i : ℕ) → i < n → ((k : ℕ) → k < n → k ≢ i → f k ≡ g k) → sum_ℚ n f +ℚ g i ≡ sum_ℚ n g +ℚ f i
unfolding sum_ℚ
sum_ℚ_but_one n f g i l h = total_but_one rational_ring n f g i l h

-- a sum of one term
pub sum_ℚ_one : (n : ℕ) (f : ℕ → Rational) (i : ℕ) → i < n → ((k : ℕ) → k < n → k ≢ i → f k ≡ whole (pos 0)) → sum_ℚ n f ≡ f i
unfolding sum_ℚ
sum_ℚ_one n f i l h = total_one rational_ring n f i l h

-- the terms of a double sum decide
pub sums_ℚ_same : (m n : ℕ) (f g : ℕ → ℕ → Rational) → ((i j : ℕ) → i < m → j < n → f i j ≡ g i j)
    → sum_ℚ m (λ i. sum_ℚ n (λ j. f i j)) ≡ sum_ℚ m (λ i. sum_ℚ n (λ j. g i j))
unfolding sum_ℚ
sums_ℚ_same m n f g h = totals_same rational_ring m n f g h

pub sums_ℚ-add : (m n : ℕ) (f g : ℕ → ℕ → Rational)
    → sum_ℚ m (λ i. sum_ℚ n (λ j. f i j +ℚ g i j)) ≡ sum_ℚ m (λ i. sum_ℚ n (λ j. f i j)) +ℚ sum_ℚ m (λ i. sum_ℚ n (λ j. g i j))
unfolding sum_ℚ
sums_ℚ-add m n f g = totals-add rational_ring m n f g

pub mul-sums_ℚ : (c : Rational) (m n : ℕ) (f : ℕ → ℕ → Rational) → c *ℚ sum_ℚ m (λ i. sum_ℚ n (λ j. f i j)) ≡ sum_ℚ m (λ i. sum_ℚ n (λ j. c *ℚ f i j))
unfolding sum_ℚ
mul-sums_ℚ c m n f = mul-totals rational_ring c m n f

-- ---- whole numbers
pub whole-sum : (n : ℕ) (f : ℕ → ℤ) → whole (sum_to n f) ≡ sum_ℚ n (λ k. whole (f k))
whole-sum zero f = ap whole (sum_to-zero f) ∙ sym (sum_ℚ-zero (λ k. whole (f k)))
whole-sum (suc n) f =
    ap whole (sum_to-suc n f) ∙ whole-add (sum_to n f) (f n) ∙ ap (λ w. w +ℚ whole (f n)) (whole-sum n f)
    ∙ sym (sum_ℚ-suc n (λ k. whole (f k)))

pub whole-sums : (m n : ℕ) (f : ℕ → ℕ → ℤ) → whole (sum_to m (λ i. sum_to n (λ j. f i j))) ≡ sum_ℚ m (λ i. sum_ℚ n (λ j. whole (f i j)))
whole-sums m n f = whole-sum m (λ i. sum_to n (λ j. f i j)) ∙ sum_ℚ_same m _ _ (λ i l. whole-sum n (λ j. f i j))
