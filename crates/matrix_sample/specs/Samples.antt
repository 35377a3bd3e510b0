-- The matrix of a number: the sum of v·vᵗ over vectors that a recurrence draws.
--
--     number_after x                 x·6364136223846793005 + 1442695040888963407, modulo 2^64
--     number_at first m              the number after m steps of the recurrence, from first on
--     coordinate_from x              the coordinate that a number gives: x shifted right by 33, modulo 3
--     sample_coordinate n first t p  the coordinate at place p of the vector t, of n coordinates: each is drawn after
--                                    one step more
--     sample_sum n k first i j       Σ v(i)·v(j) over the first k vectors v
--     IsSample n k first a           A is the sum of v·vᵗ over the first k vectors, of n coordinates each
--     OneSample                      there is one such matrix at most
--
-- Vectors and places count from 0.
use Rattle.std.specs.Prelude.{◌≡◌, ℕ, zero, suc, ◌+◌, ◌*◌, ◌/◌, ◌%◌, ◌^◌, ◌<◌, ℤ, pos}
use Rattle.exact_forms.specs.Rational.{whole}
use Rattle.exact_forms.specs.Sums.{sum_to}
use Rattle.matrix_text.specs.RationalMatrix.{RationalMatrix, IsRationalMatrix, rational_entry}

unfoldable pub number_after : ℕ → ℕ
number_after x = (x * 6364136223846793005 + 1442695040888963407) % 2 ^ 64

unfoldable pub number_at : ℕ → ℕ → ℕ
number_at first zero = first
number_at first (suc m) = number_after (number_at first m)

unfoldable pub coordinate_from : ℕ → ℕ
coordinate_from x = (x / 2 ^ 33) % 3

unfoldable pub sample_coordinate : ℕ → ℕ → ℕ → ℕ → ℕ
sample_coordinate n first t p = coordinate_from (number_at first (t * n + p + 1))

unfoldable pub sample_sum : ℕ → ℕ → ℕ → ℕ → ℕ → ℤ
sample_sum n k first i j = sum_to k (λ t. pos (sample_coordinate n first t i * sample_coordinate n first t j))

pub record IsSample (n : ℕ) (k : ℕ) (first : ℕ) (a : RationalMatrix) : Type 0 where
  pub size : a.size ≡ n
  pub matrix : IsRationalMatrix a
  pub entries : (i j : ℕ) → i < n → j < n → rational_entry a i j ≡ whole (sample_sum n k first i j)

abbrev pub OneSample : Type 0
OneSample = (n k first : ℕ) (a b : RationalMatrix) → IsSample n k first a → IsSample n k first b → a ≡ b
