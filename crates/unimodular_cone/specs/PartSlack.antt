-- A slack while it is summed up, column by column.
--
--     beside g i k             the shortfall at row i and column k, 0 on the diagonal
--     IsPartSlack g i j left   left is the entry on the diagonal less the first j columns' shortfalls beside it;
--                              it is at most 2^100, and at least -2^100 (j + 1)
use Rattle.std.specs.Prelude.{◌≡◌, ℕ, ◌+◌, ◌*◌, ◌^◌, ℤ, pos, ◌+ℤ◌, ◌≤ℤ◌, neg_ℤ, cond, eqb}
use Rattle.exact_forms.specs.Sums.{sum_to}
use Rattle.exact_forms.specs.Slacks.{shortfall}

abbrev pub beside : (ℕ → ℕ → ℤ) → ℕ → ℕ → ℤ
beside g i k = cond (eqb k i) (pos 0) (shortfall (g i k))

pub record IsPartSlack (g : ℕ → ℕ → ℤ) (i j : ℕ) (left : ℤ) : Type 0 where
  pub value : left +ℤ sum_to j (beside g i) ≡ g i i
  pub high : left ≤ℤ pos (2 ^ 100)
  pub low : neg_ℤ (pos (2 ^ 100 * (j + 1))) ≤ℤ left
