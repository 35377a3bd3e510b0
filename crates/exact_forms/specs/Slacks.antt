-- Cones by their Gram matrices.
--
--     replaced f i y       f, but y at i
--     shortfall z          how far z is below 0, else 0
--     slack m g i          h_i, the diagonal entry less the shortfalls of the entries beside it
--     IsClosed m g b       each slack is at least b
--     AreNonnegative m a   each coefficient below m is at least 0
use Rattle.std.specs.Prelude.{ℕ, suc, ℤ, pos, negsuc, ◌≢◌, ◌<◌, ◌-ℤ◌, ◌≤ℤ◌, cond, eqb}
use Rattle.exact_forms.specs.Sums.{sum_to}

abbrev pub replaced : {A : Type 0} → (ℕ → A) → ℕ → A → ℕ → A
replaced f i y k = cond (eqb k i) y (f k)

unfoldable pub shortfall : ℤ → ℤ
shortfall (pos n) = pos 0
shortfall (negsuc n) = pos (suc n)

unfoldable pub slack : ℕ → (ℕ → ℕ → ℤ) → ℕ → ℤ
slack m g i = g i i -ℤ sum_to m (λ j. cond (eqb j i) (pos 0) (shortfall (g i j)))

abbrev pub IsClosed : ℕ → (ℕ → ℕ → ℤ) → ℤ → Type 0
IsClosed m g b = (i : ℕ) → i < m → b ≤ℤ slack m g i

abbrev pub AreNonnegative : ℕ → (ℕ → ℤ) → Type 0
AreNonnegative m a = (k : ℕ) → k < m → pos 0 ≤ℤ a k
