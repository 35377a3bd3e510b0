-- Vectors and matrices as functions of places from 0, with a bound n beside them.
--
--     bilinear n q x y    xᵗ Q y, the sum over all rows and columns
--     form n q x          Q[x] = xᵗ Q x
--     inner n q s         ⟨Q,S⟩, the sum over all rows and columns
--     combination m a v   a_0·v_0 + .. + a_{m-1}·v_{m-1}, at a place
--     mark_ℤ a i          1 where i is a, else 0
--     unit_sum a b i j    1 at (a,b) and at (b,a), and 2 at (a,a) where a is b; 0 elsewhere
--     IsSymmetric n q     Q equals its mirror image
use Rattle.std.specs.Prelude.{ℕ, ℤ, pos, ◌≡◌, ◌<◌, ◌+ℤ◌, ◌*ℤ◌}
use Rattle.exact_forms.specs.Sums.{sum_to}
use Rattle.exact_forms.specs.Slacks.{replaced}

unfoldable pub bilinear : ℕ → (ℕ → ℕ → ℤ) → (ℕ → ℤ) → (ℕ → ℤ) → ℤ
bilinear n q x y = sum_to n (λ i. sum_to n (λ j. q i j *ℤ (x i *ℤ y j)))

abbrev pub form : ℕ → (ℕ → ℕ → ℤ) → (ℕ → ℤ) → ℤ
form n q x = bilinear n q x x

unfoldable pub inner : ℕ → (ℕ → ℕ → ℤ) → (ℕ → ℕ → ℤ) → ℤ
inner n q s = sum_to n (λ i. sum_to n (λ j. q i j *ℤ s i j))

unfoldable pub combination : ℕ → (ℕ → ℤ) → (ℕ → ℕ → ℤ) → ℕ → ℤ
combination m a v p = sum_to m (λ k. a k *ℤ v k p)

abbrev pub mark_ℤ : ℕ → ℕ → ℤ
mark_ℤ a i = replaced (λ k. pos 0) a (pos 1) i

abbrev pub unit_sum : ℕ → ℕ → ℕ → ℕ → ℤ
unit_sum a b i j = mark_ℤ a i *ℤ mark_ℤ b j +ℤ mark_ℤ b i *ℤ mark_ℤ a j

abbrev pub IsSymmetric : ℕ → (ℕ → ℕ → ℤ) → Type 0
IsSymmetric n q = (i j : ℕ) → i < n → j < n → q i j ≡ q j i
