-- Sums of products, and products of a matrix with a vector.
--
--     dot n x y              x_0·y_0 + .. + x_{n-1}·y_{n-1}
--     dot_ops n x y          its operations: from 0, each product is made and then added
--     rows_times n rows x    the row's sum of products with x, at each row
--     times_ops n rows x     their operations, row after row
--     image_rows n w v       the images of the rows of v under w
--     products_with n v u    the sum of products of each row of u with each of v
use Rattle.std.specs.Prelude.{ℕ, ℤ, ◌*ℤ◌, List, [], ◌∷◌}
use Rattle.exact_forms.specs.Sums.{sum_to}
use Rattle.symmetric_matrix.specs.declared.operation.IntOp.{IntOp}
use Rattle.symmetric_matrix.specs.Operations.{mul_op, add_op}
use Rattle.certificate_checker.specs.Loops.{steps}

abbrev pub dot : ℕ → (ℕ → ℤ) → (ℕ → ℤ) → ℤ
dot n x y = sum_to n (λ j. x j *ℤ y j)

unfoldable pub dot_ops : ℕ → (ℕ → ℤ) → (ℕ → ℤ) → List IntOp
dot_ops n x y = steps (λ j. mul_op (x j) (y j) ∷ add_op (dot j x y) (x j *ℤ y j) ∷ []) n

abbrev pub rows_times : ℕ → (ℕ → ℕ → ℤ) → (ℕ → ℤ) → ℕ → ℤ
rows_times n rows x i = dot n (rows i) x

unfoldable pub times_ops : ℕ → (ℕ → ℕ → ℤ) → (ℕ → ℤ) → List IntOp
times_ops n rows x = steps (λ i. dot_ops n (rows i) x) n

abbrev pub image_rows : ℕ → (ℕ → ℕ → ℤ) → (ℕ → ℕ → ℤ) → ℕ → ℕ → ℤ
image_rows n w v k = rows_times n w (v k)

abbrev pub products_with : ℕ → (ℕ → ℕ → ℤ) → (ℕ → ℕ → ℤ) → ℕ → ℕ → ℤ
products_with n v u b a = dot n (v a) (u b)
