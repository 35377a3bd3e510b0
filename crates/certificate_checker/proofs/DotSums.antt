-- Sums of products, step by step.
use Rattle.std.specs.Prelude.{◌≡◌, ℕ, ◌+◌, ◌<◌, ℤ, pos, ◌+ℤ◌, ◌*ℤ◌, List, [], ◌∷◌, Some, None, Result, Ok, Err}
use Rattle.std.proofs.Common.{arith, sym, ◌∙◌, ap, ap₂, refl}
use Rattle.exact_forms.proofs.Sums.{sum_to-zero, sum_to_more, sum_to_same}
use Rattle.symmetric_matrix.specs.declared.operation.IntOp.{IntOp}
use Rattle.symmetric_matrix.specs.Owed.{first_owed, answer}
use Rattle.symmetric_matrix.specs.Operations.{is_owed, mul_op, add_op}
use Rattle.symmetric_matrix.proofs.Owed.{none_of_ok, some_of_err}
use Rattle.certificate_checker.specs.Loops.{steps}
use Rattle.certificate_checker.specs.Rows.{numbers}
use Rattle.certificate_checker.specs.Dots.{dot, dot_ops, rows_times, times_ops}
use Rattle.certificate_checker.proofs.Loops.{steps_same, loop_start, loop_refused, loop_more}

pub dot_zero : (x y : ℕ → ℤ) → dot 0 x y ≡ pos 0
dot_zero x y = sum_to-zero (λ j. x j *ℤ y j)

pub dot_more : (n : ℕ) (x y : ℕ → ℤ) → dot (n + 1) x y ≡ dot n x y +ℤ x n *ℤ y n
dot_more n x y = sum_to_more n (λ j. x j *ℤ y j)

pub dot_same : (n : ℕ) (x y u v : ℕ → ℤ) → ((k : ℕ) → k < n → x k ≡ u k) → ((k : ℕ) → k < n → y k ≡ v k) → dot n x y ≡ dot n u v
dot_same n x y u v h k = sum_to_same n (λ j. x j *ℤ y j) (λ j. u j *ℤ v j) (λ j l. ap₂ (λ (a : ℤ) (b : ℤ). a *ℤ b) (h j l) (k j l))

abbrev pub dot_step : (ℕ → ℤ) → (ℕ → ℤ) → ℕ → List IntOp
dot_step x y j = mul_op (x j) (y j) ∷ add_op (dot j x y) (x j *ℤ y j) ∷ []

pub dot_ops_are : (n : ℕ) (x y : ℕ → ℤ) → dot_ops n x y ≡ steps (dot_step x y) n
unfolding dot_ops
dot_ops_are n x y = refl

pub dot_ops_same : (n : ℕ) (x y u v : ℕ → ℤ) → ((k : ℕ) → k < n → x k ≡ u k) → ((k : ℕ) → k < n → y k ≡ v k) → dot_ops n x y ≡ dot_ops n u v
unfolding dot_ops
dot_ops_same n x y u v h k = steps_same (dot_step x y) (dot_step u v) n (λ j l. step j l)
  where
    step : (j : ℕ) → j < n → dot_step x y j ≡ dot_step u v j
    step j l =
        ap₂ (λ (a : ℤ) (b : ℤ). mul_op a b ∷ add_op (dot j x y) (a *ℤ b) ∷ []) (h j l) (k j l)
        ∙ ap (λ (s : ℤ). mul_op (u j) (v j) ∷ add_op s (u j *ℤ v j) ∷ []) (dot_same j x y u v (λ i m. h i (omega arith)) (λ i m. k i (omega arith)))

step_is : (x y : List ℤ) (k : ℕ) (s a b : ℤ) → a ≡ numbers x k → b ≡ numbers y k → s ≡ dot k (numbers x) (numbers y)
    → mul_op a b ∷ add_op s (a *ℤ b) ∷ [] ≡ dot_step (numbers x) (numbers y) k
step_is x y k s a b is_a is_b e =
    ap₂ (λ (u : ℤ) (v : ℤ). mul_op u v ∷ add_op s (u *ℤ v) ∷ []) is_a is_b
    ∙ ap (λ (t : ℤ). mul_op (numbers x k) (numbers y k) ∷ add_op t (numbers x k *ℤ numbers y k) ∷ []) e

-- a product added to a sum, or the operation that doesn't fit
abbrev product_added : ℤ → ℤ → ℤ → Result ℤ IntOp
product_added s a b = answer is_owed (mul_op a b ∷ add_op s (a *ℤ b) ∷ []) (s +ℤ a *ℤ b)

pub dot_starts : (x y : ℕ → ℤ) → first_owed is_owed (dot_ops 0 x y) ≡ None
unfolding dot_ops
dot_starts x y = loop_start is_owed (dot_step x y)

-- the step at k, with the numbers that were read there
pub dot_goes_on : (k : ℕ) (x y : List ℤ) (s a b z : ℤ) → a ≡ numbers x k → b ≡ numbers y k → s ≡ dot k (numbers x) (numbers y)
    → first_owed is_owed (dot_ops k (numbers x) (numbers y)) ≡ None
    → product_added s a b ≡ Ok z
    → (first_owed is_owed (dot_ops (k + 1) (numbers x) (numbers y)) ≡ None) × (z ≡ dot (k + 1) (numbers x) (numbers y))
unfolding dot_ops
dot_goes_on k x y s a b z is_a is_b e before here =
    let r = none_of_ok is_owed (mul_op a b ∷ add_op s (a *ℤ b) ∷ []) (s +ℤ a *ℤ b) z here in (
      loop_more is_owed (dot_step (numbers x) (numbers y)) k before (ap (λ (ops : List IntOp). first_owed is_owed ops) (sym (step_is x y k s a b is_a is_b e))
          ∙ r.0),
      sym r.1 ∙ ap₂ (λ (u : ℤ) (v : ℤ). s +ℤ u *ℤ v) is_a is_b ∙ ap (λ (u : ℤ). u +ℤ numbers x k *ℤ numbers y k) e ∙ sym (dot_more k (numbers x) (numbers y)),
    )

pub dot_refused : (n k : ℕ) (x y : List ℤ) (s a b : ℤ) (op : IntOp) → k < n → a ≡ numbers x k → b ≡ numbers y k → s ≡ dot k (numbers x) (numbers y)
    → first_owed is_owed (dot_ops k (numbers x) (numbers y)) ≡ None
    → product_added s a b ≡ Err op → first_owed is_owed (dot_ops n (numbers x) (numbers y)) ≡ Some op
unfolding dot_ops
dot_refused n k x y s a b op l is_a is_b e before here =
    loop_refused is_owed (dot_step (numbers x) (numbers y)) n k op l before
    (ap (λ (ops : List IntOp). first_owed is_owed ops) (sym (step_is x y k s a b is_a is_b e))
    ∙ some_of_err is_owed (mul_op a b ∷ add_op s (a *ℤ b) ∷ []) (s +ℤ a *ℤ b) op here)

-- ---- one row after the other
abbrev pub times_step : ℕ → (ℕ → ℕ → ℤ) → (ℕ → ℤ) → ℕ → List IntOp
times_step n rows x i = dot_ops n (rows i) x

module _ (n : ℕ) (rows other : ℕ → ℕ → ℤ) (x y : ℕ → ℤ) (h : (i j : ℕ) → i < n → j < n → rows i j ≡ other i j) (k : (k : ℕ) → k < n → x k ≡ y k) where
  pub times_same : (i : ℕ) → i < n → rows_times n rows x i ≡ rows_times n other y i
  times_same i l = dot_same n (rows i) x (other i) y (λ j m. h i j l m) k

  pub times_ops_same : times_ops n rows x ≡ times_ops n other y
  unfolding times_ops
  times_ops_same = steps_same (times_step n rows x) (times_step n other y) n (λ i l. dot_ops_same n (rows i) x (other i) y (λ j m. h i j l m) k)

pub times_starts : (n : ℕ) (rows : ℕ → ℕ → ℤ) (x : ℕ → ℤ) → first_owed is_owed (steps (times_step n rows x) 0) ≡ None
times_starts n rows x = loop_start is_owed (times_step n rows x)

pub times_ops_are : (n : ℕ) (rows : ℕ → ℕ → ℤ) (x : ℕ → ℤ) → times_ops n rows x ≡ steps (times_step n rows x) n
unfolding times_ops
times_ops_are n rows x = refl
