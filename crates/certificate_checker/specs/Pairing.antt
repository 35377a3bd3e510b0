-- The checks of the value ⟨W,A⟩.
--
--     often i j                m, which is 1 on the diagonal and else 2
--     multiple_entry w i j     m·W_ij
--     pair_at w a i j          A_ij·(m·W_ij)
--     sum_before w a i j       the sum of these over the places of the lower triangle before (i,j)
--     pair_step_from s ..      its operations at (i,j): m·W_ij is made, then the product with A_ij, which is added to s
--     pair_step w a i j        these operations, from the sum before (i,j)
--     pair_ops w a             those of all places
--     is_below_zero q          q is below 0
--     value_checks w value a   these operations; then NotNegative, ValueDiffers
use Rattle.std.specs.Prelude.{ℕ, ◌+◌, Bool, ℤ, pos, ◌*ℤ◌, int_lt, List, [], ◌∷◌, ◌++◌, map}
use Rattle.exact_forms.specs.Rational.{Rational, whole, ◌+ℚ◌, ◌*ℚ◌}
use Rattle.exact_forms.specs.Sums.{sum_ℚ}
use Rattle.exact_forms.specs.Factors.{inner_ℚ}
use Rattle.symmetric_matrix.specs.declared.operation.IntOp.{IntOp}
use Rattle.symmetric_matrix.specs.Operations.{mul_op}
use Rattle.symmetric_matrix.specs.Recipes.{multiplicity}
use Rattle.symmetric_matrix.specs.Symmetric.{Symmetric, entry}
use Rattle.fraction128.specs.Recipes.{mul_ops, add_ops}
use Rattle.matrix_text.specs.RationalMatrix.{RationalMatrix, rational_entry}
use Rattle.matrix_text.specs.Matrix.{same_number}
use Rattle.certificate_checker.specs.declared.checked.Checked.TheVariants.{NotNegative, ValueDiffers}
use Rattle.certificate_checker.specs.Checks.{Check, made_check, test}
use Rattle.certificate_checker.specs.Loops.{by_places}

abbrev pub often : ℕ → ℕ → ℤ
often i j = pos (multiplicity (record { row = i; column = j }))

abbrev pub multiple_entry : Symmetric → ℕ → ℕ → ℤ
multiple_entry w i j = often i j *ℤ entry w i j

abbrev pub pair_at : Symmetric → RationalMatrix → ℕ → ℕ → Rational
pair_at w a i j = rational_entry a i j *ℚ whole (multiple_entry w i j)

abbrev pub sum_before : Symmetric → RationalMatrix → ℕ → ℕ → Rational
sum_before w a i j = sum_ℚ i (λ k. sum_ℚ (k + 1) (pair_at w a k)) +ℚ sum_ℚ j (pair_at w a i)

abbrev pub pair_step_from : Rational → Symmetric → RationalMatrix → ℕ → ℕ → List IntOp
pair_step_from s w a i j =
    mul_op (often i j) (entry w i j)
    ∷ (mul_ops (rational_entry a i j) (whole (multiple_entry w i j)) ++ add_ops s (pair_at w a i j))

abbrev pub pair_step : Symmetric → RationalMatrix → ℕ → ℕ → List IntOp
pair_step w a i j = pair_step_from (sum_before w a i j) w a i j

unfoldable pub pair_ops : Symmetric → RationalMatrix → List IntOp
pair_ops w a = by_places a.size (pair_step w a)

abbrev pub is_below_zero : Rational → Bool
is_below_zero q = int_lt q.num (pos 0)

unfoldable pub value_checks : Symmetric → Rational → RationalMatrix → List Check
value_checks w value a =
    map made_check (pair_ops w a)
    ++ test NotNegative (is_below_zero (inner_ℚ a.size (entry w) (rational_entry a)))
    ∷ test ValueDiffers (same_number (inner_ℚ a.size (entry w) (rational_entry a)) value)
    ∷ []
