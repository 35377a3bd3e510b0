-- The checks of a leaf with the generators v.
--
--     column_ops n w v b         u_i = Σ_j W_ij·b_j for each i in order, then g_ab = Σ_i a_i·u_i for each generator a in order
--     generator_ops n w v k      these for the k-th generator b
--     lessened g a c             g_aa and min(0, g_ak) for each k before c other than a, added up
--     slack_ops n g a            the additions of the slack of a: for each c other than a in order, min(0, g_ac) is added
--     leaf_ops n w v             the operations of all generators, then those of all slacks
--     is_closed n g              no slack is negative
--     leaf_checks n w v index    these operations, then OpenLeaf of the line with this index
use Rattle.std.specs.Prelude.{ℕ, Bool, ℤ, pos, neg_ℤ, ◌-ℤ◌, int_le, cond, eqb, List, [], ◌∷◌, ◌++◌, map}
use Rattle.std.specs.List.{list_all, range_with_len}
use Rattle.exact_forms.specs.Sums.{sum_to}
use Rattle.exact_forms.specs.Slacks.{shortfall, slack}
use Rattle.unimodular_cone.specs.Cones.{Matrix, Generators, gram}
use Rattle.symmetric_matrix.specs.declared.operation.IntOp.{IntOp}
use Rattle.symmetric_matrix.specs.Operations.{add_op}
use Rattle.certificate_checker.specs.declared.checked.Checked.TheVariants.{OpenLeaf}
use Rattle.certificate_checker.specs.Checks.{Check, made_check, test}
use Rattle.certificate_checker.specs.Loops.{steps}
use Rattle.certificate_checker.specs.Dots.{rows_times, times_ops}

unfoldable pub column_ops : ℕ → Matrix → Generators → (ℕ → ℤ) → List IntOp
column_ops n w v b = times_ops n w b ++ times_ops n v (rows_times n w b)

abbrev pub generator_ops : ℕ → Matrix → Generators → ℕ → List IntOp
generator_ops n w v k = column_ops n w v (v k)

abbrev pub lessened : Matrix → ℕ → ℕ → ℤ
lessened g a c = g a a -ℤ sum_to c (λ j. cond (eqb j a) (pos 0) (shortfall (g a j)))

unfoldable pub slack_ops : ℕ → Matrix → ℕ → List IntOp
slack_ops n g a = steps (λ c. cond (eqb c a) [] (add_op (lessened g a c) (neg_ℤ (shortfall (g a c))) ∷ [])) n

unfoldable pub leaf_ops : ℕ → Matrix → Generators → List IntOp
leaf_ops n w v = steps (generator_ops n w v) n ++ steps (slack_ops n (gram n w v)) n

unfoldable pub is_closed : ℕ → Matrix → Bool
is_closed n g = list_all (λ a. int_le (pos 0) (slack n g a)) (range_with_len 0 n)

unfoldable pub leaf_checks : ℕ → Matrix → Generators → ℕ → List Check
leaf_checks n w v index = map made_check (leaf_ops n w v) ++ test (OpenLeaf index) (is_closed n (gram n w v)) ∷ []
