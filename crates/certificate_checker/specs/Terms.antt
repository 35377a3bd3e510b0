-- The checks of a factorization of A. Indices of terms count from 0, but for those of BadTerm, from 1.
--
--     comes_before x y          x is before y in lexicographic order
--     has_place x               some coordinate is not 0
--     term_at ts k              the k-th term
--     is_good_term ts k         its weight is positive, its vector is not zero, and greater than the one before, where there is one
--     order_checks ts           BadTerm, term by term
--     outer_entry t i j         x_i·x_j of the term's vector, which is exact and no operation
--     weighted_step ts i j k    to the sum of the terms before the k-th, its weight times x_i·x_j is added
--     sum_checks a ts i j       the operations of the sum at (i,j), then SumDiffers
--     factor_checks a ts        the order of the terms, then the sums, place by place of the lower triangle
use Rattle.std.specs.Prelude.{ℕ, ◌+◌, ◌-◌, Bool, false, not, ◌&&◌, ◌||◌, ◌==◌, nat_lt, nat_eq, pos, ◌*ℤ◌, List, [], ◌∷◌, ◌++◌, length, take, map, slice_index_or}
use Rattle.std.specs.List.{list_any}
use Rattle.exact_forms.specs.Rational.{Rational, whole, ◌*ℚ◌}
use Rattle.exact_forms.specs.Vectors.{coordinate}
use Rattle.exact_forms.specs.Factors.{WeightedVector, weighted_sum}
use Rattle.exact_forms.specs.PositiveTerms.{has_weight}
use Rattle.symmetric_matrix.specs.declared.operation.IntOp.{IntOp}
use Rattle.fraction128.specs.Recipes.{mul_ops, add_ops}
use Rattle.matrix_text.specs.RationalMatrix.{RationalMatrix, rational_entry}
use Rattle.matrix_text.specs.Matrix.{same_number}
use Rattle.certificate_checker.specs.declared.checked.Checked.TheVariants.{BadTerm, SumDiffers}
use Rattle.certificate_checker.specs.Checks.{Check, made_check, test}
use Rattle.certificate_checker.specs.Loops.{steps, by_places}

unfoldable pub comes_before : List ℕ → List ℕ → Bool
comes_before [] y = false
comes_before (a ∷ x) [] = false
comes_before (a ∷ x) (b ∷ y) = nat_lt a b || (nat_eq a b && comes_before x y)

abbrev pub has_place : List ℕ → Bool
has_place x = list_any (λ c. not (c == 0)) x

abbrev pub term_at : List WeightedVector → ℕ → WeightedVector
term_at terms k = slice_index_or terms k (record { weight = whole (pos 0); vector = [] })

unfoldable pub is_good_term : List WeightedVector → ℕ → Bool
is_good_term terms k =
    has_weight (term_at terms k) && has_place (term_at terms k).vector
    && (nat_eq k 0 || comes_before (term_at terms (k - 1)).vector (term_at terms k).vector)

unfoldable pub order_checks : List WeightedVector → List Check
order_checks terms = steps (λ k. test (BadTerm (k + 1)) (is_good_term terms k) ∷ []) (length terms)

abbrev pub outer_entry : WeightedVector → ℕ → ℕ → Rational
outer_entry term i j = whole (coordinate term.vector i *ℤ coordinate term.vector j)

abbrev pub weighted_step : List WeightedVector → ℕ → ℕ → ℕ → List IntOp
weighted_step terms i j k =
    mul_ops (term_at terms k).weight (outer_entry (term_at terms k) i j)
    ++ add_ops (weighted_sum (take k terms) i j) ((term_at terms k).weight *ℚ outer_entry (term_at terms k) i j)

unfoldable pub sum_checks : RationalMatrix → List WeightedVector → ℕ → ℕ → List Check
sum_checks a terms i j =
    map made_check (steps (weighted_step terms i j) (length terms))
    ++ test (SumDiffers (i + 1) (j + 1)) (same_number (weighted_sum terms i j) (rational_entry a i j)) ∷ []

unfoldable pub factor_checks : RationalMatrix → List WeightedVector → List Check
factor_checks a terms = order_checks terms ++ by_places a.size (sum_checks a terms)
