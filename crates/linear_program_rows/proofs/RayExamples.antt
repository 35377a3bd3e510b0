-- Worked examples: the ray that is zero at (1,0) and (1,1), and over 0 at (0,1); the zeros in either order.
use Rattle.std.specs.Prelude.{◌≡◌, ◌≢◌, ℕ, zero, suc, ◌+◌, ◌<◌, pos, negsuc, List, [], ◌∷◌, length}
use Rattle.std.proofs.Common.{arith, refl, sym, ◌∙◌, subst}
use Rattle.commutative_ring.specs.Gcd.{gcd_of, gcd_steps}
use Rattle.exact_forms.specs.Rational.{whole, ratio, inverse, ◌+ℚ◌, ◌-ℚ◌, ◌*ℚ◌, ◌/ℚ◌, neg_ℚ}
use Rattle.exact_forms.specs.Triangles.{triangle, entry_in}
use Rattle.symmetric_matrix.specs.Symmetric.{entry}
use Rattle.symmetric_matrix.specs.Combining.{primitive_of}
use Rattle.symmetric_matrix.specs.Divisors.{divisor_from}
use Rattle.exact_linear.specs.Tables.{cells, first_place, places_where, row_of}
use Rattle.exact_linear.specs.Columns.{place_in, start_cell}
use Rattle.exact_linear.specs.Exchange.{first_row, brought_in, first_bases, exchanged, table_cells, pivot_row, divided_row, rest_cells, new_cell}
use Rattle.exact_linear.specs.Squares.{square_rows, squares, name_at}
use Rattle.extreme_ray.specs.Clearing.{denominator_over, numerator, numerators}
use Rattle.extreme_ray.specs.Rays.{position, coefficients, ray, vector_size, IsRayBasis}
use Rattle.extreme_ray.proofs.Names.{named_independent}
use Rattle.symmetric_matrix.specs.StartVectors.{run_digit, run_vector, runs_from, late_runs, start_list}
use Rattle.symmetric_matrix.proofs.Runs.{length-start_list}
use Rattle.symmetric_matrix.proofs.Weights.{start_matrices_independent}

-- in either order of the zeros
worked : (ray ((0 ∷ 1 ∷ []) ∷ (1 ∷ 0 ∷ []) ∷ (1 ∷ 1 ∷ []) ∷ []) (1 ∷ 2 ∷ []) 0 ≡ record { size = 2; lower = pos 0 ∷ negsuc 0 ∷ pos 2 ∷ [] })
    × (ray ((0 ∷ 1 ∷ []) ∷ (1 ∷ 0 ∷ []) ∷ (1 ∷ 1 ∷ []) ∷ []) (2 ∷ 1 ∷ []) 0 ≡ record { size = 2; lower = pos 0 ∷ negsuc 0 ∷ pos 2 ∷ [] })
unfolding ray position coefficients denominator_over numerator numerators primitive_of squares square_rows row_of first_place places_where first_row brought_in
    first_bases exchanged table_cells pivot_row divided_row rest_cells new_cell cells place_in start_cell triangle entry_in entry divisor_from gcd_of gcd_steps
    whole ratio inverse ◌+ℚ◌ ◌-ℚ◌ ◌*ℚ◌ ◌/ℚ◌ neg_ℚ
worked = (refl, refl)

-- ---- the condition, for the worked rows
triangle_two : triangle 2 ≡ 3
unfolding triangle
triangle_two = refl

triangle_one : triangle 1 ≡ 1
unfolding triangle
triangle_one = refl

three_of : length (start_list 2) ≡ 3
three_of = length-start_list 2 ∙ triangle_two

one_of : length (start_list 1) ≡ 1
one_of = length-start_list 1 ∙ triangle_one

basis_of_three : IsRayBasis 2 (start_list 2) (1 ∷ 2 ∷ []) 0
basis_of_three = record {
  within = λ i l. within i l;
  leaving_within = let t = three_of in omega arith;
  number = sym triangle_two;
  independent = named_independent 2 (start_list 2) (1 ∷ 2 ∷ 0 ∷ []) (start_matrices_independent 2) each apart;
}
  where
    within : (i : ℕ) → i < 2 → name_at (1 ∷ 2 ∷ []) i < length (start_list 2)
    within zero l = let t = three_of in omega arith
    within (suc zero) l = let t = three_of in omega arith
    within (suc (suc i)) l = absurd (omega arith)

    each : (i : ℕ) → i < 3 → name_at (1 ∷ 2 ∷ 0 ∷ []) i < length (start_list 2)
    each zero l = let t = three_of in omega arith
    each (suc zero) l = let t = three_of in omega arith
    each (suc (suc zero)) l = let t = three_of in omega arith
    each (suc (suc (suc i))) l = absurd (omega arith)

    apart : (i j : ℕ) → i < 3 → j < 3 → i ≢ j → name_at (1 ∷ 2 ∷ 0 ∷ []) i ≢ name_at (1 ∷ 2 ∷ 0 ∷ []) j
    apart zero zero li lj ne e = ne refl
    apart zero (suc zero) li lj ne e = omega arith
    apart zero (suc (suc zero)) li lj ne e = omega arith
    apart (suc zero) zero li lj ne e = omega arith
    apart (suc zero) (suc zero) li lj ne e = ne refl
    apart (suc zero) (suc (suc zero)) li lj ne e = omega arith
    apart (suc (suc zero)) zero li lj ne e = omega arith
    apart (suc (suc zero)) (suc zero) li lj ne e = omega arith
    apart (suc (suc zero)) (suc (suc zero)) li lj ne e = ne refl
    apart (suc (suc (suc i))) j li lj ne e = absurd (omega arith)
    apart i (suc (suc (suc j))) li lj ne e = absurd (omega arith)

basis_the_other_way : IsRayBasis 2 (start_list 2) (2 ∷ 1 ∷ []) 0
basis_the_other_way = record {
  within = λ i l. within i l;
  leaving_within = let t = three_of in omega arith;
  number = sym triangle_two;
  independent = named_independent 2 (start_list 2) (2 ∷ 1 ∷ 0 ∷ []) (start_matrices_independent 2) each apart;
}
  where
    within : (i : ℕ) → i < 2 → name_at (2 ∷ 1 ∷ []) i < length (start_list 2)
    within zero l = let t = three_of in omega arith
    within (suc zero) l = let t = three_of in omega arith
    within (suc (suc i)) l = absurd (omega arith)

    -- the i-th is 2 - i
    falls : (i : ℕ) → i < 3 → name_at (2 ∷ 1 ∷ 0 ∷ []) i + i ≡ 2
    falls zero l = refl
    falls (suc zero) l = refl
    falls (suc (suc zero)) l = refl
    falls (suc (suc (suc i))) l = absurd (omega arith)

    each : (i : ℕ) → i < 3 → name_at (2 ∷ 1 ∷ 0 ∷ []) i < length (start_list 2)
    each i l = let t = three_of in let f = falls i l in omega arith

    apart : (i j : ℕ) → i < 3 → j < 3 → i ≢ j → name_at (2 ∷ 1 ∷ 0 ∷ []) i ≢ name_at (2 ∷ 1 ∷ 0 ∷ []) j
    apart i j li lj ne e = let f = falls i li in let g = falls j lj in ne (omega arith)

basis_of_one : IsRayBasis 1 (start_list 1) [] 0
basis_of_one = record {
  within = λ i l. absurd (omega arith);
  leaving_within = let t = one_of in omega arith;
  number = sym triangle_one;
  independent = named_independent 1 (start_list 1) (0 ∷ []) (start_matrices_independent 1) (λ i l. each i l) (λ i j li lj ne e. ne (omega arith));
}
  where
    each : (i : ℕ) → i < 1 → name_at (0 ∷ []) i < length (start_list 1)
    each zero l = let t = one_of in omega arith
    each (suc i) l = absurd (omega arith)

size_of_three : vector_size (start_list 2) 0 ≡ 2
unfolding start_list late_runs runs_from run_vector run_digit
size_of_three = refl

size_of_one : vector_size (start_list 1) 0 ≡ 1
unfolding start_list late_runs runs_from run_vector run_digit
size_of_one = refl

basis_at : (n : ℕ) (vs ws : List (List ℕ)) (zeros : List ℕ) → vs ≡ ws → vector_size ws 0 ≡ n → IsRayBasis n ws zeros 0
    → IsRayBasis (vector_size vs 0) vs zeros 0
basis_at n vs ws zeros e s h =
    subst (λ (vs : List (List ℕ)). IsRayBasis (vector_size vs 0) vs zeros 0) (sym e) (subst (λ (n : ℕ). IsRayBasis n ws zeros 0) (sym s) h)

pub three_here : (vs : List (List ℕ)) → vs ≡ start_list 2 → IsRayBasis (vector_size vs 0) vs (1 ∷ 2 ∷ []) 0
three_here vs e = basis_at 2 vs (start_list 2) (1 ∷ 2 ∷ []) e size_of_three basis_of_three

pub three_the_other_way : (vs : List (List ℕ)) → vs ≡ start_list 2 → IsRayBasis (vector_size vs 0) vs (2 ∷ 1 ∷ []) 0
three_the_other_way vs e = basis_at 2 vs (start_list 2) (2 ∷ 1 ∷ []) e size_of_three basis_the_other_way

pub one_here : (vs : List (List ℕ)) → vs ≡ start_list 1 → IsRayBasis (vector_size vs 0) vs [] 0
one_here vs e = basis_at 1 vs (start_list 1) [] e size_of_one basis_of_one
