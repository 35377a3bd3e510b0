-- The lists of the worked examples are perfect.
use Rattle.std.specs.Prelude.{◌≡◌, ℕ, zero, suc, ◌<◌, ℤ, pos, ◌+ℤ◌, ◌*ℤ◌, List, [], ◌∷◌, ◌++◌}
use Rattle.std.specs.List.{All}
use Rattle.std.proofs.Common.{arith, sym, ◌∙◌, subst, length-append}
use Rattle.std.proofs.Math.ListN.{get_or-append}
use Rattle.std.proofs.lemmas.Int.{ints}
use Rattle.commutative_ring.specs.SumOf.{sum_of}
use Rattle.exact_forms.specs.Sums.{sum_to}
use Rattle.exact_forms.specs.Forms.{bilinear, form, IsSymmetric}
use Rattle.exact_forms.specs.Vectors.{coordinate}
use Rattle.exact_forms.specs.Copositive.{Matrix, IsPerfect}
use Rattle.exact_forms.proofs.TwoRows.{at_two, form_two}
use Rattle.symmetric_matrix.specs.StartVectors.{start_list}
use Rattle.linear_program_rows.proofs.PlaceExamples.{one, one_is, double, three, three_is}

-- more vectors
pub perfect_append : (n : ℕ) (xs ys : List (List ℕ)) → IsPerfect n xs → IsPerfect n (xs ++ ys)
perfect_append n xs ys h = record {
  only_zero = λ z s vanishes i j li lj.
      h.only_zero z s
      (λ k d l. subst (λ (v : List ℕ). form n z (coordinate v) ≡ pos 0) (get_or-append xs ys d k l) (vanishes k d (let a = length-append xs ys in omega arith)))
      i j li lj;
}

form_one : (z : Matrix) (a : ℕ) → form 1 z (coordinate (a ∷ [])) ≡ z 0 0 *ℤ (pos a *ℤ pos a)
unfolding bilinear sum_to sum_of
form_one z a = plain (z 0 0 *ℤ (pos a *ℤ pos a))
  where
    plain : (p : ℤ) → pos 0 +ℤ (pos 0 +ℤ p) ≡ p
    plain p = omega (arith, ints)

one_zero : (z : Matrix) → All (λ v. form 1 z (coordinate v) ≡ pos 0) one → (i j : ℕ) → i < 1 → j < 1 → z i j ≡ pos 0
one_zero z vanishes zero zero li lj = let e : z 0 0 *ℤ (pos 1 *ℤ pos 1) ≡ pos 0 = sym (form_one z 1) ∙ vanishes 0 [] (omega arith) in omega (arith, ints)
one_zero z vanishes zero (suc j) li lj = absurd (omega arith)
one_zero z vanishes (suc i) j li lj = absurd (omega arith)

pub one_perfect : IsPerfect 1 (start_list 1)
one_perfect = subst (λ (xs : List (List ℕ)). IsPerfect 1 xs) (sym one_is) record { only_zero = λ z s vanishes i j li lj. one_zero z vanishes i j li lj }

double_zero : (z : Matrix) → All (λ v. form 1 z (coordinate v) ≡ pos 0) double → (i j : ℕ) → i < 1 → j < 1 → z i j ≡ pos 0
double_zero z vanishes zero zero li lj = let e : z 0 0 *ℤ (pos 2 *ℤ pos 2) ≡ pos 0 = sym (form_one z 2) ∙ vanishes 0 [] (omega arith) in omega (arith, ints)
double_zero z vanishes zero (suc j) li lj = absurd (omega arith)
double_zero z vanishes (suc i) j li lj = absurd (omega arith)

pub double_perfect : IsPerfect 1 double
double_perfect = record { only_zero = λ z s vanishes i j li lj. double_zero z vanishes i j li lj }

three_zero : (z : Matrix) → IsSymmetric 2 z → All (λ v. form 2 z (coordinate v) ≡ pos 0) three → (i j : ℕ) → i < 2 → j < 2 → z i j ≡ pos 0
three_zero z s vanishes = each
  where
    last : at_two z (pos 0) (pos 1) ≡ pos 0
    last = sym (form_two z 0 1) ∙ vanishes 0 [] (omega arith)

    first : at_two z (pos 1) (pos 0) ≡ pos 0
    first = sym (form_two z 1 0) ∙ vanishes 1 [] (omega arith)

    both : at_two z (pos 1) (pos 1) ≡ pos 0
    both = sym (form_two z 1 1) ∙ vanishes 2 [] (omega arith)

    mirror : z 0 1 ≡ z 1 0
    mirror = s 0 1 (omega arith) (omega arith)

    each : (i j : ℕ) → i < 2 → j < 2 → z i j ≡ pos 0
    each zero zero li lj = let a = first in omega (arith, ints)
    each zero (suc zero) li lj = let a = first in let b = last in let c = both in let d = mirror in omega (arith, ints)
    each (suc zero) zero li lj = let a = first in let b = last in let c = both in let d = mirror in omega (arith, ints)
    each (suc zero) (suc zero) li lj = let a = last in omega (arith, ints)
    each zero (suc (suc j)) li lj = absurd (omega arith)
    each (suc zero) (suc (suc j)) li lj = absurd (omega arith)
    each (suc (suc i)) j li lj = absurd (omega arith)

pub three_perfect : IsPerfect 2 (start_list 2)
three_perfect = subst (λ (xs : List (List ℕ)). IsPerfect 2 xs) (sym three_is) record { only_zero = λ z s vanishes i j li lj. three_zero z s vanishes i j li lj }

pub four_perfect : IsPerfect 2 (start_list 2 ++ (2 ∷ 1 ∷ []) ∷ [])
four_perfect = perfect_append 2 (start_list 2) ((2 ∷ 1 ∷ []) ∷ []) three_perfect
