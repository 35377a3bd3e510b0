-- The ray 0 -1 / -1 2 of the first matrix of two rows.
use Rattle.std.specs.Prelude.{◌≡◌, ℕ, zero, suc, ◌+◌, ◌<◌, ℤ, pos, negsuc, neg_ℤ, ◌+ℤ◌, ◌-ℤ◌, ◌*ℤ◌, ◌≤ℤ◌, ◌<ℤ◌, List, [], ◌∷◌, length, slice_index_or}
use Rattle.std.specs.List.{All}
use Rattle.std.proofs.Common.{arith, sym, ◌∙◌, ap, refl, subst}
use Rattle.std.proofs.lemmas.Int.{ints}
use lib.IntN.{*ℤ_comm}
use Rattle.commutative_ring.proofs.Expand.{expand, linear, two_times}
use Rattle.commutative_ring.proofs.Laws.{zero_mul_ℤ, neg_is_mul}
use Rattle.exact_forms.specs.Forms.{form, IsSymmetric}
use Rattle.exact_forms.specs.Triangles.{triangle, entry_in}
use Rattle.exact_forms.specs.Vectors.{coordinate}
use Rattle.exact_forms.specs.Copositive.{Matrix, IsMinimum, IsPerfect, IsExtremeRay}
use Rattle.exact_forms.proofs.Order.{positive_mul}
use Rattle.exact_forms.proofs.TwoRows.{at_two, form_two}
use Rattle.symmetric_matrix.specs.Symmetric.{Symmetric, IsLower, FitsInt, entry}
use Rattle.symmetric_matrix.specs.FirstMatrix.{first_matrix}
use Rattle.symmetric_matrix.proofs.FirstMatrix.{first_is_minimum, start_list_is_perfect}
use Rattle.symmetric_matrix.specs.StartVectors.{start_list, late_runs, runs_from, run_vector, run_digit}
use Rattle.symmetric_matrix.proofs.Places.{entry_flip}
use Rattle.contiguous.specs.Tightenings.{value_at}

abbrev pub first_ray : Symmetric
first_ray = record { size = 2; lower = pos 0 ∷ negsuc 0 ∷ pos 2 ∷ [] }

three : List (List ℕ)
three = (0 ∷ 1 ∷ []) ∷ (1 ∷ 0 ∷ []) ∷ (1 ∷ 1 ∷ []) ∷ []

three_is : start_list 2 ≡ three
unfolding three start_list late_runs runs_from run_vector run_digit
three_is = refl

-- its value at a vector
value_is : (a b : ℕ)
    → form 2 (entry first_ray) (coordinate (a ∷ b ∷ []))
    ≡ (pos 0 *ℤ (pos a *ℤ pos a) +ℤ negsuc 0 *ℤ (pos a *ℤ pos b)) +ℤ (negsuc 0 *ℤ (pos b *ℤ pos a) +ℤ pos 2 *ℤ (pos b *ℤ pos b))
unfolding entry entry_in triangle
value_is a b = form_two (entry first_ray) a b

-- it is below 0 where the first coordinate is the greater one, and the second one is not 0
pub steep : (x y : ℕ) → 0 < y → y < x → value_at first_ray (x ∷ y ∷ []) <ℤ pos 0
steep x y positive less = subst (λ (z : ℤ). z <ℤ pos 0) (sym (value_is x y)) (by (pos x) (pos y) (omega (arith, ints)) (omega (arith, ints)))
  where
    by : (x y : ℤ) → pos 1 ≤ℤ y → pos 1 ≤ℤ (x -ℤ y) → ((pos 0 *ℤ (x *ℤ x) +ℤ negsuc 0 *ℤ (x *ℤ y)) +ℤ (negsuc 0 *ℤ (y *ℤ x) +ℤ pos 2 *ℤ (y *ℤ y))) <ℤ pos 0
    by x y h k = plain (x *ℤ x) (x *ℤ y) (y *ℤ x) (y *ℤ y) (y *ℤ (x -ℤ y)) (*ℤ_comm y x) (apart x y) (positive_mul y (x -ℤ y) h k)
      where
        apart : (x y : ℤ) → y *ℤ (x -ℤ y) ≡ x *ℤ y -ℤ y *ℤ y
        apart x y = simp expand (omega (arith, linear))

        plain : (xx xy yx yy m : ℤ) → yx ≡ xy → m ≡ xy -ℤ yy → pos 1 ≤ℤ m
            → ((pos 0 *ℤ xx +ℤ negsuc 0 *ℤ xy) +ℤ (negsuc 0 *ℤ yx +ℤ pos 2 *ℤ yy)) <ℤ pos 0
        plain xx xy yx yy m c e h = rw (zero_mul_ℤ xx, neg_is_mul xy, neg_is_mul yx, two_times yy) (omega (arith, ints))

module _ (z : Matrix) (s : IsSymmetric 2 z) (vanishes : All (λ v. form 2 (entry first_ray) (coordinate v) ≡ pos 0 → form 2 z (coordinate v) ≡ pos 0) three)
  where
    zeros : (at_two z (pos 1) (pos 0) ≡ pos 0) × (at_two z (pos 1) (pos 1) ≡ pos 0)
    unfolding three
    zeros = (
      sym (form_two z 1 0) ∙ vanishes 1 [] (omega arith) (value_is 1 0),
      sym (form_two z 1 1) ∙ vanishes 2 [] (omega arith) (value_is 1 1),
    )

    mirror : z 0 1 ≡ z 1 0
    mirror = s 0 1 (omega arith) (omega arith)

    multiple : (i j : ℕ) → i < 2 → j < 2 → pos 1 *ℤ z i j ≡ neg_ℤ (z 0 1) *ℤ entry first_ray i j
    unfolding entry entry_in triangle
    multiple zero zero li lj = let a = zeros.0 in omega (arith, ints)
    multiple zero (suc zero) li lj = omega (arith, ints)
    multiple (suc zero) zero li lj = let d = mirror in omega (arith, ints)
    multiple (suc zero) (suc zero) li lj = let a = zeros.0 in let c = zeros.1 in let d = mirror in omega (arith, ints)
    multiple zero (suc (suc j)) li lj = absurd (omega arith)
    multiple (suc zero) (suc (suc j)) li lj = absurd (omega arith)
    multiple (suc (suc i)) j li lj = absurd (omega arith)

not_zero : pos 2 ≡ pos 0 → ⊥
not_zero e = absurd (omega (arith, ints))

one_not_zero : pos 1 ≡ pos 0 → ⊥
one_not_zero e = absurd (omega (arith, ints))

nonnegative : All (λ v. pos 0 ≤ℤ form 2 (entry first_ray) (coordinate v)) three
unfolding three
nonnegative zero d l = subst (λ (z : ℤ). pos 0 ≤ℤ z) (sym (value_is 0 1)) (omega (arith, ints))
nonnegative (suc zero) d l = subst (λ (z : ℤ). pos 0 ≤ℤ z) (sym (value_is 1 0)) (omega (arith, ints))
nonnegative (suc (suc zero)) d l = subst (λ (z : ℤ). pos 0 ≤ℤ z) (sym (value_is 1 1)) (omega (arith, ints))
nonnegative (suc (suc (suc k))) d l = absurd (omega arith)

pub first_ray_extreme : IsExtremeRay 2 (entry first_ray) (start_list 2)
unfolding entry entry_in triangle
first_ray_extreme = subst (λ (vs : List (List ℕ)). IsExtremeRay 2 (entry first_ray) vs) (sym three_is) record {
  symmetric = λ i j li lj. entry_flip first_ray i j;
  nonzero = λ h. not_zero (h 1 1 (omega arith) (omega arith));
  nonnegative = nonnegative;
  extreme = λ z s v. (pos 1, neg_ℤ (z 0 1), one_not_zero, multiple z s v);
}

-- ---- what the way asks
pub record IsFirstWay (q r : Symmetric) (vectors : List (List ℕ)) (m : ℤ) : Type 0 where
  pub matrix_is : q ≡ first_matrix 2
  pub ray_is : r ≡ first_ray
  pub vectors_are : vectors ≡ start_list 2
  pub minimum_is : m ≡ pos 2

module _ (q r : Symmetric) (vectors : List (List ℕ)) (m : ℤ) (f : IsFirstWay q r vectors m) where
  size_is : q.size ≡ 2
  unfolding first_matrix
  size_is = ap (λ (q : Symmetric). q.size) f.matrix_is

  pub sizes : r.size ≡ q.size
  sizes = ap (λ (r : Symmetric). r.size) f.ray_is ∙ sym size_is

  pub minimum : IsMinimum q.size (entry q) m vectors
  unfolding first_matrix
  minimum =
      subst (λ (q : Symmetric). IsMinimum q.size (entry q) m vectors) (sym f.matrix_is)
      (subst (λ (m : ℤ). IsMinimum 2 (entry (first_matrix 2)) m vectors) (sym f.minimum_is)
      (subst (λ (vectors : List (List ℕ)). IsMinimum 2 (entry (first_matrix 2)) (pos 2) vectors) (sym f.vectors_are) (first_is_minimum 2 (omega arith))))

  pub perfect : IsPerfect q.size vectors
  perfect =
      subst (λ (n : ℕ). IsPerfect n vectors) (sym size_is)
      (subst (λ (vectors : List (List ℕ)). IsPerfect 2 vectors) (sym f.vectors_are) (start_list_is_perfect 2))

  pub extreme : IsExtremeRay q.size (entry r) vectors
  extreme =
      subst (λ (n : ℕ). IsExtremeRay n (entry r) vectors) (sym size_is)
      (subst (λ (r : Symmetric). IsExtremeRay 2 (entry r) vectors) (sym f.ray_is)
      (subst (λ (vectors : List (List ℕ)). IsExtremeRay 2 (entry first_ray) vectors) (sym f.vectors_are) first_ray_extreme))

  pub positive : pos 1 ≤ℤ m
  positive = minimum.positive

  pub long : (w : List ℕ) (x y : ℕ) → w ≡ x ∷ y ∷ [] → length w ≡ q.size
  long w x y e = ap length e ∙ sym size_is

  module _ (w : List ℕ) (x y : ℕ) (w_is : w ≡ x ∷ y ∷ []) (second : 0 < y) (greater : y < x) where
    pub below : value_at r w <ℤ pos 0
    below =
        subst (λ (r : Symmetric). value_at r w <ℤ pos 0) (sym f.ray_is)
        (subst (λ (w : List ℕ). value_at first_ray w <ℤ pos 0) (sym w_is) (steep x y second greater))

-- its entries fit
pub ray_lower : IsLower 2 (pos 0 ∷ negsuc 0 ∷ pos 2 ∷ [])
unfolding triangle
ray_lower = record { entries = refl; fits = each }
  where
    each : (k : ℕ) → k < length (pos 0 ∷ negsuc 0 ∷ pos 2 ∷ []) → FitsInt (slice_index_or (pos 0 ∷ negsuc 0 ∷ pos 2 ∷ []) k (pos 0))
    each zero l = omega arith
    each (suc zero) l = omega arith
    each (suc (suc zero)) l = omega arith
    each (suc (suc (suc k))) l = absurd (omega arith)
