-- A perfect list of vectors leaves no unit in the first basis.
use Rattle.std.specs.Prelude.{◌≡◌, ℕ, ◌+◌, ◌<◌, ℤ, pos, ◌*ℤ◌, Bool, true, false, ◌⊎◌, List, [], ◌∷◌, length, slice_index_or}
use Rattle.std.proofs.Common.{arith, sym, ◌∙◌, ap, ap₂, refl, inl, inr}
use Rattle.std.proofs.lemmas.Int.{ints}
use lib.IntN.{*ℤ_comm, +ℤ_comm}
use Rattle.exact_forms.proofs.RationalSums.{sum_ℚ_same, sum_ℚ_none, sum_ℚ-add, mul-sum_ℚ, sum_ℚ_one}
use Rattle.commutative_ring.proofs.Ring.{num, ◌⊕◌, ◌⊗◌, v0, v1, v2, v3, v4}
use Rattle.commutative_ring.proofs.SmallCases.{true_or_false}
use Rattle.exact_forms.specs.Forms.{form, IsSymmetric, unit_sum, mark_ℤ}
use Rattle.exact_forms.specs.Rational.{Rational, whole, ◌+ℚ◌, ◌*ℚ◌}
use Rattle.exact_forms.specs.Sums.{sum_ℚ}
use Rattle.exact_forms.proofs.Rational.{zero_mul_ℚ, one_mul_ℚ, whole-add, whole-mul, whole_same}
use Rattle.exact_forms.proofs.Slacks.{replaced_here, replaced_other}
use Rattle.exact_forms.proofs.Rational.{ring_ℚ}
use Rattle.exact_forms.specs.Coordinates.{Columns, IsCoordinates, IsBasis}
use Rattle.exact_linear.proofs.SoFar.{IsFirstSoFar}
use Rattle.exact_forms.specs.Copositive.{IsPerfect}
use Rattle.exact_forms.specs.Factors.{inner_ℚ}
use Rattle.exact_forms.specs.RankOne.{HasVectors}
use Rattle.exact_forms.specs.Vectors.{coordinate}
use Rattle.exact_forms.proofs.Factors.{inner_ℚ_whole}
use Rattle.exact_forms.proofs.Forms.{form_is_inner}
use Rattle.exact_forms.proofs.Vectors.{all_from_places}
use Rattle.exact_forms.proofs.Signs.{positive_not_zero, whole_positive}
use Rattle.exact_forms.proofs.Coordinates.{mul_zero_ℚ, coordinates_add, basis_mark, no_zero_product, coordinates_unique, coordinates_total}
use Rattle.exact_forms.proofs.Denominators.{IsClearedSquare, cleared_square}

-- the columns: units below low, of which t times one is `unit i j`, and the vectors' matrices from low on
pub record AreUnitsAndVectors (A : Columns) (low : ℕ) (vectors : List (List ℕ)) : Type 0 where
  pub unit_column : ℕ → ℕ → ℕ
  pub times : ℕ → ℕ → Rational
  pub unit_below : (i j : ℕ) → i < A.size → j < A.size → unit_column i j < low
  pub units : (i j a b : ℕ) → i < A.size → j < A.size → a < A.size → b < A.size → times i j *ℚ A.entry (unit_column i j) a b ≡ whole (unit_sum i j a b)
  pub has_vectors : HasVectors A low vectors
  pub mirrored : (u a b : ℕ) → u < low → a < A.size → b < A.size → A.entry u a b ≡ A.entry u b a

module _ (A : Columns) (low : ℕ) (vectors : List (List ℕ)) (U : AreUnitsAndVectors A low vectors) (B : ℕ → Bool) (coord : ℕ → ℕ
    → Rational) (H : IsBasis A B coord) where
  -- the coordinate at u of `unit i j`
  abbrev pub at_unit : ℕ → ℕ → ℕ → Rational
  at_unit u i j = U.times i j *ℚ coord (U.unit_column i j) u

  pub unit_coordinates : (i j : ℕ) → i < A.size → j < A.size → IsCoordinates A B (λ k. at_unit k i j) (λ a b. whole (unit_sum i j a b))
  unit_coordinates i j li lj =
      let l : U.unit_column i j < A.count = (let a = U.unit_below i j li lj in let b = U.has_vectors.within in omega arith) in
      let h = H.written (U.unit_column i j) l in
      record {
        outside = λ k lk b. ap (λ w. U.times i j *ℚ w) (h.outside k lk b) ∙ mul_zero_ℚ (U.times i j);
        sum = λ a b la lb.
            sum_ℚ_same A.count _ _ (λ k lk. ring_ℚ (U.times i j ∷ coord (U.unit_column i j) k ∷ A.entry k a b ∷ []) (v0 ⊗ v1 ⊗ v2) (v0 ⊗ (v1 ⊗ v2)) refl)
            ∙ sym (mul-sum_ℚ (U.times i j) A.count (λ k. coord (U.unit_column i j) k *ℚ A.entry k a b))
            ∙ ap (λ w. U.times i j *ℚ w) (h.sum a b la lb)
            ∙ U.units i j a b li lj la lb;
      }

  mirror : (i j a b : ℕ) → unit_sum i j a b ≡ unit_sum j i a b
  mirror i j a b = +ℤ_comm (mark_ℤ i a *ℤ mark_ℤ j b) (mark_ℤ j a *ℤ mark_ℤ i b)

  pub at_unit_symmetric : (u i j : ℕ) → u < A.count → i < A.size → j < A.size → at_unit u i j ≡ at_unit u j i
  at_unit_symmetric u i j lu li lj =
      coordinates_unique A B (λ k. at_unit k i j) (λ k. at_unit k j i) (λ a b. whole (unit_sum i j a b)) (λ a b. whole (unit_sum j i a b)) H.independent
      (unit_coordinates i j li lj) (unit_coordinates j i lj li) (λ a b la lb. ap whole (mirror i j a b)) u lu

  -- a matrix x is half the sum of its entries times the units
  pick : (a : ℕ) (f : ℕ → Rational) → a < A.size → sum_ℚ A.size (λ i. whole (mark_ℤ i a) *ℚ f i) ≡ f a
  pick a f la =
      sum_ℚ_one A.size (λ i. whole (mark_ℤ i a) *ℚ f i) a la (λ i li ne.
      ap (λ (z : ℤ). whole z *ℚ f i) (replaced_other (λ k. pos 0) i (pos 1) a (λ s. ne (sym s))) ∙ zero_mul_ℚ (f i))
      ∙ ap (λ (z : ℤ). whole z *ℚ f a) (replaced_here (λ k. pos 0) a (pos 1) a refl)
      ∙ one_mul_ℚ (f a)

  pub twice : (x : ℕ → ℕ → Rational) (a b : ℕ) → a < A.size → b < A.size
      → sum_ℚ A.size (λ i. sum_ℚ A.size (λ j. x i j *ℚ whole (unit_sum i j a b))) ≡ x a b +ℚ x b a
  twice x a b la lb =
      sum_ℚ_same A.size _ _ (λ i li.
      sum_ℚ_same A.size _ _ (λ j lj.
      ap (λ w. x i j *ℚ w) (whole-add (mark_ℤ i a *ℤ mark_ℤ j b) (mark_ℤ j a *ℤ mark_ℤ i b)
      ∙ ap₂ (λ v w. v +ℚ w) (whole-mul (mark_ℤ i a) (mark_ℤ j b)) (whole-mul (mark_ℤ j a) (mark_ℤ i b)))
      ∙ ring_ℚ (x i j ∷ whole (mark_ℤ i a) ∷ whole (mark_ℤ j b) ∷ whole (mark_ℤ j a) ∷ whole (mark_ℤ i b) ∷ []) (v0 ⊗ (v1 ⊗ v2 ⊕ v3 ⊗ v4))
      (v1 ⊗ (v2 ⊗ v0) ⊕ v4 ⊗ (v3 ⊗ v0)) refl)
      ∙ sum_ℚ-add A.size (λ j. whole (mark_ℤ i a) *ℚ (whole (mark_ℤ j b) *ℚ x i j)) (λ j. whole (mark_ℤ i b) *ℚ (whole (mark_ℤ j a) *ℚ x i j))
      ∙ ap₂ (λ v w. v +ℚ w)
      (sym (mul-sum_ℚ (whole (mark_ℤ i a)) A.size (λ j. whole (mark_ℤ j b) *ℚ x i j)) ∙ ap (λ w. whole (mark_ℤ i a) *ℚ w) (pick b (x i) lb))
      (sym (mul-sum_ℚ (whole (mark_ℤ i b)) A.size (λ j. whole (mark_ℤ j a) *ℚ x i j)) ∙ ap (λ w. whole (mark_ℤ i b) *ℚ w) (pick a (x i) la)))
      ∙ sum_ℚ-add A.size (λ i. whole (mark_ℤ i a) *ℚ x i b) (λ i. whole (mark_ℤ i b) *ℚ x i a)
      ∙ ap₂ (λ v w. v +ℚ w) (pick a (λ i. x i b) la) (pick b (λ i. x i a) lb)

  -- its coordinate at u, by its entries
  pub by_units : (u : ℕ) (c : ℕ → Rational) (x : ℕ → ℕ → Rational) → u < A.count → IsCoordinates A B c x → ((a b : ℕ) → a < A.size → b < A.size → x a b ≡ x b a)
      → c u +ℚ whole (pos 1) *ℚ c u ≡ sum_ℚ A.size (λ i. whole (pos 1) *ℚ sum_ℚ A.size (λ j. x i j *ℚ at_unit u i j))
  by_units u c x lu h s =
      coordinates_unique A B (λ k. c k +ℚ whole (pos 1) *ℚ c k) _ (λ a b. x a b +ℚ whole (pos 1) *ℚ x a b) _ H.independent
      (coordinates_add A B c c x x (whole (pos 1)) h h)
      (coordinates_total A B A.size (λ i. whole (pos 1)) (λ i k. sum_ℚ A.size (λ j. x i j *ℚ at_unit k i j))
      (λ i a b. sum_ℚ A.size (λ j. x i j *ℚ whole (unit_sum i j a b)))
      (λ i li. coordinates_total A B A.size (x i) (λ j k. at_unit k i j) (λ j a b. whole (unit_sum i j a b)) (λ j lj. unit_coordinates i j li lj)))
      (λ a b la lb. same a b la lb) u lu
    where
      same : (a b : ℕ) → a < A.size → b < A.size
          → x a b +ℚ whole (pos 1) *ℚ x a b ≡ sum_ℚ A.size (λ i. whole (pos 1) *ℚ sum_ℚ A.size (λ j. x i j *ℚ whole (unit_sum i j a b)))
      same a b la lb =
          ap (λ w. x a b +ℚ w) (one_mul_ℚ (x a b) ∙ s a b la lb)
          ∙ sym (twice x a b la lb)
          ∙ sum_ℚ_same A.size _ _ (λ i li. sym (one_mul_ℚ (sum_ℚ A.size (λ j. x i j *ℚ whole (unit_sum i j a b)))))

  -- the value of a matrix that is e times the coordinates at u of the units
  pub ray_value : (u : ℕ) (e : Rational) (z : ℕ → ℕ → ℤ) (c : ℕ → Rational) (x : ℕ → ℕ → Rational) → u < A.count
      → ((i j : ℕ) → i < A.size → j < A.size → whole (z i j) ≡ e *ℚ at_unit u i j) → IsCoordinates A B c x
      → ((a b : ℕ) → a < A.size → b < A.size → x a b ≡ x b a)
      → inner_ℚ A.size z x ≡ e *ℚ (c u +ℚ whole (pos 1) *ℚ c u)
  unfolding inner_ℚ
  ray_value u e z c x lu h hc s =
      sum_ℚ_same A.size _ _ (λ i li.
      sum_ℚ_same A.size _ _ (λ j lj.
      ap (λ w. w *ℚ x i j) (h i j li lj) ∙ ring_ℚ (e ∷ at_unit u i j ∷ x i j ∷ []) (v0 ⊗ v1 ⊗ v2) (v0 ⊗ (v2 ⊗ v1)) refl)
      ∙ sym (mul-sum_ℚ e A.size (λ j. x i j *ℚ at_unit u i j))
      ∙ ap (λ w. e *ℚ w) (sym (one_mul_ℚ _)))
      ∙ sym (mul-sum_ℚ e A.size (λ i. whole (pos 1) *ℚ sum_ℚ A.size (λ j. x i j *ℚ at_unit u i j)))
      ∙ ap (λ w. e *ℚ w) (sym (by_units u c x lu hc s))

  -- a perfect list leaves no unit
  pub perfect_leaves_none : IsFirstSoFar A low (low + length vectors) B coord → IsPerfect A.size vectors → (u : ℕ) → u < low → B u ≡ false
  perfect_leaves_none S F u lu = by (true_or_false (B u))
    where
      lc : u < A.count
      lc = let a = U.has_vectors.within in omega arith

      Z : IsClearedSquare A.size A.size (at_unit u)
      Z = cleared_square A.size A.size (at_unit u)

      z_symmetric : IsSymmetric A.size Z.whole_numbers
      z_symmetric i j li lj = whole_same _ _ (Z.same i j li lj ∙ ap (λ w. whole Z.common *ℚ w) (at_unit_symmetric u i j lc li lj) ∙ sym (Z.same j i lj li))

      two_zero : (y : Rational) → y ≡ whole (pos 0) → y +ℚ whole (pos 1) *ℚ y ≡ whole (pos 0)
      two_zero y e = ap (λ y. y +ℚ whole (pos 1) *ℚ y) e ∙ ring_ℚ [] (num (pos 0) ⊕ num (pos 1) ⊗ num (pos 0)) (num (pos 0)) refl

      vector : ℕ → ℕ → ℤ
      vector k = coordinate (slice_index_or vectors k [])

      at_vectors : B u ≡ true → (k : ℕ) → k < length vectors → form A.size Z.whole_numbers (vector k) ≡ pos 0
      at_vectors b k l = whole_same _ (pos 0) (
          ap whole (form_is_inner A.size Z.whole_numbers (vector k))
          ∙ sym (inner_ℚ_whole A.size Z.whole_numbers (λ i j. vector k i *ℤ vector k j) (A.entry (low + k)) (λ i j li lj. U.has_vectors.entry k i j l li lj))
          ∙ ray_value u (whole Z.common) Z.whole_numbers (coord (low + k)) (A.entry (low + k)) lc Z.same
          (H.written (low + k) (let a = U.has_vectors.within in omega arith))
          (λ a b la lb. U.has_vectors.entry k a b l la lb ∙ ap whole (*ℤ_comm (vector k a) (vector k b)) ∙ sym (U.has_vectors.entry k b a l lb la))
          ∙ ap (λ w. whole Z.common *ℚ w) (two_zero (coord (low + k) u) (S.cleared (low + k) u (omega arith) (omega arith) lu b))
          ∙ mul_zero_ℚ (whole Z.common))

      at_units : B u ≡ true → (i j : ℕ) → i < A.size → j < A.size → at_unit u i j ≡ whole (pos 0)
      at_units b i j li lj =
          no_zero_product (at_unit u i j) (whole Z.common) (positive_not_zero (whole Z.common) (whole_positive Z.common Z.positive))
          (ring_ℚ (at_unit u i j ∷ whole Z.common ∷ []) (v0 ⊗ v1) (v1 ⊗ v0) refl ∙ sym (Z.same i j li lj)
          ∙ ap whole (F.only_zero Z.whole_numbers z_symmetric
          (all_from_places (λ v. form A.size Z.whole_numbers (coordinate v) ≡ pos 0) vectors (λ k l. at_vectors b k l)) i j li lj))

      itself : B u ≡ true → coord u u ≡ whole (pos 1)
      itself b = basis_mark A B coord H u lc b u lc ∙ replaced_here (λ k. whole (pos 0)) u (whole (pos 1)) u refl

      by : ((B u ≡ true) ⊎ (B u ≡ false)) → B u ≡ false
      by (inr f) = f
      by (inl b) = absurd (positive_not_zero (whole (pos 2)) (whole_positive (pos 2) (omega (arith, ints)))
          (ring_ℚ [] (num (pos 2)) (num (pos 1) ⊕ num (pos 1) ⊗ num (pos 1)) refl
          ∙ ap (λ y. y +ℚ whole (pos 1) *ℚ y) (sym (itself b))
          ∙ by_units u (coord u) (A.entry u) lc (H.written u lc) (λ a b la lb. U.mirrored u a b lu la lb)
          ∙ sum_ℚ_none A.size _
          (λ i li. ap (λ w. whole (pos 1) *ℚ w) (sum_ℚ_none A.size _ (λ j lj. ap (λ w. A.entry u i j *ℚ w) (at_units b i j li lj)
          ∙ mul_zero_ℚ (A.entry u i j))) ∙ mul_zero_ℚ (whole (pos 1)))))
