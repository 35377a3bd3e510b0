-- The ray beside a basis is an extreme ray.
use Rattle.std.specs.Prelude.{◌≡◌, ◌≢◌, ℕ, ◌+◌, ◌<◌, ℤ, pos, ◌+ℤ◌, ◌*ℤ◌, ◌≤ℤ◌, ◌<ℤ◌, Bool, true, false, ◌⊎◌, List, [], ◌∷◌, length, slice_index_or}
use Rattle.std.proofs.Common.{arith, sym, ◌∙◌, ap, ap₂, refl, subst, inl, inr}
use Rattle.std.proofs.lemmas.Int.{ints}
use Rattle.std.specs.List.{All, Contains}
use Rattle.std.proofs.lemmas.List.Elements.{All-contains}
use Rattle.commutative_ring.proofs.Ring.{◌⊗◌, neg, v0, v1, v2, v3}
use Rattle.commutative_ring.proofs.Expand.{expand, linear}
use Rattle.commutative_ring.proofs.SmallCases.{true_or_false}
use Rattle.exact_forms.specs.Forms.{form, inner, IsSymmetric, unit_sum}
use Rattle.exact_forms.specs.Rational.{Rational, whole, neg_ℚ, ◌*ℚ◌}
use Rattle.exact_forms.specs.Signs.{IsPositive, IsNegative, IsNonnegative}
use Rattle.exact_forms.specs.Vectors.{coordinate}
use Rattle.exact_forms.specs.Copositive.{Matrix, IsExtremeRay}
use Rattle.exact_forms.specs.Factors.{inner_ℚ}
use Rattle.exact_forms.specs.Coordinates.{Columns, IsBasis}
use Rattle.exact_forms.specs.RankOne.{HasVectors, HasUnits}
use Rattle.exact_forms.specs.Neighbours.{IsRay}
use Rattle.exact_forms.proofs.Rational.{ring_ℚ, zero_mul_ℚ, whole-mul, whole_same}
use Rattle.exact_forms.proofs.RationalSums.{sum_ℚ_one}
use Rattle.exact_forms.proofs.Signs.{Sign, above, none, below, sign_of, positive_not_zero, positive_product, positive_nonneg, nonneg_product, not_both}
use Rattle.exact_forms.proofs.Signs.{whole_positive, of_whole_nonneg, of_whole_negative, negative_opposite}
use Rattle.exact_forms.proofs.Coordinates.{mul_zero_ℚ}
use Rattle.exact_forms.proofs.Factors.{inner_ℚ_of_combination, inner_ℚ_whole, inner_ℚ_times, inner_ℚ_zero}
use Rattle.exact_forms.proofs.Forms.{form_is_inner}
use Rattle.exact_forms.proofs.Perfect.{inner_unit}
use Rattle.exact_forms.proofs.Vectors.{all_from_places}

-- a basis of the columns with the column `top` in it
module _ (A : Columns) (B : ℕ → Bool) (coord : ℕ → ℕ → Rational) (H : IsBasis A B coord) (top : ℕ) (top_within : top < A.count) where
  abbrev pair : Matrix → ℕ → Rational
  pair z k = inner_ℚ A.size z (A.entry k)

  -- zero at the columns of the basis but `top`
  abbrev pub VanishesOnBasis : Matrix → Type 0
  VanishesOnBasis z = (k : ℕ) → k < A.count → B k ≡ true → k ≢ top → inner_ℚ A.size z (A.entry k) ≡ whole (pos 0)

  -- then the value at a column is that at `top` times the coordinate there
  pub value_by_top : (z : Matrix) → VanishesOnBasis z → (j : ℕ) → j < A.count → inner_ℚ A.size z (A.entry j) ≡ coord j top *ℚ inner_ℚ A.size z (A.entry top)
  value_by_top z h j lj =
      inner_ℚ_of_combination A.size A.count z (coord j) A.entry (A.entry j) (H.written j lj).sum
      ∙ sum_ℚ_one A.count (λ k. coord j k *ℚ pair z k) top top_within (λ k l n. each k l n (true_or_false (B k)))
    where
      each : (k : ℕ) → k < A.count → k ≢ top → ((B k ≡ true) ⊎ (B k ≡ false)) → coord j k *ℚ pair z k ≡ whole (pos 0)
      each k l n (inl t) = ap (λ w. coord j k *ℚ w) (h k l t n) ∙ mul_zero_ℚ (coord j k)
      each k l n (inr f) = ap (λ w. w *ℚ pair z k) ((H.written j lj).outside k l f) ∙ zero_mul_ℚ (pair z k)

  -- one over 0 at a column l with a coordinate over 0 is over 0 at `top`
  module _ (r : Matrix) (l : ℕ) (V : VanishesOnBasis r) (ll : l < A.count) (at_l : IsPositive (inner_ℚ A.size r (A.entry l)))
      (coord_l : IsPositive (coord l top)) where
    pub top_positive : IsPositive (inner_ℚ A.size r (A.entry top))
    top_positive = by (sign_of (pair r top))
      where
        same : pair r l ≡ coord l top *ℚ pair r top
        same = value_by_top r V l ll

        by : Sign (pair r top) → IsPositive (pair r top)
        by (above p) = p
        by (none z) = absurd (positive_not_zero (pair r l) at_l (same ∙ ap (λ w. coord l top *ℚ w) z ∙ mul_zero_ℚ (coord l top)))
        by (below p) =
            absurd (not_both (pair r l) at_l (subst IsNonnegative (ring_ℚ (coord l top ∷ pair r top ∷ []) (v0 ⊗ neg v1) (neg (v0 ⊗ v1)) refl
            ∙ ap neg_ℚ (sym same)) (positive_nonneg _ (positive_product _ _ coord_l p))))

    -- it has the sign of the coordinate at `top`
    pub ray_nonnegative : (k : ℕ) → k < A.count → IsNonnegative (coord k top) → IsNonnegative (inner_ℚ A.size r (A.entry k))
    ray_nonnegative k lk h = subst IsNonnegative (sym (value_by_top r V k lk)) (nonneg_product _ _ h (positive_nonneg _ top_positive))

    pub ray_negative : (k : ℕ) → k < A.count → IsPositive (neg_ℚ (coord k top)) → IsNegative (inner_ℚ A.size r (A.entry k))
    ray_negative k lk h =
        (negative_opposite (pair r k)).1
        (subst IsPositive (ring_ℚ (coord k top ∷ pair r top ∷ []) (neg v0 ⊗ v1) (neg (v0 ⊗ v1)) refl
        ∙ ap neg_ℚ (sym (value_by_top r V k lk))) (positive_product _ _ h top_positive))

    -- what vanishes on the basis is a multiple
    pub multiples : (z : Matrix) → VanishesOnBasis z → (j : ℕ) → j < A.count
        → inner_ℚ A.size r (A.entry l) *ℚ inner_ℚ A.size z (A.entry j) ≡ inner_ℚ A.size z (A.entry l) *ℚ inner_ℚ A.size r (A.entry j)
    multiples z W j lj =
        ap₂ (λ v w. v *ℚ w) (value_by_top r V l ll) (value_by_top z W j lj)
        ∙ ring_ℚ (coord l top ∷ pair r top ∷ coord j top ∷ pair z top ∷ []) ((v0 ⊗ v1) ⊗ (v2 ⊗ v3)) ((v0 ⊗ v3) ⊗ (v2 ⊗ v1)) refl
        ∙ sym (ap₂ (λ v w. v *ℚ w) (value_by_top z W l ll) (value_by_top r V j lj))

  -- ---- where the other columns of the basis are vectors' matrices
  module _ (low : ℕ) (vectors : List (List ℕ)) (K : HasVectors A low vectors)
      (basic : (k : ℕ) → k < A.count → B k ≡ true → k ≢ top → (i : ℕ) × (i < length vectors) × (low + i ≡ k)) where
    pub value_at_vector : (z : Matrix) (k : ℕ) → k < length vectors
        → inner_ℚ A.size z (A.entry (low + k)) ≡ whole (form A.size z (coordinate (slice_index_or vectors k [])))
    value_at_vector z k l =
        inner_ℚ_whole A.size z (λ i j. coordinate (slice_index_or vectors k []) i *ℤ coordinate (slice_index_or vectors k []) j) (A.entry (low + k))
        (λ i j li lj. K.entry k i j l li lj)
        ∙ ap whole (sym (form_is_inner A.size z (coordinate (slice_index_or vectors k []))))

    at_unit : (z : Matrix) (i j k : ℕ) (t : Rational) → i < A.size → j < A.size
        → ((a b : ℕ) → a < A.size → b < A.size → t *ℚ A.entry k a b ≡ whole (unit_sum i j a b)) → t *ℚ pair z k ≡ whole (z i j +ℤ z j i)
    at_unit z i j k t li lj e =
        sym (inner_ℚ_times A.size z t (A.entry k))
        ∙ inner_ℚ_whole A.size z (unit_sum i j) (λ a b. t *ℚ A.entry k a b) e
        ∙ ap whole (inner_unit A.size i j z li lj)

    pub vanishes_on_basis : (z : Matrix)
        → ((k : ℕ) → k < length vectors → B (low + k) ≡ true → form A.size z (coordinate (slice_index_or vectors k [])) ≡ pos 0) → VanishesOnBasis z
    vanishes_on_basis z h k l b n =
        let i = basic k l b n in
        subst (λ (k : ℕ). pair z k ≡ whole (pos 0)) i.2 (value_at_vector z i.0 i.1 ∙ ap whole (h i.0 i.1 (ap B i.2 ∙ b)))

    within_columns : (k : ℕ) → k < length vectors → low + k < A.count
    within_columns k l = let a = K.within in omega arith

    -- a ray over zeros that have each vector of the basis
    module _ (r : Matrix) (zeros : List (List ℕ)) (l : ℕ) (T : IsRay A.size zeros (slice_index_or vectors l []) r) (ll : l < length vectors)
        (listed : (k : ℕ) → k < length vectors → B (low + k) ≡ true → Contains zeros (slice_index_or vectors k [])) (coord_l : IsPositive (coord (low + l) top))
      where
        at_zeros : (k : ℕ) → k < length vectors → B (low + k) ≡ true → form A.size r (coordinate (slice_index_or vectors k [])) ≡ pos 0
        at_zeros k lk b = All-contains (λ v. form A.size r (coordinate v) ≡ pos 0) zeros (slice_index_or vectors k []) T.at_zeros (listed k lk b)

        vanishes : VanishesOnBasis r
        vanishes = vanishes_on_basis r at_zeros

        l_positive : IsPositive (pair r (low + l))
        l_positive = subst IsPositive (sym (value_at_vector r l ll)) (whole_positive _ T.at_leaving)

        -- it is below 0 at a matrix S with a coordinate below 0
        pub ray_value_negative : (s : Matrix) (target : ℕ) → target < A.count → ((i j : ℕ) → i < A.size → j < A.size → A.entry target i j ≡ whole (s i j))
            → IsPositive (neg_ℚ (coord target top)) → inner A.size r s <ℤ pos 0
        ray_value_negative s target lt e h =
            of_whole_negative (inner A.size r s) (subst IsNegative (inner_ℚ_whole A.size r s (A.entry target) e)
            (ray_negative r (low + l) vanishes (within_columns l ll) l_positive coord_l target lt h))

        pub outside_extreme : HasUnits A → ((k : ℕ) → k < length vectors → IsNonnegative (coord (low + k) top)) → IsExtremeRay A.size r vectors
        outside_extreme U O = record {
          nonzero = λ h. positive_not_zero (pair r (low + l)) l_positive (inner_ℚ_zero A.size r (A.entry (low + l)) h);
          symmetric = T.symmetric;
          nonnegative = all_from_places (λ v. pos 0 ≤ℤ form A.size r (coordinate v)) vectors (λ k lk.
              of_whole_nonneg _
              (subst IsNonnegative (value_at_vector r k lk)
              (ray_nonnegative r (low + l) vanishes (within_columns l ll) l_positive coord_l (low + k) (within_columns k lk) (O k lk))));
          extreme = λ z y h. (
            form A.size r (coordinate (slice_index_or vectors l [])),
            form A.size z (coordinate (slice_index_or vectors l [])),
            (λ (e : form A.size r (coordinate (slice_index_or vectors l [])) ≡ pos 0). absurd (let p = T.at_leaving in omega (arith, ints))),
            λ i j li lj. multiple z y h i j li lj,
          );
        }
          where
            multiple : (z : Matrix) → IsSymmetric A.size z → All (λ v. form A.size r (coordinate v) ≡ pos 0 → form A.size z (coordinate v) ≡ pos 0) vectors
                → (i j : ℕ) → i < A.size → j < A.size
                → form A.size r (coordinate (slice_index_or vectors l [])) *ℤ z i j ≡ form A.size z (coordinate (slice_index_or vectors l [])) *ℤ r i j
            multiple z y h i j li lj =
                let u = U.units i j li lj in
                let e : pair r (low + l) *ℚ pair z u.0 ≡ pair z (low + l) *ℚ pair r u.0 =
                multiples r (low + l) vanishes (within_columns l ll) l_positive coord_l z (vanishes_on_basis z (λ k lk b. h k [] lk (at_zeros k lk b))) u.0
                u.2 in
                halves (form A.size r (coordinate (slice_index_or vectors l []))) (form A.size z (coordinate (slice_index_or vectors l []))) (z i j) (z j i)
                (r i j) (r j i) (y i j li lj) (T.symmetric i j li lj)
                (whole_same _ _ (
                whole-mul (form A.size r (coordinate (slice_index_or vectors l []))) (z i j +ℤ z j i)
                ∙ sym (ap₂ (λ v w. v *ℚ w) (value_at_vector r l ll) (at_unit z i j u.0 u.1 li lj u.3))
                ∙ ring_ℚ (pair r (low + l) ∷ u.1 ∷ pair z u.0 ∷ []) (v0 ⊗ (v1 ⊗ v2)) (v1 ⊗ (v0 ⊗ v2)) refl
                ∙ ap (λ x. u.1 *ℚ x) e
                ∙ ring_ℚ (pair z (low + l) ∷ u.1 ∷ pair r u.0 ∷ []) (v1 ⊗ (v0 ⊗ v2)) (v0 ⊗ (v1 ⊗ v2)) refl
                ∙ ap₂ (λ v w. v *ℚ w) (value_at_vector z l ll) (at_unit r i j u.0 u.1 li lj u.3)
                ∙ sym (whole-mul (form A.size z (coordinate (slice_index_or vectors l []))) (r i j +ℤ r j i))))
              where
                halves : (a b x x' w w' : ℤ) → x ≡ x' → w ≡ w' → a *ℤ (x +ℤ x') ≡ b *ℤ (w +ℤ w') → a *ℤ x ≡ b *ℤ w
                halves a b x x' w w' p q e =
                    let f : a *ℤ (x +ℤ x) ≡ b *ℤ (w +ℤ w) = ap (λ (y : ℤ). a *ℤ (x +ℤ y)) p ∙ e ∙ ap (λ (y : ℤ). b *ℤ (w +ℤ y)) (sym q) in
                    let g = simp expand at f in
                    omega (arith, linear)
