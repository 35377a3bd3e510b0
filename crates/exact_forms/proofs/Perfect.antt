-- Laws of perfect lists of vectors.
use Rattle.std.specs.Prelude.{◌≡◌, ℕ, ◌<◌, ℤ, pos, negsuc, ◌+ℤ◌, ◌*ℤ◌, List, [], length, slice_index_or}
use Rattle.std.proofs.Common.{arith, sym, ◌∙◌, ap, ap₂, refl}
use Rattle.std.proofs.lemmas.Int.{ints}
use Rattle.std.specs.List.{All}
use Rattle.commutative_ring.proofs.Laws.{mul_add_ℤ}
use Rattle.commutative_ring.proofs.Expand.{expand, linear}
use Rattle.commutative_ring.proofs.SmallCases.{zero_within}
use Rattle.exact_forms.specs.Sums.{sum_to, sum_ℚ}
use Rattle.exact_forms.specs.Forms.{form, inner, IsSymmetric, mark_ℤ, unit_sum}
use Rattle.exact_forms.specs.Rational.{Rational, whole, ◌*ℚ◌}
use Rattle.exact_forms.specs.Vectors.{coordinate}
use Rattle.exact_forms.specs.Copositive.{Matrix, IsPerfect}
use Rattle.exact_forms.specs.Factors.{inner_ℚ}
use Rattle.exact_forms.specs.RankOne.{AreCoordinates}
use Rattle.exact_forms.proofs.Rational.{whole_same}
use Rattle.exact_forms.proofs.Sums.{sum_to_one, sum_to_none, sums_same, sums-add}
use Rattle.exact_forms.proofs.RationalSums.{sum_ℚ_same, sum_ℚ_none}
use Rattle.exact_forms.proofs.Slacks.{replaced_here, replaced_other}
use Rattle.exact_forms.proofs.Forms.{inner_is, form-add, form-mul}
use Rattle.exact_forms.proofs.Factors.{inner_ℚ_of_combination, inner_ℚ_of_square, inner_ℚ-whole}
use Rattle.exact_forms.proofs.Coordinates.{mul_zero_ℚ}
use Rattle.exact_forms.proofs.RankOne.{rank_one_sum_is}

-- what Z gives at a combination of the vectors' matrices
pub inner_ℚ_of_coordinates : (n : ℕ) (z : Matrix) (vectors : List (List ℕ)) (c : ℕ → Rational) (a : ℕ → ℕ → Rational) → AreCoordinates n vectors c a
    → inner_ℚ n z a ≡ sum_ℚ (length vectors) (λ k. c k *ℚ whole (form n z (coordinate (slice_index_or vectors k []))))
inner_ℚ_of_coordinates n z vectors c a h =
    inner_ℚ_of_combination n (length vectors) z c (λ k i j. whole (coordinate (slice_index_or vectors k []) i *ℤ coordinate (slice_index_or vectors k []) j)) a
    (λ i j li lj. sym (rank_one_sum_is vectors c i j) ∙ h.sum i j li lj)
    ∙ sum_ℚ_same (length vectors) _ _ (λ k l. ap (λ w. c k *ℚ w) (inner_ℚ_of_square n z (coordinate (slice_index_or vectors k []))))

-- ---- units
picked : (n a b : ℕ) (z : Matrix) → a < n → b < n → sum_to n (λ i. sum_to n (λ j. z i j *ℤ (mark_ℤ a i *ℤ mark_ℤ b j))) ≡ z a b
picked n a b z la lb =
    sum_to_one n (λ i. sum_to n (λ j. z i j *ℤ (mark_ℤ a i *ℤ mark_ℤ b j))) a la (λ i li ne.
    sum_to_none n (λ j. z i j *ℤ (mark_ℤ a i *ℤ mark_ℤ b j)) (λ j lj.
    ap (λ (w : ℤ). z i j *ℤ (w *ℤ mark_ℤ b j)) (replaced_other (λ k. pos 0) a (pos 1) i ne) ∙ zero_within (z i j) (mark_ℤ b j)))
    ∙ sum_to_one n (λ j. z a j *ℤ (mark_ℤ a a *ℤ mark_ℤ b j)) b lb (λ j lj ne.
    ap (λ (w : ℤ). z a j *ℤ (mark_ℤ a a *ℤ w)) (replaced_other (λ k. pos 0) b (pos 1) j ne) ∙ gone_too (z a j) (mark_ℤ a a))
    ∙ ap₂ (λ (x : ℤ) (y : ℤ). z a b *ℤ (x *ℤ y)) (replaced_here (λ k. pos 0) a (pos 1) a refl) (replaced_here (λ k. pos 0) b (pos 1) b refl)
    ∙ kept (z a b)
  where
    gone_too : (x y : ℤ) → x *ℤ (y *ℤ pos 0) ≡ pos 0
    gone_too x y = simp expand

    kept : (x : ℤ) → x *ℤ (pos 1 *ℤ pos 1) ≡ x
    kept x = simp expand

-- a unit picks out its two entries
pub inner_unit : (n a b : ℕ) (z : Matrix) → a < n → b < n → inner n z (unit_sum a b) ≡ z a b +ℤ z b a
inner_unit n a b z la lb =
    inner_is n z (unit_sum a b)
    ∙ sums_same n n _ _ (λ i j li lj. mul_add_ℤ (z i j) (mark_ℤ a i *ℤ mark_ℤ b j) (mark_ℤ b i *ℤ mark_ℤ a j))
    ∙ sums-add n n (λ i j. z i j *ℤ (mark_ℤ a i *ℤ mark_ℤ b j)) (λ i j. z i j *ℤ (mark_ℤ b i *ℤ mark_ℤ a j))
    ∙ ap₂ (λ (x : ℤ) (y : ℤ). x +ℤ y) (picked n a b z la lb) (picked n b a z lb la)

-- a list whose matrices write every unit is perfect
pub perfect_from_units : (n : ℕ) (vectors : List (List ℕ)) (c : ℕ → ℕ → ℕ → Rational)
    → ((a b : ℕ) → a < n → b < n → AreCoordinates n vectors (c a b) (λ i j. whole (unit_sum a b i j))) → IsPerfect n vectors
perfect_from_units n vectors c w = record { only_zero = λ z s vanishes a b la lb. at z s vanishes a b la lb }
  where
    at : (z : Matrix) → IsSymmetric n z → All (λ v. form n z (coordinate v) ≡ pos 0) vectors → (a b : ℕ) → a < n → b < n → z a b ≡ pos 0
    at z s vanishes a b la lb =
        let nothing : whole (inner n z (unit_sum a b)) ≡ whole (pos 0) =
        sym (inner_ℚ-whole n z (unit_sum a b))
        ∙ inner_ℚ_of_coordinates n z vectors (c a b) (λ i j. whole (unit_sum a b i j)) (w a b la lb)
        ∙ sum_ℚ_none (length vectors) _ (λ k l. ap (λ (y : ℤ). c a b k *ℚ whole y) (vanishes k [] l) ∙ mul_zero_ℚ (c a b k)) in
        let zero_sum : z a b +ℤ z b a ≡ pos 0 = sym (inner_unit n a b z la lb) ∙ whole_same _ (pos 0) nothing in
        let mirror : z a b ≡ z b a = s a b la lb in
        omega (arith, linear)

-- the values at the vectors of a perfect list decide a symmetric matrix
pub perfect_decides : (n : ℕ) (vectors : List (List ℕ)) (p q : Matrix) → IsPerfect n vectors → IsSymmetric n p → IsSymmetric n q
    → All (λ v. form n p (coordinate v) ≡ form n q (coordinate v)) vectors → (i j : ℕ) → i < n → j < n → p i j ≡ q i j
perfect_decides n vectors p q h sp sq same i j li lj =
    let e : p i j +ℤ negsuc 0 *ℤ q i j ≡ pos 0 = h.only_zero (λ i j. p i j +ℤ negsuc 0 *ℤ q i j)
    (λ i j li lj. ap₂ (λ (a : ℤ) (b : ℤ). a +ℤ negsuc 0 *ℤ b) (sp i j li lj) (sq i j li lj))
    (λ k d l.
    form-add n p (λ i j. negsuc 0 *ℤ q i j) (coordinate (slice_index_or vectors k d))
    ∙ ap₂ (λ (a : ℤ) (b : ℤ). a +ℤ b) (same k d l) (form-mul n (negsuc 0) q (coordinate (slice_index_or vectors k d)))
    ∙ none (form n q (coordinate (slice_index_or vectors k d))))
    i j li lj in
    equal (p i j) (q i j) e
  where
    none : (a : ℤ) → a +ℤ negsuc 0 *ℤ a ≡ pos 0
    none a = omega (arith, ints)

    equal : (a b : ℤ) → a +ℤ negsuc 0 *ℤ b ≡ pos 0 → a ≡ b
    equal a b e = omega (arith, ints)
