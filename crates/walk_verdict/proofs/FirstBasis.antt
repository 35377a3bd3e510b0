-- Where the coordinates over the vectors are at least 0, the first basis settles the linear program.
use Rattle.std.specs.Prelude.{◌≡◌, ◌⊎◌, ℕ, ◌+◌, ◌-◌, ◌*◌, ◌<◌, ◌≤◌, true, false, ℤ, pos, ◌*ℤ◌, List, [], ◌∷◌, length, slice_index_or}
use Rattle.std.proofs.Common.{arith, sym, ◌∙◌, ap, refl, subst, inl, inr}
use Rattle.std.proofs.lemmas.Int.{ints}
use Rattle.commutative_ring.proofs.Ring.{num, ◌⊗◌, v0, v1, v2}
use Rattle.commutative_ring.proofs.Laws.{one_mul_ℤ}
use Rattle.commutative_ring.proofs.SmallCases.{true_or_false}
use Rattle.exact_forms.specs.Rational.{Rational, whole, ratio, ◌*ℚ◌}
use Rattle.exact_forms.specs.Signs.{IsNonnegative}
use Rattle.exact_forms.specs.RankOne.{AreCoordinates}
use Rattle.exact_forms.specs.Vectors.{coordinate}
use Rattle.exact_forms.proofs.Rational.{ring_ℚ, mul-ratio, ratio_same}
use Rattle.exact_forms.proofs.RationalSums.{sum_ℚ_same, mul-sum_ℚ}
use Rattle.exact_forms.proofs.RankOne.{rank_one_sum_is}
use Rattle.exact_forms.proofs.Signs.{nonneg_product, whole_nonneg}
use Rattle.symmetric_matrix.specs.Symmetric.{Symmetric, entry}
use Rattle.exact_lp.specs.OfVectors.{program_of, over_first, IsPlaceable}
use Rattle.exact_lp.specs.Placement.{problem_of, is_settled_first}
use Rattle.exact_lp.specs.Program.{Program, IsProgram}
use Rattle.exact_lp.specs.Theorems.{HasNonnegativeFirst}
use Rattle.exact_lp.proofs.InsideAnswer.{is_linear_program}
use Rattle.exact_lp.proofs.InsideRight.{sum_of_vectors}
use Rattle.exact_lp.proofs.Laws.{settled_where_nonnegative}
use Rattle.exact_lp.proofs.Right.{low_of, count_is, vector_entry_is, target_entry_is}

-- ---- coordinates times a number
times_coordinates : (n : ℕ) (vectors : List (List ℕ)) (t : Rational) (c : ℕ → Rational) (x : ℕ → ℕ → Rational) → AreCoordinates n vectors c x
    → AreCoordinates n vectors (λ k. t *ℚ c k) (λ i j. t *ℚ x i j)
times_coordinates n vectors t c x A = record {
  sum = λ i j li lj.
      rank_one_sum_is vectors (λ k. t *ℚ c k) i j
      ∙ sum_ℚ_same (length vectors) _ (λ k. t *ℚ (c k *ℚ square i j k)) (λ k l. ring_ℚ (t ∷ c k ∷ square i j k ∷ []) ((v0 ⊗ v1) ⊗ v2) (v0 ⊗ (v1 ⊗ v2)) refl)
      ∙ sym (mul-sum_ℚ t (length vectors) (λ k. c k *ℚ square i j k))
      ∙ ap (λ (w : Rational). t *ℚ w) (sym (rank_one_sum_is vectors c i j) ∙ A.sum i j li lj);
}
  where
    square : ℕ → ℕ → ℕ → Rational
    square i j k = whole (coordinate (slice_index_or vectors k []) i *ℤ coordinate (slice_index_or vectors k []) j)

part_of_whole : (z : ℤ) (d : ℕ) → 0 < d → ratio (pos 1) d *ℚ whole z ≡ ratio z d
unfolding whole
part_of_whole z d h =
    let one : d * 1 ≡ d = omega arith in
    mul-ratio (pos 1) z d 1 h (omega arith) ∙ ap (λ (k : ℕ). ratio (pos 1 *ℤ z) k) one ∙ ap (λ (y : ℤ). ratio y d) (one_mul_ℤ z)

whole_part : (d : ℕ) → 0 < d → whole (pos d) *ℚ ratio (pos 1) d ≡ whole (pos 1)
unfolding whole
whole_part d h =
    mul-ratio (pos d) (pos 1) 1 d (omega arith) h ∙ ratio_same (pos d *ℤ pos 1) (pos 1) (1 * d) 1 (omega arith) (omega arith) (by d)
  where
    by : (d : ℕ) → (pos d *ℤ pos 1) *ℤ pos 1 ≡ pos 1 *ℤ pos (1 * d)
    by d = let e : 1 * d ≡ d = omega arith in rw e (omega (arith, ints))

-- ---- the coordinates of S over the first basis
module _ (vectors : List (List ℕ)) (s : Symmetric) (d : ℤ) (L : IsPlaceable vectors s) where
  abbrev P : Program
  P = program_of vectors s

  R : IsProgram P (over_first vectors s)
  R = is_linear_program vectors s d L

  abbrev first_coordinates : ℕ → Rational
  first_coordinates k = over_first vectors s P.target (low_of s + k)

  -- they are 0 beside the vectors' columns
  off : (k : ℕ) → k < P.columns.count → ((k < low_of s) ⊎ (low_of s + length vectors ≤ k)) → over_first vectors s P.target k ≡ whole (pos 0)
  off k l h = by (true_or_false (P.chosen k)) h
    where
      by : ((P.chosen k ≡ true) ⊎ (P.chosen k ≡ false)) → ((k < low_of s) ⊎ (low_of s + length vectors ≤ k)) → over_first vectors s P.target k ≡ whole (pos 0)
      by (inr o) n = (R.basis.written P.target R.target_within).outside k l o
      by (inl b) (inl n) = let j = R.chosen_is_first k l b in absurd (let v = (R.first_is_vector j.0 j.1).0 in let e = j.2 in omega arith)
      by (inl b) (inr n) = let j = R.chosen_is_first k l b in absurd (let v = (R.first_is_vector j.0 j.1).1 in let e = j.2 in omega arith)

  write_s : AreCoordinates s.size vectors first_coordinates (λ i j. whole (entry s i j))
  write_s = record {
    sum = λ i j li lj.
        rank_one_sum_is vectors first_coordinates i j
        ∙ sum_ℚ_same (length vectors) _ (λ v. over_first vectors s P.target (low_of s + v) *ℚ P.columns.entry (low_of s + v) i j)
        (λ v l. ap (λ (w : Rational). first_coordinates v *ℚ w) (sym (vector_entry_is vectors s d v i j l (L.sizes v l) li lj)))
        ∙ sum_of_vectors P.columns.count (low_of s) (length vectors) (over_first vectors s P.target) (λ k. P.columns.entry k i j)
        (let c = count_is vectors s in omega arith) off
        ∙ (R.basis.written P.target R.target_within).sum i j li lj
        ∙ target_entry_is vectors s d i j;
  }

  module _ (a : ℕ → ℕ → Rational) (m : ℕ) (positive : 0 < m) (is : (i j : ℕ) → i < s.size → j < s.size → a i j ≡ ratio (entry s i j) m)
      (inside : (c : ℕ → Rational) → AreCoordinates s.size vectors c a → (k : ℕ) → k < length vectors → IsNonnegative (c k)) where
    write_a : AreCoordinates s.size vectors (λ k. ratio (pos 1) m *ℚ first_coordinates k) a
    write_a =
        let W = times_coordinates s.size vectors (ratio (pos 1) m) first_coordinates (λ i j. whole (entry s i j)) write_s in
        record { sum = λ i j li lj. W.sum i j li lj ∙ part_of_whole (entry s i j) m positive ∙ sym (is i j li lj) }

    nonnegative : (k : ℕ) → k < length vectors → IsNonnegative (first_coordinates k)
    nonnegative k l =
        subst IsNonnegative
        (ring_ℚ (whole (pos m) ∷ ratio (pos 1) m ∷ first_coordinates k ∷ []) (v0 ⊗ (v1 ⊗ v2)) ((v0 ⊗ v1) ⊗ v2) refl
        ∙ ap (λ (w : Rational). w *ℚ first_coordinates k) (whole_part m positive)
        ∙ ring_ℚ (first_coordinates k ∷ []) (num (pos 1) ⊗ v0) v0 refl)
        (nonneg_product (whole (pos m)) (ratio (pos 1) m *ℚ first_coordinates k) (whole_nonneg (pos m) (omega (arith, ints)))
        (inside (λ k. ratio (pos 1) m *ℚ first_coordinates k) write_a k l))

    has_nonnegative_first : HasNonnegativeFirst vectors s
    has_nonnegative_first j l =
        let v = R.first_is_vector j l in
        let at : low_of s + (P.first j - low_of s) ≡ P.first j = (let h = v.0 in omega arith) in
        subst (λ (k : ℕ). IsNonnegative (over_first vectors s P.target k)) at (nonnegative (P.first j - low_of s) (let h = v.0 in let g = v.1 in omega arith))

    pub settled : is_settled_first (problem_of vectors s d) ≡ true
    settled = (settled_where_nonnegative vectors s d L).0 has_nonnegative_first
