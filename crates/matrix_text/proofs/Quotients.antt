-- The entries of a matrix that was cleared of its denominators.
use Rattle.std.specs.Prelude.{◌≡◌, ◌⊎◌, ℕ, ◌+◌, ◌/◌, ◌<◌, ◌≤◌, ℤ, pos, nat_abs, ◌*ℤ◌, ◌≤ℤ◌, List, map, length, take, slice_index_or, Ok}
use Rattle.std.specs.List.{flat_map, range_with_len}
use Rattle.std.proofs.Common.{refl, sym, ap, ap₂, ◌∙◌, subst, arith, inl, inr}
use Rattle.std.proofs.lemmas.Int.{ints}
use Rattle.std.proofs.lemmas.List.Concat.{get_or-flat_map}
use Rattle.std.proofs.lemmas.List.Elements.{All-from_recursion}
use Rattle.std.proofs.lemmas.List.Folds.{length-flat_map-take}
use Rattle.std.proofs.lemmas.List.FromFn.{length-range_with_len, get_or-range_with_len, length-map-range_with_len, get_or-map-range_with_len}
use Prim.Native.Nat.{◌∣◌}
use Rattle.commutative_ring.proofs.Laws.{zero_mul_ℤ}
use Rattle.commutative_ring.proofs.SmallCases.{at_least_or_at_most}
use Rattle.exact_forms.specs.Rational.{Rational, ratio, whole}
use Rattle.exact_forms.specs.Triangles.{entry_in}
use Rattle.exact_forms.proofs.Lowest.{zero_num}
use Rattle.exact_forms.proofs.Rational.{ratio_same}
use Rattle.exact_forms.proofs.Triangles.{entry_in-map, entry_in_symmetric}
use Rattle.symmetric_matrix.specs.Owed.{answer}
use Rattle.symmetric_matrix.specs.Symmetric.{Symmetric, entry}
use Rattle.symmetric_matrix.proofs.Owed.{none_of_ok}
use Rattle.matrix_text.specs.RationalMatrix.{RationalMatrix, rational_entry}
use Rattle.matrix_text.specs.Clearing.{PlacedEntry, placed_row, placed_entries, is_placed_owed, clear_ops}
use Rattle.matrix_text.specs.Clearing.{cleared_of, least_denominator, numerators_over, IsCleared}
use Rattle.matrix_text.specs.Quotients.{whole_of, denominator_of}
use Rattle.matrix_text.proofs.Clearings.{common_multiple_positive, common_multiple_each, over_common}

zero_over : (d : ℕ) → 0 < d → whole (pos 0) ≡ ratio (pos 0) d
unfolding whole
zero_over d positive = ratio_same (pos 0) (pos 0) 1 d (omega arith) positive (omega (arith, ints))

pub cleared_entry : (a : RationalMatrix) (s : Symmetric) (d : ℕ) → IsCleared a s d → (i j : ℕ) → rational_entry a i j ≡ ratio (entry s i j) d
unfolding rational_entry entry
cleared_entry a s d is i j =
    ap₂ (λ (none : Rational) (xs : List Rational). entry_in none xs i j) (zero_over d is.denominator.positive) (sym is.entries)
    ∙ entry_in-map (λ (z : ℤ). ratio z d) (pos 0) s.lower i j

pub cleared_positive : (a : RationalMatrix) (s : Symmetric) (d : ℤ) → answer is_placed_owed (clear_ops a) (cleared_of a) ≡ Ok (s, d) → IsCleared a s (nat_abs d)
    → pos 1 ≤ℤ d
unfolding cleared_of
cleared_positive a s d h is =
    let clear = none_of_ok is_placed_owed (clear_ops a) (cleared_of a) (s, d) h in
    let known : pos (least_denominator a) ≡ d = ap (λ (p : Symmetric × ℤ). p.1) clear.1 in
    let positive : 0 < least_denominator a = subst (λ (z : ℤ). 0 < nat_abs z) (sym known) is.denominator.positive in
    let one : pos 1 ≤ℤ pos (least_denominator a) = omega (arith, ints) in
    subst (λ (z : ℤ). pos 1 ≤ℤ z) known one

-- ---- whatever the length of the triangle: each entry within the rows is one of S over d
pub whole_size : (a : RationalMatrix) → (whole_of a).size ≡ a.size
unfolding cleared_of
whole_size a = refl

pub least_positive : (a : RationalMatrix) → 0 < least_denominator a
least_positive a = common_multiple_positive 1 (placed_entries a) (omega arith)

pub denominator_positive : (a : RationalMatrix) → pos 1 ≤ℤ denominator_of a
unfolding cleared_of
denominator_positive a = let l = least_positive a in omega (arith, ints)

-- the entry in row i stands in the list of all, and its denominator divides d
placed_at : (a : RationalMatrix) (i j : ℕ) (d : PlacedEntry) → j ≤ i → i < a.size
    → (k : ℕ) × (k < length (placed_entries a)) × (slice_index_or (placed_entries a) k d ≡ record { row = i + 1; column = j + 1; value = rational_entry a i j })
unfolding placed_entries placed_row
placed_at a i j d h l =
    let rows = range_with_len 0 a.size in
    let within : i < length rows = omega (arith, length-range_with_len 0 a.size) in
    let from_none : 0 + i ≡ i = omega arith in
    let row_is : slice_index_or rows i 0 ≡ i = get_or-range_with_len 0 a.size i 0 l ∙ from_none in
    let long : length (row (slice_index_or rows i 0)) ≡ i + 1 = ap (λ (k : ℕ). length (row k)) row_is ∙ length-map-range_with_len (at i) 0 (i + 1) in
    let inside : j < length (row (slice_index_or rows i 0)) = omega arith in
    let front = length-flat_map-take row rows i 0 within in (
      length (flat_map row (take i rows)) + j,
      omega arith,
      get_or-flat_map row rows i j 0 d within inside
          ∙ ap (λ (k : ℕ). slice_index_or (row k) j d) row_is ∙ get_or-map-range_with_len (at i) 0 (i + 1) j j d (omega arith) (omega arith),
    )
  where
    at : ℕ → ℕ → PlacedEntry
    at i j = record { row = i + 1; column = j + 1; value = rational_entry a i j }

    row : ℕ → List PlacedEntry
    row i = map (at i) (range_with_len 0 (i + 1))

divides_below : (a : RationalMatrix) (i j : ℕ) → j ≤ i → i < a.size → (rational_entry a i j).den ∣ least_denominator a
divides_below a i j h l =
    let none : PlacedEntry = record { row = 0; column = 0; value = whole (pos 0) } in
    let p = placed_at a i j none h l in
    subst (λ (p : PlacedEntry). p.value.den ∣ least_denominator a) p.2
    (All-from_recursion (λ p. p.value.den ∣ least_denominator a) (placed_entries a) (common_multiple_each 1 (placed_entries a)) p.0 none p.1)

divides : (a : RationalMatrix) (i j : ℕ) → i < a.size → j < a.size → (rational_entry a i j).den ∣ least_denominator a
unfolding rational_entry
divides a i j li lj = by (at_least_or_at_most i j)
  where
    by : ((j ≤ i) ⊎ (i ≤ j)) → (rational_entry a i j).den ∣ least_denominator a
    by (inl h) = divides_below a i j h li
    by (inr h) = subst (λ (q : Rational). q.den ∣ least_denominator a) (entry_in_symmetric (whole (pos 0)) a.lower j i) (divides_below a j i h lj)

numerator_of : (a : RationalMatrix) (i j : ℕ) → entry (whole_of a) i j ≡ (rational_entry a i j).num *ℤ pos (least_denominator a / (rational_entry a i j).den)
unfolding cleared_of entry numerators_over rational_entry
numerator_of a i j =
    ap (λ (z : ℤ). entry_in z (map over a.lower) i j)
    (sym (ap (λ (z : ℤ). z *ℤ pos (least_denominator a / (whole (pos 0)).den)) ((zero_num (whole (pos 0))).1 refl)
    ∙ zero_mul_ℤ (pos (least_denominator a / (whole (pos 0)).den))))
    ∙ entry_in-map over (whole (pos 0)) a.lower i j
  where
    over : Rational → ℤ
    over q = q.num *ℤ pos (least_denominator a / q.den)

pub quotient_entry : (a : RationalMatrix) (i j : ℕ) → i < a.size → j < a.size
    → rational_entry a i j ≡ ratio (entry (whole_of a) i j) (nat_abs (denominator_of a))
unfolding cleared_of
quotient_entry a i j li lj =
    sym (ap (λ (z : ℤ). ratio z (least_denominator a)) (numerator_of a i j)
    ∙ over_common (least_denominator a) (rational_entry a i j) (least_positive a) (divides a i j li lj))
