-- The matrix that is made is zero at the zeros, over 0 at the leaving vector, and primitive.
use Rattle.std.specs.Prelude.{◌≡◌, ◌≢◌, ℕ, ◌+◌, ◌*◌, ◌/◌, ◌<◌, ◌≤◌, ◌⊎◌, ℤ, pos, nat_abs, ◌*ℤ◌, ◌≤ℤ◌, true, List, [], ◌∷◌, length, get_or, slice_index_or, map}
use Rattle.std.specs.Prelude.{Option, Some, None}
use Rattle.std.proofs.Common.{arith, sym, ◌∙◌, ap, subst, refl, inl, inr}
use Rattle.std.proofs.lemmas.Int.{ints}
use Rattle.std.proofs.lemmas.List.{get_or-map}
use Rattle.std.proofs.Math.Nat.{div-mul_cancel}
use Prim.Native.Nat.{◌∣◌}
use lib.IntN.{*ℤ_comm}
use Rattle.commutative_ring.specs.Gcd.{divided}
use Rattle.commutative_ring.proofs.Ring.{num, ◌⊕◌, ◌⊗◌, v0, v1, v2}
use Rattle.commutative_ring.proofs.SmallCases.{at_least_one, at_least_or_below, same_of_test, test_of_same, zero_or_some}
use Rattle.exact_forms.specs.Forms.{form}
use Rattle.exact_forms.specs.Rational.{Rational, whole, inverse, ◌+ℚ◌, ◌*ℚ◌}
use Rattle.exact_forms.specs.Signs.{IsPositive}
use Rattle.exact_forms.specs.Vectors.{coordinate}
use Rattle.exact_forms.specs.Triangles.{triangle}
use Rattle.exact_forms.specs.Coordinates.{Columns, mark}
use Rattle.exact_forms.specs.Factors.{inner_ℚ}
use Rattle.exact_forms.specs.Neighbours.{IsRay}
use Rattle.exact_forms.specs.RankOne.{HasVectors}
use Rattle.exact_forms.proofs.Rational.{ring_ℚ, whole_same, whole-mul, mul-inverse, divided_times}
use Rattle.exact_forms.proofs.Signs.{whole_positive, of_whole_positive, positive_not_zero, positive_product, positive_inverse}
use Rattle.exact_forms.proofs.Factors.{inner_ℚ_whole, inner_ℚ_zero}
use Rattle.exact_forms.proofs.Forms.{form_is_inner}
use Rattle.exact_forms.proofs.Vectors.{all_from_places}
use Rattle.exact_forms.proofs.Coordinates.{basis_mark}
use Rattle.exact_forms.proofs.Slacks.{replaced_here, replaced_other}
use Rattle.exact_forms.proofs.Triangles.{entry_before}
use Rattle.symmetric_matrix.specs.Symmetric.{Symmetric, entry}
use Rattle.symmetric_matrix.specs.Divisors.{divisor_from}
use Rattle.symmetric_matrix.proofs.Divisors.{divisor_is_greatest}
use Rattle.symmetric_matrix.proofs.Places.{entry_lower, entry_flip}
use Rattle.exact_linear.specs.Tables.{Table, rows_of, basic_at, table_entry, first_place, or_zero, holds, row_of}
use Rattle.exact_linear.specs.Columns.{columns_of}
use Rattle.exact_linear.proofs.SoFar.{IsFirstSoFar}
use Rattle.exact_linear.proofs.Places.{first_found, first_none}
use Rattle.exact_linear.proofs.Spanning.{at_unit, at_unit_symmetric, ray_value}
use Rattle.exact_linear.specs.Squares.{name_at, squares, vector_at, named}
use Rattle.exact_linear.proofs.SquareLists.{length-squares}
use Rattle.exact_linear.proofs.FirstTables.{IsFirstTable, first_tables, start_first}
use Rattle.extreme_ray.specs.declared.clearing.Coefficient.{Coefficient}
use Rattle.extreme_ray.specs.Clearing.{denominator_over, numerator, cleared_coefficients}
use Rattle.extreme_ray.specs.Rays.{ray_names, position, vector_size, ray_start, ray_table, ray_row, coefficient_at, ray_coefficients, ray, IsRayBasis}
use Rattle.extreme_ray.specs.Rays.{IsPrimitiveRay}
use Rattle.symmetric_matrix.specs.Combining.{primitive_of}
use Rattle.symmetric_matrix.proofs.Primitives.{parts_lowest}
use Rattle.exact_linear.proofs.UnitColumns.{place_low, unit_times, units_and_vectors, at_unit_is}
use Rattle.exact_linear.proofs.SquareColumns.{has_vectors_alone}
use Rattle.extreme_ray.proofs.Columns.{all_taken}
use Rattle.extreme_ray.proofs.Names.{named_at, named_length, name_within, names_independent, zero_found, leaving_found, zero_not_leaving}
use Rattle.extreme_ray.proofs.Cleared.{length-coefficients, coefficient_is, length-numerators, numerators_at, denominator_some, denominator_each}
use Rattle.extreme_ray.proofs.Cleared.{numerator_value}

-- the row of a column that is basic somewhere
pub record IsNamedRow (t : Table) (c i : ℕ) : Type 0 where
  pub within : i < rows_of t
  pub here : basic_at t i ≡ c

row_found : (t : Table) (c i : ℕ) → i < rows_of t → basic_at t i ≡ c → IsNamedRow t c (or_zero (row_of t c))
unfolding row_of
row_found t c i l e = by (first_place (holds t c) 0 (rows_of t)) refl
  where
    by : (o : Option ℕ) → first_place (holds t c) 0 (rows_of t) ≡ o → IsNamedRow t c (or_zero o)
    by (Some k) h = let f = first_found (holds t c) 0 (rows_of t) k h in
        record { within = let b = f.below in omega arith; here = same_of_test (basic_at t k) c f.passes }
    by None h = absurd (let f = first_none (holds t c) 0 (rows_of t) h i (omega arith) (omega arith) in let y = test_of_same (basic_at t i) c e in cc)

zero_divides : (g m : ℕ) → g ≡ 0 → g ∣ m → m ≡ 0
zero_divides g m e h = let q : m / g * g ≡ m = div-mul_cancel g h in none (m / g) g m e q
  where
    none : (x g m : ℕ) → g ≡ 0 → x * g ≡ m → m ≡ 0
    none x g m e q = let z : x * 0 ≡ m = subst (λ (g : ℕ). x * g ≡ m) e q in omega arith

module _ (vectors : List (List ℕ)) (zeros : List ℕ) (l : ℕ) (B : IsRayBasis (vector_size vectors l) vectors zeros l)
    (sizes : (k : ℕ) → k < length vectors → length (vector_at vectors k) ≡ vector_size vectors l) where
  abbrev n : ℕ
  n = vector_size vectors l

  abbrev names : List ℕ
  names = ray_names vectors zeros l

  abbrev vs : List (List ℕ)
  vs = named vectors (ray_names vectors zeros l)

  abbrev low : ℕ
  low = triangle (vector_size vectors l)

  abbrev A : Columns
  A = columns_of (vector_size vectors l) (squares (named vectors (ray_names vectors zeros l)))

  abbrev t : Table
  t = ray_table vectors zeros l

  count : A.count ≡ low + length vs + 1
  count = let a = length-squares vs in omega arith

  vs_sizes : (k : ℕ) → k < length vs → length (slice_index_or vs k []) ≡ n
  vs_sizes k h =
      let m = named_length vectors names in
      ap length (named_at vectors names k (omega arith)) ∙ sizes (name_at names k) (name_within n vectors zeros l B k (omega arith))

  V : HasVectors A low vs
  V = has_vectors_alone n vs vs_sizes

  F : IsFirstTable A low (low + length names) t
  F = first_tables A low (ray_start vectors zeros l) (length names) (start_first n (squares vs)) (let a = count in let m = named_length vectors names in
      omega arith)

  S : IsFirstSoFar A low (low + length vs) F.basis F.coord
  S = subst (λ (m : ℕ). IsFirstSoFar A low (low + m) F.basis F.coord) (sym (named_length vectors names)) F.first

  taken : (k : ℕ) → k < length vs → F.basis (low + k) ≡ true
  taken = all_taken A low vs V count (names_independent n vectors zeros l B) F.basis F.coord S

  abbrev place : ℕ
  place = position (ray_names vectors zeros l) l

  place_within : place < length vs
  place_within = let p = (leaving_found n vectors zeros l B).within in let m = named_length vectors names in omega arith

  column_within : (k : ℕ) → k < length vs → low + k < A.count
  column_within k h = let a = count in omega arith

  row_is : IsNamedRow t (low + place) (ray_row vectors zeros l)
  row_is = let e = F.shown.every (low + place) (column_within place place_within) (taken place place_within) in row_found t (low + place) e.0 e.1 e.2

  pub row_within : ray_row vectors zeros l < rows_of t
  row_within = row_is.within

  row_entry : (j : ℕ) → j < A.count → table_entry t (ray_row vectors zeros l) j ≡ F.coord j (low + place)
  row_entry j h = F.shown.entry (ray_row vectors zeros l) j row_is.within h ∙ ap (F.coord j) row_is.here

  -- ---- a matrix whose entries are multiples of the coordinates at the leaving vector
  module _ (xs : List ℤ) (ε : Rational) (positive : IsPositive ε)
      (entries : (a b : ℕ) → b ≤ a → a < n
      → whole (slice_index_or xs (triangle a + b) (pos 0)) ≡ ε *ℚ (unit_times a b *ℚ F.coord (triangle a + b) (low + place))) where
    abbrev q : Symmetric
    q = record { size = vector_size vectors l; lower = xs }

    lower_entry : (i j : ℕ) → j ≤ i → i < n
        → whole (entry q i j) ≡ ε *ℚ at_unit A low vs (units_and_vectors n (squares vs) vs V) F.basis F.coord F.first.basis (low + place) i j
    lower_entry i j h li =
        ap whole (entry_lower q i j h) ∙ entries i j h li
        ∙ ap (λ (k : ℕ). ε *ℚ (unit_times i j *ℚ F.coord k (low + place))) (sym (place_low i j h))
        ∙ ap (λ w. ε *ℚ w) (sym (at_unit_is n (squares vs) vs V F.basis F.coord F.first.basis (low + place) i j))

    each_entry : (i j : ℕ) → i < n → j < n
        → whole (entry q i j) ≡ ε *ℚ at_unit A low vs (units_and_vectors n (squares vs) vs V) F.basis F.coord F.first.basis (low + place) i j
    each_entry i j li lj = by (at_least_or_below i j)
      where
        by : ((j ≤ i) ⊎ (i < j))
            → whole (entry q i j) ≡ ε *ℚ at_unit A low vs (units_and_vectors n (squares vs) vs V) F.basis F.coord F.first.basis (low + place) i j
        by (inl h) = lower_entry i j h li
        by (inr h) = ap whole (entry_flip q i j) ∙ lower_entry j i (omega arith) lj
            ∙ ap (λ w. ε *ℚ w)
            (at_unit_symmetric A low vs (units_and_vectors n (squares vs) vs V) F.basis F.coord F.first.basis (low + place) j i
            (column_within place place_within) lj li)

    value_is : (k : ℕ) → k < length vs → inner_ℚ n (entry q) (A.entry (low + k)) ≡ whole (form n (entry q) (coordinate (slice_index_or vs k [])))
    value_is k h =
        inner_ℚ_whole n (entry q) (λ i j. coordinate (slice_index_or vs k []) i *ℤ coordinate (slice_index_or vs k []) j) (A.entry (low + k))
        (λ i j li lj. V.entry k i j h li lj)
        ∙ ap whole (sym (form_is_inner n (entry q) (coordinate (slice_index_or vs k []))))

    value_at : (k : ℕ) → k < length vs
        → whole (form n (entry q) (coordinate (slice_index_or vs k [])))
        ≡ ε *ℚ (F.coord (low + k) (low + place) +ℚ whole (pos 1) *ℚ F.coord (low + k) (low + place))
    value_at k h =
        sym (value_is k h)
        ∙ ray_value A low vs (units_and_vectors n (squares vs) vs V) F.basis F.coord F.first.basis (low + place) ε (entry q) (F.coord (low + k))
        (A.entry (low + k)) (column_within place place_within) each_entry
        (F.first.basis.written (low + k) (column_within k h))
        (λ a b la lb. V.entry k a b h la lb ∙ ap whole (*ℤ_comm (coordinate (slice_index_or vs k []) a) (coordinate (slice_index_or vs k []) b))
        ∙ sym (V.entry k b a h lb la))

    coordinate_is : (k : ℕ) → k < length vs → F.coord (low + k) (low + place) ≡ mark (low + k) (low + place)
    coordinate_is k h = basis_mark A F.basis F.coord F.first.basis (low + k) (column_within k h) (taken k h) (low + place) (column_within place place_within)

    at_other : (k : ℕ) → k < length vs → k ≢ place → form n (entry q) (coordinate (slice_index_or vs k [])) ≡ pos 0
    at_other k h ne = whole_same _ (pos 0) (
        value_at k h
        ∙ ap (λ y. ε *ℚ (y +ℚ whole (pos 1) *ℚ y)) (coordinate_is k h
        ∙ replaced_other (λ k. whole (pos 0)) (low + k) (whole (pos 1)) (low + place) (λ e. ne (omega arith)))
        ∙ ring_ℚ (ε ∷ []) (v0 ⊗ (num (pos 0) ⊕ num (pos 1) ⊗ num (pos 0))) (num (pos 0)) refl)

    at_place : pos 1 ≤ℤ form n (entry q) (coordinate (slice_index_or vs place []))
    at_place = of_whole_positive _ (subst IsPositive (sym (
        value_at place place_within
        ∙ ap (λ y. ε *ℚ (y +ℚ whole (pos 1) *ℚ y)) (coordinate_is place place_within
        ∙ replaced_here (λ k. whole (pos 0)) (low + place) (whole (pos 1)) (low + place) refl)
        ∙ ring_ℚ (ε ∷ []) (v0 ⊗ (num (pos 1) ⊕ num (pos 1) ⊗ num (pos 1))) (v0 ⊗ num (pos 2)) refl))
        (positive_product ε (whole (pos 2)) positive (whole_positive (pos 2) (omega (arith, ints)))))

    zero_at : (k : ℕ) → k < length zeros → form n (entry q) (coordinate (slice_index_or (named vectors zeros) k [])) ≡ pos 0
    zero_at k h =
        let p = zero_found n vectors zeros l B k h in
        let m = named_length vectors names in
        ap (λ (v : List ℕ). form n (entry q) (coordinate v)) (named_at vectors zeros k h ∙ ap (vector_at vectors) (sym p.2)
        ∙ sym (named_at vectors names p.0 p.1))
        ∙ at_other p.0 (let a = p.1 in omega arith)
        (λ e. zero_not_leaving n vectors zeros l B k h (sym p.2 ∙ ap (name_at names) e ∙ (leaving_found n vectors zeros l B).here))

    matrix_is_ray : IsRay n (named vectors zeros) (vector_at vectors l) (entry q)
    matrix_is_ray = record {
      symmetric = λ i j li lj. entry_flip q i j;
      at_zeros = all_from_places (λ v. form n (entry q) (coordinate v) ≡ pos 0) (named vectors zeros)
          (λ k h. zero_at k (let m = named_length vectors zeros in omega arith));
      at_leaving = subst (λ (v : List ℕ). pos 1 ≤ℤ form n (entry q) (coordinate v)) (named_at vectors names place (leaving_found n vectors zeros l B).within
          ∙ ap (vector_at vectors) (leaving_found n vectors zeros l B).here) at_place;
    }

    -- it has an entry that is not 0
    some_entry : ((k : ℕ) → k < triangle n → slice_index_or xs k (pos 0) ≡ pos 0) → ⊥
    some_entry none =
        let z : form n (entry q) (coordinate (slice_index_or vs place [])) ≡ pos 0 =
        whole_same _ (pos 0) (sym (value_is place place_within)
        ∙ inner_ℚ_zero n (entry q) (A.entry (low + place)) (λ i j li lj. at_entry i j li lj (at_least_or_below i j))) in
        let p = at_place in
        not_both _ z p
      where
        not_both : (z : ℤ) → z ≡ pos 0 → pos 1 ≤ℤ z → ⊥
        not_both z e h = omega (arith, ints)

        at_entry : (i j : ℕ) → i < n → j < n → ((j ≤ i) ⊎ (i < j)) → entry q i j ≡ pos 0
        at_entry i j li lj (inl h) = entry_lower q i j h ∙ none (triangle i + j) (entry_before i j n h li)
        at_entry i j li lj (inr h) = entry_flip q i j ∙ entry_lower q j i (omega arith) ∙ none (triangle j + i) (entry_before j i n (omega arith) lj)

  -- ---- the numerators
  abbrev cs : List Coefficient
  cs = ray_coefficients vectors zeros l

  abbrev e : ℕ
  e = denominator_over 1 (ray_coefficients vectors zeros l)

  cs_length : length cs ≡ low
  cs_length = length-coefficients t (ray_row vectors zeros l) n

  pub cleared_length : length (cleared_coefficients cs) ≡ low
  cleared_length = length-numerators e cs ∙ cs_length

  e_positive : pos 1 ≤ℤ pos e
  e_positive = at_least_one e (denominator_some 1 cs (omega arith))

  cleared_entry : (a b : ℕ) → b ≤ a → a < n
      → whole (slice_index_or (cleared_coefficients cs) (triangle a + b) (pos 0)) ≡ whole (pos e) *ℚ (unit_times a b *ℚ F.coord (triangle a + b) (low + place))
  cleared_entry a b h la =
      let inside : triangle a + b < low = entry_before a b n h la in
      let d = coefficient_at t (ray_row vectors zeros l) a b in
      let len = cs_length in
      let is : get_or cs (triangle a + b) (coefficient_at t (ray_row vectors zeros l) a b) ≡ coefficient_at t (ray_row vectors zeros l) a b =
      coefficient_is t (ray_row vectors zeros l) n a b (coefficient_at t (ray_row vectors zeros l) a b) h la in
      ap whole (numerators_at e cs (triangle a + b) (coefficient_at t (ray_row vectors zeros l) a b) (omega arith))
      ∙ ap (λ (c : Coefficient). whole (numerator e c)) is
      ∙ numerator_value e (coefficient_at t (ray_row vectors zeros l) a b)
      (subst (λ (c : Coefficient). c.value.den ∣ e) is (denominator_each 1 cs (triangle a + b) (coefficient_at t (ray_row vectors zeros l) a b) (omega arith)))
      ∙ ap (λ w. whole (pos e) *ℚ (unit_times a b *ℚ w)) (row_entry (triangle a + b) (let c = count in omega arith))

  -- ---- over their common divisor
  abbrev g : ℕ
  g = divisor_from 0 (cleared_coefficients (ray_coefficients vectors zeros l))

  divides_each : (k : ℕ) → k < low → g ∣ nat_abs (slice_index_or (cleared_coefficients cs) k (pos 0))
  divides_each k h = (divisor_is_greatest (cleared_coefficients cs)).divides k (pos 0) (let a = cleared_length in omega arith)

  pub divisor_some : 0 < g
  divisor_some = by (zero_or_some g)
    where
      abs_zero : (z : ℤ) → nat_abs z ≡ 0 → z ≡ pos 0
      abs_zero z h = omega (arith, ints)

      by : ((g ≡ 0) ⊎ (0 < g)) → 0 < g
      by (inr h) = h
      by (inl z) = absurd
          (some_entry (cleared_coefficients cs) (whole (pos e)) (whole_positive (pos e) e_positive) cleared_entry
          (λ k h. abs_zero _ (zero_divides g (nat_abs (slice_index_or (cleared_coefficients cs) k (pos 0))) z (divides_each k h))))

  pub divisor_not_zero : g ≢ 0
  divisor_not_zero e = let s = divisor_some in omega arith

  g_positive : IsPositive (whole (pos g))
  g_positive = whole_positive (pos g) (at_least_one g divisor_some)

  abbrev ε : Rational
  ε = whole (pos e) *ℚ inverse (whole (pos g)).num (whole (pos g)).den

  quotient_is : (z : ℤ) (y : Rational) → g ∣ nat_abs z → whole z ≡ whole (pos e) *ℚ y → whole (divided z g) ≡ ε *ℚ y
  quotient_is z y d h =
      let i = inverse (whole (pos g)).num (whole (pos g)).den in
      ring_ℚ (whole (divided z g) ∷ []) v0 (v0 ⊗ num (pos 1)) refl
      ∙ ap (λ w. whole (divided z g) *ℚ w) (sym (mul-inverse (whole (pos g)) (positive_not_zero (whole (pos g)) g_positive)))
      ∙ ring_ℚ (whole (divided z g) ∷ whole (pos g) ∷ inverse (whole (pos g)).num (whole (pos g)).den ∷ []) (v0 ⊗ (v1 ⊗ v2)) (v0 ⊗ v1 ⊗ v2) refl
      ∙ ap (λ w. w *ℚ inverse (whole (pos g)).num (whole (pos g)).den) (sym (whole-mul (divided z g) (pos g))
      ∙ ap whole (divided_times z g (div-mul_cancel g d)) ∙ h)
      ∙ ring_ℚ (whole (pos e) ∷ y ∷ inverse (whole (pos g)).num (whole (pos g)).den ∷ []) (v0 ⊗ v1 ⊗ v2) (v0 ⊗ v2 ⊗ v1) refl

  abbrev quotients : List ℤ
  quotients = map (λ z. divided z (divisor_from 0 (cleared_coefficients (ray_coefficients vectors zeros l))))
      (cleared_coefficients (ray_coefficients vectors zeros l))

  over_entry : (a b : ℕ) → b ≤ a → a < n
      → whole (slice_index_or quotients (triangle a + b) (pos 0)) ≡ ε *ℚ (unit_times a b *ℚ F.coord (triangle a + b) (low + place))
  over_entry a b h la =
      let inside : triangle a + b < low = entry_before a b n h la in
      let len = cleared_length in
      ap whole (get_or-map (λ (z : ℤ). divided z g) (cleared_coefficients cs) (triangle a + b) (pos 0) (pos 0) (omega arith))
      ∙ quotient_is (slice_index_or (cleared_coefficients cs) (triangle a + b) (pos 0)) (unit_times a b *ℚ F.coord (triangle a + b) (low + place))
      (divides_each (triangle a + b) inside) (cleared_entry a b h la)

  pub is_primitive_ray : IsPrimitiveRay (vector_size vectors l) (named vectors zeros) (vector_at vectors l) (ray vectors zeros l)
  unfolding ray primitive_of
  is_primitive_ray = record {
    size = refl;
    is_ray = matrix_is_ray quotients ε
        (positive_product (whole (pos e)) (inverse (whole (pos g)).num (whole (pos g)).den) (whole_positive (pos e) e_positive)
        (positive_inverse (whole (pos g)) g_positive)) over_entry;
    primitive = parts_lowest (cleared_coefficients cs) divisor_not_zero;
  }
