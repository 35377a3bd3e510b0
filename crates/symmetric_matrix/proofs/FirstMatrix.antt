-- The first matrix of a walk: its entries, its values as sums of squares, its copositive minimum and its minimal vectors.
use Rattle.std.specs.Prelude.{◌≡◌, ◌≢◌, ℕ, zero, suc, ◌+◌, ◌<◌, ◌≤◌, ◌⊎◌, ℤ, pos, negsuc, nat_eq, nat_lt, nat_le, if◌then◌else◌, neg_ℤ, ◌+ℤ◌, ◌-ℤ◌, ◌*ℤ◌, ◌≤ℤ◌}
use Rattle.std.specs.Prelude.{List, [], ◌∷◌, ◌++◌, length, map, slice_index_or}
use Rattle.std.specs.List.{range_with_len}
use Rattle.std.proofs.Common.{arith, sym, ◌∙◌, ap, ap₂, refl, subst, inl, inr}
use Rattle.std.proofs.lemmas.Int.{ints}
use Rattle.std.proofs.lemmas.List.{append-nil, append_assoc, length-map, get_or-map, map-append}
use Rattle.std.proofs.lemmas.List.FromFn.{map-range_with_len_more}
use lib.IntN.{*ℤ_comm}
use Rattle.commutative_ring.proofs.Expand.{expand, linear, times_one}
use Rattle.commutative_ring.proofs.Laws.{neg_is_mul, zero_mul_ℤ}
use Rattle.commutative_ring.proofs.SmallCases.{at_least_or_at_most, below_or_not, low_or_positive, next_or_within, three_ways, zero_or_some}
use Rattle.exact_forms.specs.Sums.{sum_to}
use Rattle.exact_forms.specs.Forms.{form, unit_sum, mark_ℤ}
use Rattle.exact_forms.specs.Rational.{whole}
use Rattle.exact_forms.specs.Vectors.{coordinate}
use Rattle.exact_forms.specs.Copositive.{Matrix, Attains, IsMinimum, IsPerfect}
use Rattle.exact_forms.proofs.Sums.{sum_to-zero, sum_to-suc, sum_to_one}
use Rattle.exact_forms.proofs.Forms.{bilinear_is, form_same}
use Rattle.exact_forms.proofs.Order.{nonneg_square, mul_le_left}
use Rattle.exact_forms.proofs.Triangles.{triangle-suc, sum_by_triangle}
use Rattle.exact_forms.proofs.Vectors.{vector_decided}
use Rattle.exact_forms.proofs.Copositive.{minimum_same, minimum_divided}
use Rattle.exact_forms.proofs.Perfect.{perfect_from_units}
use Rattle.symmetric_matrix.specs.Symmetric.{IsLower, FitsInt, entry}
use Rattle.symmetric_matrix.specs.Recipes.{Place, row_places, triangle_places}
use Rattle.symmetric_matrix.specs.StartVectors.{Run, run_digit, run_vector, IsRunWithin, IsStartVector, start_list}
use Rattle.symmetric_matrix.specs.StartWeights.{start_coordinates}
use Rattle.symmetric_matrix.specs.FirstMatrix.{first_minimum, first_entry, first_matrix}
use Rattle.symmetric_matrix.proofs.Places.{entry_flip}
use Rattle.symmetric_matrix.proofs.Runs.{run_digit_same, run_digit_inside, run_digit_before, run_digit_after, length-run_vector, run_vector_at}
use Rattle.symmetric_matrix.proofs.Runs.{length-start_list, lists_start_vectors}
use Rattle.symmetric_matrix.proofs.TrianglePlaces.{place, triangle_places_none, triangle_places_more, length-triangle_places, placed_entry}
use Rattle.symmetric_matrix.proofs.Weights.{start_coordinates_write}

-- ---- the matrix with 2 on the diagonal and -1 beside it
abbrev chain : Matrix
chain i j = if nat_eq i j then pos 2 else (if nat_eq i (j + 1) then negsuc 0 else (if nat_eq j (i + 1) then negsuc 0 else pos 0))

chain_diagonal : (i : ℕ) → chain i i ≡ pos 2
chain_diagonal i = grind arith

chain_beside : (i : ℕ) → chain (suc i) i ≡ negsuc 0
chain_beside i = grind arith

chain_far : (i j : ℕ) → j < i → chain (suc i) j ≡ pos 0
chain_far i j l = grind arith

chain_symmetric : (i j : ℕ) → chain i j ≡ chain j i
chain_symmetric i j = grind arith

-- ---- its values: x_0² + (x_0 - x_1)² + .. + (x_{m-1} - x_m)² + x_m²
steps : (ℕ → ℤ) → ℕ → ℤ
steps x zero = x 0 *ℤ x 0
steps x (suc m) = steps x m +ℤ (x m -ℤ x (suc m)) *ℤ (x m -ℤ x (suc m))

steps-zero : (x : ℕ → ℤ) → steps x 0 ≡ x 0 *ℤ x 0
unfolding steps
steps-zero x = refl

steps-suc : (x : ℕ → ℤ) (m : ℕ) → steps x (suc m) ≡ steps x m +ℤ (x m -ℤ x (suc m)) *ℤ (x m -ℤ x (suc m))
unfolding steps
steps-suc x m = refl

abbrev chain_term : (ℕ → ℤ) → ℕ → ℕ → ℤ
chain_term x i j = chain i j *ℤ (x i *ℤ x j)

abbrev chain_row : (ℕ → ℤ) → ℕ → ℤ
chain_row x i = pos 2 *ℤ sum_to i (λ j. chain_term x i j) +ℤ chain_term x i i

row_is : (x : ℕ → ℤ) (m : ℕ) → chain_row x (suc m) ≡ pos 2 *ℤ neg_ℤ (x (suc m) *ℤ x m) +ℤ pos 2 *ℤ (x (suc m) *ℤ x (suc m))
row_is x m =
    ap₂ (λ (a : ℤ) (b : ℤ). pos 2 *ℤ a +ℤ b *ℤ (x (suc m) *ℤ x (suc m)))
    (sum_to_one (suc m) (λ j. chain_term x (suc m) j) m (omega arith) (λ j l ne. ap (λ (z : ℤ). z *ℤ (x (suc m) *ℤ x j)) (chain_far m j (omega arith))
    ∙ zero_mul_ℤ (x (suc m) *ℤ x j))
    ∙ ap (λ (z : ℤ). z *ℤ (x (suc m) *ℤ x m)) (chain_beside m) ∙ neg_is_mul (x (suc m) *ℤ x m))
    (chain_diagonal (suc m))

rows_are : (x : ℕ → ℤ) (m : ℕ) → sum_to (suc m) (λ i. chain_row x i) ≡ steps x m +ℤ x m *ℤ x m
rows_are x zero =
    sum_to-suc 0 (λ i. chain_row x i)
    ∙ ap₂ (λ (a : ℤ) (b : ℤ). a +ℤ (pos 2 *ℤ b +ℤ chain_term x 0 0)) (sum_to-zero (λ i. chain_row x i)) (sum_to-zero (λ j. chain_term x 0 j))
    ∙ ap (λ (z : ℤ). pos 0 +ℤ (pos 2 *ℤ pos 0 +ℤ z *ℤ (x 0 *ℤ x 0))) (chain_diagonal 0)
    ∙ plain (x 0 *ℤ x 0) ∙ ap (λ (z : ℤ). z +ℤ x 0 *ℤ x 0) (sym (steps-zero x))
  where
    plain : (s : ℤ) → pos 0 +ℤ (pos 2 *ℤ pos 0 +ℤ pos 2 *ℤ s) ≡ s +ℤ s
    plain s = let t : pos 2 *ℤ s ≡ s +ℤ s = simp expand in omega (arith, linear)
rows_are x (suc m) =
    sum_to-suc (suc m) (λ i. chain_row x i)
    ∙ ap₂ (λ (a : ℤ) (b : ℤ). a +ℤ b) (rows_are x m) (row_is x m)
    ∙ plain (steps x m) (x m) (x (suc m)) ∙ ap (λ (z : ℤ). z +ℤ x (suc m) *ℤ x (suc m)) (sym (steps-suc x m))
  where
    plain : (s a b : ℤ) → s +ℤ a *ℤ a +ℤ (pos 2 *ℤ neg_ℤ (b *ℤ a) +ℤ pos 2 *ℤ (b *ℤ b)) ≡ s +ℤ (a -ℤ b) *ℤ (a -ℤ b) +ℤ b *ℤ b
    plain s a b = simp expand (omega (arith, linear))

value_is : (m : ℕ) (x : ℕ → ℤ) → form (suc m) chain x ≡ steps x m +ℤ x m *ℤ x m
value_is m x =
    bilinear_is (suc m) chain x x
    ∙ sum_by_triangle (suc m) (λ i j. chain_term x i j) (λ i j li lj. ap₂ (λ (a : ℤ) (b : ℤ). a *ℤ b) (chain_symmetric i j) (*ℤ_comm (x i) (x j)))
    ∙ rows_are x m

-- ---- twice a coordinate is at most the value
over_square : (z : ℤ) → z ≤ℤ (z *ℤ z)
over_square z = by (low_or_positive z)
  where
    by : ((z ≤ℤ pos 0) ⊎ (pos 1 ≤ℤ z)) → z ≤ℤ (z *ℤ z)
    by (inl h) = let a = nonneg_square z in omega (arith, ints)
    by (inr h) = subst (λ (y : ℤ). y ≤ℤ (z *ℤ z)) (times_one z) (mul_le_left z (pos 1) z (omega (arith, ints)) h)

steps_over : (x : ℕ → ℤ) (m p : ℕ) → p ≤ m → (x p +ℤ x p) ≤ℤ (steps x m +ℤ x m)
steps_over x zero p h =
    let e : p ≡ 0 = omega arith in
    let a : x 0 ≤ℤ (x 0 *ℤ x 0) = over_square (x 0) in
    rw (e, steps-zero x) (omega (arith, linear))
steps_over x (suc m) p h = rw (steps-suc x m) (by (next_or_within p m h) (steps_over x m))
  where
    mirrored : (a b : ℤ) → (b -ℤ a) *ℤ (b -ℤ a) ≡ (a -ℤ b) *ℤ (a -ℤ b)
    mirrored a b = simp expand (omega (arith, linear))

    by : ((p ≡ suc m) ⊎ (p ≤ m)) → ((p : ℕ) → p ≤ m → (x p +ℤ x p) ≤ℤ (steps x m +ℤ x m))
        → (x p +ℤ x p) ≤ℤ (steps x m +ℤ (x m -ℤ x (suc m)) *ℤ (x m -ℤ x (suc m)) +ℤ x (suc m))
    by (inl e) before =
        let r : (x m +ℤ x m) ≤ℤ (steps x m +ℤ x m) = before m (omega arith) in
        let a : (x (suc m) -ℤ x m) ≤ℤ ((x m -ℤ x (suc m)) *ℤ (x m -ℤ x (suc m))) =
        subst (λ (z : ℤ). (x (suc m) -ℤ x m) ≤ℤ z) (mirrored (x m) (x (suc m))) (over_square (x (suc m) -ℤ x m)) in
        rw e (omega (arith, linear))
    by (inr l) before =
        let r : (x p +ℤ x p) ≤ℤ (steps x m +ℤ x m) = before p l in
        let a : (x m -ℤ x (suc m)) ≤ℤ ((x m -ℤ x (suc m)) *ℤ (x m -ℤ x (suc m))) = over_square (x m -ℤ x (suc m)) in
        omega (arith, linear)

value_over : (x : ℕ → ℤ) (m p : ℕ) → p ≤ m → (x p +ℤ x p) ≤ℤ (steps x m +ℤ x m *ℤ x m)
value_over x m p h =
    let r : (x p +ℤ x p) ≤ℤ (steps x m +ℤ x m) = steps_over x m p h in
    let a : x m ≤ℤ (x m *ℤ x m) = over_square (x m) in
    omega (arith, linear)

-- ---- what the steps up to a place amount to, for digits 0 and 1
-- no one so far; a run of ones up to here; a run that has ended; more than that
data Shape (x : ℕ → ℤ) (m : ℕ) : Type 0 where
  none : ((p : ℕ) → p ≤ m → x p ≡ pos 0) → steps x m ≡ pos 0 → Shape x m
  running : (r : Run) → r.first ≤ r.last → r.last ≡ m → ((p : ℕ) → p ≤ m → x p ≡ pos (run_digit r p)) → steps x m ≡ pos 1 → Shape x m
  ended : (r : Run) → r.first ≤ r.last → r.last < m → ((p : ℕ) → p ≤ m → x p ≡ pos (run_digit r p)) → steps x m ≡ pos 2 → Shape x m
  more : pos 3 ≤ℤ steps x m → Shape x m

abbrev IsDigit : ℤ → Type 0
IsDigit z = (z ≡ pos 0) ⊎ (z ≡ pos 1)

-- one digit more
extended : (x : ℕ → ℤ) (m : ℕ) (y : ℕ → ℤ) → ((p : ℕ) → p ≤ m → x p ≡ y p) → x (suc m) ≡ y (suc m) → (p : ℕ) → p ≤ suc m → x p ≡ y p
extended x m y before here p h = by (next_or_within p m h)
  where
    by : ((p ≡ suc m) ⊎ (p ≤ m)) → x p ≡ y p
    by (inl e) = ap x e ∙ here ∙ ap y (sym e)
    by (inr l) = before p l

step_to : (x : ℕ → ℤ) (m : ℕ) (s a b : ℤ) → steps x m ≡ s → x m ≡ a → x (suc m) ≡ b → steps x (suc m) ≡ s +ℤ (a -ℤ b) *ℤ (a -ℤ b)
step_to x m s a b e f g = steps-suc x m ∙ ap₂ (λ (s : ℤ) (d : ℤ). s +ℤ d *ℤ d) e (ap₂ (λ (a : ℤ) (b : ℤ). a -ℤ b) f g)

first_shape : (x : ℕ → ℤ) → IsDigit (x 0) → Shape x 0
first_shape x (inl e) = none (λ p h. let z : p ≡ 0 = omega arith in ap x z ∙ e) (steps-zero x ∙ ap (λ (z : ℤ). z *ℤ z) e)
first_shape x (inr e) =
    let r : Run = record { first = 0; last = 0 } in
    running r (omega arith) refl (λ p h. let z : p ≡ 0 = omega arith in ap x z ∙ e
    ∙ ap pos (sym (run_digit_inside r p (omega arith) (omega arith)))) (steps-zero x ∙ ap (λ (z : ℤ). z *ℤ z) e)

next_shape : (x : ℕ → ℤ) (m : ℕ) → Shape x m → IsDigit (x (suc m)) → Shape x (suc m)
next_shape x m (none zeros s) (inl e) = none (extended x m (λ p. pos 0) zeros e) (step_to x m (pos 0) (pos 0) (pos 0) s (zeros m (omega arith)) e)
next_shape x m (none zeros s) (inr e) =
    let r : Run = record { first = suc m; last = suc m } in
    running r (omega arith) refl
    (extended x m (λ p. pos (run_digit r p)) (λ p h. zeros p h ∙ ap pos (sym (run_digit_before r p (omega arith)))) (e
    ∙ ap pos (sym (run_digit_inside r (suc m) (omega arith) (omega arith)))))
    (step_to x m (pos 0) (pos 0) (pos 1) s (zeros m (omega arith)) e)
next_shape x m (running r o l digits s) (inl e) =
    ended r o (omega arith) (extended x m (λ p. pos (run_digit r p)) digits (e ∙ ap pos (sym (run_digit_after r (suc m) (omega arith)))))
    (step_to x m (pos 1) (pos 1) (pos 0) s (digits m (omega arith) ∙ ap pos (run_digit_inside r m (omega arith) (omega arith))) e)
next_shape x m (running r o l digits s) (inr e) =
    let longer : Run = record { first = r.first; last = suc m } in
    running longer (omega arith) refl
    (extended x m (λ p. pos (run_digit longer p)) (λ p h. digits p h ∙ ap pos (run_digit_same r longer p refl (omega arith) (omega arith)))
    (e ∙ ap pos (sym (run_digit_inside longer (suc m) (omega arith) (omega arith)))))
    (step_to x m (pos 1) (pos 1) (pos 1) s (digits m (omega arith) ∙ ap pos (run_digit_inside r m (omega arith) (omega arith))) e)
next_shape x m (ended r o l digits s) (inl e) =
    ended r o (omega arith) (extended x m (λ p. pos (run_digit r p)) digits (e ∙ ap pos (sym (run_digit_after r (suc m) (omega arith)))))
    (step_to x m (pos 2) (pos 0) (pos 0) s (digits m (omega arith) ∙ ap pos (run_digit_after r m l)) e)
next_shape x m (ended r o l digits s) (inr e) =
    more (rw (step_to x m (pos 2) (pos 0) (pos 1) s (digits m (omega arith) ∙ ap pos (run_digit_after r m l)) e) (omega (arith, ints)))
next_shape x m (more h) d =
    let q : pos 0 ≤ℤ ((x m -ℤ x (suc m)) *ℤ (x m -ℤ x (suc m))) = nonneg_square (x m -ℤ x (suc m)) in
    more (rw (steps-suc x m) (omega (arith, linear)))

shape : (x : ℕ → ℤ) (m : ℕ) → ((p : ℕ) → p ≤ m → IsDigit (x p)) → Shape x m
shape x zero h = first_shape x (h 0 (omega arith))
shape x (suc m) h = next_shape x m (shape x m (λ p l. h p (omega arith))) (h (suc m) (omega arith))

-- digits with the value 2 are those of a run
run_of_value : (x : ℕ → ℤ) (m : ℕ) → ((p : ℕ) → p ≤ m → IsDigit (x p)) → steps x m +ℤ x m *ℤ x m ≡ pos 2
    → (r : Run) × IsRunWithin (suc m) r × ((p : ℕ) → p ≤ m → x p ≡ pos (run_digit r p))
run_of_value x m digits value = by (shape x m digits)
  where
    by : Shape x m → (r : Run) × IsRunWithin (suc m) r × ((p : ℕ) → p ≤ m → x p ≡ pos (run_digit r p))
    by (none zeros s) =
        absurd (let e : pos 0 +ℤ pos 0 *ℤ pos 0 ≡ pos 2 = sym (ap₂ (λ (s : ℤ) (z : ℤ). s +ℤ z *ℤ z) s (zeros m (omega arith))) ∙ value in omega (arith, ints))
    by (running r o l ones s) = (r, record { ordered = o; inside = omega arith }, ones)
    by (ended r o l ones s) = (r, record { ordered = o; inside = omega arith }, ones)
    by (more h) = absurd (let q : pos 0 ≤ℤ (x m *ℤ x m) = nonneg_square (x m) in omega (arith, linear))

-- ---- the value of a run
abbrev digits_of : Run → ℕ → ℤ
digits_of r p = pos (run_digit r p)

abbrev ends_seen : Run → ℕ → ℤ
ends_seen r m = if nat_lt m r.first then pos 0 else (if nat_le m r.last then pos 1 else pos 2)

seen_before : (r : Run) (m : ℕ) → m < r.first → ends_seen r m ≡ pos 0
seen_before r m h = grind arith

seen_inside : (r : Run) (m : ℕ) → r.first ≤ m → m ≤ r.last → ends_seen r m ≡ pos 1
seen_inside r m h k = grind arith

seen_after : (r : Run) (m : ℕ) → r.first ≤ r.last → r.last < m → ends_seen r m ≡ pos 2
seen_after r m h k = grind arith

data Where (r : Run) (m : ℕ) : Type 0 where
  before : suc m < r.first → Where r m
  begins : suc m ≡ r.first → Where r m
  inside : r.first ≤ m → suc m ≤ r.last → Where r m
  ends : r.first ≤ m → m ≡ r.last → Where r m
  after : r.last < m → Where r m

where_is : (r : Run) (m : ℕ) → Where r m
where_is r m = by (three_ways (suc m) r.first) (three_ways m r.last)
  where
    by : ((suc m < r.first) ⊎ ((suc m ≡ r.first) ⊎ (r.first < suc m))) → ((m < r.last) ⊎ ((m ≡ r.last) ⊎ (r.last < m))) → Where r m
    by (inl h) k = before h
    by (inr (inl h)) k = begins h
    by (inr (inr h)) (inl k) = inside (omega arith) (omega arith)
    by (inr (inr h)) (inr (inl k)) = ends (omega arith) k
    by (inr (inr h)) (inr (inr k)) = after k

seen_more : (r : Run) (m : ℕ) → r.first ≤ r.last → Where r m → steps (digits_of r) m ≡ ends_seen r m → steps (digits_of r) (suc m) ≡ ends_seen r (suc m)
seen_more r m o (before h) s =
    step_to (digits_of r) m (pos 0) (pos 0) (pos 0) (s
    ∙ seen_before r m (omega arith)) (ap pos (run_digit_before r m (omega arith))) (ap pos (run_digit_before r (suc m) h))
    ∙ sym (seen_before r (suc m) h)
seen_more r m o (begins h) s =
    step_to (digits_of r) m (pos 0) (pos 0) (pos 1) (s
    ∙ seen_before r m (omega arith)) (ap pos (run_digit_before r m (omega arith))) (ap pos (run_digit_inside r (suc m) (omega arith) (omega arith)))
    ∙ sym (seen_inside r (suc m) (omega arith) (omega arith))
seen_more r m o (inside h k) s =
    step_to (digits_of r) m (pos 1) (pos 1) (pos 1) (s
    ∙ seen_inside r m h (omega arith)) (ap pos (run_digit_inside r m h (omega arith))) (ap pos (run_digit_inside r (suc m) (omega arith) k))
    ∙ sym (seen_inside r (suc m) (omega arith) k)
seen_more r m o (ends h k) s =
    step_to (digits_of r) m (pos 1) (pos 1) (pos 0) (s
    ∙ seen_inside r m h (omega arith)) (ap pos (run_digit_inside r m h (omega arith))) (ap pos (run_digit_after r (suc m) (omega arith)))
    ∙ sym (seen_after r (suc m) o (omega arith))
seen_more r m o (after k) s =
    step_to (digits_of r) m (pos 2) (pos 0) (pos 0) (s ∙ seen_after r m o k) (ap pos (run_digit_after r m k)) (ap pos (run_digit_after r (suc m) (omega arith)))
    ∙ sym (seen_after r (suc m) o (omega arith))

steps_of_run : (r : Run) (m : ℕ) → r.first ≤ r.last → steps (digits_of r) m ≡ ends_seen r m
steps_of_run r zero o = by (zero_or_some r.first)
  where
    by : ((r.first ≡ 0) ⊎ (0 < r.first)) → steps (digits_of r) 0 ≡ ends_seen r 0
    by (inl e) = steps-zero (digits_of r) ∙ ap (λ (n : ℕ). pos n *ℤ pos n) (run_digit_inside r 0 (omega arith) (omega arith))
        ∙ sym (seen_inside r 0 (omega arith) (omega arith))
    by (inr l) = steps-zero (digits_of r) ∙ ap (λ (n : ℕ). pos n *ℤ pos n) (run_digit_before r 0 l) ∙ sym (seen_before r 0 l)
steps_of_run r (suc m) o = seen_more r m o (where_is r m) (steps_of_run r m o)

value_of_run : (r : Run) (m : ℕ) → IsRunWithin (suc m) r → form (suc m) chain (digits_of r) ≡ pos 2
value_of_run r m within = value_is m (digits_of r) ∙ by (below_or_not r.last m)
  where
    by : ((r.last < m) ⊎ (m ≤ r.last)) → steps (digits_of r) m +ℤ digits_of r m *ℤ digits_of r m ≡ pos 2
    by (inl l) = ap₂ (λ (s : ℤ) (z : ℤ). s +ℤ z *ℤ z) (steps_of_run r m within.ordered ∙ seen_after r m within.ordered l) (ap pos (run_digit_after r m l))
    by (inr l) =
        let first : r.first ≤ m = omega (arith, within.ordered, within.inside) in
        ap₂ (λ (s : ℤ) (z : ℤ). s +ℤ z *ℤ z) (steps_of_run r m within.ordered ∙ seen_inside r m first l) (ap pos (run_digit_inside r m first l))

-- ---- the minimum
coordinate_of_run : (n : ℕ) (r : Run) (p : ℕ) → p < n → coordinate (run_vector n r) p ≡ digits_of r p
coordinate_of_run n r p l = ap pos (run_vector_at n r p l)

run_attains : (m : ℕ) (x : List ℕ) → IsStartVector (suc m) x → Attains (suc m) chain (pos 2) x
run_attains m x (r, within, e) = record {
  size = ap length e ∙ length-run_vector (suc m) r;
  nonzero = (
    r.first,
    omega (arith, within.ordered, within.inside),
    λ z. let one : coordinate x r.first ≡ pos 1 = ap (λ (x : List ℕ). coordinate x r.first) e
        ∙ coordinate_of_run (suc m) r r.first (omega (arith, within.ordered, within.inside))
        ∙ ap pos (run_digit_inside r r.first (omega arith) within.ordered) in omega (arith, ints),
  );
  value = ap (λ (x : List ℕ). form (suc m) chain (coordinate x)) e
      ∙ form_same (suc m) chain chain (coordinate (run_vector (suc m) r)) (digits_of r) (λ i j li lj. refl) (coordinate_of_run (suc m) r)
      ∙ value_of_run r m within;
}

attains_run : (m : ℕ) (x : List ℕ) → Attains (suc m) chain (pos 2) x → IsStartVector (suc m) x
attains_run m x h =
    let value : steps (coordinate x) m +ℤ coordinate x m *ℤ coordinate x m ≡ pos 2 = sym (value_is m (coordinate x)) ∙ h.value in
    let r = run_of_value (coordinate x) m
    (λ p l. digit (slice_index_or x p 0) (subst (λ (z : ℤ). (coordinate x p +ℤ coordinate x p) ≤ℤ z) value (value_over (coordinate x) m p l))) value in (
      r.0,
      r.1,
      vector_decided (suc m) x (run_vector (suc m) r.0) h.size (length-run_vector (suc m) r.0) (λ p l. r.2 p (omega arith)
          ∙ sym (coordinate_of_run (suc m) r.0 p l)),
    )
  where
    digit : (n : ℕ) → (pos n +ℤ pos n) ≤ℤ pos 2 → IsDigit (pos n)
    digit zero h = inl refl
    digit (suc zero) h = inr refl
    digit (suc (suc n)) h = absurd (omega (arith, ints))

chain_minimum : (m : ℕ) → IsMinimum (suc m) chain (pos 2) (start_list (suc m))
chain_minimum m = record {
  positive = omega (arith, ints);
  least = λ x size (p, l, ne). least x p l ne;
  some = λ e. let l = length-start_list (suc m) in let t = triangle-suc m in let z : length (start_list (suc m)) ≡ 0 = ap length e in omega arith;
  lists = record {
    each = λ x c. run_attains m x ((lists_start_vectors (suc m)).each x c);
    all = λ x h. (lists_start_vectors (suc m)).all x (attains_run m x h);
    increasing = (lists_start_vectors (suc m)).increasing;
  };
}
  where
    least : (x : List ℕ) (p : ℕ) → p < suc m → coordinate x p ≢ pos 0 → pos 2 ≤ℤ form (suc m) chain (coordinate x)
    least x p l ne =
        let h : (coordinate x p +ℤ coordinate x p) ≤ℤ (steps (coordinate x) m +ℤ coordinate x m *ℤ coordinate x m) =
        value_over (coordinate x) m p (omega arith) in
        rw (value_is m (coordinate x)) (over (slice_index_or x p 0) (steps (coordinate x) m +ℤ coordinate x m *ℤ coordinate x m) ne h)
      where
        over : (n : ℕ) (v : ℤ) → pos n ≢ pos 0 → (pos n +ℤ pos n) ≤ℤ v → pos 2 ≤ℤ v
        over zero v ne h = absurd (ne refl)
        over (suc n) v ne h = omega (arith, ints)

-- ---- the entries
first_entry_below : (n i j : ℕ) → j ≤ i → i < n → entry (first_matrix n) i j ≡ first_entry n (place i j)
unfolding first_matrix
first_entry_below n i j h l = placed_entry n (first_entry n) i j h l

chain_below : (n i j : ℕ) → n ≢ 1 → j ≤ i → first_entry n (place i j) ≡ chain i j
chain_below n i j ne h = grind arith

chain_entry : (n i j : ℕ) → n ≢ 1 → i < n → j < n → chain i j ≡ entry (first_matrix n) i j
chain_entry n i j ne li lj = by (at_least_or_at_most i j)
  where
    by : ((j ≤ i) ⊎ (i ≤ j)) → chain i j ≡ entry (first_matrix n) i j
    by (inl h) = sym (first_entry_below n i j h li ∙ chain_below n i j ne h)
    by (inr h) = chain_symmetric i j ∙ sym (entry_flip (first_matrix n) i j ∙ first_entry_below n j i h lj ∙ chain_below n j i ne h)

pub first_minimum_two : (n : ℕ) → n ≢ 1 → first_minimum n ≡ pos 2
first_minimum_two n ne = grind arith

pub first_is_minimum : (n : ℕ) → 1 ≤ n → IsMinimum n (entry (first_matrix n)) (first_minimum n) (start_list n)
first_is_minimum zero h = absurd (omega arith)
first_is_minimum (suc zero) h =
    minimum_divided 1 (pos 2) (entry (first_matrix 1)) (pos 1) (start_list 1) (omega (arith, ints))
    (minimum_same 1 chain (λ i j. pos 2 *ℤ entry (first_matrix 1) i j) (pos 2) (start_list 1) twice (chain_minimum 0))
  where
    twice : (i j : ℕ) → i < 1 → j < 1 → chain i j ≡ pos 2 *ℤ entry (first_matrix 1) i j
    twice zero zero li lj = sym (ap (λ (z : ℤ). pos 2 *ℤ z) (first_entry_below 1 0 0 (omega arith) (omega arith)))
    twice zero (suc j) li lj = absurd (omega arith)
    twice (suc i) j li lj = absurd (omega arith)
first_is_minimum (suc (suc m)) h =
    subst (λ (z : ℤ). IsMinimum (suc (suc m)) (entry (first_matrix (suc (suc m)))) z (start_list (suc (suc m))))
    (sym (first_minimum_two (suc (suc m)) (omega arith)))
    (minimum_same (suc (suc m)) chain (entry (first_matrix (suc (suc m)))) (pos 2) (start_list (suc (suc m)))
    (λ i j li lj. chain_entry (suc (suc m)) i j (omega arith) li lj) (chain_minimum (suc m)))

-- ---- the start vectors are perfect
pub start_list_is_perfect : (n : ℕ) → IsPerfect n (start_list n)
unfolding whole
start_list_is_perfect n =
    perfect_from_units n (start_list n) (λ a b. start_coordinates n (unit_sum a b) 1)
    (λ a b la lb. start_coordinates_write n (unit_sum a b) 1 (omega arith) (λ i j li lj. mirror (mark_ℤ a i) (mark_ℤ b j) (mark_ℤ b i) (mark_ℤ a j)))
  where
    mirror : (p q r s : ℤ) → p *ℤ q +ℤ r *ℤ s ≡ s *ℤ r +ℤ q *ℤ p
    mirror p q r s = simp expand (omega (arith, linear))

-- ---- the entries in a row
abbrev pub row_front : ℕ → ℕ → ℕ → List ℤ
row_front n i k = map (first_entry n) (map (place i) (range_with_len 0 k))

pub row_front_more : (n i k : ℕ) (front new : List ℤ) (z : ℤ) → new ≡ (front ++ row_front n i k) ++ z ∷ [] → z ≡ first_entry n (place i k)
    → new ≡ front ++ row_front n i (k + 1)
row_front_more n i k front new z e f =
    e ∙ append_assoc front (row_front n i k) (z ∷ [])
    ∙ ap (λ (zs : List ℤ). front ++ zs)
    (ap (λ (z : ℤ). row_front n i k ++ z ∷ []) f ∙ sym (map-append (first_entry n) (map (place i) (range_with_len 0 k)) (place i k ∷ []))
    ∙ ap (map (first_entry n)) (sym (map-range_with_len_more (place i) 0 k k (omega arith))))

pub row_front_whole : (n i k : ℕ) → k ≡ i + 1 → row_front n i k ≡ map (first_entry n) (row_places i)
unfolding row_places
row_front_whole n i k e = ap (row_front n i) e

pub rows_more : (n i : ℕ) (rows new : List ℤ) → rows ≡ map (first_entry n) (triangle_places i) → new ≡ rows ++ map (first_entry n) (row_places i)
    → new ≡ map (first_entry n) (triangle_places (i + 1))
rows_more n i rows new e f =
    f ∙ ap (λ (zs : List ℤ). zs ++ map (first_entry n) (row_places i)) e ∙ sym (map-append (first_entry n) (triangle_places i) (row_places i))
    ∙ ap (map (first_entry n)) (sym (triangle_places_more i))

pub first_minimum_cases : (n : ℕ) → (first_minimum n ≡ pos 1) ⊎ (first_minimum n ≡ pos 2)
first_minimum_cases n = grind arith

pub first_entry_cases : (n : ℕ) (c : Place) → (first_entry n c ≡ first_minimum n) ⊎ ((first_entry n c ≡ negsuc 0) ⊎ (first_entry n c ≡ pos 0))
first_entry_cases n c = grind arith

pub first_lower : (n : ℕ) (zs : List ℤ) → zs ≡ map (first_entry n) (triangle_places n) → IsLower n zs
first_lower n zs e = rw e record {
  entries = length-map (triangle_places n) (first_entry n) ∙ length-triangle_places n;
  fits = λ k l. small (slice_index_or (triangle_places n) k (place 0 0)) (slice_index_or (map (first_entry n) (triangle_places n)) k (pos 0))
      (get_or-map (first_entry n) (triangle_places n) k (place 0 0) (pos 0) (omega (arith, length-map (triangle_places n) (first_entry n))));
}
  where
    fits : (z : ℤ) → ((z ≡ pos 1) ⊎ (z ≡ pos 2)) ⊎ ((z ≡ negsuc 0) ⊎ (z ≡ pos 0)) → FitsInt z
    fits z (inl (inl e)) = rw e (omega arith)
    fits z (inl (inr e)) = rw e (omega arith)
    fits z (inr (inl e)) = rw e (omega arith)
    fits z (inr (inr e)) = rw e (omega arith)

    small : (c : Place) (z : ℤ) → z ≡ first_entry n c → FitsInt z
    small c z e = by (first_entry_cases n c) (first_minimum_cases n)
      where
        by : ((first_entry n c ≡ first_minimum n) ⊎ ((first_entry n c ≡ negsuc 0) ⊎ (first_entry n c ≡ pos 0)))
            → ((first_minimum n ≡ pos 1) ⊎ (first_minimum n ≡ pos 2)) → FitsInt z
        by (inl f) (inl g) = fits z (inl (inl (e ∙ f ∙ g)))
        by (inl f) (inr g) = fits z (inl (inr (e ∙ f ∙ g)))
        by (inr (inl f)) g = fits z (inr (inl (e ∙ f)))
        by (inr (inr f)) g = fits z (inr (inr (e ∙ f)))

pub first_matrix_is : (n : ℕ) (zs : List ℤ) → zs ≡ map (first_entry n) (triangle_places n) → record { size = n; lower = zs } ≡ first_matrix n
unfolding first_matrix
first_matrix_is n zs e = ap (λ (zs : List ℤ). record { size = n; lower = zs }) e

pub no_rows : (n : ℕ) → [] ≡ map (first_entry n) (triangle_places 0)
no_rows n = sym (ap (map (first_entry n)) triangle_places_none)

pub no_front : (n i : ℕ) (front : List ℤ) → front ≡ front ++ row_front n i 0
no_front n i front = sym (append-nil front)
