-- The checks of a factorization, step by step.
use Rattle.std.specs.Prelude.{◌≡◌, ℕ, ◌+◌, ◌-◌, ◌<◌, ◌≤◌, ◌⊎◌, Bool, true, false, ◌&&◌, ◌||◌, nat_lt, nat_eq, int_lt, ℤ, pos, ◌*ℤ◌, List, [], ◌∷◌, ◌++◌, length}
use Rattle.std.specs.Prelude.{take, Some, None, Result, Ok, Err, slice_index_or, slice_get}
use Rattle.std.proofs.Common.{arith, sym, ◌∙◌, ap, ap₂, refl, inl, inr}
use Rattle.std.specs.Int.{w128}
use Rattle.std.proofs.Common.{to_z, mul-le-mul}
use Rattle.std.proofs.lemmas.Int.{ints, to_z_pos}
use Rattle.std.specs.Prelude.{◌*◌, ◌^◌}
use Rattle.std.specs.List.{All}
use Rattle.std.proofs.lemmas.List.{take_more, take_all}
use Rattle.std.proofs.lemmas.List.Elements.{All-get_or}
use Rattle.std.proofs.lemmas.Option.{get_or_from_slice_get}
use Rattle.commutative_ring.proofs.SmallCases.{both_true}
use Rattle.symmetric_matrix.specs.Symmetric.{FitsInt}
use Rattle.exact_forms.specs.Vectors.{coordinate}
use Rattle.exact_forms.specs.Rational.{Rational, whole, ◌+ℚ◌, ◌*ℚ◌}
use Rattle.exact_forms.specs.Vectors.{ComesBefore}
use Rattle.exact_forms.specs.Factors.{WeightedVector, weighted_sum}
use Rattle.exact_forms.proofs.Factors.{weighted_sum-nil, weighted_sum_push}
use Rattle.symmetric_matrix.specs.declared.operation.IntOp.{IntOp}
use Rattle.symmetric_matrix.specs.Owed.{answer, first_owed}
use Rattle.symmetric_matrix.specs.Operations.{is_owed}
use Rattle.symmetric_matrix.proofs.Owed.{none_of_ok, some_of_err, answer-append_err, answer-append_ok}
use Rattle.fraction128.specs.Recipes.{mul_ops, add_ops}
use Rattle.matrix_text.specs.RationalMatrix.{RationalMatrix, rational_entry}
use Rattle.matrix_text.specs.Matrix.{same_number}
use Rattle.certificate_checker.specs.declared.checked.Checked.{Checked}
use Rattle.certificate_checker.specs.declared.checked.Checked.TheVariants.{BadTerm, SumDiffers, Wide}
use Rattle.certificate_checker.specs.Checks.{Check, test, first_refusal}
use Rattle.certificate_checker.specs.Loops.{steps, by_places}
use Rattle.certificate_checker.specs.Terms.{comes_before, has_place, term_at, is_good_term, order_checks, outer_entry, weighted_step, sum_checks, factor_checks}
use Rattle.certificate_checker.proofs.Loops.{loop_start, loop_refused, loop_more}
use Rattle.certificate_checker.proofs.Checks.{refusal-append_some, refusal-append_none, made_then, made_then_refused, test_passes, test_fails}

-- ---- the order of the terms
pub before_is : (x y : List ℕ) → ComesBefore x y → comes_before x y ≡ true
unfolding comes_before
before_is [] y h = absurd h
before_is (a ∷ x) [] h = absurd h
before_is (a ∷ x) (b ∷ y) (inl l) = let t : nat_lt a b ≡ true = grind arith in ap (λ (t : Bool). t || (nat_eq a b && comes_before x y)) t
before_is (a ∷ x) (b ∷ y) (inr h) =
    let t : nat_eq a b ≡ true = let e = h.0 in grind arith in
    ap₂ (λ (t : Bool) (u : Bool). nat_lt a b || (t && u)) t (before_is x y h.1) ∙ either (nat_lt a b)
  where
    either : (t : Bool) → (t || true) ≡ true
    either true = refl
    either false = refl

pub is_before : (x y : List ℕ) → comes_before x y ≡ true → ComesBefore x y
unfolding comes_before
is_before [] y h = absurd cc
is_before (a ∷ x) [] h = absurd cc
is_before (a ∷ x) (b ∷ y) h = by (nat_lt a b) refl h (is_before x y)
  where
    by : (t : Bool) → nat_lt a b ≡ t → (t || (nat_eq a b && comes_before x y)) ≡ true → (comes_before x y ≡ true → ComesBefore x y)
        → (a < b) ⊎ ((a ≡ b) × ComesBefore x y)
    by true e h rec = inl (let l : a < b = grind arith in l)
    by false e h rec = let p = both_true (nat_eq a b) (comes_before x y) h in inr (let q = p.0 in let same : a ≡ b = grind arith in same, rec p.1)

pub not_before : (x y : List ℕ) → (ComesBefore x y → ⊥) → false ≡ comes_before x y
not_before x y h = by (comes_before x y) refl
  where
    by : (b : Bool) → comes_before x y ≡ b → false ≡ comes_before x y
    by true e = absurd (h (is_before x y e))
    by false e = sym e

-- ---- a good term
pub weight_fails : (terms : List WeightedVector) (k : ℕ) (t : WeightedVector) → term_at terms k ≡ t → int_lt (pos 0) t.weight.num ≡ false
    → false ≡ is_good_term terms k
unfolding is_good_term
weight_fails terms k t e h = rw (e, h) refl

pub vector_fails : (terms : List WeightedVector) (k : ℕ) (t : WeightedVector) → term_at terms k ≡ t → has_place t.vector ≡ false → false ≡ is_good_term terms k
unfolding is_good_term
vector_fails terms k t e h = rw (e, h) (nothing (int_lt (pos 0) t.weight.num))
  where
    nothing : (b : Bool) → false ≡ ((b && false) && (nat_eq k 0 || comes_before (term_at terms (k - 1)).vector t.vector))
    nothing true = refl
    nothing false = refl

pub first_is_good : (terms : List WeightedVector) (k : ℕ) (t : WeightedVector) → term_at terms k ≡ t → int_lt (pos 0) t.weight.num ≡ true
    → has_place t.vector ≡ true → k ≡ 0 → true ≡ is_good_term terms k
unfolding is_good_term
first_is_good terms k t e h v z = let b : nat_eq k 0 ≡ true = grind arith in rw (e, h, v, b) refl

pub later_is_good : (terms : List WeightedVector) (k : ℕ) (t u : WeightedVector) → term_at terms k ≡ t → term_at terms (k - 1) ≡ u
    → int_lt (pos 0) t.weight.num ≡ true → has_place t.vector ≡ true → (k ≡ 0 → ⊥)
    → comes_before u.vector t.vector ≡ is_good_term terms k
unfolding is_good_term
later_is_good terms k t u e f h v z = let b : nat_eq k 0 ≡ false = grind arith in rw (e, f, h, v, b) refl

abbrev pub order_step : List WeightedVector → ℕ → List Check
order_step terms k = test (BadTerm (k + 1)) (is_good_term terms k) ∷ []

pub order_checks_are : (terms : List WeightedVector) → order_checks terms ≡ steps (order_step terms) (length terms)
unfolding order_checks
order_checks_are terms = refl

-- ---- the sum at a place
pub sum_starts : (terms : List WeightedVector) (i j : ℕ) → (first_owed is_owed (steps (weighted_step terms i j) 0) ≡ None)
    × (whole (pos 0) ≡ weighted_sum (take 0 terms) i j)
sum_starts terms i j = (loop_start is_owed (weighted_step terms i j), sym (weighted_sum-nil i j))

abbrev pub added : List WeightedVector → ℕ → ℕ → ℕ → Rational → List IntOp
added terms i j k s = mul_ops (term_at terms k).weight (outer_entry (term_at terms k) i j)
    ++ add_ops s ((term_at terms k).weight *ℚ outer_entry (term_at terms k) i j)

abbrev term_added : List WeightedVector → ℕ → ℕ → ℕ → Rational → Result Rational IntOp
term_added terms i j k s = answer is_owed (added terms i j k s) (s +ℚ (term_at terms k).weight *ℚ outer_entry (term_at terms k) i j)

pub sum_goes_on : (terms : List WeightedVector) (i j k : ℕ) (s z : Rational) → k < length terms → s ≡ weighted_sum (take k terms) i j
    → first_owed is_owed (steps (weighted_step terms i j) k) ≡ None
    → term_added terms i j k s ≡ Ok z
    → (first_owed is_owed (steps (weighted_step terms i j) (k + 1)) ≡ None) × (z ≡ weighted_sum (take (k + 1) terms) i j)
sum_goes_on terms i j k s z l e before here =
    let r = none_of_ok is_owed (added terms i j k s) (s +ℚ (term_at terms k).weight *ℚ outer_entry (term_at terms k) i j) z here in (
      loop_more is_owed (weighted_step terms i j) k before (ap (λ (s : Rational). first_owed is_owed (added terms i j k s)) (sym e) ∙ r.0),
      sym r.1 ∙ ap (λ (s : Rational). s +ℚ (term_at terms k).weight *ℚ outer_entry (term_at terms k) i j) e
          ∙ sym (weighted_sum_push (take k terms) (term_at terms k) i j) ∙ ap (λ (ts : List WeightedVector). weighted_sum ts i j) (sym (take_more terms k _ l)),
    )

pub sum_refused : (terms : List WeightedVector) (i j k : ℕ) (s : Rational) (op : IntOp) → k < length terms → s ≡ weighted_sum (take k terms) i j
    → first_owed is_owed (steps (weighted_step terms i j) k) ≡ None
    → term_added terms i j k s ≡ Err op
    → first_owed is_owed (steps (weighted_step terms i j) (length terms)) ≡ Some op
sum_refused terms i j k s op l e before here =
    loop_refused is_owed (weighted_step terms i j) (length terms) k op l before
    (ap (λ (s : Rational). first_owed is_owed (added terms i j k s)) (sym e)
    ∙ some_of_err is_owed (added terms i j k s) (s +ℚ (term_at terms k).weight *ℚ outer_entry (term_at terms k) i j) op here)

pub sum_ends : (terms : List WeightedVector) (i j k : ℕ) (s : Rational) → length terms ≤ k → s ≡ weighted_sum (take k terms) i j → s ≡ weighted_sum terms i j
sum_ends terms i j k s l e = e ∙ ap (λ (ts : List WeightedVector). weighted_sum ts i j) (take_all k terms l)

-- ---- the product of two coordinates
pub square_fits : (x : List ℕ) (i j a b : ℕ) → a ≡ slice_index_or x (i + 1 - 1) 0 → b ≡ slice_index_or x (j + 1 - 1) 0 → a ≤ 2 ^ 62 → b ≤ 2 ^ 62
    → (to_z w128 (a * b) ≡ coordinate x i *ℤ coordinate x j) × FitsInt (to_z w128 (a * b))
square_fits x i j a b ea eb sa sb =
    let at_i : i + 1 - 1 ≡ i = omega arith in
    let at_j : j + 1 - 1 ≡ j = omega arith in
    let product : a * b ≤ 2 ^ 62 * 2 ^ 62 = mul-le-mul sa sb in
    let read : to_z w128 (a * b) ≡ pos (a * b) = to_z_pos w128 (a * b) (omega arith) in (
      read ∙ ap₂ (λ (m : ℕ) (n : ℕ). pos (m * n)) (ea ∙ ap (λ (k : ℕ). slice_index_or x k 0) at_i) (eb ∙ ap (λ (k : ℕ). slice_index_or x k 0) at_j),
      narrow (to_z w128 (a * b)) (a * b) read (omega arith),
    )
  where
    narrow : (z : ℤ) (m : ℕ) → z ≡ pos m → m ≤ 2 ^ 124 → FitsInt z
    narrow z m e h = omega (arith, ints)

-- ---- a term added
pub add_refused : (terms : WeightedVector) (i j : ℕ) (s : Rational) (op : IntOp)
    → answer is_owed (mul_ops terms.weight (outer_entry terms i j)) (terms.weight *ℚ outer_entry terms i j) ≡ Err op
    → answer is_owed (mul_ops terms.weight (outer_entry terms i j) ++ add_ops s (terms.weight *ℚ outer_entry terms i j))
    (s +ℚ terms.weight *ℚ outer_entry terms i j) ≡ Err op
add_refused t i j s op h =
    answer-append_err is_owed (mul_ops t.weight (outer_entry t i j)) (add_ops s (t.weight *ℚ outer_entry t i j)) (t.weight *ℚ outer_entry t i j)
    (s +ℚ t.weight *ℚ outer_entry t i j) op h

pub add_goes_on : (t : WeightedVector) (i j : ℕ) (s product : Rational)
    → answer is_owed (mul_ops t.weight (outer_entry t i j)) (t.weight *ℚ outer_entry t i j) ≡ Ok product
    → answer is_owed (add_ops s product) (s +ℚ product)
    ≡ answer is_owed (mul_ops t.weight (outer_entry t i j) ++ add_ops s (t.weight *ℚ outer_entry t i j)) (s +ℚ t.weight *ℚ outer_entry t i j)
add_goes_on t i j s product h =
    let r = answer-append_ok is_owed (mul_ops t.weight (outer_entry t i j)) (add_ops s (t.weight *ℚ outer_entry t i j)) (t.weight *ℚ outer_entry t i j) product
    (s +ℚ t.weight *ℚ outer_entry t i j) h in
    ap (λ (p : Rational). answer is_owed (add_ops s p) (s +ℚ p)) (sym r.1) ∙ sym r.0

-- ---- the checks of a place
pub place_passes : (a : RationalMatrix) (terms : List WeightedVector) (i j : ℕ) → first_owed is_owed (steps (weighted_step terms i j) (length terms)) ≡ None
    → same_number (weighted_sum terms i j) (rational_entry a i j) ≡ true → first_refusal (sum_checks a terms i j) ≡ None
unfolding sum_checks first_refusal
place_passes a terms i j fits same = made_then (steps (weighted_step terms i j) (length terms)) _ fits ∙ test_passes (SumDiffers (i + 1) (j + 1)) _ [] same

pub place_differs : (a : RationalMatrix) (terms : List WeightedVector) (i j : ℕ) → first_owed is_owed (steps (weighted_step terms i j) (length terms)) ≡ None
    → same_number (weighted_sum terms i j) (rational_entry a i j) ≡ false → first_refusal (sum_checks a terms i j) ≡ Some (SumDiffers (i + 1) (j + 1))
unfolding sum_checks
place_differs a terms i j fits same = made_then (steps (weighted_step terms i j) (length terms)) _ fits ∙ test_fails (SumDiffers (i + 1) (j + 1)) _ [] same

pub place_wide : (a : RationalMatrix) (terms : List WeightedVector) (i j : ℕ) (op : IntOp)
    → first_owed is_owed (steps (weighted_step terms i j) (length terms)) ≡ Some op
    → first_refusal (sum_checks a terms i j) ≡ Some (Wide op)
unfolding sum_checks
place_wide a terms i j op wide = made_then_refused (steps (weighted_step terms i j) (length terms)) _ op wide

-- ---- all of them
pub order_refused : (a : RationalMatrix) (terms : List WeightedVector) (r : Checked) → first_refusal (order_checks terms) ≡ Some r
    → first_refusal (factor_checks a terms) ≡ Some r
unfolding factor_checks
order_refused a terms r h = refusal-append_some (order_checks terms) (by_places a.size (sum_checks a terms)) r h

pub order_then : (a : RationalMatrix) (terms : List WeightedVector) → first_refusal (order_checks terms) ≡ None
    → first_refusal (factor_checks a terms) ≡ first_refusal (by_places a.size (sum_checks a terms))
unfolding factor_checks
order_then a terms h = refusal-append_none (order_checks terms) (by_places a.size (sum_checks a terms)) h

pub sized_at : (n : ℕ) (terms : List WeightedVector) (k : ℕ) (t : WeightedVector) → All (λ t. length t.vector ≡ n) terms → k < length terms
    → slice_get terms k ≡ Some t → (length t.vector ≡ n) × (term_at terms k ≡ t)
sized_at n terms k t sized l e =
    let same : term_at terms k ≡ t = get_or_from_slice_get terms k t _ e in (
      ap (λ (u : WeightedVector). length u.vector) (sym same)
          ∙ All-get_or (λ (t : WeightedVector). length t.vector ≡ n) terms k (record { weight = whole (pos 0); vector = [] }) l sized,
      same,
    )
