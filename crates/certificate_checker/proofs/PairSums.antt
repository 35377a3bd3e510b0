-- The sum ⟨W,A⟩ over the lower triangle, step by step.
use Rattle.std.specs.Prelude.{◌≡◌, ℕ, ◌+◌, ◌<◌, ◌≤◌, nat_lt, nat_abs, ◌^◌, ◌-◌, if◌then◌else◌, Bool, true, false, ℤ, pos, ◌*ℤ◌, [], ◌∷◌, ◌++◌, Some, None, Ok}
use Rattle.std.specs.Prelude.{Err}
use Rattle.std.proofs.Common.{arith, sym, ◌∙◌, ap, ap₂, refl, subst}
use Rattle.commutative_ring.proofs.Ring.{num, ◌⊕◌, ◌⊗◌, v0, v1, v2}
use Rattle.commutative_ring.proofs.SmallCases.{at_least_of_test}
use Rattle.exact_forms.specs.Rational.{Rational, whole, ◌+ℚ◌, ◌*ℚ◌}
use Rattle.exact_forms.specs.Sums.{sum_ℚ}
use Rattle.exact_forms.specs.Factors.{inner_ℚ}
use Rattle.exact_forms.proofs.Rational.{ring_ℚ, whole-mul}
use Rattle.exact_forms.proofs.RationalSums.{sum_ℚ-zero, sum_ℚ_more, sum_ℚ_same, mul-sum_ℚ}
use Rattle.exact_forms.proofs.Factors.{inner_ℚ_is}
use Rattle.exact_forms.proofs.Triangles.{entry_in_symmetric, sum_ℚ_by_triangle}
use Rattle.symmetric_matrix.specs.declared.operation.IntOp.{IntOp}
use Rattle.symmetric_matrix.specs.Owed.{answer, first_owed}
use Rattle.symmetric_matrix.specs.Operations.{is_owed, mul_op}
use Rattle.symmetric_matrix.specs.Symmetric.{Symmetric, entry, FitsInt}
use Rattle.symmetric_matrix.proofs.Owed.{none_of_ok, some_of_err, answer-append_err, answer-append_ok}
use Rattle.symmetric_matrix.proofs.Places.{entry_flip}
use Rattle.symmetric_matrix.proofs.TrianglePlaces.{multiplicity_on, multiplicity_beside}
pub use Rattle.symmetric_matrix.proofs.Narrow.{fits_as_kept as narrow_read}
use Rattle.fraction128.specs.Recipes.{mul_ops, add_ops}
use Rattle.matrix_text.specs.RationalMatrix.{RationalMatrix, rational_entry}
use Rattle.certificate_checker.specs.Loops.{steps, by_places}
use Rattle.certificate_checker.specs.Pairing.{often, multiple_entry, pair_at, sum_before, pair_step_from, pair_step, pair_ops}
use Rattle.certificate_checker.proofs.Loops.{loop_refused, loop_more}

pub rational_entry_flip : (a : RationalMatrix) (i j : ℕ) → rational_entry a i j ≡ rational_entry a j i
unfolding rational_entry
rational_entry_flip a i j = entry_in_symmetric (whole (pos 0)) a.lower i j

abbrev term : Symmetric → RationalMatrix → ℕ → ℕ → Rational
term w a i j = whole (entry w i j) *ℚ rational_entry a i j

pair_is : (w : Symmetric) (a : RationalMatrix) (i j : ℕ) → pair_at w a i j ≡ whole (often i j) *ℚ term w a i j
pair_is w a i j =
    ap (λ (x : Rational). rational_entry a i j *ℚ x) (whole-mul (often i j) (entry w i j))
    ∙ ring_ℚ (rational_entry a i j ∷ whole (often i j) ∷ whole (entry w i j) ∷ []) (v0 ⊗ (v1 ⊗ v2)) (v1 ⊗ (v2 ⊗ v0)) refl

row_is : (w : Symmetric) (a : RationalMatrix) (i : ℕ) → sum_ℚ (i + 1) (pair_at w a i) ≡ whole (pos 2) *ℚ sum_ℚ i (term w a i) +ℚ term w a i i
row_is w a i =
    sum_ℚ_more i (pair_at w a i)
    ∙ ap₂ (λ (x : Rational) (y : Rational). x +ℚ y)
    (sum_ℚ_same i (pair_at w a i) (λ j. whole (pos 2) *ℚ term w a i j) (λ j l. pair_is w a i j
    ∙ ap (λ (m : ℕ). whole (pos m) *ℚ term w a i j) (multiplicity_beside i j (omega arith)))
    ∙ sym (mul-sum_ℚ (whole (pos 2)) i (term w a i)))
    (pair_is w a i i ∙ ap (λ (m : ℕ). whole (pos m) *ℚ term w a i i) (multiplicity_on i) ∙ ring_ℚ (term w a i i ∷ []) (num (pos 1) ⊗ v0) v0 refl)

pub sum_is_pairing : (n : ℕ) (w : Symmetric) (a : RationalMatrix) → sum_before w a n 0 ≡ inner_ℚ n (entry w) (rational_entry a)
sum_is_pairing n w a =
    ap (λ (x : Rational). sum_ℚ n (λ k. sum_ℚ (k + 1) (pair_at w a k)) +ℚ x) (sum_ℚ-zero (pair_at w a n))
    ∙ ring_ℚ (sum_ℚ n (λ k. sum_ℚ (k + 1) (pair_at w a k)) ∷ []) (v0 ⊕ num (pos 0)) v0 refl
    ∙ sum_ℚ_same n (λ k. sum_ℚ (k + 1) (pair_at w a k)) (λ i. whole (pos 2) *ℚ sum_ℚ i (term w a i) +ℚ term w a i i) (λ i l. row_is w a i)
    ∙ sym (sum_ℚ_by_triangle n (term w a) (λ i j li lj. ap₂ (λ (x : ℤ) (y : Rational). whole x *ℚ y) (entry_flip w i j) (rational_entry_flip a i j)))
    ∙ sym (inner_ℚ_is n (entry w) (rational_entry a))

-- ---- steps
pub before_first : (w : Symmetric) (a : RationalMatrix) → whole (pos 0) ≡ sum_before w a 0 0
before_first w a =
    ring_ℚ [] (num (pos 0)) (num (pos 0) ⊕ num (pos 0)) refl
    ∙ sym (ap₂ (λ (x : Rational) (y : Rational). x +ℚ y) (sum_ℚ-zero (λ k. sum_ℚ (k + 1) (pair_at w a k))) (sum_ℚ-zero (pair_at w a 0)))

pub before_more : (w : Symmetric) (a : RationalMatrix) (i j : ℕ) → sum_before w a i j +ℚ pair_at w a i j ≡ sum_before w a i (j + 1)
before_more w a i j =
    let rows : Rational = sum_ℚ i (λ k. sum_ℚ (k + 1) (pair_at w a k)) in
    ring_ℚ (rows ∷ sum_ℚ j (pair_at w a i) ∷ pair_at w a i j ∷ []) ((v0 ⊕ v1) ⊕ v2) (v0 ⊕ (v1 ⊕ v2)) refl
    ∙ ap (λ (x : Rational). rows +ℚ x) (sym (sum_ℚ_more j (pair_at w a i)))

pub row_whole : (w : Symmetric) (a : RationalMatrix) (i : ℕ) → sum_before w a i (i + 1) ≡ sum_before w a (i + 1) 0
row_whole w a i =
    sym (sum_ℚ_more i (λ k. sum_ℚ (k + 1) (pair_at w a k)))
    ∙ ring_ℚ (sum_ℚ (i + 1) (λ k. sum_ℚ (k + 1) (pair_at w a k)) ∷ []) v0 (v0 ⊕ num (pos 0)) refl
    ∙ ap (λ (x : Rational). sum_ℚ (i + 1) (λ k. sum_ℚ (k + 1) (pair_at w a k)) +ℚ x) (sym (sum_ℚ-zero (pair_at w a (i + 1))))

-- an entry, read at a place that counts from 1
pub entry_from_one : (a : RationalMatrix) (i j : ℕ) (q : Rational) → q ≡ rational_entry a (i + 1 - 1) (j + 1 - 1) → q ≡ rational_entry a i j
entry_from_one a i j q e =
    let row : i + 1 - 1 ≡ i = omega arith in
    let column : j + 1 - 1 ≡ j = omega arith in
    e ∙ ap₂ (λ (k : ℕ) (l : ℕ). rational_entry a k l) row column

-- the operations at a place
pub pair_refused_first : (s : Rational) (w : Symmetric) (a : RationalMatrix) (i j : ℕ) (op : IntOp)
    → answer is_owed (mul_op (often i j) (entry w i j) ∷ []) (multiple_entry w i j) ≡ Err op
    → answer is_owed (pair_step_from s w a i j) (s +ℚ pair_at w a i j) ≡ Err op
pair_refused_first s w a i j op h =
    answer-append_err is_owed (mul_op (often i j) (entry w i j) ∷ []) (mul_ops (rational_entry a i j) (whole (multiple_entry w i j))
    ++ add_ops s (pair_at w a i j)) (multiple_entry w i j) (s +ℚ pair_at w a i j) op h

-- once the multiple is there, the product and the sum are left
multiple_done : (s : Rational) (w : Symmetric) (a : RationalMatrix) (i j : ℕ) (z : ℤ)
    → answer is_owed (mul_op (often i j) (entry w i j) ∷ []) (multiple_entry w i j) ≡ Ok z
    → (answer is_owed (pair_step_from s w a i j) (s +ℚ pair_at w a i j)
    ≡ answer is_owed (mul_ops (rational_entry a i j) (whole (multiple_entry w i j)) ++ add_ops s (pair_at w a i j)) (s +ℚ pair_at w a i j))
    × (multiple_entry w i j ≡ z)
multiple_done s w a i j z h =
    answer-append_ok is_owed (mul_op (often i j) (entry w i j) ∷ []) (mul_ops (rational_entry a i j) (whole (multiple_entry w i j))
    ++ add_ops s (pair_at w a i j)) (multiple_entry w i j) z (s +ℚ pair_at w a i j) h

pub pair_refused_second : (s : Rational) (w : Symmetric) (a : RationalMatrix) (i j : ℕ) (z : ℤ) (q : Rational) (op : IntOp)
    → answer is_owed (mul_op (often i j) (entry w i j) ∷ []) (multiple_entry w i j) ≡ Ok z → q ≡ rational_entry a i j
    → answer is_owed (mul_ops q (whole z)) (q *ℚ whole z) ≡ Err op → answer is_owed (pair_step_from s w a i j) (s +ℚ pair_at w a i j) ≡ Err op
pair_refused_second s w a i j z q op h e g =
    let r = multiple_done s w a i j z h in
    r.0 ∙ answer-append_err is_owed (mul_ops (rational_entry a i j) (whole (multiple_entry w i j))) (add_ops s (pair_at w a i j)) (pair_at w a i j)
    (s +ℚ pair_at w a i j) op
    (ap₂ (λ (x : Rational) (m : ℤ). answer is_owed (mul_ops x (whole m)) (x *ℚ whole m)) (sym e) r.1 ∙ g)

pub pair_goes_on : (s : Rational) (w : Symmetric) (a : RationalMatrix) (i j : ℕ) (z : ℤ) (q p : Rational)
    → answer is_owed (mul_op (often i j) (entry w i j) ∷ []) (multiple_entry w i j) ≡ Ok z → q ≡ rational_entry a i j
    → answer is_owed (mul_ops q (whole z)) (q *ℚ whole z) ≡ Ok p
    → answer is_owed (add_ops s p) (s +ℚ p) ≡ answer is_owed (pair_step_from s w a i j) (s +ℚ pair_at w a i j)
pair_goes_on s w a i j z q p h e g =
    let r = multiple_done s w a i j z h in
    let m = answer-append_ok is_owed (mul_ops (rational_entry a i j) (whole (multiple_entry w i j))) (add_ops s (pair_at w a i j)) (pair_at w a i j) p
    (s +ℚ pair_at w a i j)
    (ap₂ (λ (x : Rational) (m : ℤ). answer is_owed (mul_ops x (whole m)) (x *ℚ whole m)) (sym e) r.1 ∙ g) in
    ap (λ (x : Rational). answer is_owed (add_ops s x) (s +ℚ x)) (sym m.1) ∙ sym m.0 ∙ sym r.0

-- a row
pub row_goes_on : (w : Symmetric) (a : RationalMatrix) (i j : ℕ) (s z : Rational) → s ≡ sum_before w a i j
    → first_owed is_owed (steps (pair_step w a i) j) ≡ None
    → answer is_owed (pair_step_from s w a i j) (s +ℚ pair_at w a i j) ≡ Ok z
    → (first_owed is_owed (steps (pair_step w a i) (j + 1)) ≡ None) × (z ≡ sum_before w a i (j + 1))
row_goes_on w a i j s z e before here =
    let r = none_of_ok is_owed (pair_step_from s w a i j) (s +ℚ pair_at w a i j) z here in (
      loop_more is_owed (pair_step w a i) j before (ap (λ (s : Rational). first_owed is_owed (pair_step_from s w a i j)) (sym e) ∙ r.0),
      sym r.1 ∙ ap (λ (s : Rational). s +ℚ pair_at w a i j) e ∙ before_more w a i j,
    )

pub row_refused : (w : Symmetric) (a : RationalMatrix) (n i j : ℕ) (s : Rational) (op : IntOp) → j < n → s ≡ sum_before w a i j
    → first_owed is_owed (steps (pair_step w a i) j) ≡ None
    → answer is_owed (pair_step_from s w a i j) (s +ℚ pair_at w a i j) ≡ Err op → first_owed is_owed (steps (pair_step w a i) n) ≡ Some op
row_refused w a n i j s op l e before here =
    loop_refused is_owed (pair_step w a i) n j op l before (ap (λ (s : Rational). first_owed is_owed (pair_step_from s w a i j)) (sym e)
    ∙ some_of_err is_owed (pair_step_from s w a i j) (s +ℚ pair_at w a i j) op here)

pub pair_ops_are : (w : Symmetric) (a : RationalMatrix) → pair_ops w a ≡ by_places a.size (pair_step w a)
unfolding pair_ops
pair_ops_are w a = refl

pub narrow_of_ok : (x y z : ℤ) → answer is_owed (mul_op x y ∷ []) (x *ℤ y) ≡ Ok z → FitsInt z
unfolding answer
narrow_of_ok x y z h = by (nat_lt (2 ^ 127 - 1) (nat_abs (x *ℤ y))) refl h
  where
    by : (b : Bool) → nat_lt (2 ^ 127 - 1) (nat_abs (x *ℤ y)) ≡ b → (if b then Err (mul_op x y) else Ok (x *ℤ y)) ≡ Ok z → FitsInt z
    by true e h = absurd cc
    by false e h = let same : x *ℤ y ≡ z = cc in subst FitsInt same (at_least_of_test (2 ^ 127 - 1) (nat_abs (x *ℤ y)) e)
