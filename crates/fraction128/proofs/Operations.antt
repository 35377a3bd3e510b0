-- An operation at the head of a list: what it answers where it fits, and where it does not.
use Rattle.std.specs.Prelude.{◌≡◌, ℕ, ◌-◌, ◌*◌, ◌^◌, ◌<◌, ◌≤◌, ◌↔◌, suc, ℤ, pos, negsuc, neg_ℤ, ◌-ℤ◌, ◌*ℤ◌, ◌≤ℤ◌, nat_abs, nat_lt, Bool, true, false, List, []}
use Rattle.std.specs.Prelude.{◌∷◌, Ok, Err, if◌then◌else◌}
use Rattle.std.proofs.Common.{arith, ◌∙◌, ap, refl, eqb, eqb-true, eq-eqb, to_z, of_z, to_z-of_z}
use Rattle.std.proofs.lemmas.Bool.Decides.{nat_tests}
use Rattle.std.proofs.lemmas.Int.{ints, unsigned_abs-mul, fits_signed_from_abs}
use Rattle.std.proofs.lemmas.Nat.{mul-le}
use mir.Syntax.{w64, w128}
use mir.Val.{SFits}
use Rattle.symmetric_matrix.specs.Owed.{answer}
use Rattle.symmetric_matrix.specs.Operations.{is_owed, exact_result, mul_op}
use Rattle.symmetric_matrix.specs.declared.operation.IntOp.{IntOp}

within : (n : ℕ) → n < 2 ^ 127 → nat_lt (2 ^ 127 - 1) n ≡ false
within n h = grind (arith, nat_tests)

pub beyond : (n : ℕ) → nat_lt (2 ^ 127 - 1) n ≡ false → n < 2 ^ 127
beyond n h = grind (arith, nat_tests)

-- what fits is passed over
pub passed_over : {V : Type 0} (op : IntOp) (ops : List IntOp) (v : V) → nat_abs (exact_result op) < 2 ^ 127
    → answer is_owed (op ∷ ops) v ≡ answer is_owed ops v
unfolding answer
passed_over op ops v h = ap (λ (b : Bool). if b then Err op else answer is_owed ops v) (within (nat_abs (exact_result op)) h)

pub one_fits : (op : IntOp) → nat_abs (exact_result op) < 2 ^ 127 → answer is_owed (op ∷ []) (exact_result op) ≡ Ok (exact_result op)
unfolding answer
one_fits op h = passed_over op [] (exact_result op) h

-- an operation that was made
pub record IsMade {V : Type 0} (op : IntOp) (n : ℤ) (ops : List IntOp) (v : V) : Type 0 where
  pub is : n ≡ exact_result op
  pub fits : nat_abs n < 2 ^ 127
  pub rest : answer is_owed (op ∷ ops) v ≡ answer is_owed ops v

pub made : {V : Type 0} (op : IntOp) (n : ℤ) (ops : List IntOp) (v : V) → answer is_owed (op ∷ []) (exact_result op) ≡ Ok n → IsMade op n ops v
unfolding answer
made {V} op n ops v h = by (is_owed op) refl h
  where
    by : (b : Bool) → is_owed op ≡ b → (if b then Err op else Ok (exact_result op)) ≡ Ok n → IsMade op n ops v
    by true e k = absurd cc
    by false e k =
        let is : n ≡ exact_result op = cc in
        let fits : nat_abs (exact_result op) < 2 ^ 127 = beyond (nat_abs (exact_result op)) e in
        record { is = is; fits = (rw is fits); rest = passed_over op ops v fits }

-- an operation that was refused
pub refused : {V : Type 0} (op err : IntOp) (ops : List IntOp) (v : V) → answer is_owed (op ∷ []) (exact_result op) ≡ Err err
    → answer is_owed (op ∷ ops) v ≡ Err err
unfolding answer
refused {V} op err ops v h = by (is_owed op) h
  where
    by : (b : Bool) → (if b then Err op else Ok (exact_result op)) ≡ Err err → (if b then Err op else answer is_owed ops v) ≡ Err err
    by true k = cc
    by false k = absurd cc

-- two numbers of 63 bits
pub small_product : (l r : ℤ) → nat_abs l < 2 ^ 63 → nat_abs r < 2 ^ 63 → nat_abs (l *ℤ r) < 2 ^ 127
small_product l r hl hr =
    let le : nat_abs l * nat_abs r ≤ 2 ^ 63 * 2 ^ 63 = mul-le (nat_abs l) (nat_abs r) (2 ^ 63) (2 ^ 63) (omega arith) (omega arith) in
    let e : nat_abs (l *ℤ r) ≡ nat_abs l * nat_abs r = unsigned_abs-mul l r in
    rw e (omega arith)

-- ---- casts to 64 bits and back
below_63 : (n : ℕ) → n < 2 ^ 63 → n < 2 ^ 127
below_63 n h = omega arith

fits_wide : (z : ℤ) → nat_abs z < 2 ^ 127 → SFits w128 z
fits_wide z h = fits_signed_from_abs w128 z h

pub small_back : (z : ℤ) → nat_abs z < 2 ^ 63 → to_z w128 (of_z w128 (to_z w64 (of_z w64 (to_z w128 (of_z w128 z))))) ≡ z
small_back z h =
    let wide : SFits w128 z = fits_wide z (below_63 (nat_abs z) h) in
    let small : SFits w64 z = fits_signed_from_abs w64 z h in
    ap (λ (y : ℤ). to_z w128 (of_z w128 (to_z w64 (of_z w64 y)))) (to_z-of_z wide)
    ∙ ap (λ (y : ℤ). to_z w128 (of_z w128 y)) (to_z-of_z small)
    ∙ to_z-of_z wide

pub small_product_fits : (l r : ℤ) → nat_abs l < 2 ^ 63 → nat_abs r < 2 ^ 63 → SFits w128 (l *ℤ r)
small_product_fits l r hl hr = fits_wide (l *ℤ r) (small_product l r hl hr)

pub small_made : (l r : ℤ) → nat_abs l < 2 ^ 63 → nat_abs r < 2 ^ 63 → answer is_owed (mul_op l r ∷ []) (l *ℤ r) ≡ Ok (l *ℤ r)
small_made l r hl hr = one_fits (mul_op l r) (small_product l r hl hr)

-- ---- other casts
pub neg_back : (z : ℤ) → nat_abs z < 2 ^ 127 → to_z w128 (of_z w128 (pos 0 -ℤ to_z w128 (of_z w128 z))) ≡ neg_ℤ z
neg_back z h =
    let there : SFits w128 (neg_ℤ z) = fits_wide (neg_ℤ z) (negated z h) in
    ap (λ (y : ℤ). to_z w128 (of_z w128 (pos 0 -ℤ y))) (to_z-of_z (fits_wide z h))
    ∙ ap (λ (y : ℤ). to_z w128 (of_z w128 y)) (from_zero z)
    ∙ to_z-of_z there
  where
    negated : (z : ℤ) → nat_abs z < 2 ^ 127 → nat_abs (neg_ℤ z) < 2 ^ 127
    negated z h = omega (arith, ints)

    from_zero : (z : ℤ) → pos 0 -ℤ z ≡ neg_ℤ z
    from_zero z = omega (arith, ints)

pub den_fits : (d : ℤ) → SFits w128 d → pos 1 ≤ℤ d → nat_abs d < 2 ^ 127
den_fits d f h = omega (arith, ints)

pub zero_bits : (z : ℤ) → nat_abs z < 2 ^ 127 → (eqb (of_z w128 z) 0 ≡ true) ↔ (z ≡ pos 0)
zero_bits (pos n) h = (λ t. ap pos (eqb-true n 0 t), λ e. eq-eqb n 0 (omega (arith, ints)))
zero_bits (negsuc n) h = (λ t. absurd (none n h (eqb-true (2 ^ 128 - suc n) 0 t)), λ e. absurd cc)
  where
    none : (n : ℕ) → suc n < 2 ^ 127 → 2 ^ 128 - suc n ≡ 0 → ⊥
    none n h e = omega arith
