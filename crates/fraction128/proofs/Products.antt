-- The recipe of a product of fractions.
use Rattle.std.specs.Prelude.{◌≡◌, ℕ, zero, suc, ◌*◌, ◌/◌, ◌<◌, ℤ, pos, negsuc, nat_abs, ◌*ℤ◌, ◌≤ℤ◌, Result, [], ◌∷◌, Ok, Err}
use Rattle.std.proofs.Common.{arith, sym, ◌∙◌, ap, ap₂, refl, mul-pos}
use Rattle.std.proofs.lemmas.Int.{ints, unsigned_abs-mul}
use Prim.Native.Nat.{◌∣◌}
use native.Mathlib.Nat.{pos_of_dvd_of_pos, div-mul_cancel}
use Rattle.commutative_ring.specs.Gcd.{gcd_of, divided}
use Rattle.commutative_ring.proofs.Gcd.{gcd_of_is}
use Rattle.commutative_ring.proofs.Coprime.{product_lowest}
use Rattle.commutative_ring.proofs.Lowest.{nat_abs-divided}
use Rattle.commutative_ring.proofs.Ring.{ring, v0, v1, v2, v3, v4, v5, ◌⊗◌}
use Rattle.exact_forms.specs.Rational.{Rational, ratio, ◌*ℚ◌}
use Rattle.exact_forms.specs.Lowest.{IsLowest}
use Rattle.exact_forms.proofs.Lowest.{parts_of}
use Rattle.exact_forms.proofs.Rational.{ratio_same, divided_times, den_positive, num_den_lowest}
use Rattle.symmetric_matrix.specs.declared.operation.IntOp.{IntOp}
use Rattle.symmetric_matrix.specs.Owed.{answer}
use Rattle.symmetric_matrix.specs.Operations.{is_owed, exact_result, mul_op}
use Rattle.fraction128.specs.Recipes.{mul_ops}
use Rattle.fraction128.proofs.Operations.{IsMade, made, refused}

-- z over g times g, where g divides it
pub divided_back : (z : ℤ) (g : ℕ) → g ∣ nat_abs z → divided z g *ℤ pos g ≡ z
divided_back z g h = divided_times z g (div-mul_cancel g h)

-- a positive number over a divisor is positive
pub part_positive : (n g : ℕ) → 0 < n → g ∣ n → 0 < n / g
part_positive n g p h = some n (n / g) g p (div-mul_cancel g h)
  where
    some : (n q g : ℕ) → 0 < n → q * g ≡ n → 0 < q
    some n zero g p e = absurd (omega arith)
    some n (suc q) g p e = omega arith

-- the parts of two fractions
pub both_parts : {n d m e : ℤ} {x y : Rational} → IsLowest n d → ratio n (nat_abs d) ≡ x → IsLowest m e → ratio m (nat_abs e) ≡ y
    → (n ≡ x.num) × (d ≡ pos x.den) × (m ≡ y.num) × (e ≡ pos y.den)
both_parts {n} {d} {m} {e} {x} {y} h i k j = let l = parts_of n d x h i in let r = parts_of m e y k j in (l.0, l.1, r.0, r.1)

abbrev pub num_op : Rational → Rational → IntOp
num_op x y = mul_op (divided x.num (gcd_of (nat_abs x.num) y.den)) (divided y.num (gcd_of (nat_abs y.num) x.den))

abbrev pub den_op : Rational → Rational → IntOp
den_op x y = mul_op (pos (x.den / gcd_of (nat_abs y.num) x.den)) (pos (y.den / gcd_of (nat_abs x.num) y.den))

-- what the two operations answered
abbrev pub IsNumMade : Rational → Rational → Result ℤ IntOp → Type 0
IsNumMade x y r = answer is_owed (num_op x y ∷ []) (exact_result (num_op x y)) ≡ r

abbrev pub IsDenMade : Rational → Rational → Result ℤ IntOp → Type 0
IsDenMade x y r = answer is_owed (den_op x y ∷ []) (exact_result (den_op x y)) ≡ r

den_parts : (x y : Rational) → 0 < x.den / gcd_of (nat_abs y.num) x.den * (y.den / gcd_of (nat_abs x.num) y.den)
den_parts x y =
    mul-pos (part_positive x.den _ (den_positive x) (gcd_of_is (nat_abs y.num) x.den).1)
    (part_positive y.den _ (den_positive y) (gcd_of_is (nat_abs x.num) y.den).1)

-- what the recipe makes is the product
product_is : (x y : Rational) → ratio (exact_result (num_op x y)) (nat_abs (exact_result (den_op x y))) ≡ x *ℚ y
unfolding ◌*ℚ◌
product_is x y =
    let g : ℕ = gcd_of (nat_abs x.num) y.den in
    let h : ℕ = gcd_of (nat_abs y.num) x.den in
    let a : ℤ = divided x.num g in
    let c : ℤ = divided y.num h in
    let b : ℕ = x.den / h in
    let d : ℕ = y.den / g in
    ratio_same (a *ℤ c) (x.num *ℤ y.num) (b * d) (x.den * y.den) (den_parts x y) (mul-pos (den_positive x) (den_positive y))
    (ap₂ (λ (m : ℕ) (n : ℕ). a *ℤ c *ℤ pos (m * n)) (sym (div-mul_cancel h (gcd_of_is (nat_abs y.num) x.den).1))
    (sym (div-mul_cancel g (gcd_of_is (nat_abs x.num) y.den).1))
    ∙ ring (a ∷ c ∷ pos b ∷ pos d ∷ pos g ∷ pos h ∷ []) (v0 ⊗ v1 ⊗ (v2 ⊗ v5 ⊗ (v3 ⊗ v4))) (v0 ⊗ v4 ⊗ (v1 ⊗ v5) ⊗ (v2 ⊗ v3)) refl
    ∙ ap₂ (λ (m : ℤ) (n : ℤ). m *ℤ n *ℤ pos (b * d)) (divided_back x.num g (gcd_of_is (nat_abs x.num) y.den).0)
    (divided_back y.num h (gcd_of_is (nat_abs y.num) x.den).0))

-- in lowest terms
product_is_lowest : (x y : Rational) → gcd_of (nat_abs (exact_result (num_op x y))) (nat_abs (exact_result (den_op x y))) ≡ 1
product_is_lowest x y =
    let g : ℕ = gcd_of (nat_abs x.num) y.den in
    let h : ℕ = gcd_of (nat_abs y.num) x.den in
    ap (λ (n : ℕ). gcd_of n (x.den / h * (y.den / g)))
    (unsigned_abs-mul (divided x.num g) (divided y.num h) ∙ ap₂ (λ (m : ℕ) (n : ℕ). m * n) (nat_abs-divided x.num g) (nat_abs-divided y.num h))
    ∙ product_lowest (nat_abs x.num) x.den (nat_abs y.num) y.den (den_positive x) (den_positive y) (num_den_lowest x) (num_den_lowest y)

pub record IsProduct (x y : Rational) (n e : ℤ) : Type 0 where
  pub lowest : IsLowest n e
  pub answered : answer is_owed (mul_ops x y) (x *ℚ y) ≡ Ok (ratio n (nat_abs e))

pub product_done : (x y : Rational) (n e : ℤ) → IsNumMade x y (Ok n) → IsDenMade x y (Ok e) → IsProduct x y n e
unfolding mul_ops answer
product_done x y n e h k =
    let num : IsMade (num_op x y) n (den_op x y ∷ []) (x *ℚ y) = made (num_op x y) n (den_op x y ∷ []) (x *ℚ y) h in
    let den : IsMade (den_op x y) e [] (x *ℚ y) = made (den_op x y) e [] (x *ℚ y) k in
    let some = den_parts x y in
    record {
      lowest = (rw (num.is, den.is) (record { positive = (omega (arith, ints)); lowest = product_is_lowest x y; fits = (rw num.is at num.fits) }));
      answered = num.rest ∙ den.rest ∙ ap Ok (sym (product_is x y) ∙ ap₂ (λ (n : ℤ) (e : ℤ). ratio n (nat_abs e)) (sym num.is) (sym den.is));
    }

pub num_refused : (x y : Rational) (err : IntOp) → IsNumMade x y (Err err) → answer is_owed (mul_ops x y) (x *ℚ y) ≡ Err err
unfolding mul_ops
num_refused x y err h = refused (num_op x y) err (den_op x y ∷ []) (x *ℚ y) h

pub den_refused : (x y : Rational) (n : ℤ) (err : IntOp) → IsNumMade x y (Ok n) → IsDenMade x y (Err err)
    → answer is_owed (mul_ops x y) (x *ℚ y) ≡ Err err
unfolding mul_ops
den_refused x y n err h k =
    let num : IsMade (num_op x y) n (den_op x y ∷ []) (x *ℚ y) = made (num_op x y) n (den_op x y ∷ []) (x *ℚ y) h in
    num.rest ∙ refused (den_op x y) err [] (x *ℚ y) k

-- the common divisor with a positive number is positive
pub gcd_at_least_one : (a d : ℤ) → pos 1 ≤ℤ d → pos 1 ≤ℤ pos (gcd_of (nat_abs a) (nat_abs d))
gcd_at_least_one a (pos d) h = let p = pos_of_dvd_of_pos (gcd_of_is (nat_abs a) d).1 (let q : 0 < d = omega (arith, ints) in q) in omega (arith, ints)
gcd_at_least_one a (negsuc d) h = absurd (omega (arith, ints))
