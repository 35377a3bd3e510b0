-- Operations that fit, by numerators and denominators that are not in lowest terms. Of a product none is owed where the products
-- of the numerators and of the denominators fit; of the sum of X/E and Y/E none where |X| + |Y| and E fit.
use Rattle.std.specs.Prelude.{◌≡◌, ℕ, zero, suc, ◌+◌, ◌*◌, ◌/◌, ◌<◌, ◌≤◌, ◌^◌, ℤ, pos, negsuc, neg_ℤ, nat_abs, ◌+ℤ◌, ◌*ℤ◌, List, [], ◌∷◌, Ok}
use Rattle.std.proofs.Common.{arith, sym, ◌∙◌, ap, ap₂, refl, subst, mul-le-mul, lt_of_le_of_lt}
use Rattle.std.proofs.lemmas.Int.{ints, unsigned_abs-mul}
use Prim.Native.Nat.{◌∣◌}
use native.Mathlib.Nat.{div-mul_cancel, div-le_self, dvd-mul_left, dvd-mul_right}
use Rattle.commutative_ring.specs.Gcd.{gcd_of, divided}
use Rattle.commutative_ring.proofs.Gcd.{gcd_of_is, dvd_of_dvd-mul}
use Rattle.commutative_ring.proofs.Coprime.{gcd_comm, parts_coprime}
use Rattle.commutative_ring.proofs.Lowest.{nat_abs-divided, part_times}
use Rattle.exact_forms.specs.Rational.{Rational, ratio}
use Rattle.exact_forms.proofs.Rational.{den_positive, ratio_value}
use Rattle.symmetric_matrix.specs.Owed.{answer}
use Rattle.symmetric_matrix.specs.Operations.{is_owed, mul_op, add_op}
use Rattle.symmetric_matrix.proofs.Owed.{answer-append_ok}
use Rattle.fraction128.specs.Recipes.{mul_ops, add_ops}
use Rattle.fraction128.proofs.Operations.{passed_over}
use Rattle.fraction128.proofs.Products.{num_op, den_op, part_positive}
use Rattle.fraction128.proofs.Sums.{shared, own, its, total, last, last_op}

-- ---- what lowest terms are at most
pub ratio_num_le : (p : ℤ) (d : ℕ) → 0 < d → nat_abs (ratio p d).num ≤ nat_abs p
unfolding ratio
ratio_num_le p zero h = absurd (omega arith)
ratio_num_le p (suc d) h = rw (nat_abs-divided p (gcd_of (nat_abs p) (suc d))) (div-le_self (nat_abs p) (gcd_of (nat_abs p) (suc d)))

pub ratio_den_le : (p : ℤ) (d : ℕ) → 0 < d → (ratio p d).den ≤ d
unfolding ratio
ratio_den_le p zero h = absurd (omega arith)
ratio_den_le p (suc d) h = div-le_self (suc d) (gcd_of (nat_abs p) (suc d))

pub ratio_den_divides : (p : ℤ) (d : ℕ) → 0 < d → (ratio p d).den ∣ d
unfolding ratio
ratio_den_divides p zero h = absurd (omega arith)
ratio_den_divides p (suc d) h =
    let g : ℕ = gcd_of (nat_abs p) (suc d) in
    subst (λ (n : ℕ). suc d / g ∣ n) (part_times (nat_abs p) d) (dvd-mul_right (suc d / g) g)

-- ---- products
pub product_fits : {V : Type 0} (x y : Rational) (v : V) → nat_abs x.num * nat_abs y.num < 2 ^ 127 → x.den * y.den < 2 ^ 127
    → answer is_owed (mul_ops x y) v ≡ Ok v
unfolding mul_ops answer
product_fits x y v hn hd =
    let g : ℕ = gcd_of (nat_abs x.num) y.den in
    let h : ℕ = gcd_of (nat_abs y.num) x.den in
    let size : nat_abs (divided x.num g *ℤ divided y.num h) ≡ nat_abs x.num / g * (nat_abs y.num / h) =
    unsigned_abs-mul (divided x.num g) (divided y.num h) ∙ ap₂ (λ (m : ℕ) (n : ℕ). m * n) (nat_abs-divided x.num g) (nat_abs-divided y.num h) in
    let num : nat_abs (divided x.num g *ℤ divided y.num h) < 2 ^ 127 =
    rw size (lt_of_le_of_lt (mul-le-mul (div-le_self (nat_abs x.num) g) (div-le_self (nat_abs y.num) h)) hn) in
    let den : x.den / h * (y.den / g) < 2 ^ 127 = lt_of_le_of_lt (mul-le-mul (div-le_self x.den h) (div-le_self y.den g)) hd in
    passed_over (num_op x y) (den_op x y ∷ []) v num ∙ passed_over (den_op x y) [] v den

-- X/D times Y/E
pub ratios_product_fits : {V : Type 0} (p r : ℤ) (d e : ℕ) (v : V) → 0 < d → 0 < e → nat_abs p * nat_abs r < 2 ^ 127 → d * e < 2 ^ 127
    → answer is_owed (mul_ops (ratio p d) (ratio r e)) v ≡ Ok v
ratios_product_fits p r d e v hd he hn hm =
    product_fits (ratio p d) (ratio r e) v
    (lt_of_le_of_lt (mul-le-mul (ratio_num_le p d hd) (ratio_num_le r e he)) hn)
    (lt_of_le_of_lt (mul-le-mul (ratio_den_le p d hd) (ratio_den_le r e he)) hm)

-- ---- sums
cancel_right : (a b g : ℕ) → 0 < g → a * g ≡ b * g → a ≡ b
cancel_right a b g h e = grind arith

-- the least common multiple divides each common multiple
pub multiple_divides : (b d e : ℕ) → 0 < d → b ∣ e → d ∣ e → b * (d / gcd_of b d) ∣ e
multiple_divides b d e hd hb h =
    let g : ℕ = gcd_of b d in
    let b' : ℕ = b / g in
    let d' : ℕ = d / g in
    let c : ℕ = e / b in
    let k : ℕ = e / d in
    let gb : b' * g ≡ b = div-mul_cancel g (gcd_of_is b d).0 in
    let gd : d' * g ≡ d = div-mul_cancel g (gcd_of_is b d).1 in
    let cb : c * b ≡ e = div-mul_cancel b hb in
    let kd : k * d ≡ e = div-mul_cancel d h in
    let some : 0 < g = some_divisor d' g d hd gd in
    let crossed : k * d' ≡ b' * c = cancel_right (k * d') (b' * c) g some (spread k d' g d b' b c e gd kd gb cb) in
    let divides : d' ∣ c = dvd_of_dvd-mul b' d' c (parts_coprime b d hd) (subst (λ (n : ℕ). d' ∣ n) crossed (dvd-mul_left d' k)) in
    let q : ℕ = c / d' in
    let qd : q * d' ≡ c = div-mul_cancel d' divides in
    subst (λ (n : ℕ). b * d' ∣ n) (joined q d' b c e qd cb) (dvd-mul_left (b * d') q)
  where
    some_divisor : (q g d : ℕ) → 0 < d → q * g ≡ d → 0 < g
    some_divisor q zero d h e = absurd (omega arith)
    some_divisor q (suc g) d h e = omega arith

    spread : (k d' g d b' b c e : ℕ) → d' * g ≡ d → k * d ≡ e → b' * g ≡ b → c * b ≡ e → (k * d') * g ≡ (b' * c) * g
    spread k d' g d b' b c e gd kd gb cb =
        let l : k * (d' * g) ≡ e = ap (λ (n : ℕ). k * n) gd ∙ kd in
        let r : c * (b' * g) ≡ e = ap (λ (n : ℕ). c * n) gb ∙ cb in
        let s : k * (d' * g) ≡ c * (b' * g) = l ∙ sym r in omega arith

    joined : (q d' b c e : ℕ) → q * d' ≡ c → c * b ≡ e → q * (b * d') ≡ e
    joined q d' b c e qd cb = let s : (q * d') * b ≡ c * b = ap (λ (n : ℕ). n * b) qd in omega arith

-- n/b = p/e, where b and d divide e: n times what d adds to the least common denominator is at most p
pub crosswise_le : (n b d e p : ℕ) → 0 < b → 0 < d → 0 < e → n * e ≡ p * b → b ∣ e → d ∣ e → n * (d / gcd_of b d) ≤ p
crosswise_le n b d e p hb hd he same hbe hde =
    let d' : ℕ = d / gcd_of b d in
    let q : ℕ = e / (b * d') in
    let all : q * (b * d') ≡ e = div-mul_cancel (b * d') (multiple_divides b d e hd hbe hde) in
    let times : (n * d') * q ≡ p = cancel_right ((n * d') * q) p b hb (spread n d' q b e p all same) in
    at_least q (n * d') p (some_factor q (b * d') e he all) times
  where
    spread : (n d' q b e p : ℕ) → q * (b * d') ≡ e → n * e ≡ p * b → ((n * d') * q) * b ≡ p * b
    spread n d' q b e p all same = let s : n * (q * (b * d')) ≡ n * e = ap (λ (m : ℕ). n * m) all in omega arith

    some_factor : (q m e : ℕ) → 0 < e → q * m ≡ e → 0 < q
    some_factor zero m e h s = absurd (omega arith)
    some_factor (suc q) m e h s = omega arith

    at_least : (q m p : ℕ) → 0 < q → m * q ≡ p → m ≤ p
    at_least zero m p h e = absurd (omega arith)
    at_least (suc q) m p h e = omega arith

multiple_le : (b d e : ℕ) → 0 < d → 0 < e → b ∣ e → d ∣ e → b * (d / gcd_of b d) ≤ e
multiple_le b d e hd he hb h = at_most (b * (d / gcd_of b d)) e he (multiple_divides b d e hd hb h)
  where
    by : (m q e : ℕ) → 0 < e → q * m ≡ e → m ≤ e
    by m zero e h s = absurd (omega arith)
    by m (suc q) e h s = omega arith

    at_most : (m e : ℕ) → 0 < e → m ∣ e → m ≤ e
    at_most m e h d = by m (e / m) e h (div-mul_cancel m d)

-- x and y over one denominator
sum_of_fits : {V : Type 0} (x y : Rational) (p r : ℤ) (e : ℕ) (v : V) → 0 < e → x.num *ℤ pos e ≡ p *ℤ pos x.den → y.num *ℤ pos e ≡ r *ℤ pos y.den
    → x.den ∣ e → y.den ∣ e
    → nat_abs p + nat_abs r < 2 ^ 127 → e < 2 ^ 127 → answer is_owed (add_ops x y) v ≡ Ok v
unfolding add_ops answer
sum_of_fits {V} x y p r e v he hx hy dx dy hn hd =
    let ax : nat_abs x.num * e ≡ nat_abs p * x.den = sym (unsigned_abs-mul x.num (pos e)) ∙ ap nat_abs hx ∙ unsigned_abs-mul p (pos x.den) in
    let ay : nat_abs y.num * e ≡ nat_abs r * y.den = sym (unsigned_abs-mul y.num (pos e)) ∙ ap nat_abs hy ∙ unsigned_abs-mul r (pos y.den) in
    let u : nat_abs x.num * its x y ≤ nat_abs p = crosswise_le (nat_abs x.num) x.den y.den e (nat_abs p) (den_positive x) (den_positive y) he ax dx dy in
    let w : nat_abs y.num * own x y ≤ nat_abs r =
    subst (λ (g : ℕ). nat_abs y.num * (x.den / g) ≤ nat_abs r) (gcd_comm y.den x.den)
    (crosswise_le (nat_abs y.num) y.den x.den e (nat_abs r) (den_positive y) (den_positive x) he ay dy dx) in
    let lu : nat_abs (x.num *ℤ pos (its x y)) ≤ nat_abs p = rw (unsigned_abs-mul x.num (pos (its x y))) u in
    let lw : nat_abs (y.num *ℤ pos (own x y)) ≤ nat_abs r = rw (unsigned_abs-mul y.num (pos (own x y))) w in
    let lt : nat_abs (total x y) < 2 ^ 127 = both (x.num *ℤ pos (its x y)) (y.num *ℤ pos (own x y)) (nat_abs p) (nat_abs r) lu lw hn in
    let common : y.den * own x y ≤ e =
    subst (λ (g : ℕ). y.den * (x.den / g) ≤ e) (gcd_comm y.den x.den) (multiple_le y.den x.den e (den_positive x) he dy dx) in
    let last_le : own x y * (y.den / last x y) ≤ e = least (own x y) y.den (y.den / last x y) e (div-le_self y.den (last x y)) common in
    passed_over (mul_op x.num (pos (its x y)))
    (mul_op y.num (pos (own x y)) ∷ add_op (x.num *ℤ pos (its x y)) (y.num *ℤ pos (own x y)) ∷ last_op x y ∷ []) v
    (let a = lu in let b = hn in omega arith)
    ∙ passed_over (mul_op y.num (pos (own x y))) (add_op (x.num *ℤ pos (its x y)) (y.num *ℤ pos (own x y)) ∷ last_op x y ∷ []) v
    (let a = lw in let b = hn in omega arith)
    ∙ passed_over (add_op (x.num *ℤ pos (its x y)) (y.num *ℤ pos (own x y))) (last_op x y ∷ []) v lt
    ∙ passed_over (last_op x y) [] v (lt_of_le_of_lt last_le hd)
  where
    both : (a b : ℤ) (p r : ℕ) → nat_abs a ≤ p → nat_abs b ≤ r → p + r < 2 ^ 127 → nat_abs (a +ℤ b) < 2 ^ 127
    both a b p r la lb h = grind (arith, ints)

    least : (o d l e : ℕ) → l ≤ d → d * o ≤ e → o * l ≤ e
    least o d l e h k = let m : o * l ≤ o * d = mul-le-mul (let n : o ≤ o = omega arith in n) h in omega arith

-- X/E plus Y/E
pub ratios_sum_fits : {V : Type 0} (p r : ℤ) (e : ℕ) (v : V) → 0 < e → nat_abs p + nat_abs r < 2 ^ 127 → e < 2 ^ 127
    → answer is_owed (add_ops (ratio p e) (ratio r e)) v ≡ Ok v
ratios_sum_fits p r e v he hn hd =
    sum_of_fits (ratio p e) (ratio r e) p r e v he (ratio_value p e he) (ratio_value r e he) (ratio_den_divides p e he) (ratio_den_divides r e he) hn hd
