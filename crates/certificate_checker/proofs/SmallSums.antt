-- Sums of small numbers, none of whose operations is owed.
use Rattle.std.specs.Prelude.{◌≡◌, ℕ, zero, suc, ◌+◌, ◌-◌, ◌*◌, ◌^◌, ◌<◌, ◌≤◌, nat_abs, FitsSigned, nat_lt, Bool, false, ℤ, ◌+ℤ◌, ◌*ℤ◌, List, [], ◌∷◌, Some}
use Rattle.std.specs.Prelude.{None}
use Rattle.std.specs.Prelude.{if◌then◌else◌}
use Rattle.std.proofs.Common.{arith, sym, ◌∙◌, ap, ap₂, refl, to_z, of_z}
use mir.Syntax.{Width, w64, w128}
use Rattle.std.proofs.lemmas.Int.{ints, unsigned_abs-mul, fits_signed_from_abs, to_z-of_z}
use Rattle.std.proofs.lemmas.Nat.{mul-le}
use Rattle.exact_forms.specs.Sums.{sum_to}
use Rattle.exact_forms.proofs.Sums.{sum_to-zero, sum_to_more}
use Rattle.symmetric_matrix.specs.declared.operation.IntOp.{IntOp}
use Rattle.symmetric_matrix.specs.Owed.{first_owed}
use Rattle.symmetric_matrix.specs.Operations.{is_owed, mul_op, add_op}
use Rattle.symmetric_matrix.proofs.Owed.{first_owed-append_none}
use Rattle.symmetric_matrix.proofs.Narrow.{read_64_128}
pub use Rattle.symmetric_matrix.proofs.Narrow.{read_64, read_128}
use Rattle.unimodular_cone.specs.Cones.{Matrix, Generators}
use Rattle.certificate_checker.specs.Loops.{steps}
use Rattle.certificate_checker.specs.Dots.{dot, dot_ops, rows_times, times_ops}
use Rattle.certificate_checker.specs.Small.{AreSmall, AreSmallBelow}
use Rattle.certificate_checker.specs.Leaves.{column_ops, generator_ops}
use Rattle.certificate_checker.proofs.Loops.{loop_start, loop_more}
use Rattle.certificate_checker.proofs.DotSums.{dot_more, dot_step, dot_ops_are, times_step, times_ops_are}

abs_product : (a b : ℤ) (m n : ℕ) → nat_abs a ≤ m → nat_abs b ≤ n → nat_abs (a *ℤ b) ≤ m * n
abs_product a b m n h k =
    let e : nat_abs (a *ℤ b) ≡ nat_abs a * nat_abs b = unsigned_abs-mul a b in
    rw (e) (mul-le (nat_abs a) (nat_abs b) m n h k)

pub abs_sum : (a b : ℤ) (m n : ℕ) → nat_abs a ≤ m → nat_abs b ≤ n → nat_abs (a +ℤ b) ≤ m + n
abs_sum a b m n h k = omega (arith, ints)

pub not_over : (z : ℕ) → z ≤ 2 ^ 127 - 1 → nat_lt (2 ^ 127 - 1) z ≡ false
not_over z h = grind (arith, h)

pub owes_nothing : (op : IntOp) → is_owed op ≡ false → (ops : List IntOp) → first_owed is_owed ops ≡ None → first_owed is_owed (op ∷ ops) ≡ None
unfolding first_owed
owes_nothing op h ops k = ap (λ (b : Bool). if b then Some op else first_owed is_owed ops) h ∙ k

pub nothing : first_owed is_owed [] ≡ None
unfolding first_owed
nothing = refl

pub all_none : (f : ℕ → List IntOp) (n : ℕ) → ((k : ℕ) → k < n → first_owed is_owed (f k) ≡ None) → first_owed is_owed (steps f n) ≡ None
all_none f zero h = loop_start is_owed f
all_none f (suc n) h =
    let e : suc n ≡ n + 1 = omega arith in
    ap (λ (m : ℕ). first_owed is_owed (steps f m)) e ∙ loop_more is_owed f n (all_none f n (λ k l. h k (omega arith))) (h n (omega arith))

-- the first n numbers have a magnitude up to p
pub sum_bound : (p n : ℕ) (f : ℕ → ℤ) → AreSmall n p f → nat_abs (sum_to n f) ≤ n * p
sum_bound p zero f h = let e : nat_abs (sum_to 0 f) ≡ 0 = ap nat_abs (sum_to-zero f) in omega (arith, e)
sum_bound p (suc n) f h =
    let e : suc n ≡ n + 1 = omega arith in
    let s : nat_abs (sum_to (suc n) f) ≡ nat_abs (sum_to n f +ℤ f n) = ap (λ (m : ℕ). nat_abs (sum_to m f)) e ∙ ap nat_abs (sum_to_more n f) in
    let b = abs_sum (sum_to n f) (f n) (n * p) p (sum_bound p n f (λ k l. h k (omega arith))) (h n (omega arith)) in
    omega (arith, s, b)

pub dot_bound : (p n : ℕ) (x y : ℕ → ℤ) → ((k : ℕ) → k < n → nat_abs (x k *ℤ y k) ≤ p) → nat_abs (dot n x y) ≤ n * p
dot_bound p n x y h = sum_bound p n (λ j. x j *ℤ y j) h

pub dot_none : (p n : ℕ) (x y : ℕ → ℤ) → n ≤ 8 → p ≤ 2 ^ 102 → ((k : ℕ) → k < n → nat_abs (x k *ℤ y k) ≤ p) → first_owed is_owed (dot_ops n x y) ≡ None
dot_none p n x y few limit h = ap (first_owed is_owed) (dot_ops_are n x y) ∙ all_none (dot_step x y) n (λ k l. each k l)
  where
    each : (k : ℕ) → k < n → first_owed is_owed (dot_step x y k) ≡ None
    each k l =
        let b = dot_bound p k x y (λ j m. h j (omega (arith, l, m))) in
        let s = abs_sum (dot k x y) (x k *ℤ y k) (k * p) p b (h k l) in
        let r = mul-le k p 7 (2 ^ 102) (omega (arith, few, l)) limit in
        owes_nothing (mul_op (x k) (y k)) (not_over (nat_abs (x k *ℤ y k)) (omega (arith, limit, h k l))) (add_op (dot k x y) (x k *ℤ y k) ∷ [])
        (owes_nothing (add_op (dot k x y) (x k *ℤ y k)) (not_over (nat_abs (dot k x y +ℤ x k *ℤ y k)) (omega (arith, limit, r, s))) [] nothing)

products : (a b p n : ℕ) (x y : ℕ → ℤ) → a * b ≤ p → AreSmall n a x → AreSmall n b y → (k : ℕ) → k < n → nat_abs (x k *ℤ y k) ≤ p
products a b p n x y e h m k l = let r = abs_product (x k) (y k) a b (h k l) (m k l) in omega (arith, e, r)

times_none : (n : ℕ) (rows : ℕ → ℕ → ℤ) (x : ℕ → ℤ) → n ≤ 8 → AreSmallBelow n (2 ^ 40) rows → AreSmall n (2 ^ 62) x
    → first_owed is_owed (times_ops n rows x) ≡ None
times_none n rows x few h m = ap (first_owed is_owed) (times_ops_are n rows x)
    ∙ all_none (times_step n rows x) n
    (λ i l. dot_none (2 ^ 102) n (rows i) x few (omega arith) (products (2 ^ 40) (2 ^ 62) (2 ^ 102) n (rows i) x (omega arith) (h i l) m))

-- the sums of the products with numbers up to 2^19
pub times_small : (n : ℕ) (rows : ℕ → ℕ → ℤ) (x : ℕ → ℤ) → n ≤ 8 → AreSmallBelow n (2 ^ 40) rows → AreSmall n (2 ^ 19) x
    → AreSmall n (2 ^ 62) (rows_times n rows x)
times_small n rows x few h m i l =
    let b = dot_bound (2 ^ 59) n (rows i) x (products (2 ^ 40) (2 ^ 19) (2 ^ 59) n (rows i) x (omega arith) (h i l) m) in
    omega (arith, few, b)

pub smaller : (n a b : ℕ) (x : ℕ → ℤ) → a ≤ b → AreSmall n a x → AreSmall n b x
smaller n a b x e h k l = let r = h k l in omega (arith, e, r)

column_none : (n : ℕ) (w : Matrix) (v : Generators) (b : ℕ → ℤ) → n ≤ 8 → AreSmallBelow n (2 ^ 40) w → AreSmallBelow n (2 ^ 19) v → AreSmall n (2 ^ 19) b
    → first_owed is_owed (column_ops n w v b) ≡ None
unfolding column_ops
column_none n w v b few h m g =
    first_owed-append_none is_owed (times_ops n w b) (times_ops n v (rows_times n w b)) (times_none n w b few h (smaller n (2 ^ 19) (2 ^ 62) b (omega arith) g))
    ∙ times_none n v (rows_times n w b) few (λ i l. smaller n (2 ^ 19) (2 ^ 40) (v i) (omega arith) (m i l)) (times_small n w b few h g)

-- no operation of the Gram matrix is owed
pub columns_none : (n : ℕ) (w : Matrix) (v : Generators) → n ≤ 8 → AreSmallBelow n (2 ^ 40) w → AreSmallBelow n (2 ^ 19) v
    → first_owed is_owed (steps (generator_ops n w v) n) ≡ None
columns_none n w v few h m = all_none (generator_ops n w v) n (λ k l. column_none n w v (v k) few h m (m k l))

-- the sum after one more product
pub sum_in_64 : (n k : ℕ) (x y : ℕ → ℤ) → n ≤ 8 → k < n → AreSmall n (2 ^ 40) x → AreSmall n (2 ^ 19) y → nat_abs (dot k x y +ℤ x k *ℤ y k) < 2 ^ 63
sum_in_64 n k x y few l h m =
    let small = products (2 ^ 40) (2 ^ 19) (2 ^ 59) n x y (omega arith) h m in
    let b = dot_bound (2 ^ 59) k x y (λ j s. small j (omega (arith, l, s))) in
    let s = abs_sum (dot k x y) (x k *ℤ y k) (k * 2 ^ 59) (2 ^ 59) b (small k l) in
    omega (arith, few, l, s)

pub sum_in_128 : (n k : ℕ) (x y : ℕ → ℤ) → n ≤ 8 → k < n → AreSmall n (2 ^ 19) x → AreSmall n (2 ^ 62) y → nat_abs (dot k x y +ℤ x k *ℤ y k) < 2 ^ 127
sum_in_128 n k x y few l h m =
    let small = products (2 ^ 19) (2 ^ 62) (2 ^ 81) n x y (omega arith) h m in
    let b = dot_bound (2 ^ 81) k x y (λ j s. small j (omega (arith, l, s))) in
    let s = abs_sum (dot k x y) (x k *ℤ y k) (k * 2 ^ 81) (2 ^ 81) b (small k l) in
    omega (arith, few, l, s)

-- one product
pub product_in_64 : (n k : ℕ) (x y : ℕ → ℤ) → k < n → AreSmall n (2 ^ 40) x → AreSmall n (2 ^ 19) y → nat_abs (x k *ℤ y k) < 2 ^ 63
product_in_64 n k x y l h m = let r = products (2 ^ 40) (2 ^ 19) (2 ^ 59) n x y (omega arith) h m k l in omega (arith, r)

pub product_in_128 : (n k : ℕ) (x y : ℕ → ℤ) → k < n → AreSmall n (2 ^ 19) x → AreSmall n (2 ^ 62) y → nat_abs (x k *ℤ y k) < 2 ^ 127
product_in_128 n k x y l h m = let r = products (2 ^ 19) (2 ^ 62) (2 ^ 81) n x y (omega arith) h m k l in omega (arith, r)

-- sums of products with numbers up to 2^62
pub dot_small : (n : ℕ) (x y : ℕ → ℤ) → n ≤ 8 → AreSmall n (2 ^ 19) x → AreSmall n (2 ^ 62) y → nat_abs (dot n x y) ≤ 2 ^ 84
dot_small n x y few h m =
    let b = dot_bound (2 ^ 81) n x y (products (2 ^ 19) (2 ^ 62) (2 ^ 81) n x y (omega arith) h m) in
    omega (arith, few, b)

-- a sum of two small numbers
pub sum_of_two : (a b : ℤ) → nat_abs a ≤ 2 ^ 19 → nat_abs b ≤ 2 ^ 19 → nat_abs (a +ℤ b) < 2 ^ 63
sum_of_two a b h k = let s = abs_sum a b (2 ^ 19) (2 ^ 19) h k in omega (arith, s)

pub small_same : (n limit : ℕ) (x y : ℕ → ℤ) → ((k : ℕ) → k < n → x k ≡ y k) → AreSmall n limit y → AreSmall n limit x
small_same n limit x y same h k l = rw (same k l) (h k l)

-- ---- numbers as the program reads them back
pub product_read_64 : (n k : ℕ) (x y : ℕ → ℤ) → k < n → AreSmall n (2 ^ 40) x → AreSmall n (2 ^ 19) y
    → to_z w64 (of_z w64 (to_z w64 (of_z w64 (x k)) *ℤ to_z w64 (of_z w64 (y k)))) ≡ x k *ℤ y k
product_read_64 n k x y l h m =
    let a = h k l in
    let b = m k l in
    ap₂ (λ (u : ℤ) (v : ℤ). to_z w64 (of_z w64 (u *ℤ v))) (read_64 (x k) (omega (arith, a))) (read_64 (y k) (omega (arith, b)))
    ∙ read_64 (x k *ℤ y k) (product_in_64 n k x y l h m)

pub product_read_128 : (n k : ℕ) (x y : ℕ → ℤ) → k < n → AreSmall n (2 ^ 19) x → AreSmall n (2 ^ 62) y
    → to_z w128 (of_z w128 (to_z w128 (of_z w128 (to_z w64 (of_z w64 (x k)))) *ℤ to_z w128 (of_z w128 (to_z w64 (of_z w64 (y k)))))) ≡ x k *ℤ y k
product_read_128 n k x y l h m =
    let a = h k l in
    let b = m k l in
    ap₂ (λ (u : ℤ) (v : ℤ). to_z w128 (of_z w128 (u *ℤ v))) (read_64_128 (x k) (omega (arith, a))) (read_64_128 (y k) (omega (arith, b)))
    ∙ read_128 (x k *ℤ y k) (product_in_128 n k x y l h m)

-- ---- one more product
next_at : (w : Width) (k : ℕ) (x y : ℕ → ℤ) (s p : ℤ) → FitsSigned w (dot k x y +ℤ x k *ℤ y k) → s ≡ dot k x y → p ≡ x k *ℤ y k
    → (FitsSigned w (s +ℤ p)) × (to_z w (of_z w (s +ℤ p)) ≡ dot (k + 1) x y)
next_at w k x y s p fits e f =
    let sum : s +ℤ p ≡ dot k x y +ℤ x k *ℤ y k = ap₂ (λ (a : ℤ) (b : ℤ). a +ℤ b) e f in
    rw sum (fits, to_z-of_z w _ fits ∙ sym (dot_more k x y))

pub next_64 : (n k : ℕ) (x y : ℕ → ℤ) (s : ℤ) → n ≤ 8 → k < n → AreSmall n (2 ^ 40) x → AreSmall n (2 ^ 19) y → s ≡ dot k x y
    → let p : ℤ = to_z w64 (of_z w64 (to_z w64 (of_z w64 (x k)) *ℤ to_z w64 (of_z w64 (y k)))) in
    (FitsSigned w64 (s +ℤ p)) × (to_z w64 (of_z w64 (s +ℤ p)) ≡ dot (k + 1) x y)
next_64 n k x y s few l h m e =
    next_at w64 k x y s _ (fits_signed_from_abs w64 (dot k x y +ℤ x k *ℤ y k) (sum_in_64 n k x y few l h m)) e (product_read_64 n k x y l h m)

pub next_128 : (n k : ℕ) (x y : ℕ → ℤ) (s : ℤ) → n ≤ 8 → k < n → AreSmall n (2 ^ 19) x → AreSmall n (2 ^ 62) y → s ≡ dot k x y
    → let p : ℤ = to_z w128 (of_z w128 (to_z w128 (of_z w128 (to_z w64 (of_z w64 (x k)))) *ℤ to_z w128 (of_z w128 (to_z w64 (of_z w64 (y k)))))) in
    (FitsSigned w128 (s +ℤ p)) × (to_z w128 (of_z w128 (s +ℤ p)) ≡ dot (k + 1) x y)
next_128 n k x y s few l h m e =
    next_at w128 k x y s _ (fits_signed_from_abs w128 (dot k x y +ℤ x k *ℤ y k) (sum_in_128 n k x y few l h m)) e (product_read_128 n k x y l h m)
