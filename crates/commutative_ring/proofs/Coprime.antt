-- Numbers with no common divisor.
use Rattle.std.specs.Prelude.{◌≡◌, ◌⊎◌, ◌-◌, ℕ, zero, suc, ◌+◌, ◌*◌, ◌/◌, ◌<◌, ℤ, pos, nat_abs, ◌+ℤ◌, ◌*ℤ◌}
use Rattle.std.proofs.Common.{arith, sym, ◌∙◌, ap, subst, inl, inr}
use Rattle.std.proofs.lemmas.Int.{ints, unsigned_abs-mul}
use Rattle.std.proofs.lemmas.Nat.Gcd.{same_from_IsGcd, IsGcd-swap, dvd_refl, dvd_trans}
use Prim.Native.Nat.{◌∣◌}
use lib.IntN.{+ℤ_comm}
use native.Mathlib.Nat.{eq-one_of_dvd-one, dvd-mul_left, dvd-mul_right, mul-div_assoc, div-mul_cancel, dvd-add, dvd-sub, pos_of_dvd_of_pos}
use Rattle.commutative_ring.specs.Gcd.{gcd_of}
use Rattle.commutative_ring.proofs.Gcd.{gcd_of_is, dvd_of_dvd-mul}
use Rattle.commutative_ring.proofs.Lowest.{parts_lowest}

pub gcd_comm : (a b : ℕ) → gcd_of a b ≡ gcd_of b a
gcd_comm a b = same_from_IsGcd a b (gcd_of a b) (gcd_of b a) (gcd_of_is a b) (IsGcd-swap b a (gcd_of b a) (gcd_of_is b a))

-- no common divisor but 1
pub one_from_dvd : (a b d : ℕ) → gcd_of a b ≡ 1 → d ∣ a → d ∣ b → d ≡ 1
one_from_dvd a b d e p q = eq-one_of_dvd-one (subst (λ g. d ∣ g) e ((gcd_of_is a b).2 d p q))

pub coprime_from : (a b : ℕ) → ((d : ℕ) → d ∣ a → d ∣ b → d ≡ 1) → gcd_of a b ≡ 1
coprime_from a b h = h (gcd_of a b) (gcd_of_is a b).0 (gcd_of_is a b).1

-- divisors of numbers with no common divisor have none
pub coprime-dvd : (a b c d : ℕ) → gcd_of a b ≡ 1 → c ∣ a → d ∣ b → gcd_of c d ≡ 1
coprime-dvd a b c d e p q = coprime_from c d (λ g x y. one_from_dvd a b g e (dvd_trans g x p) (dvd_trans g y q))

pub coprime-mul_left : (a b c : ℕ) → gcd_of a c ≡ 1 → gcd_of b c ≡ 1 → gcd_of (a * b) c ≡ 1
coprime-mul_left a b c ea eb = coprime_from (a * b) c (λ g x y.
    one_from_dvd b c g eb (dvd_of_dvd-mul a g b (coprime-dvd a c a g ea (dvd_refl a) y) x) y)

pub coprime-mul_right : (a b c : ℕ) → gcd_of a b ≡ 1 → gcd_of a c ≡ 1 → gcd_of a (b * c) ≡ 1
coprime-mul_right a b c eb ec = gcd_comm a (b * c) ∙ coprime-mul_left b c a (gcd_comm b a ∙ eb) (gcd_comm c a ∙ ec)

part_dvd : (a g : ℕ) → g ∣ a → a / g ∣ a
part_dvd a g h = subst (λ n. a / g ∣ n) (div-mul_cancel g h) (dvd-mul_right (a / g) g)

pub parts_coprime : (a d : ℕ) → 0 < d → gcd_of (a / gcd_of a d) (d / gcd_of a d) ≡ 1
parts_coprime a zero h = absurd (omega arith)
parts_coprime a (suc d) h = parts_lowest a d

-- the recipe of a product ends in lowest terms
pub product_lowest : (a b c d : ℕ) → 0 < b → 0 < d → gcd_of a b ≡ 1 → gcd_of c d ≡ 1
    → gcd_of (a / gcd_of a d * (c / gcd_of c b)) (b / gcd_of c b * (d / gcd_of a d)) ≡ 1
product_lowest a b c d pb pd eab ecd =
    let a' : ℕ = a / gcd_of a d in
    let d' : ℕ = d / gcd_of a d in
    let c' : ℕ = c / gcd_of c b in
    let b' : ℕ = b / gcd_of c b in
    let a_a : a' ∣ a = part_dvd a (gcd_of a d) (gcd_of_is a d).0 in
    let d_d : d' ∣ d = part_dvd d (gcd_of a d) (gcd_of_is a d).1 in
    let c_c : c' ∣ c = part_dvd c (gcd_of c b) (gcd_of_is c b).0 in
    let b_b : b' ∣ b = part_dvd b (gcd_of c b) (gcd_of_is c b).1 in
    coprime-mul_left a' c' (b' * d')
    (coprime-mul_right a' b' d' (coprime-dvd a b a' b' eab a_a b_b) (parts_coprime a d pd))
    (coprime-mul_right c' b' d' (parts_coprime c b pb) (coprime-dvd c d c' d' ecd c_c d_d))

-- ---- divisors of a signed sum
abs_cases : (x y : ℤ) → (nat_abs x ≡ nat_abs (x +ℤ y) + nat_abs y) ⊎ ((nat_abs x ≡ nat_abs y - nat_abs (x +ℤ y)) ⊎ (nat_abs x ≡ nat_abs (x +ℤ y) - nat_abs y))
abs_cases x y = grind (arith, ints)

dvd-abs : (e : ℕ) (x y : ℤ) → e ∣ nat_abs (x +ℤ y) → e ∣ nat_abs y → e ∣ nat_abs x
dvd-abs e x y p q = by (abs_cases x y)
  where
    by : ((nat_abs x ≡ nat_abs (x +ℤ y) + nat_abs y) ⊎ ((nat_abs x ≡ nat_abs y - nat_abs (x +ℤ y)) ⊎ (nat_abs x ≡ nat_abs (x +ℤ y) - nat_abs y)))
        → e ∣ nat_abs x
    by (inl h) = subst (λ n. e ∣ n) (sym h) (dvd-add e p q)
    by (inr (inl h)) = subst (λ n. e ∣ n) (sym h) (dvd-sub e q p)
    by (inr (inr h)) = subst (λ n. e ∣ n) (sym h) (dvd-sub e p q)

-- a·d' + c·b' has nothing in common with b', where a and d' have not
sum_coprime : (x y : ℤ) (b : ℕ) → gcd_of (nat_abs x) b ≡ 1 → b ∣ nat_abs y → gcd_of (nat_abs (x +ℤ y)) b ≡ 1
sum_coprime x y b e h = coprime_from (nat_abs (x +ℤ y)) b (λ g p q. one_from_dvd (nat_abs x) b g e (dvd-abs g x y p (dvd_trans g q h)) q)

-- the recipe of a sum ends in lowest terms
pub sum_lowest : (a c : ℤ) (b d : ℕ) → 0 < b → 0 < d → gcd_of (nat_abs a) b ≡ 1 → gcd_of (nat_abs c) d ≡ 1
    → let g = gcd_of b d in
    let t = nat_abs (a *ℤ pos (d / g) +ℤ c *ℤ pos (b / g)) in
    gcd_of (t / gcd_of t g) (b / g * (d / gcd_of t g)) ≡ 1
sum_lowest a c b d pb pd eab ecd =
    let g : ℕ = gcd_of b d in
    let b' : ℕ = b / g in
    let d' : ℕ = d / g in
    let x : ℤ = a *ℤ pos d' in
    let y : ℤ = c *ℤ pos b' in
    let t : ℕ = nat_abs (x +ℤ y) in
    let h : ℕ = gcd_of t g in
    let apart : gcd_of b' d' ≡ 1 = parts_coprime b d pd in
    let b_b : b' ∣ b = part_dvd b g (gcd_of_is b d).0 in
    let d_d : d' ∣ d = part_dvd d g (gcd_of_is b d).1 in
    let x_abs : nat_abs x ≡ nat_abs a * d' = unsigned_abs-mul a (pos d') in
    let y_abs : nat_abs y ≡ nat_abs c * b' = unsigned_abs-mul c (pos b') in
    let x_b : gcd_of (nat_abs x) b' ≡ 1 =
    ap (λ (n : ℕ). gcd_of n b') x_abs
    ∙ coprime-mul_left (nat_abs a) d' b' (coprime-dvd (nat_abs a) b (nat_abs a) b' eab (dvd_refl (nat_abs a)) b_b) (gcd_comm d' b' ∙ apart) in
    let y_d : gcd_of (nat_abs y) d' ≡ 1 =
    ap (λ (n : ℕ). gcd_of n d') y_abs ∙ coprime-mul_left (nat_abs c) b' d' (coprime-dvd (nat_abs c) d (nat_abs c) d' ecd (dvd_refl (nat_abs c)) d_d) apart in
    let b_y : b' ∣ nat_abs y = subst (λ n. b' ∣ n) (sym y_abs) (dvd-mul_left b' (nat_abs c)) in
    let d_x : d' ∣ nat_abs x = subst (λ n. d' ∣ n) (sym x_abs) (dvd-mul_left d' (nat_abs a)) in
    let t_b : gcd_of t b' ≡ 1 = sum_coprime x y b' x_b b_y in
    let t_d : gcd_of t d' ≡ 1 = ap (λ (z : ℤ). gcd_of (nat_abs z) d') (+ℤ_comm x y) ∙ sum_coprime y x d' y_d d_x in
    let some : 0 < g = pos_of_dvd_of_pos (gcd_of_is b d).1 pd in
    let t' : ℕ = t / h in
    let t_t : t' ∣ t = part_dvd t h (gcd_of_is t g).0 in
    -- d/h is d'·(g/h)
    let parts : d / h ≡ d' * (g / h) =
    ap (λ (n : ℕ). n / h) (sym (div-mul_cancel g (gcd_of_is b d).1)) ∙ mul-div_assoc h d' (gcd_of_is t g).1 in
    let last : gcd_of t' (g / h) ≡ 1 = parts_coprime t g some in
    ap (λ (n : ℕ). gcd_of t' (b' * n)) parts
    ∙ coprime-mul_right t' b' (d' * (g / h)) (coprime-dvd t b' t' b' t_b t_t (dvd_refl b'))
    (coprime-mul_right t' d' (g / h) (coprime-dvd t d' t' d' t_d t_t (dvd_refl d')) last)
