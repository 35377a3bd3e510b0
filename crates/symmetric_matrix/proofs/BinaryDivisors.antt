-- The binary algorithm for greatest common divisors.
use Rattle.std.specs.Prelude.{◌≡◌, ◌≢◌, ◌⊎◌, ℕ, zero, suc, ◌+◌, ◌-◌, ◌*◌, ◌/◌, ◌%◌, ◌^◌, ◌<◌, ◌≤◌}
use Rattle.std.proofs.Common.{arith, sym, ◌∙◌, ap, ap₂, refl, subst, inl, inr, min}
use Rattle.std.specs.Int.{IsGcd}
use Rattle.std.proofs.lemmas.Nat.{shr-shr, shr_le, pow-add, pow_pos}
use Rattle.std.proofs.lemmas.Nat.Gcd.{same_from_IsGcd, IsGcd-from_sub, dvd_trans, dvd_refl}
use Rattle.std.proofs.Math.Nat.{pow-suc}
use native.Mathlib.Nat.{dvd-mul_left, mul_assoc, mul_comm, mod-eq_of_lt, lt_of_le_of_lt}
use lib.Count.{count_trailing_zeros, under}
use Rattle.commutative_ring.specs.Gcd.{gcd_of, gcd_steps}
use Rattle.commutative_ring.proofs.Gcd.{gcd_of_is, gcd_of_scaled, gcd_of-step, gcd_of-zero, gcd_of-le_left, dvd_of_dvd-mul}
use Rattle.commutative_ring.proofs.Coprime.{gcd_comm, coprime-dvd, coprime-mul_right}
use Rattle.commutative_ring.proofs.SmallCases.{mod_one}

-- a number of k digits is an odd part times the power of two of its trailing zeros
pub record IsOddPart (k n t : ℕ) : Type 0 where
  pub odd : n / 2 ^ t % 2 ≡ 1
  pub whole : n / 2 ^ t * 2 ^ t ≡ n
  pub within : t < k

bit_cases : (n : ℕ) → (n % 2 ≡ 0) ⊎ (n % 2 ≡ 1)
bit_cases n = grind arith

over_one : (n : ℕ) → n / 1 ≡ n
over_one n = omega arith

over_more : (n t : ℕ) → n / 2 ^ suc t ≡ n / 2 / 2 ^ t
over_more n t = let e : suc t ≡ 1 + t = omega arith in ap (λ m. n / 2 ^ m) e ∙ sym (shr-shr n 1 t)

halved : (n k : ℕ) → n < 2 ^ suc k → n / 2 < 2 ^ k
halved n k h = omega (arith, pow-suc 2 k)

split_more : (k n t : ℕ) → n % 2 ≡ 0 → IsOddPart k (n / 2) t → IsOddPart (suc k) n (suc t)
split_more k n t e s = record {
  odd = rw (over_more n t) s.odd;
  whole = rw (over_more n t, pow-suc 2 t) (sym (mul_assoc (n / 2 / 2 ^ t) (2 ^ t) 2) ∙ ap (λ m. m * 2) s.whole ∙ (omega arith));
  within = (let w = s.within in omega arith);
}

pub trailing_split : (k n : ℕ) → 0 < n → n < 2 ^ k → IsOddPart k n (count_trailing_zeros k n)
unfolding count_trailing_zeros
trailing_split zero n p h = absurd (omega arith)
trailing_split (suc k) n p h = by (bit_cases n) (λ e. trailing_split k (n / 2) (omega arith) (halved n k h))
  where
    by : ((n % 2 ≡ 0) ⊎ (n % 2 ≡ 1)) → (n % 2 ≡ 0 → IsOddPart k (n / 2) (count_trailing_zeros k (n / 2)))
        → IsOddPart (suc k) n (under (n % 2) (count_trailing_zeros k (n / 2)))
    by (inl e) rec =
        subst (λ d. IsOddPart (suc k) n (under d (count_trailing_zeros k (n / 2)))) (sym e) (split_more k n (count_trailing_zeros k (n / 2)) e (rec e))
    by (inr e) rec =
        subst (λ d. IsOddPart (suc k) n (under d (count_trailing_zeros k (n / 2)))) (sym e)
        (record { odd = ap (λ m. m % 2) (over_one n) ∙ e; whole = (omega arith); within = (omega arith) })

pub gcd_of_one : (a : ℕ) → gcd_of a 1 ≡ 1
unfolding gcd_of gcd_steps
gcd_of_one a = gcd_of-step a 1 ∙ ap (λ r. gcd_of 1 r) (mod_one a) ∙ refl

-- ---- powers of two and odd numbers
odd_two : (p : ℕ) → p % 2 ≡ 1 → gcd_of p 2 ≡ 1
unfolding gcd_of gcd_steps
odd_two p e = gcd_of-step p 2 ∙ ap (λ r. gcd_of 2 r) e ∙ refl

odd_power : (p k : ℕ) → p % 2 ≡ 1 → gcd_of p (2 ^ k) ≡ 1
odd_power p zero e = gcd_of_one p
odd_power p (suc k) e = ap (λ m. gcd_of p m) (pow-suc 2 k) ∙ coprime-mul_right p (2 ^ k) 2 (odd_power p k e) (odd_two p e)

-- a factor that has nothing in common with the other number is left out
factor_left_out : (p m q : ℕ) → gcd_of p m ≡ 1 → gcd_of p (m * q) ≡ gcd_of p q
factor_left_out p m q e =
    let g : ℕ = gcd_of p (m * q) in
    let is : IsGcd p (m * q) g = gcd_of_is p (m * q) in
    same_from_IsGcd p q g (gcd_of p q)
    (is.0, dvd_of_dvd-mul m g q (gcd_comm m g ∙ coprime-dvd p m g m e is.0 (dvd_refl m)) is.1, λ d x y. is.2 d x (dvd_trans d y (dvd-mul_left q m)))
    (gcd_of_is p q)

pub odd_divisor : (p q k : ℕ) → p % 2 ≡ 1 → gcd_of p (q * 2 ^ k) ≡ gcd_of p q
odd_divisor p q k e = ap (λ m. gcd_of p m) (mul_comm q (2 ^ k)) ∙ factor_left_out p (2 ^ k) q (odd_power p k e)

scaled : (a b c : ℕ) → 0 < c → gcd_of (a * c) (b * c) ≡ gcd_of a b * c
scaled a b c h = same_from_IsGcd (a * c) (b * c) _ _ (gcd_of_is (a * c) (b * c)) (gcd_of_scaled a b c h)

fewer_left : (p q i d : ℕ) → p % 2 ≡ 1 → gcd_of (p * 2 ^ i) (q * 2 ^ (d + i)) ≡ gcd_of p q * 2 ^ i
fewer_left p q i d e =
    ap (λ m. gcd_of (p * 2 ^ i) m) (ap (λ m. q * m) (pow-add 2 d i) ∙ sym (mul_assoc q (2 ^ d) (2 ^ i)))
    ∙ scaled p (q * 2 ^ d) (2 ^ i) (pow_pos i)
    ∙ ap (λ m. m * 2 ^ i) (odd_divisor p q d e)

pub twos_shared : (p q i j : ℕ) → p % 2 ≡ 1 → q % 2 ≡ 1 → gcd_of (p * 2 ^ i) (q * 2 ^ j) ≡ gcd_of p q * 2 ^ min i j
twos_shared p q i j ep eq = by (cases i j)
  where
    cases : (i j : ℕ) → ((min i j ≡ i) × (j ≡ (j - i) + i)) ⊎ ((min i j ≡ j) × (i ≡ (i - j) + j))
    cases i j = grind arith

    by : (((min i j ≡ i) × (j ≡ (j - i) + i)) ⊎ ((min i j ≡ j) × (i ≡ (i - j) + j))) → gcd_of (p * 2 ^ i) (q * 2 ^ j) ≡ gcd_of p q * 2 ^ min i j
    by (inl (m, e)) = ap (λ n. gcd_of (p * 2 ^ i) (q * 2 ^ n)) e ∙ fewer_left p q i (j - i) ep ∙ ap (λ n. gcd_of p q * 2 ^ n) (sym m)
    by (inr (m, e)) =
        ap (λ n. gcd_of (p * 2 ^ n) (q * 2 ^ j)) e
        ∙ gcd_comm (p * 2 ^ ((i - j) + j)) (q * 2 ^ j)
        ∙ fewer_left q p j (i - j) eq
        ∙ ap₂ (λ g n. g * 2 ^ n) (gcd_comm q p) (sym m)

-- ---- one step
gap_left : (a b : ℕ) → b ≤ a → gcd_of (a - b) b ≡ gcd_of a b
gap_left a b h = same_from_IsGcd a b _ _ (IsGcd-from_sub a b (gcd_of (a - b) b) h (gcd_of_is (a - b) b)) (gcd_of_is a b)

pub record IsStep (a b gap : ℕ) : Type 0 where
  pub odd : gap / 2 ^ count_trailing_zeros 64 gap % 2 ≡ 1
  pub same : gcd_of a b ≡ gcd_of (gap / 2 ^ count_trailing_zeros 64 gap) (min a b)
  pub kept : min a b % 2 ≡ 1
  pub fits : gap / 2 ^ count_trailing_zeros 64 gap < 2 ^ 64
  pub kept_fits : min a b < 2 ^ 64
  pub smaller : gap / 2 ^ count_trailing_zeros 64 gap + min a b < a + b

quotient_le : (n t : ℕ) → n / 2 ^ t * 2 ^ t ≡ n → n / 2 ^ t ≤ n
quotient_le n t e = omega (arith, shr_le n t)

-- which one is greater, with the difference and the lesser one
abbrev IsEitherGreater : ℕ → ℕ → Type 0
IsEitherGreater a b = ((b < a) × ((a - b) + (b - a) ≡ a - b) × (min a b ≡ b)) ⊎ ((a < b) × ((a - b) + (b - a) ≡ b - a) × (min a b ≡ a))

-- the odd part of the difference in place of the greater number
pub step : (a b : ℕ) → a % 2 ≡ 1 → b % 2 ≡ 1 → a < 2 ^ 64 → b < 2 ^ 64 → a ≢ b → IsStep a b ((a - b) + (b - a))
step a b oa ob ha hb ne = by (cases a b ne)
  where
    cases : (a b : ℕ) → a ≢ b → IsEitherGreater a b
    cases a b ne = grind arith

    less : (a b : ℕ) → b % 2 ≡ 1 → a < 2 ^ 64 → b < a → let gap = a - b in let t = count_trailing_zeros 64 gap in
        (gap / 2 ^ t % 2 ≡ 1) × (gcd_of a b ≡ gcd_of (gap / 2 ^ t) b) × (gap / 2 ^ t + b < a + b) × (gap / 2 ^ t < 2 ^ 64)
    less a b ob ha lt =
        let gap : ℕ = a - b in
        let t : ℕ = count_trailing_zeros 64 gap in
        let s : IsOddPart 64 gap t = trailing_split 64 gap (omega arith) (omega arith) in
        let small : gap / 2 ^ t ≤ gap = quotient_le gap t s.whole in (
          s.odd,
          sym (gap_left a b (omega arith)) ∙ gcd_comm gap b ∙ ap (λ n. gcd_of b n) (sym s.whole) ∙ odd_divisor b (gap / 2 ^ t) t ob ∙ gcd_comm b (gap / 2 ^ t),
          omega arith,
          omega arith,
        )

    by : IsEitherGreater a b → IsStep a b ((a - b) + (b - a))
    by (inl (lt, g, m)) = let l = less a b ob ha lt in
        rw g (record {
          odd = l.0;
          same = l.1 ∙ ap (λ n. gcd_of ((a - b) / 2 ^ count_trailing_zeros 64 (a - b)) n) (sym m);
          kept = ap (λ n. n % 2) m ∙ ob;
          fits = l.3;
          kept_fits = (rw m hb);
          smaller = (rw m l.2);
        })
    by (inr (lt, g, m)) = let l = less b a oa hb lt in
        rw g (record {
          odd = l.0;
          same = gcd_comm a b ∙ l.1 ∙ ap (λ n. gcd_of ((b - a) / 2 ^ count_trailing_zeros 64 (b - a)) n) (sym m);
          kept = ap (λ n. n % 2) m ∙ oa;
          fits = l.3;
          kept_fits = (rw m ha);
          smaller = (rw m (let k = l.2 in omega arith));
        })

pub gcd_of_same : (a : ℕ) → gcd_of a a ≡ a
gcd_of_same a = same_from_IsGcd a a (gcd_of a a) a (gcd_of_is a a) (dvd_refl a, dvd_refl a, λ d x y. x)

pub zero_gcd_of : (a : ℕ) → gcd_of 0 a ≡ a
zero_gcd_of a = gcd_comm 0 a ∙ gcd_of-zero a

pub shifted_back : (a b : ℕ) → 0 < a → 0 < b → a < 2 ^ 64 → b < 2 ^ 64 →
    let i = count_trailing_zeros 64 a in
    let j = count_trailing_zeros 64 b in
    (a / 2 ^ i % 2 ≡ 1) × (b / 2 ^ j % 2 ≡ 1) × (gcd_of (a / 2 ^ i) (b / 2 ^ j) * 2 ^ min i j % 2 ^ 64 ≡ gcd_of a b)
shifted_back a b pa pb ha hb =
    let i : ℕ = count_trailing_zeros 64 a in
    let j : ℕ = count_trailing_zeros 64 b in
    let s : IsOddPart 64 a i = trailing_split 64 a pa ha in
    let t : IsOddPart 64 b j = trailing_split 64 b pb hb in
    let back : gcd_of (a / 2 ^ i) (b / 2 ^ j) * 2 ^ min i j ≡ gcd_of a b =
    sym (twos_shared (a / 2 ^ i) (b / 2 ^ j) i j s.odd t.odd) ∙ ap₂ gcd_of s.whole t.whole in
    let small : gcd_of a b < 2 ^ 64 = lt_of_le_of_lt (gcd_of-le_left a b pa) ha in
    (s.odd, t.odd, ap (λ n. n % 2 ^ 64) back ∙ mod-eq_of_lt small)
