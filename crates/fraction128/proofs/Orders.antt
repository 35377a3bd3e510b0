-- The order of ratios, by products crosswise.
use Rattle.std.specs.Prelude.{◌≡◌, ◌≢◌, ◌⊎◌, ℕ, ◌+◌, ◌*◌, ◌/◌, ◌%◌, ◌<◌, ◌≤◌, ℤ, pos, ◌-ℤ◌, ◌*ℤ◌, ◌≤ℤ◌, ◌<ℤ◌}
use Rattle.std.proofs.Common.{arith, sym, ◌∙◌, ap, ap₂, subst, inl, inr, mul-pos, mod-lt}
use Rattle.std.proofs.lemmas.Int.{ints}
use Rattle.std.specs.Ordering.{nat_cmp, int_cmp, MatchOrdering}
use Rattle.std.specs.Cmp.{nat_cmp_is, ranks, int_cmp_is, int_ranks}
use Rattle.std.specs.declared.cmp.Ordering.{Ordering}
use Rattle.std.specs.declared.cmp.Ordering.TheVariants.{Less, Equal, Greater}
use native.Mathlib.Nat.{div-add-mod', mul_comm, mul-lt-mul_of_pos_right, mul-le-mul_right}
use Rattle.commutative_ring.proofs.Expand.{expand, linear}
use Rattle.exact_forms.specs.Rational.{Rational, ◌<ℚ◌}
use Rattle.exact_forms.proofs.Order.{positive_mul}
use Rattle.exact_forms.proofs.Rational.{same_rational}
use Rattle.fraction128.specs.Order.{order_of}

each_case : {P Q R P' Q' R' : Type 0} (r : Ordering) → (P → P') → (Q → Q') → (R → R') → MatchOrdering r P Q R → MatchOrdering r P' Q' R'
each_case Less f g h m = f m
each_case Equal f g h m = g m
each_case Greater f g h m = h m

-- two pairs that stand in one order
same_rank : (m n x y : ℕ) → (m < n → x < y) → (m ≡ n → x ≡ y) → (n < m → y < x) → nat_cmp m n ≡ nat_cmp x y
same_rank m n x y f g h = nat_cmp_is x y (nat_cmp m n) (each_case (nat_cmp m n) f g h (ranks m n))

same_rank_ℤ : (m n x y : ℤ) → (m <ℤ n → x <ℤ y) → (m ≡ n → x ≡ y) → (n <ℤ m → y <ℤ x) → int_cmp m n ≡ int_cmp x y
same_rank_ℤ m n x y f g h = int_cmp_is x y (int_cmp m n) (each_case (int_cmp m n) f g h (int_ranks m n))

-- ---- continued division
less_whole : (q b r p d s : ℕ) → r < b → 0 < d → q + 1 ≤ p → (q * b + r) * d < (p * d + s) * b
less_whole q b r p d s lt pd le =
    let rest : r * d < b * d = mul-lt-mul_of_pos_right lt pd in
    let wholes : (q + 1) * (b * d) ≤ p * (b * d) = mul-le-mul_right (b * d) le in
    omega arith

less : (a b c d : ℕ) → 0 < b → 0 < d → a / b < c / d → a * d < c * b
less a b c d pb pd lt =
    subst (λ m. m * d < c * b) (div-add-mod' a b)
    (subst (λ m. (a / b * b + a % b) * d < m * b) (div-add-mod' c d) (less_whole (a / b) b (a % b) (c / d) d (c % d) (mod-lt a pb) pd (omega arith)))

-- the whole parts decide where they differ
pub apart : (a b c d : ℕ) → 0 < b → 0 < d → a / b ≢ c / d → nat_cmp (a / b) (c / d) ≡ nat_cmp (a * d) (c * b)
apart a b c d pb pd ne = same_rank (a / b) (c / d) (a * d) (c * b) (less a b c d pb pd) (λ e. absurd (ne e)) (less c d a b pd pb)

-- and else the rests do
rests : (q b r d s : ℕ) → nat_cmp (r * d) (s * b) ≡ nat_cmp ((q * b + r) * d) ((q * d + s) * b)
rests q b r d s = same_rank (r * d) (s * b) ((q * b + r) * d) ((q * d + s) * b) (λ h. omega arith) (λ h. omega arith) (λ h. omega arith)

pub same_whole : (a b c d : ℕ) → a / b ≡ c / d → nat_cmp (a % b * d) (c % d * b) ≡ nat_cmp (a * d) (c * b)
same_whole a b c d e =
    rests (a / b) b (a % b) d (c % d)
    ∙ ap₂ (λ m n. nat_cmp (m * d) (n * b)) (div-add-mod' a b) (ap (λ q. q * d + c % d) e ∙ div-add-mod' c d)

none_times : (s b : ℕ) → s ≡ 0 → s * b ≡ 0
none_times s b e = ap (λ n. n * b) e ∙ (omega arith)

-- a rest of 0 is the lesser one
pub at_end : (r b s d : ℕ) → 0 < b → 0 < d → (r ≡ 0) ⊎ (s ≡ 0) → nat_cmp r s ≡ nat_cmp (r * d) (s * b)
at_end r b s d pb pd (inl e) =
    let none : r * d ≡ 0 = none_times r d e in
    same_rank r s (r * d) (s * b) (λ h. let some : 0 < s * b = mul-pos (omega arith) pb in omega arith) (λ h. none
    ∙ sym (none_times s b (sym h ∙ e))) (λ h. absurd (omega arith))
at_end r b s d pb pd (inr e) =
    let none : s * b ≡ 0 = none_times s b e in
    same_rank r s (r * d) (s * b) (λ h. absurd (omega arith)) (λ h. none_times r d (h ∙ e) ∙ sym none) (λ h. let some : 0 < r * d = mul-pos (omega arith) pd in
    omega arith)

pub turned : (r s b d : ℕ) → nat_cmp (r * d) (s * b) ≡ nat_cmp (d * r) (b * s)
turned r s b d = ap₂ nat_cmp (mul_comm r d) (mul_comm s b)

-- ---- signs
-- ---- one denominator
pub order_same_den : (a c d : ℤ) → pos 1 ≤ℤ d → int_cmp a c ≡ int_cmp (a *ℤ d) (c *ℤ d)
order_same_den a c d hd = same_rank_ℤ a c (a *ℤ d) (c *ℤ d) (below a c) (λ e. ap (λ (z : ℤ). z *ℤ d) e) (below c a)
  where
    below : (x y : ℤ) → x <ℤ y → (x *ℤ d) <ℤ (y *ℤ d)
    below x y h = let p : pos 1 ≤ℤ ((y -ℤ x) *ℤ d) = positive_mul (y -ℤ x) d (omega (arith, ints)) hd in let q = simp expand at p in
        simp expand (omega (arith, linear))

-- ---- what the answer says
pub order_of_ranks : (x y : Rational) (r : Ordering) → r ≡ order_of x y → MatchOrdering r (x <ℚ y) (x ≡ y) (y <ℚ x)
unfolding order_of
order_of_ranks x y r e =
    subst (λ r. MatchOrdering r (x <ℚ y) (x ≡ y) (y <ℚ x)) (sym e)
    (each_case (int_cmp (x.num *ℤ pos y.den) (y.num *ℤ pos x.den)) (λ h. record { crosswise = h }) (same_rational x y) (λ h. record { crosswise = h })
    (int_ranks (x.num *ℤ pos y.den) (y.num *ℤ pos x.den)))
