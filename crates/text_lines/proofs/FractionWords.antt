-- What two words that write numbers up to a limit stand for.
use Rattle.std.proofs.Common.{◌≡◌, ℕ, ◌-◌, ◌<◌, ◌≤◌, ◌^◌, true, false, cond, ltb, List, min, ℤ, pos, neg_ℤ, Ok, refl, arith}
use Rattle.std.proofs.lemmas.Bool.{ne_eqb, le-ltb}
use Rattle.exact_forms.specs.Rational.{ratio}
use Rattle.text_lines.specs.Numbers.{is_whole, whole_value, is_signed, magnitude, signed_value, begins_with_minus}
use Rattle.text_lines.specs.Fractions.{ratio_up_to, signed_up_to}

-- a number that was read up to the largest one, and is at most the limit
exactly : (limit m n : ℕ) → limit < 2 ^ 127 → m ≡ min n (2 ^ 128 - 1) → m ≤ limit → m ≡ n
exactly limit m n small e le = omega arith

pub signed-good : (limit : ℕ) (word : List ℕ) (z : ℤ) (m : ℕ) → limit < 2 ^ 127 → is_signed word ≡ true → m ≡ min (magnitude word) (2 ^ 128 - 1) → m ≤ limit
    → z ≡ cond (begins_with_minus word) (neg_ℤ (pos m)) (pos m) → signed_up_to limit word ≡ Ok z
unfolding signed_up_to signed_value
signed-good limit word z m low signed mag small is =
    let a : m ≡ magnitude word = exactly limit m (magnitude word) low mag small in
    let large : ltb limit (magnitude word) ≡ false = le-ltb limit (magnitude word) (omega arith) in
    rw (signed, large, is, a) refl

pub ratio-good : (limit : ℕ) (top bottom : List ℕ) (num : ℤ) (m den : ℕ) → limit < 2 ^ 127 → is_signed top ≡ true → is_whole bottom ≡ true
    → m ≡ min (magnitude top) (2 ^ 128 - 1) → den ≡ min (whole_value bottom) (2 ^ 128 - 1)
    → m ≤ limit → den ≤ limit → (den ≡ 0 → ⊥) → num ≡ cond (begins_with_minus top) (neg_ℤ (pos m)) (pos m) → ratio_up_to limit top bottom ≡ Ok (ratio num den)
unfolding ratio_up_to signed_value
ratio-good limit top bottom num m den low signed whole mag val small short some is =
    let a : m ≡ magnitude top = exactly limit m (magnitude top) low mag small in
    let b : den ≡ whole_value bottom = exactly limit den (whole_value bottom) low val short in
    let large : ltb limit (magnitude top) ≡ false = le-ltb limit (magnitude top) (omega arith) in
    let long : ltb limit (whole_value bottom) ≡ false = le-ltb limit (whole_value bottom) (omega arith) in
    let not_zero = ne_eqb (whole_value bottom) 0 (λ e. some (omega arith)) in
    rw (signed, whole, large, long, not_zero, is, a, b) refl
