-- A number that is written is read as that number.
use Rattle.std.proofs.Common.{◌≡◌, ◌≢◌, ℕ, suc, ◌<◌, ◌≤◌, ◌^◌, true, false, eqb, List, [], ◌∷◌, length, get_or, ℤ, pos, negsuc, refl, ap, ◌∙◌, arith}
use Rattle.std.specs.List.{All}
use Rattle.std.specs.Str.{all_ascii_digits}
use Rattle.std.specs.Fmt.{decimal, signed_decimal}
use Rattle.std.proofs.lemmas.Fmt.{decimal_is_IsNumeral_wide}
use Rattle.std.proofs.lemmas.Str.Parse.{IsNumeralModel, FoldsDigits, numerals_by_fold, tells_all_ascii_digits, not_in_digits, digit_at}
use Rattle.std.proofs.lemmas.Bool.{ne_eqb}
use Rattle.std.proofs.lemmas.List.Elements.{All-from_get_or, All-cons}
use Rattle.std.specs.Prelude.{nat_abs}
use Rattle.text_lines.specs.Numbers.{is_whole, whole_value, value_after, is_signed, magnitude, signed_value, without_minus, begins_with_minus}

folds : FoldsDigits value_after
unfolding value_after
folds = record { empty = λ n. refl; more = λ n c cs d. refl }

pub own : IsNumeralModel (λ ds. all_ascii_digits ds ≡ true) (value_after 0)
own = numerals_by_fold (λ ds. all_ascii_digits ds ≡ true) tells_all_ascii_digits value_after folds

wide : (n : ℕ) → n < 2 ^ 128 → n < 10 ^ 64
wide n h = omega arith

pub some-decimal : (n : ℕ) → n < 2 ^ 128 → 0 < length (decimal n)
some-decimal n h = (decimal_is_IsNumeral_wide n (wide n h)).0.0

digits_decimal : (n : ℕ) → n < 2 ^ 128 → all_ascii_digits (decimal n) ≡ true
digits_decimal n h = own.from (decimal n) (decimal_is_IsNumeral_wide n (wide n h)).0.1

pub is_whole-decimal : (n : ℕ) → n < 2 ^ 128 → is_whole (decimal n) ≡ true
is_whole-decimal n h =
    let some = some-decimal n h in
    rw (ne_eqb (length (decimal n)) 0 (λ z. omega arith), digits_decimal n h) refl

pub whole_value-decimal : (n : ℕ) → n < 2 ^ 128 → whole_value (decimal n) ≡ n
whole_value-decimal n h = own.same (decimal n) (decimal_is_IsNumeral_wide n (wide n h)).0.1 ∙ (decimal_is_IsNumeral_wide n (wide n h)).1

no_minus : (bs : List ℕ) → get_or bs 0 0 ≢ 45 → (without_minus bs ≡ bs) × (begins_with_minus bs ≡ false)
no_minus [] h = (refl, refl)
no_minus (b ∷ bs) h = let e : eqb b 45 ≡ false = ne_eqb b 45 h in (rw e refl, rw e refl)

digit_first : (n : ℕ) → n < 2 ^ 128 → get_or (decimal n) 0 0 ≢ 45
digit_first n h = not_in_digits own (decimal n) 45 (digits_decimal n h) (λ r. omega arith) 0 (some-decimal n h)

-- the number without its sign (above)

pub without_minus-signed : (z : ℤ) → nat_abs z < 2 ^ 128 → without_minus (signed_decimal z) ≡ decimal (nat_abs z)
without_minus-signed (pos n) h = (no_minus (decimal n) (digit_first n h)).0
without_minus-signed (negsuc n) h = refl

pub is_signed-decimal : (z : ℤ) → nat_abs z < 2 ^ 128 → is_signed (signed_decimal z) ≡ true
unfolding is_signed
is_signed-decimal z h = ap is_whole (without_minus-signed z h) ∙ is_whole-decimal (nat_abs z) h

pub magnitude-decimal : (z : ℤ) → nat_abs z < 2 ^ 128 → magnitude (signed_decimal z) ≡ nat_abs z
unfolding magnitude
magnitude-decimal z h = ap whole_value (without_minus-signed z h) ∙ whole_value-decimal (nat_abs z) h

pub signed_value-decimal : (z : ℤ) → nat_abs z < 2 ^ 128 → signed_value (signed_decimal z) ≡ z
unfolding signed_value
signed_value-decimal (pos n) h = rw ((no_minus (decimal n) (digit_first n h)).1, magnitude-decimal (pos n) h) refl
signed_value-decimal (negsuc n) h = rw (magnitude-decimal (negsuc n) h) refl

-- what holds of the minus sign and of digits holds of each byte of a number
pub All-decimal : (P : ℕ → Type 0) (digit : (b : ℕ) → 48 ≤ b → b ≤ 57 → P b) (n : ℕ) → n < 2 ^ 128 → All P (decimal n)
All-decimal P digit n h =
    All-from_get_or P (decimal n) 0 (λ i lt. let r = digit_at (decimal n) i (own.to (decimal n) (digits_decimal n h)) lt in
    digit (get_or (decimal n) i 0) (omega (arith, r)) (omega (arith, r)))

pub All-signed : (P : ℕ → Type 0) (minus : P 45) (digit : (b : ℕ) → 48 ≤ b → b ≤ 57 → P b) (z : ℤ) → nat_abs z < 2 ^ 128 → All P (signed_decimal z)
All-signed P minus digit (pos n) h = All-decimal P digit n h
All-signed P minus digit (negsuc n) h = All-cons P 45 (decimal (suc n)) minus (All-decimal P digit (suc n) h)

pub some-signed : (z : ℤ) → nat_abs z < 2 ^ 128 → 0 < length (signed_decimal z)
some-signed (pos n) h = some-decimal n h
some-signed (negsuc n) h = omega arith
