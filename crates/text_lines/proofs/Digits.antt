-- The bytes of a decimal numeral, of whatever size.
use Rattle.std.proofs.Common.{◌≡◌, ℕ, zero, suc, ◌+◌, ◌%◌, ◌<◌, Bool, true, false, List, [], ◌∷◌, length, ℤ, pos, negsuc, refl, arith}
use Rattle.std.specs.List.{All}
use Rattle.std.specs.Fmt.{decimal, signed_decimal, digits, digits_onto, digit_glyph}
use Rattle.std.specs.Prelude.{◌/◌, ◌==◌, if◌then◌else◌}
use Rattle.std.proofs.lemmas.Bool.{lt-ltb}
use Rattle.std.proofs.lemmas.List.Elements.{All-cons, All-nil}
use Rattle.text_lines.proofs.FractionTexts.{IsPlain, IsPlainWord, plain-digit, plain-minus}

glyph_plain : (n : ℕ) → IsPlain (digit_glyph false (n % 10))
glyph_plain n =
    let small : n % 10 < 10 = omega arith in
    let is : digit_glyph false (n % 10) ≡ 48 + n % 10 = rw (lt-ltb (n % 10) 10 small) refl in
    rw is (plain-digit (48 + n % 10) (omega arith) (omega arith))

-- digits before plain bytes
record ArePlainBytes (bytes : List ℕ) : Type 0 where
  some : 0 < length bytes
  plain : All IsPlain bytes

onto : (k n : ℕ) (acc : List ℕ) → ArePlainBytes acc → ArePlainBytes (digits_onto k 10 false n acc)
onto zero n acc h = h
onto (suc k) n acc h = by (n / 10 == 0) (onto k (n / 10) (digit_glyph false (n % 10) ∷ acc) more)
  where
    more : ArePlainBytes (digit_glyph false (n % 10) ∷ acc)
    more = record { some = omega arith; plain = All-cons IsPlain (digit_glyph false (n % 10)) acc (glyph_plain n) h.plain }

    by : (b : Bool) → ArePlainBytes (digits_onto k 10 false (n / 10) (digit_glyph false (n % 10) ∷ acc))
        → ArePlainBytes (if b then digit_glyph false (n % 10) ∷ acc else digits_onto k 10 false (n / 10) (digit_glyph false (n % 10) ∷ acc))
    by true rest = more
    by false rest = rest

from_none : (k n : ℕ) → ArePlainBytes (digits_onto (suc k) 10 false n [])
from_none k n = by (n / 10 == 0)
  where
    first : ArePlainBytes (digit_glyph false (n % 10) ∷ [])
    first = record { some = omega arith; plain = All-cons IsPlain (digit_glyph false (n % 10)) [] (glyph_plain n) (All-nil IsPlain) }

    by : (b : Bool) → ArePlainBytes (if b then digit_glyph false (n % 10) ∷ [] else digits_onto k 10 false (n / 10) (digit_glyph false (n % 10) ∷ []))
    by true = first
    by false = onto k (n / 10) (digit_glyph false (n % 10) ∷ []) first

pub decimal_plain : (n : ℕ) → IsPlainWord (decimal n)
unfolding digits
decimal_plain n = let h = from_none 63 n in record { some = h.some; plain = h.plain }

pub signed_plain : (z : ℤ) → IsPlainWord (signed_decimal z)
signed_plain (pos n) = decimal_plain n
signed_plain (negsuc n) = let h = decimal_plain (suc n) in record { some = omega arith; plain = All-cons IsPlain 45 (decimal (suc n)) plain-minus h.plain }
