-- Numbers as they are written, and a text that grows at its end.
--
--     Extends old new         nothing was taken away or changed
--     spaced_word column word  a word, with a space before it in every column but the first
--     line_of_words words     the words, with one space between them, and a line feed
--     quotient_word q         `p/q` in lowest terms, also where q is 1
--     fraction_word q         the numerator, with `/` and the denominator where that is not 1, in lowest terms
use Rattle.std.specs.Prelude.{◌≡◌, ℕ, zero, suc, List, [], ◌∷◌, ◌++◌, length, take, ◌==◌, if◌then◌else◌}
use Rattle.std.specs.List.{join_with_byte}
use Rattle.std.specs.Fmt.{decimal, signed_decimal}
use Rattle.exact_forms.specs.Rational.{Rational}

abbrev pub Extends : List ℕ → List ℕ → Type 0
Extends old new = take (length old) new ≡ old

unfoldable pub spaced_word : ℕ → List ℕ → List ℕ
spaced_word zero word = word
spaced_word (suc column) word = 32 ∷ word

abbrev pub line_of_words : List (List ℕ) → List ℕ
line_of_words words = join_with_byte 32 words ++ 10 ∷ []

abbrev pub quotient_word : Rational → List ℕ
quotient_word q = signed_decimal q.num ++ 47 ∷ decimal q.den

unfoldable pub fraction_word : Rational → List ℕ
fraction_word q = if q.den == 1 then signed_decimal q.num else quotient_word q
