-- Words that stand for numbers, and their values.
--
--     is_whole word            one or more digits
--     value_after n word       the number that they write after those of n
--     whole_value word         the number that they write, however many they are
--     begins_with_minus word   its first byte is `-`
--     without_minus word       what follows that byte, or the whole word
--     is_signed word           a whole word, with or without one `-` before it
--     magnitude word           its number without the sign
--     signed_value word        its number; `-0` is 0
use Rattle.std.specs.Prelude.{ℕ, ◌+◌, ◌-◌, ◌*◌, Bool, false, ◌&&◌, List, [], ◌∷◌, ◌==◌, if◌then◌else◌, ℤ, pos, neg_ℤ}
use Rattle.std.specs.Str.{all_ascii_digits}
use Rattle.text_lines.specs.Lines.{is_nonempty}

abbrev pub is_whole : List ℕ → Bool
is_whole word = is_nonempty word && all_ascii_digits word

unfoldable pub value_after : ℕ → List ℕ → ℕ
value_after n [] = n
value_after n (digit ∷ more) = value_after (n * 10 + (digit - 48)) more

abbrev pub whole_value : List ℕ → ℕ
whole_value word = value_after 0 word

abbrev pub begins_with_minus : List ℕ → Bool
begins_with_minus [] = false
begins_with_minus (byte ∷ more) = byte == 45

abbrev pub without_minus : List ℕ → List ℕ
without_minus [] = []
without_minus (byte ∷ more) = if byte == 45 then more else byte ∷ more

unfoldable pub is_signed : List ℕ → Bool
is_signed word = is_whole (without_minus word)

unfoldable pub magnitude : List ℕ → ℕ
magnitude word = whole_value (without_minus word)

unfoldable pub signed_value : List ℕ → ℤ
signed_value word = if begins_with_minus word then neg_ℤ (pos (magnitude word)) else pos (magnitude word)
