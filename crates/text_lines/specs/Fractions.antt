-- The numbers that words stand for, up to a limit of their magnitudes: a value, or the first of these faults: the word is not of
-- the kind asked for; a number is over the limit; a denominator is 0.
--
--     whole_up_to limit word         the number of a whole word
--     signed_up_to limit word        the number of a signed word
--     ratio_up_to limit top bottom   the fraction of a signed and a whole word
--     is_slash b                     the byte is `/`
--     parted limit word at           the fraction of the word's two parts beside this position, or of the word over 1
--     fraction_up_to limit word      the fraction of a fraction word: a signed word, or a signed word, `/` and a whole word
--     kinded kind_of read            what was read, its fault as a kind of the text's own
use Rattle.std.specs.Prelude.{ℕ, ◌+◌, not, ◌&&◌, ◌||◌, List, take, drop, Option, Some, None, Result, Ok, Err, position, ℤ, nat_lt, ◌==◌, if◌then◌else◌, Bool, codes}
use Rattle.exact_forms.specs.Rational.{Rational, ratio}
use Rattle.text_lines.specs.Numbers.{is_whole, whole_value, is_signed, magnitude, signed_value}
use Rattle.text_lines.specs.declared.fractions.NumberFault.{NumberFault}
use Rattle.text_lines.specs.declared.fractions.NumberFault.TheVariants.{NotNumber, TooLarge, ZeroDenominator}

unfoldable pub whole_up_to : ℕ → List ℕ → Result ℕ NumberFault
whole_up_to limit word =
    if not (is_whole word) then Err NotNumber
    else (if nat_lt limit (whole_value word) then Err TooLarge
    else Ok (whole_value word))

unfoldable pub signed_up_to : ℕ → List ℕ → Result ℤ NumberFault
signed_up_to limit word =
    if not (is_signed word) then Err NotNumber
    else (if nat_lt limit (magnitude word) then Err TooLarge
    else Ok (signed_value word))

unfoldable pub ratio_up_to : ℕ → List ℕ → List ℕ → Result Rational NumberFault
ratio_up_to limit top bottom =
    if not (is_signed top && is_whole bottom) then Err NotNumber
    else (if nat_lt limit (magnitude top) || nat_lt limit (whole_value bottom) then Err TooLarge
    else (if whole_value bottom == 0 then Err ZeroDenominator
    else Ok (ratio (signed_value top) (whole_value bottom))))

abbrev pub is_slash : ℕ → Bool
is_slash b = b == 47

abbrev pub parted : ℕ → List ℕ → Option ℕ → Result Rational NumberFault
parted limit word None = ratio_up_to limit word (codes "1")
parted limit word (Some at) = ratio_up_to limit (take at word) (drop (at + 1) word)

unfoldable pub fraction_up_to : ℕ → List ℕ → Result Rational NumberFault
fraction_up_to limit word = parted limit word (position is_slash word)

abbrev pub kinded : {A K : Type 0} → (NumberFault → K) → Result A NumberFault → Result A K
kinded kind_of (Ok x) = Ok x
kinded kind_of (Err fault) = Err (kind_of fault)
