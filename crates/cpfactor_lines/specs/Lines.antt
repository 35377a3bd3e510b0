-- The words of a line that the program writes, as bytes.
--
--     line words               the words with one space between them, and a line feed
--     word_text word           the bytes of a word
--     words_text words         those of each of them
--     digits_text path         the digits of a path, from the root on
--     path_word path           these; the empty path is `-`
use Rattle.std.specs.Prelude.{ℕ, ◌+◌, List, [], ◌∷◌, ◌++◌, map, codes}
use Rattle.std.specs.List.{join_with_byte}
use Rattle.std.specs.Fmt.{decimal, signed_decimal}
use Rattle.unimodular_cone.specs.Paths.{Path, digit_of}
use Rattle.cpfactor_lines.specs.declared.line.Word.{Word}
use Rattle.cpfactor_lines.specs.declared.line.Word.TheVariants.{Text, Whole, Signed, Fraction, PathDigits}

unfoldable pub digits_text : Path → List ℕ
digits_text path = map (λ side. 48 + digit_of side) path

unfoldable pub path_word : Path → List ℕ
path_word [] = codes "-"
path_word (side ∷ path) = digits_text (side ∷ path)

abbrev pub word_text : Word → List ℕ
word_text (Text bytes) = bytes.now
word_text (Whole number) = decimal number
word_text (Signed number) = signed_decimal number
word_text (Fraction num den) = signed_decimal num ++ 47 ∷ signed_decimal den
word_text (PathDigits path) = path_word path.now

abbrev pub words_text : List Word → List (List ℕ)
words_text words = map word_text words

unfoldable pub line : List (List ℕ) → List ℕ
line words = join_with_byte 32 words ++ 10 ∷ []
