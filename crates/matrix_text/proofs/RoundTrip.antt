-- A row that is written is read as that row.
use Rattle.std.proofs.Common.{◌≡◌, ℕ, ◌<◌, List, [], ◌∷◌, length, map, Result, Ok, refl, ap, ◌∙◌, arith, lit<}
use Rattle.std.specs.List.{AllByRecursion}
use Rattle.exact_forms.specs.Rational.{Rational}
use Rattle.text_lines.specs.Readings.{numbers_of, at_line}
use Rattle.text_lines.specs.Spelling.{fraction_word}
use Rattle.text_lines.proofs.FractionTexts.{IsWithin, IsPlainWord, fraction-read, plain-fraction}
use Rattle.text_lines.proofs.PlainLines.{joined, IsPlainLine, in_line-joined}
use Rattle.matrix_text.specs.Matrix.{entry_of_word, row_of_words, fault_at, read_line}
use Rattle.matrix_text.specs.declared.fault.TextKind.{TextKind}
use Rattle.matrix_text.specs.declared.fault.TextKind.TheVariants.{NotAscii}
use Rattle.matrix_text.specs.Canonical.{IsShort}

within : (q : Rational) → IsShort q → IsWithin 9223372036854775807 q
within q h = record { low = lit< tt; num = h.num; den = h.den }

entry-fraction : (q : Rational) → IsShort q → entry_of_word (fraction_word q) ≡ Ok q
unfolding entry_of_word
entry-fraction q h = rw (fraction-read 9223372036854775807 q (within q h)) refl

row-fractions : (row : List Rational) → AllByRecursion IsShort row → row_of_words (length row) (map fraction_word row) ≡ Ok row
unfolding numbers_of
row-fractions [] h = refl
row-fractions (q ∷ row) h = rw (entry-fraction q h.0, row-fractions row h.1) refl

words-plain : (row : List Rational) → AllByRecursion IsShort row → AllByRecursion IsPlainWord (map fraction_word row)
words-plain [] h = tt
words-plain (q ∷ row) h = (plain-fraction 9223372036854775807 q (within q h.0), words-plain row h.1)

pub row-plain : (row : List Rational) → 0 < length row → AllByRecursion IsShort row → IsPlainLine (map fraction_word row)
row-plain [] some h = absurd (omega arith)
row-plain (q ∷ row) some h = record { some = omega arith; plain = words-plain (q ∷ row) h }

-- the line of a row gives the row
pub read_line-row : (n k : ℕ) (row : List Rational) → length row ≡ n → AllByRecursion IsShort row
    → read_line (row_of_words n) (record { number = k; bytes = joined (map fraction_word row) }) ≡ Ok row
read_line-row n k row len h =
    let read : row_of_words n (map fraction_word row) ≡ Ok row = rw (← len) (row-fractions row h) in
    in_line-joined fault_at NotAscii (row_of_words n) k (map fraction_word row) (words-plain row h)
    ∙ ap (λ (r : Result (List Rational) TextKind). at_line fault_at k r) read
