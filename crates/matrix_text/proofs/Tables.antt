-- A text that is written is read as what was written.
use Rattle.std.proofs.Common.{◌≡◌, ℕ, ◌+◌, ◌<◌, List, [], ◌∷◌, ◌++◌, length, map, Result, Ok, codes, refl, ap, ◌∙◌, arith}
use Rattle.std.specs.List.{AllByRecursion, flat_map}
use Rattle.std.specs.Fmt.{decimal}
use Rattle.std.proofs.lemmas.Bool.{lt-ltb}
use Rattle.exact_forms.specs.Rational.{Rational}
use Rattle.text_lines.specs.Lines.{content_lines, end_line}
use Rattle.text_lines.specs.Readings.{at_line}
use Rattle.text_lines.specs.Spelling.{line_of_words, fraction_word}
use Rattle.text_lines.proofs.Numerals.{is_whole-decimal, whole_value-decimal}
use Rattle.text_lines.proofs.FractionTexts.{plain-decimal, plain-codes}
use Rattle.text_lines.proofs.PlainLines.{joined, IsPlainLine, numbered, in_line-joined, content_lines-written}
use Rattle.matrix_text.specs.Matrix.{TextRow, rows_of_lines, header_of, size_of_word, fault_at, read_line, table_of}
use Rattle.matrix_text.specs.declared.fault.TextKind.{TextKind}
use Rattle.matrix_text.specs.declared.fault.TextKind.TheVariants.{NotAscii}
use Rattle.matrix_text.specs.Canonical.{row_text, rows_text, table_text, IsShort}
use Rattle.matrix_text.proofs.RoundTrip.{row-plain, read_line-row}

-- a row of n short entries
pub record IsShortRow (n : ℕ) (row : List Rational) : Type 0 where
  pub len : length row ≡ n
  pub short : AllByRecursion IsShort row

-- the rows as they are read, the first of them on this line
abbrev pub text_rows_from : ℕ → List (List Rational) → List TextRow
text_rows_from k [] = []
text_rows_from k (row ∷ rows) = record { line = k; entries = row } ∷ text_rows_from (k + 1) rows

abbrev row_words : List (List Rational) → List (List (List ℕ))
row_words rows = map (λ row. map fraction_word row) rows

rows-read : (n end k : ℕ) (rows : List (List Rational)) → AllByRecursion (IsShortRow n) rows
    → rows_of_lines n end (length rows) (numbered k (row_words rows)) ≡ Ok (text_rows_from k rows)
unfolding rows_of_lines
rows-read n end k [] h = refl
rows-read n end k (row ∷ rows) h = rw (read_line-row n k row h.0.len h.0.short, rows-read n end (k + 1) rows h.1) refl

-- ---- the header

abbrev header_words : ℕ → List (List ℕ)
header_words n = codes "cpmatrix" ∷ codes "1" ∷ decimal n ∷ []

header-read : (n : ℕ) → 0 < n → n < 7 → header_of (header_words n) ≡ Ok n
unfolding header_of size_of_word
header-read n some small = rw (is_whole-decimal n (omega arith), whole_value-decimal n (omega arith), lt-ltb 0 n some, lt-ltb n 7 small) refl

header-plain : (n : ℕ) → n < 7 → IsPlainLine (header_words n)
header-plain n small =
    record { some = omega arith; plain = (plain-codes (codes "cpmatrix") refl, (plain-codes (codes "1") refl, (plain-decimal n (omega arith), tt))) }

read_line-header : (n k : ℕ) → 0 < n → n < 7 → read_line header_of (record { number = k; bytes = joined (header_words n) }) ≡ Ok n
read_line-header n k some small = in_line-joined fault_at NotAscii header_of k (header_words n) (header-plain n small).plain
    ∙ ap (λ (r : Result ℕ TextKind). at_line fault_at k r) (header-read n some small)

-- ---- the text

rows-plain : (n : ℕ) (rows : List (List Rational)) → 0 < n → AllByRecursion (IsShortRow n) rows → AllByRecursion IsPlainLine (row_words rows)
rows-plain n [] some h = tt
rows-plain n (row ∷ rows) some h = (row-plain row (let len = h.0.len in omega (arith, len)) h.0.short, rows-plain n rows some h.1)

rows-text : (rows : List (List Rational)) → rows_text rows ≡ flat_map line_of_words (row_words rows)
unfolding rows_text row_text
rows-text [] = refl
rows-text (row ∷ rows) = ap (λ (t : List ℕ). line_of_words (map fraction_word row) ++ t) (rows-text rows)

-- what is written of a table is read as that table
pub table-read : (rows : List (List Rational)) → 0 < length rows → length rows < 7 → AllByRecursion (IsShortRow (length rows)) rows
    → table_of (record { lines = content_lines (table_text rows); end = end_line (table_text rows) }) ≡ Ok (text_rows_from 2 rows)
unfolding table_of table_text
table-read rows some small h =
    let whole : table_text rows ≡ flat_map line_of_words (header_words (length rows) ∷ row_words rows) =
    ap (λ (t : List ℕ). line_of_words (header_words (length rows)) ++ t) (rows-text rows) in
    let content : content_lines (table_text rows) ≡ numbered 1 (header_words (length rows) ∷ row_words rows) = ap content_lines whole
    ∙ content_lines-written (header_words (length rows) ∷ row_words rows) (header-plain (length rows) small, rows-plain (length rows) rows some h) in
    rw (content, read_line-header (length rows) 1 some small, rows-read (length rows) (end_line (table_text rows)) 2 rows h) refl
