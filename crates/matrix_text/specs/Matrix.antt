-- The text of a matrix: what it stands for, or its first fault.
--
--     number_kind fault        the kind of a number's fault
--     entry_of_word word       the fraction that a word writes, or its fault
--     row_of_words n words     the fractions of n words, or the fault of the first that has one; ShortRow, LongRow
--     size_of_word word        the number of a whole word, from 1 to 6; BadDimension
--     header_of words          the number n of the words `cpmatrix`, `1`, n; NoHeader, BadVersion, BadDimension
--     fault_at kind line       the fault of this kind at this line
--     read_line read line      what is read of a line's words; NotAscii before every other fault of the line
--     TextRow                  a row's entries, and the line where it stands
--     rows_of_lines n end k lines  k rows of n entries and no further line; MissingRow at the end line, ExtraLine
--     table_of_lines end lines the rows of the size that the first line names; NoHeader at the end line
--     table_of text            the header and the rows
--     none                     0
--     same_number x y          the two numbers are equal
--     entries_of rows          the rows without their lines
--     line_of_row rows i       the line of row i
--     mirrored rows first      the matrix of the rows, or NotSymmetric at the line of the row `first`
--     matrix_of bytes          the matrix; NotSymmetric, where no other fault is, at the line of the first row
--                              that is not as its column, left of the diagonal
--     MatrixText bytes a       the bytes are a text of the matrix
--     MatrixFault bytes k l    the first fault of the bytes is of this kind, at this line
--     IsTextOfOne bytes a      they are a text of this matrix, of no other, and have no fault
--     IsFaultyOnce bytes f     this is their first fault, there is no other, and they are a text of no matrix
--     HasOneReading bytes      exactly one of the two holds, for exactly one value
--
-- Lines count from 1, rows and columns from 0.
use Rattle.std.specs.Prelude.{◌≡◌, ℕ, zero, suc, not, ◌&&◌, ◌⊎◌, List, [], ◌∷◌, length, map, Bool, Option, Some, None, Result, Ok, Err, pos, nat_lt, if◌then◌else◌, codes, slice_index_or}
use Rattle.std.specs.Str.{bytes_eq}
use Rattle.std.specs.Ordering.{int_eq}
use Rattle.exact_forms.specs.Rational.{Rational, whole}
use Rattle.text_lines.specs.Lines.{content_lines, end_line, TextLine, Content}
use Rattle.text_lines.specs.Numbers.{is_whole, whole_value}
use Rattle.text_lines.specs.Readings.{◌>>=◌, numbers_of, in_line}
use Rattle.text_lines.specs.Fractions.{fraction_up_to, kinded}
use Rattle.text_lines.specs.Square.{lower_of, first_unlike}
use Rattle.text_lines.specs.declared.fractions.NumberFault.{NumberFault}
use Rattle.text_lines.specs.declared.fractions.NumberFault.TheVariants.{NotNumber, TooLarge, ZeroDenominator as OverZero}
use Rattle.matrix_text.specs.RationalMatrix.{RationalMatrix}
use Rattle.matrix_text.specs.declared.fault.TextKind.{TextKind}
use Rattle.matrix_text.specs.declared.fault.TextKind.TheVariants.{NotAscii, NoHeader, BadVersion, BadDimension, BadNumber, NumberTooLarge, ZeroDenominator, ShortRow, LongRow, MissingRow, ExtraLine, NotSymmetric}
use Rattle.matrix_text.specs.declared.fault.TextFault.{TextFault}

-- ---- a word

abbrev pub number_kind : NumberFault → TextKind
number_kind NotNumber = BadNumber
number_kind TooLarge = NumberTooLarge
number_kind OverZero = ZeroDenominator

unfoldable pub entry_of_word : List ℕ → Result Rational TextKind
entry_of_word word = kinded number_kind (fraction_up_to 9223372036854775807 word)

-- ---- a line

-- the first n words, and no more
abbrev pub row_of_words : ℕ → List (List ℕ) → Result (List Rational) TextKind
row_of_words n words = numbers_of entry_of_word ShortRow LongRow n words

unfoldable pub size_of_word : List ℕ → Result ℕ TextKind
size_of_word word =
    if is_whole word && nat_lt 0 (whole_value word) && nat_lt (whole_value word) 7 then Ok (whole_value word) else Err
    BadDimension

unfoldable pub header_of : List (List ℕ) → Result ℕ TextKind
header_of (name ∷ version ∷ size ∷ []) =
    if not (bytes_eq name (codes "cpmatrix")) then Err NoHeader
    else (if not (bytes_eq version (codes "1")) then Err BadVersion
    else size_of_word size)
header_of others = Err NoHeader

abbrev pub fault_at : TextKind → ℕ → TextFault
fault_at kind line = record { kind = kind; line = line }

abbrev pub read_line : {A : Type 0} → (List (List ℕ) → Result A TextKind) → TextLine → Result A TextFault
read_line read line = in_line fault_at NotAscii read line

-- ---- the text

pub record TextRow : Type 0 where
  pub line : ℕ
  pub entries : List Rational

-- k rows of this size, and no further line
unfoldable pub rows_of_lines : ℕ → ℕ → ℕ → List TextLine → Result (List TextRow) TextFault
rows_of_lines size end zero [] = Ok []
rows_of_lines size end zero (line ∷ more) = read_line (λ others. Err ExtraLine) line
rows_of_lines size end (suc k) [] = Err (record { kind = MissingRow; line = end })
rows_of_lines size end (suc k) (line ∷ more) = do
  entries ← read_line (row_of_words size) line
  rows ← rows_of_lines size end k more
  Ok (record { line = line.number; entries = entries } ∷ rows)

abbrev pub table_of_lines : ℕ → List TextLine → Result (List TextRow) TextFault
table_of_lines end [] = Err (record { kind = NoHeader; line = end })
table_of_lines end (line ∷ more) = do
  size ← read_line header_of line
  rows_of_lines size end size more

unfoldable pub table_of : Content → Result (List TextRow) TextFault
table_of text = table_of_lines text.end text.lines

-- ---- the matrix

abbrev pub none : Rational
none = whole (pos 0)

-- the numbers are equal; both are in lowest terms
abbrev pub same_number : Rational → Rational → Bool
same_number x y = int_eq x.num y.num && int_eq (pos x.den) (pos y.den)

abbrev pub entries_of : List TextRow → List (List Rational)
entries_of rows = map (λ row. row.entries) rows

abbrev pub line_of_row : List TextRow → ℕ → ℕ
line_of_row rows i = (slice_index_or rows i (record { line = 0; entries = [] })).line

abbrev pub mirrored : List TextRow → Option ℕ → Result RationalMatrix TextFault
mirrored rows None = Ok (record { size = length rows; lower = lower_of (entries_of rows) })
mirrored rows (Some i) = Err (record { kind = NotSymmetric; line = line_of_row rows i })

unfoldable pub matrix_of : List ℕ → Result RationalMatrix TextFault
matrix_of bytes = do
  rows ← table_of (record { lines = content_lines bytes; end = end_line bytes })
  mirrored rows (first_unlike same_number none (entries_of rows))

unfoldable pub MatrixText : List ℕ → RationalMatrix → Type 0
MatrixText bytes a = matrix_of bytes ≡ Ok a

unfoldable pub MatrixFault : List ℕ → TextKind → ℕ → Type 0
MatrixFault bytes kind line = matrix_of bytes ≡ Err (record { kind = kind; line = line })

pub record IsTextOfOne (bytes : List ℕ) (a : RationalMatrix) : Type 0 where
  pub text : MatrixText bytes a
  pub alone : (b : RationalMatrix) → MatrixText bytes b → b ≡ a
  pub faultless : (kind : TextKind) (line : ℕ) → MatrixFault bytes kind line → ⊥

pub record IsFaultyOnce (bytes : List ℕ) (first : TextFault) : Type 0 where
  pub fault : MatrixFault bytes first.kind first.line
  pub alone : (kind : TextKind) (line : ℕ) → MatrixFault bytes kind line → (kind ≡ first.kind) × (line ≡ first.line)
  pub no_text : (a : RationalMatrix) → MatrixText bytes a → ⊥

abbrev pub HasOneReading : List ℕ → Type 0
HasOneReading bytes = ((a : RationalMatrix) × IsTextOfOne bytes a) ⊎ ((fault : TextFault) × IsFaultyOnce bytes fault)
