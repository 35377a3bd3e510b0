-- The one written form of a matrix.
--
--     row_text row        the words of a row, with one space between them, and a line feed
--     header_line n       the words `cpmatrix`, `1` and n, with one space between them
--     rows_text rows      the rows, one after the other
--     table_text rows     the header line of the number of rows, a line feed, and the rows
--     matrix_text a       the full symmetric matrix
--     IsShort q           the magnitude of the numerator and the denominator are at most 9223372036854775807
--     IsShortMatrix a     1 to 6 rows, each entry short
use Rattle.std.specs.Prelude.{ℕ, ◌≤◌, List, [], ◌∷◌, ◌++◌, length, map, nat_abs, codes, All}
use Rattle.std.specs.List.{flat_map, join_with_byte}
use Rattle.std.specs.Fmt.{decimal}
use Rattle.exact_forms.specs.Rational.{Rational}
use Rattle.text_lines.specs.Square.{full}
use Rattle.text_lines.specs.Spelling.{fraction_word}
use Rattle.matrix_text.specs.RationalMatrix.{RationalMatrix}
use Rattle.matrix_text.specs.Matrix.{none}

unfoldable pub row_text : List Rational → List ℕ
row_text row = join_with_byte 32 (map fraction_word row) ++ 10 ∷ []

abbrev pub header_line : ℕ → List ℕ
header_line n = join_with_byte 32 (codes "cpmatrix" ∷ codes "1" ∷ decimal n ∷ [])

unfoldable pub rows_text : List (List Rational) → List ℕ
rows_text rows = flat_map row_text rows

unfoldable pub table_text : List (List Rational) → List ℕ
table_text rows = (header_line (length rows) ++ 10 ∷ []) ++ rows_text rows

unfoldable pub matrix_text : RationalMatrix → List ℕ
matrix_text a = table_text (full none a.size a.lower)

pub record IsShort (q : Rational) : Type 0 where
  pub num : nat_abs q.num ≤ 9223372036854775807
  pub den : q.den ≤ 9223372036854775807

pub record IsShortMatrix (a : RationalMatrix) : Type 0 where
  pub rows : a.size ≤ 6
  pub entries : All IsShort a.lower
