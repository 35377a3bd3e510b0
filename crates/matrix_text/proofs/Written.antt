-- The rows of a matrix's text, one after the other, as they are written.
use Rattle.std.proofs.Common.{◌≡◌, ℕ, ◌+◌, List, [], ◌∷◌, ◌++◌, map, codes, refl, ap, ◌∙◌, append_assoc, arith}
use Rattle.std.specs.List.{range_with_len}
use Rattle.std.specs.Fmt.{decimal}
use Rattle.std.proofs.lemmas.List.{append-nil, flat_map_more}
use Rattle.std.proofs.lemmas.List.FromFn.{length-map-range_with_len, map-range_with_len_more}
use Rattle.exact_forms.specs.Rational.{Rational}
use Rattle.text_lines.specs.Square.{full}
use Rattle.text_lines.specs.Spelling.{fraction_word}
use Rattle.text_lines.proofs.Written.{columns, column_end, map-map}
pub use Rattle.text_lines.proofs.Written.{first_column, later_column}
use Rattle.matrix_text.specs.RationalMatrix.{RationalMatrix, rational_entry}
use Rattle.matrix_text.specs.Canonical.{row_text, rows_text, table_text, matrix_text}

-- the words of a row of a matrix
abbrev pub row_word : (ℕ → Rational) → ℕ → List ℕ
row_word row j = fraction_word (row j)

pub row_end : (row : ℕ → Rational) (n : ℕ) (old mid new : List ℕ) → mid ≡ old ++ columns (row_word row) n → new ≡ mid ++ 10 ∷ []
    → new ≡ old ++ row_text (map row (range_with_len 0 n))
unfolding row_text
row_end row n old mid new e f = rw (map-map row fraction_word (range_with_len 0 n)) (column_end (row_word row) n old mid new e f)

-- ---- the rows
abbrev pub row_of_matrix : RationalMatrix → ℕ → List Rational
row_of_matrix a i = map (λ j. rational_entry a i j) (range_with_len 0 a.size)

-- the header and the first rows
unfoldable pub begun : RationalMatrix → ℕ → List ℕ
begun a i = (codes "cpmatrix 1 " ++ decimal a.size ++ 10 ∷ []) ++ rows_text (map (row_of_matrix a) (range_with_len 0 i))

pub begin : (a : RationalMatrix) (old one two new : List ℕ) → one ≡ old ++ codes "cpmatrix 1 " → two ≡ one ++ decimal a.size → new ≡ two ++ 10 ∷ []
    → new ≡ old ++ begun a 0
unfolding begun rows_text
begin a old one two new e f g = rw (g, f, e) (join old (codes "cpmatrix 1 ") (decimal a.size) (10 ∷ []))
  where
    join : (old p q r : List ℕ) → ((old ++ p) ++ q) ++ r ≡ old ++ ((p ++ q ++ r) ++ [])
    join old p q r = simp (append_assoc, append-nil)

pub begun_more : (a : RationalMatrix) (i : ℕ) (old mid new : List ℕ) → mid ≡ old ++ begun a i → new ≡ mid ++ row_text (row_of_matrix a i)
    → new ≡ old ++ begun a (i + 1)
unfolding begun rows_text
begun_more a i old mid new e f =
    rw (f, e, map-range_with_len_more (row_of_matrix a) 0 i i (omega arith))
    (join old (codes "cpmatrix 1 " ++ decimal a.size ++ 10 ∷ []) (map (row_of_matrix a) (range_with_len 0 i)) (row_of_matrix a i))
  where
    join : (old header : List ℕ) (rows : List (List Rational)) (row : List Rational) → (old ++ (header ++ rows_text rows)) ++ row_text row ≡ old
        ++ (header ++ rows_text (rows ++ row ∷ []))
    join old header rows row =
        append_assoc old (header ++ rows_text rows) (row_text row) ∙ ap (λ (t : List ℕ). old ++ t) (flat_map_more row_text header rows row)

pub begun_end : (a : RationalMatrix) (old new : List ℕ) → new ≡ old ++ begun a a.size → new ≡ old ++ matrix_text a
unfolding begun matrix_text table_text full rational_entry
begun_end a old new e = rw (e, length-map-range_with_len (row_of_matrix a) 0 a.size) refl
