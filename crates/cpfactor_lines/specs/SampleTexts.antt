-- The text of `sample`, as bytes: four lines.
--
--     numbers_text n k first   the line `sample N K X`
--     diagonal_text a          the line `diagonal ..` with the entries of the diagonal, each as in a matrix text
--     visits_count_text count  the line `visits C`
--     verdict_line_text answer the line `verdict ..` with the first line of an answer's text
--     sample_text n k first a count answer     these four
use Rattle.std.specs.Prelude.{ℕ, List, [], ◌∷◌, ◌++◌, map, codes}
use Rattle.std.specs.List.{before_first, range_with_len}
use Rattle.std.specs.Fmt.{decimal}
use Rattle.text_lines.specs.Lines.{is_line_feed}
use Rattle.text_lines.specs.Spelling.{fraction_word}
use Rattle.matrix_text.specs.RationalMatrix.{RationalMatrix, rational_entry}
use Rattle.cpfactor_lines.specs.Lines.{line}

abbrev pub numbers_text : ℕ → ℕ → ℕ → List ℕ
numbers_text n k first = line (codes "sample" ∷ decimal n ∷ decimal k ∷ decimal first ∷ [])

unfoldable pub diagonal_text : RationalMatrix → List ℕ
diagonal_text a = line (codes "diagonal" ∷ map (λ i. fraction_word (rational_entry a i i)) (range_with_len 0 a.size))

abbrev pub visits_count_text : ℕ → List ℕ
visits_count_text count = line (codes "visits" ∷ decimal count ∷ [])

abbrev pub verdict_line_text : List ℕ → List ℕ
verdict_line_text answer = line (codes "verdict" ∷ before_first is_line_feed answer ∷ [])

unfoldable pub sample_text : ℕ → ℕ → ℕ → RationalMatrix → ℕ → List ℕ → List ℕ
sample_text n k first a count answer =
    numbers_text n k first ++ diagonal_text a ++ visits_count_text count ++ verdict_line_text answer
