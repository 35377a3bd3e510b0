-- The trace of a walk, as bytes: comment lines before the text of the answer.
--
--     comment words            the line `# ..` of these words
--     matrix_comments m        a comment for each row of the full matrix: its entries
--     vector_comments vectors  a comment for each vector: its coordinates
--     visit_text k v           `# visit k`, the rows of the matrix, `# minimum m`, `# vectors c`, and the c vectors
--     visits_text k visits     the texts of the visits, which are numbered from k on
--     trace_text traced visits     the texts of the visits, numbered from 0, where they are wanted, and else nothing
use Rattle.std.specs.Prelude.{ℕ, ◌+◌, Bool, pos, List, [], ◌∷◌, ◌++◌, length, map, codes, if◌then◌else◌}
use Rattle.std.specs.List.{flat_map}
use Rattle.std.specs.Fmt.{decimal, signed_decimal}
use Rattle.text_lines.specs.Square.{full}
use Rattle.symmetric_matrix.specs.Symmetric.{Symmetric}
use Rattle.perfect_walk.specs.declared.journal.Visit.{Visit}
use Rattle.cpfactor_lines.specs.Lines.{line}

abbrev pub comment : List (List ℕ) → List ℕ
comment words = line (codes "#" ∷ words)

unfoldable pub matrix_comments : Symmetric → List ℕ
matrix_comments m = flat_map (λ row. comment (map signed_decimal row)) (full (pos 0) m.size m.lower)

unfoldable pub vector_comments : List (List ℕ) → List ℕ
vector_comments vectors = flat_map (λ x. comment (map decimal x)) vectors

unfoldable pub visit_text : ℕ → Visit → List ℕ
visit_text k v =
    comment (codes "visit" ∷ decimal k ∷ []) ++ matrix_comments v.matrix
    ++ comment (codes "minimum" ∷ signed_decimal v.mu ∷ [])
    ++ comment (codes "vectors" ∷ decimal (length v.vectors) ∷ []) ++ vector_comments v.vectors

unfoldable pub visits_text : ℕ → List Visit → List ℕ
visits_text k [] = []
visits_text k (v ∷ visits) = visit_text k v ++ visits_text (k + 1) visits

abbrev pub trace_text : Bool → List Visit → List ℕ
trace_text traced visits = if traced then visits_text 0 visits else []
