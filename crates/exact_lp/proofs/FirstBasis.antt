-- The first table shows the first basis, and where the list is perfect it has no unit.
use Rattle.std.specs.Prelude.{◌≡◌, ℕ, ◌+◌, ◌<◌, false, List, [], ◌∷◌, ◌++◌, length, slice_index_or}
use Rattle.std.proofs.Common.{arith, length-append}
use Rattle.exact_forms.specs.Triangles.{triangle}
use Rattle.exact_forms.specs.Copositive.{IsPerfect}
use Rattle.symmetric_matrix.specs.Symmetric.{Symmetric}
use Rattle.exact_linear.specs.Tables.{Table}
use Rattle.exact_linear.specs.Columns.{start_table}
use Rattle.exact_linear.specs.Exchange.{first_bases}
use Rattle.exact_linear.specs.Squares.{squares}
use Rattle.exact_linear.proofs.FirstTables.{IsFirstTable, first_tables, start_first}
use Rattle.exact_linear.proofs.Spanning.{AreUnitsAndVectors, perfect_leaves_none}
use Rattle.exact_linear.proofs.SquareColumns.{has_vectors}
use Rattle.exact_linear.proofs.SquareLists.{length-squares}
use Rattle.exact_linear.proofs.UnitColumns.{units_and_vectors as units_and_given}
use Rattle.exact_lp.proofs.Right.{start_columns, low_of}

pub units_and_vectors : (vectors : List (List ℕ)) (s : Symmetric) → ((k : ℕ) → k < length vectors → length (slice_index_or vectors k []) ≡ s.size)
    → AreUnitsAndVectors (start_columns vectors s) (triangle s.size) vectors
units_and_vectors vectors s sizes = units_and_given s.size (squares vectors ++ s ∷ []) vectors (has_vectors s.size vectors (s ∷ []) sizes)

-- ---- the first table
pub first_shown : (vectors : List (List ℕ)) (s : Symmetric)
    → IsFirstTable (start_columns vectors s) (low_of s) (low_of s + length vectors)
    (first_bases (start_table s.size (squares vectors ++ s ∷ [])) (length vectors))
first_shown vectors s =
    first_tables (start_columns vectors s) (triangle s.size) (start_table s.size (squares vectors ++ s ∷ [])) (length vectors)
    (start_first s.size (squares vectors ++ s ∷ []))
    (let a = length-append (squares vectors) (s ∷ []) in let b = length-squares vectors in omega arith)

pub no_unit_left : (vectors : List (List ℕ)) (s : Symmetric) (t : Table) → ((k : ℕ) → k < length vectors → length (slice_index_or vectors k []) ≡ s.size)
    → IsPerfect s.size vectors
    → (F : IsFirstTable (start_columns vectors s) (low_of s) (low_of s + length vectors) t) → (u : ℕ) → u < low_of s → F.basis u ≡ false
no_unit_left vectors s t sizes perfect F u l =
    perfect_leaves_none (start_columns vectors s) (triangle s.size) vectors (units_and_vectors vectors s sizes) F.basis F.coord F.first.basis F.first perfect u
    l
