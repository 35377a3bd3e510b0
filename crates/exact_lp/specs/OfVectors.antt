-- The linear program of a list of vectors and S: the one program that each run of theirs is of.
--
--     vectors_table vectors s  the table of the first basis
--     program_of vectors s     the columns are the units, the vectors' matrices, S, and t; the first basis is that table's
--     over_first vectors s j k     the coordinate of column j at column k over the first basis
--     IsProgramOf P vectors s  the columns of P from P.low, which is n(n+1)/2, to P.high - 1 are the vectors' matrices, the
--                              target is S, and each unit matrix is a multiple of a column; the first basis has each vector
--                              whose matrix is no combination of those before it
--     IsPlaceable vectors s    S has a row, each vector has as many coordinates, and their matrices span all symmetric ones
--
-- Columns, rows and vectors count from 0.
use Rattle.std.specs.Prelude.{ℕ, ◌+◌, ◌≡◌, ◌<◌, ◌≤◌, List, [], ◌∷◌, ◌++◌, length, nat_eq, if◌then◌else◌, slice_index_or}
use Rattle.exact_forms.specs.Rational.{Rational, whole}
use Rattle.exact_forms.specs.Sums.{sum_ℚ}
use Rattle.exact_forms.specs.Coordinates.{mark}
use Rattle.exact_forms.specs.Copositive.{IsPerfect}
use Rattle.exact_forms.specs.RankOne.{HasVectors, HasUnits}
use Rattle.exact_forms.specs.Triangles.{triangle}
use Rattle.symmetric_matrix.specs.Symmetric.{Symmetric, entry}
use Rattle.exact_linear.specs.Tables.{Table, rows_of, basic_at, is_basic, coordinate_in}
use Rattle.exact_linear.specs.Columns.{columns_of, start_table, with_sum_of}
use Rattle.exact_linear.specs.Exchange.{first_bases}
use Rattle.exact_linear.specs.FirstBasis.{IsFirstBasis}
use Rattle.exact_linear.specs.Squares.{squares}
use Rattle.exact_lp.specs.Rule.{first_columns}
use Rattle.exact_lp.specs.Program.{Program}

abbrev pub vectors_table : List (List ℕ) → Symmetric → Table
vectors_table vectors s = first_bases (start_table s.size (squares vectors ++ s ∷ [])) (length vectors)

abbrev pub program_of : List (List ℕ) → Symmetric → Program
program_of vectors s = record {
  columns = with_sum_of (columns_of s.size (squares vectors ++ s ∷ [])) (vectors_table vectors s);
  low = triangle s.size;
  high = triangle s.size + length vectors;
  target = triangle s.size + length vectors;
  top = triangle s.size + length vectors + 1;
  rank = length (first_columns (vectors_table vectors s) (length vectors));
  first = λ j. slice_index_or (first_columns (vectors_table vectors s) (length vectors)) j 0;
  chosen = is_basic (vectors_table vectors s);
}

-- t is the sum of the first basis; what stands in its column of the table does not count
abbrev pub over_first : List (List ℕ) → Symmetric → ℕ → ℕ → Rational
over_first vectors s j k =
    if nat_eq (j + 1) (columns_of s.size (squares vectors ++ s ∷ [])).count
    then sum_ℚ (rows_of (vectors_table vectors s)) (λ i. mark (basic_at (vectors_table vectors s) i) k)
    else coordinate_in (vectors_table vectors s) j k

pub record IsProgramOf (P : Program) (vectors : List (List ℕ)) (s : Symmetric) : Type 0 where
  pub size : P.columns.size ≡ s.size
  pub low : P.low ≡ triangle s.size
  pub high : P.high ≡ P.low + length vectors
  pub units : HasUnits P.columns
  pub has_vectors : HasVectors P.columns P.low vectors
  pub target : (i j : ℕ) → i < s.size → j < s.size → P.columns.entry P.target i j ≡ whole (entry s i j)
  pub first : IsFirstBasis P.columns P.low P.high P.chosen

pub record IsPlaceable (vectors : List (List ℕ)) (s : Symmetric) : Type 0 where
  pub some : 1 ≤ s.size
  pub sizes : (k : ℕ) → k < length vectors → length (slice_index_or vectors k []) ≡ s.size
  pub perfect : IsPerfect s.size vectors
