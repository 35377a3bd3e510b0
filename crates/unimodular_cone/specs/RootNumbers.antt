-- The numbers of the root's cone as they are kept.
--
--     IsLowerOf q n lower       the first n rows of lower are those of Q, up to the diagonal
--     IsPartRowCopied q i k old new   the first k entries of row i of new are those of Q, and the rows before it are those of old
--     IsRowCopied q i old new   row i of new is that of Q, and the rows before it are those of old
--     AreUnitRows k rows        the first k of the rows are unit vectors, and the others are zero
use Rattle.std.specs.Prelude.{ℕ, ℤ, pos, ◌+◌, ◌<◌, ◌≤◌, ◌≡◌, ◌≢◌, List, [], length, slice_index_or}
use Rattle.exact_forms.specs.Triangles.{triangle}
use Rattle.symmetric_matrix.specs.Symmetric.{Symmetric, entry}

pub record IsLowerOf (q : Symmetric) (n : ℕ) (lower : List ℤ) : Type 0 where
  pub entries : (i j : ℕ) → j ≤ i → i < n → slice_index_or lower (triangle i + j) (pos 0) ≡ entry q i j

-- the first k entries of the row are copied
pub record IsPartRowCopied (q : Symmetric) (i k : ℕ) (old new : List ℤ) : Type 0 where
  pub room : length new ≡ length old
  pub row : (j : ℕ) → j ≤ i → j < k → slice_index_or new (triangle i + j) (pos 0) ≡ entry q i j
  pub before : (a b : ℕ) → b ≤ a → a < i
      → slice_index_or new (triangle a + b) (pos 0) ≡ slice_index_or old (triangle a + b) (pos 0)

abbrev pub IsRowCopied : Symmetric → ℕ → List ℤ → List ℤ → Type 0
IsRowCopied q i old new = IsPartRowCopied q i (i + 1) old new

pub record AreUnitRows (k : ℕ) (rows : List (List ℕ)) : Type 0 where
  pub room : length rows ≡ 8
  pub wide : (a : ℕ) → a < 8 → length (slice_index_or rows a []) ≡ 8
  pub ones : (a : ℕ) → a < k → slice_index_or (slice_index_or rows a []) a 0 ≡ 1
  pub zeros : (a b : ℕ) → a < 8 → a ≢ b → slice_index_or (slice_index_or rows a []) b 0 ≡ 0
