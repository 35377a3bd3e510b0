-- What the answer Outside of the linear program is for: its vectors give a ray that separates S from the cone.
--
--     IsSeparating n vectors s zeros leaving   the zeros and `leaving` are n(n+1)/2 different vectors of the list, whose matrices are
--                              independent; and a symmetric matrix that is zero at the zeros and over 0 at `leaving` is an extreme
--                              ray of the matrices that are at least 0 at each vector, and its value at S is below 0
--
-- Rows, columns and indices count from 0.
use Rattle.std.specs.Prelude.{ℕ, ◌+◌, ◌≡◌, ◌≢◌, ◌<◌, ◌<ℤ◌, pos, List, [], ◌∷◌, ◌++◌, length}
use Rattle.exact_forms.specs.Copositive.{Matrix, IsExtremeRay}
use Rattle.exact_forms.specs.Forms.{inner}
use Rattle.exact_forms.specs.Neighbours.{IsRay}
use Rattle.exact_forms.specs.RankOne.{AreIndependent}
use Rattle.exact_forms.specs.Triangles.{triangle}
use Rattle.symmetric_matrix.specs.Symmetric.{Symmetric, entry}
use Rattle.exact_linear.specs.Squares.{name_at, vector_at, named}

pub record IsSeparating (n : ℕ) (vectors : List (List ℕ)) (s : Symmetric) (zeros : List ℕ) (leaving : ℕ) : Type 0 where
  pub within : (i : ℕ) → i < length zeros → name_at zeros i < length vectors
  pub leaving_within : leaving < length vectors
  pub increasing : (i j : ℕ) → i < j → j < length zeros → name_at zeros i < name_at zeros j
  pub apart : (i : ℕ) → i < length zeros → name_at zeros i ≢ leaving
  pub number : length zeros + 1 ≡ triangle n
  pub independent : AreIndependent n (named vectors (zeros ++ leaving ∷ []))
  pub extreme : (r : Matrix) → IsRay n (named vectors zeros) (vector_at vectors leaving) r → IsExtremeRay n r vectors
  pub separates : (r : Matrix) → IsRay n (named vectors zeros) (vector_at vectors leaving) r
      → inner n r (entry s) <ℤ pos 0
