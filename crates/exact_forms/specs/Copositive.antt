-- Copositive matrices, the copositive minimum, perfect lists of vectors and their rays.
--
--     Matrix                       whole entries by row and column
--     IsCopositive n q             no vector of n places has a negative value Q[x]
--     Attains n q m x              x is a nonzero vector of n places with Q[x] = m
--     ListsAttaining n q m list    the list has each of these once, in increasing order, and nothing else
--     IsMinimum n q m list         m is the copositive minimum of Q, and the list has its minimal vectors
--     IsPerfect n list             only the zero matrix has the value zero at each vector of the list
--     IsExtremeRay n r list        R is symmetric, isn't zero and is at least 0 at each vector of the list, and each symmetric Z
--                                  that is zero where R is zero is a multiple of R
--
-- A matrix is a function of row and column, from 0 and below n. A vector has numbers of at least 0.
use Rattle.std.specs.Prelude.{ℕ, ℤ, pos, ◌*ℤ◌, ◌≤ℤ◌, ◌<◌, ◌≡◌, ◌≢◌, List, [], length}
use Rattle.std.specs.List.{All, Contains}
use Rattle.exact_forms.specs.Forms.{form, IsSymmetric}
use Rattle.exact_forms.specs.Vectors.{coordinate, IsNonzero, IsIncreasing}

abbrev pub Matrix : Type 0
Matrix = ℕ → ℕ → ℤ

abbrev pub IsCopositive : ℕ → Matrix → Type 0
IsCopositive n q = (x : List ℕ) → length x ≡ n → pos 0 ≤ℤ form n q (coordinate x)

pub record Attains (n : ℕ) (q : Matrix) (m : ℤ) (x : List ℕ) : Type 0 where
  pub size : length x ≡ n
  pub nonzero : IsNonzero n x
  pub value : form n q (coordinate x) ≡ m

pub record ListsAttaining (n : ℕ) (q : Matrix) (m : ℤ) (vectors : List (List ℕ)) : Type 0 where
  pub each : (x : List ℕ) → Contains vectors x → Attains n q m x
  pub all : (x : List ℕ) → Attains n q m x → Contains vectors x
  pub increasing : IsIncreasing vectors

pub record IsMinimum (n : ℕ) (q : Matrix) (m : ℤ) (vectors : List (List ℕ)) : Type 0 where
  pub positive : pos 1 ≤ℤ m
  pub least : (x : List ℕ) → length x ≡ n → IsNonzero n x → m ≤ℤ form n q (coordinate x)
  pub some : vectors ≢ []
  pub lists : ListsAttaining n q m vectors

pub record IsPerfect (n : ℕ) (vectors : List (List ℕ)) : Type 0 where
  pub only_zero : (z : Matrix) → IsSymmetric n z → All (λ v. form n z (coordinate v) ≡ pos 0) vectors → (i j : ℕ)
      → i < n → j < n → z i j ≡ pos 0

pub record IsExtremeRay (n : ℕ) (r : Matrix) (vectors : List (List ℕ)) : Type 0 where
  pub symmetric : IsSymmetric n r
  pub nonzero : ((i j : ℕ) → i < n → j < n → r i j ≡ pos 0) → ⊥
  pub nonnegative : All (λ v. pos 0 ≤ℤ form n r (coordinate v)) vectors
  pub extreme : (z : Matrix) → IsSymmetric n z
      → All (λ v. form n r (coordinate v) ≡ pos 0 → form n z (coordinate v) ≡ pos 0) vectors
      → (a : ℤ) × (b : ℤ) × (a ≢ pos 0) × ((i j : ℕ) → i < n → j < n → a *ℤ z i j ≡ b *ℤ r i j)
