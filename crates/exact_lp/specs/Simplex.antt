-- The linear program as a run: what its steps do, and what its answer Outside names.
--
--     step_at steps k          step k of a list; past its end no_step, which names vector 0 twice
--     entering_column P steps k, leaving_column P steps k    its columns
--     basis_after P B steps k  the basis after k steps from the basis B: at each step the entering column takes the place of the leaving one
--     coordinates_after P coord steps k    the coordinates over it, by those over B
--     IsSimplexRun P B coord steps    each step begins at a state where the target has a negative coordinate at t; its entering vector is
--                              the first with a negative coordinate at t, its leaving one has the lexicographically least list of
--                              ratios; t's list of coordinates grows with each step, so that no basis comes twice
--     IsNamed P names k        column k is that of a vector of the list
--     IsOutsideOf P B coord zeros vector   the zeros are the vectors of the basis B, in increasing order, one fewer than there are units;
--                              the vector is the first one of the first basis whose coordinate at t is positive, is none of the zeros,
--                              and its column is a basis with theirs
--     open_basis_of vectors s i, open_coordinates_of vectors s i    the basis and the coordinates where t has come in at the
--                              i-th vector of the first basis
--     IsSimplexOf vectors s steps   the steps are a run of the linear program of the vectors and S, from the state where t has come in
--                              at the least coordinate of S over the first basis, of equal ones the last
--
-- B and coord are a basis that t is in and the coordinates over it. Vectors count from 0: the column of vector k is P.low + k, and
-- P.low is how many units there are. Steps and columns count from 0.
use Rattle.std.specs.Prelude.{ℕ, zero, suc, ◌+◌, ◌≡◌, ◌≢◌, ◌<◌, ◌≤◌, Bool, true, List, length, slice_index_or}
use Rattle.exact_forms.specs.Rational.{Rational, neg_ℚ}
use Rattle.exact_forms.specs.Signs.{IsPositive, IsNegative, IsNonnegative}
use Rattle.exact_forms.specs.Lexicographic.{IsLexBelow}
use Rattle.exact_forms.specs.Coordinates.{IsBasis, swapped, exchanged_coordinates}
use Rattle.symmetric_matrix.specs.Symmetric.{Symmetric}
use Rattle.exact_linear.specs.Squares.{name_at}
use Rattle.exact_lp.specs.declared.placed.Exchange.{Exchange}
use Rattle.exact_lp.specs.OfVectors.{program_of, over_first, IsProgramOf}
use Rattle.exact_lp.specs.Program.{Program, order, IsProgram, IsLeastPlace, IsState, IsEntering, IsLeaving}

-- ---- the steps
abbrev pub no_step : Exchange
no_step = record { entering = 0; leaving = 0 }

abbrev pub step_at : List Exchange → ℕ → Exchange
step_at steps k = slice_index_or steps k no_step

abbrev pub entering_column : Program → List Exchange → ℕ → ℕ
entering_column P steps k = P.low + (step_at steps k).entering

abbrev pub leaving_column : Program → List Exchange → ℕ → ℕ
leaving_column P steps k = P.low + (step_at steps k).leaving

unfoldable pub basis_after : Program → (ℕ → Bool) → List Exchange → ℕ → ℕ → Bool
basis_after P B steps zero = B
basis_after P B steps (suc k) = swapped (basis_after P B steps k) (leaving_column P steps k) (entering_column P steps k)

unfoldable pub coordinates_after : Program → (ℕ → ℕ → Rational) → List Exchange → ℕ → ℕ → ℕ → Rational
coordinates_after P coord steps zero = coord
coordinates_after P coord steps (suc k) =
    exchanged_coordinates (coordinates_after P coord steps k) (leaving_column P steps k) (entering_column P steps k)

pub record IsSimplexRun (P : Program) (B : ℕ → Bool) (coord : ℕ → ℕ → Rational) (steps : List Exchange) : Type 0 where
  pub state : (k : ℕ) → k ≤ length steps → IsState P (basis_after P B steps k) (coordinates_after P coord steps k)
  pub due : (k : ℕ) → k < length steps → IsNegative (coordinates_after P coord steps k P.target P.top)
  pub enters : (k : ℕ) → k < length steps → IsEntering P (coordinates_after P coord steps k) (entering_column P steps k)
  pub leaves : (k : ℕ) → k < length steps
      → IsLeaving P (basis_after P B steps k) (coordinates_after P coord steps k) (entering_column P steps k)
      (leaving_column P steps k)
  pub grows : (k : ℕ) → k < length steps
      → IsLexBelow (suc P.rank) (λ j. coordinates_after P coord steps k (order P j) P.top)
      (λ j. coordinates_after P coord steps (suc k) (order P j) P.top)
  pub once : (i j : ℕ) → i < j → j ≤ length steps
      → ((k : ℕ) → k < P.columns.count → basis_after P B steps i k ≡ basis_after P B steps j k) → ⊥

-- ---- the linear program of a list of vectors
abbrev pub open_basis_of : List (List ℕ) → Symmetric → ℕ → ℕ → Bool
open_basis_of vectors s i =
    swapped (program_of vectors s).chosen ((program_of vectors s).first i) (program_of vectors s).top

abbrev pub open_coordinates_of : List (List ℕ) → Symmetric → ℕ → ℕ → ℕ → Rational
open_coordinates_of vectors s i =
    exchanged_coordinates (over_first vectors s) ((program_of vectors s).first i) (program_of vectors s).top

pub record IsSimplexOf (vectors : List (List ℕ)) (s : Symmetric) (steps : List Exchange) : Type 0 where
  pub is_program : IsProgram (program_of vectors s) (over_first vectors s)
  pub of_vectors : IsProgramOf (program_of vectors s) vectors s
  pub place : ℕ
  pub least : IsLeastPlace (program_of vectors s) (over_first vectors s) place
  pub run :
      IsSimplexRun (program_of vectors s) (open_basis_of vectors s place) (open_coordinates_of vectors s place) steps

-- ---- the answer Outside
pub record IsNamed (P : Program) (names : List ℕ) (k : ℕ) : Type 0 where
  pub place : ℕ
  pub within : place < length names
  pub here : P.low + name_at names place ≡ k

pub record IsOutsideOf (P : Program) (B : ℕ → Bool) (coord : ℕ → ℕ
    → Rational) (zeros : List ℕ) (vector : ℕ) : Type 0 where
  pub vectors : (i : ℕ) → i < length zeros → P.low + name_at zeros i < P.high
  pub basic : (i : ℕ) → i < length zeros → B (P.low + name_at zeros i) ≡ true
  pub every : (k : ℕ) → k < P.columns.count → B k ≡ true → k ≢ P.top → IsNamed P zeros k
  pub increasing : (i j : ℕ) → i < j → j < length zeros → name_at zeros i < name_at zeros j
  pub number : length zeros + 1 ≡ P.low
  pub apart : (i : ℕ) → i < length zeros → name_at zeros i ≢ vector
  pub place : ℕ  -- where the vector stands in the first basis
  pub within : place < P.rank
  pub vector_is : P.low + vector ≡ P.first place
  pub positive : IsPositive (coord (P.first place) P.top)
  pub before : (j : ℕ) → j < place → IsNonnegative (neg_ℚ (coord (P.first j) P.top))
  pub is_basis : IsBasis P.columns (swapped B P.top (P.low + vector))
      (exchanged_coordinates coord P.top (P.low + vector))
