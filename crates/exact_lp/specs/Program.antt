-- The linear program by coordinates: whether the target is a nonnegative combination of the vectors' columns.
--
--     Program                 the columns; which of them are the vectors', the target, the first basis, and t, the sum of its columns
--     order P j               the target for j = 0, then the columns of the first basis in their order
--     IsProgram P coord       what holds of the columns; coord are the coordinates over the first basis
--     IsLeastPlace P coord i  t comes in at the i-th column of the first basis: the target has its least coordinate there, and of equal
--                             ones it is the last
--     IsState P B coord       t is in the basis B beside columns of vectors, and the list of coordinates of each of these is
--                             lexicographically positive
--     EndsInside P coord      the target has a coordinate of at least 0 at t: it is a nonnegative combination
--     EndsOutside P coord     it has a negative one, and no vector has: it is none
--     IsEntering P coord e    the first vector with a negative coordinate at t
--     MayLeave P B coord e k      a column of the basis beside t at which e has a positive coordinate
--     ratios P coord e k      the list of k, divided by the coordinate of e
--     IsLeaving P B coord e l   the candidate whose list of ratios is lexicographically least
--     weight P coord k        the weight of column k in the answer Inside
--     IsNonnegativeProgram P  the entries of the vectors' columns and of t are at least 0
--
-- The coordinates of column j over a basis are coord j; a basis is a test of columns. Columns count from 0.
use Rattle.std.specs.Prelude.{ℕ, zero, suc, ◌≡◌, ◌≢◌, ◌<◌, ◌≤◌, pos, Bool, true, cond, eqb}
use Rattle.exact_forms.specs.Rational.{Rational, whole, ◌+ℚ◌, ◌/ℚ◌, neg_ℚ}
use Rattle.exact_forms.specs.Sums.{sum_ℚ}
use Rattle.exact_forms.specs.Signs.{IsPositive, IsNegative, IsNonnegative}
use Rattle.exact_forms.specs.Lexicographic.{IsLexPositive, IsLexBelow}
use Rattle.exact_forms.specs.Coordinates.{Columns, IsBasis}

pub record Program : Type 0 where
  pub columns : Columns
  pub low : ℕ  -- the vectors' columns are low, .., high - 1
  pub high : ℕ
  pub target : ℕ
  pub top : ℕ  -- the column of the sum of the first basis
  pub rank : ℕ
  pub first : ℕ → ℕ  -- the columns of the first basis in increasing order, for places below rank
  pub chosen : ℕ → Bool  -- whether a column is one of them

unfoldable pub order : Program → ℕ → ℕ
order P zero = P.target
order P (suc j) = P.first j

pub record IsProgram (P : Program) (coord : ℕ → ℕ → Rational) : Type 0 where
  pub basis : IsBasis P.columns P.chosen coord
  pub vectors : P.high ≤ P.columns.count
  pub target_within : P.target < P.columns.count
  pub top_within : P.top < P.columns.count
  pub top_apart : (k : ℕ) → P.low ≤ k → k < P.high → k ≢ P.top
  pub first_is_vector : (j : ℕ) → j < P.rank → (P.low ≤ P.first j) × (P.first j < P.high)
  pub first_is_chosen : (j : ℕ) → j < P.rank → P.chosen (P.first j) ≡ true
  pub chosen_is_first : (k : ℕ) → k < P.columns.count → P.chosen k ≡ true → (j : ℕ) × (j < P.rank) × (P.first j ≡ k)
  pub increasing : (i j : ℕ) → i < j → j < P.rank → P.first i < P.first j
  pub top_is_sum : (a b : ℕ) → a < P.columns.size → b < P.columns.size
      → P.columns.entry P.top a b ≡ sum_ℚ P.rank (λ j. P.columns.entry (P.first j) a b)

pub record EndsInside (P : Program) (coord : ℕ → ℕ → Rational) : Type 0 where
  pub here : IsNonnegative (coord P.target P.top)

pub record EndsOutside (P : Program) (coord : ℕ → ℕ → Rational) : Type 0 where
  pub here : IsNegative (coord P.target P.top)
  pub none : (k : ℕ) → P.low ≤ k → k < P.high → IsNonnegative (coord k P.top)

pub record IsEntering (P : Program) (coord : ℕ → ℕ → Rational) (e : ℕ) : Type 0 where
  pub low : P.low ≤ e
  pub high : e < P.high
  pub negative : IsNegative (coord e P.top)
  pub first : (k : ℕ) → P.low ≤ k → k < e → IsNonnegative (coord k P.top)

pub record MayLeave (P : Program) (B : ℕ → Bool) (coord : ℕ → ℕ → Rational) (e k : ℕ) : Type 0 where
  pub within : k < P.columns.count
  pub basic : B k ≡ true
  pub other : k ≢ P.top
  pub positive : IsPositive (coord e k)

-- the list of k, divided by the coordinate of e
abbrev pub ratios : Program → (ℕ → ℕ → Rational) → ℕ → ℕ → ℕ → Rational
ratios P coord e k j = coord (order P j) k /ℚ coord e k

pub record IsLeaving (P : Program) (B : ℕ → Bool) (coord : ℕ → ℕ → Rational) (e l : ℕ) : Type 0 where
  pub candidate : MayLeave P B coord e l
  pub least : (k : ℕ) → MayLeave P B coord e k → k ≢ l
      → IsLexBelow (suc P.rank) (ratios P coord e l) (ratios P coord e k)

pub record IsState (P : Program) (B : ℕ → Bool) (coord : ℕ → ℕ → Rational) : Type 0 where
  pub basis : IsBasis P.columns B coord
  pub has_top : B P.top ≡ true
  pub vectors : (k : ℕ) → k < P.columns.count → B k ≡ true → k ≢ P.top → (P.low ≤ k) × (k < P.high)
  pub positive : (k : ℕ) → k < P.columns.count → B k ≡ true → k ≢ P.top
      → IsLexPositive (suc P.rank) (λ j. coord (order P j) k)

-- the weight of column k in the answer Inside
unfoldable pub weight : Program → (ℕ → ℕ → Rational) → ℕ → Rational
weight P coord k =
    cond (eqb k P.top) (whole (pos 0)) (coord P.target k) +ℚ cond (P.chosen k) (coord P.target P.top) (whole (pos 0))

-- the place of the first basis at which t comes in: the least coordinate of the target, the last among equals
pub record IsLeastPlace (P : Program) (coord : ℕ → ℕ → Rational) (i : ℕ) : Type 0 where
  pub within : i < P.rank
  pub least : (j : ℕ) → j < P.rank → IsNonnegative (coord P.target (P.first j) +ℚ neg_ℚ (coord P.target (P.first i)))
  pub last : (j : ℕ) → i < j → j < P.rank
      → IsPositive (coord P.target (P.first j) +ℚ neg_ℚ (coord P.target (P.first i)))

-- the entries of the vectors' columns and of t are at least 0
pub record IsNonnegativeProgram (P : Program) : Type 0 where
  pub vectors : (k a b : ℕ) → a < P.columns.size → b < P.columns.size → P.low ≤ k → k < P.high
      → IsNonnegative (P.columns.entry k a b)
  pub top : (a b : ℕ) → a < P.columns.size → b < P.columns.size → IsNonnegative (P.columns.entry P.top a b)
