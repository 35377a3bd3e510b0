-- The tables of the linear program as states of it.
use Rattle.std.specs.Prelude.{◌≡◌, ℕ, ◌+◌, ◌<◌, ◌≤◌, Bool, List, length, slice_index_or}
use Rattle.exact_forms.specs.Rational.{Rational}
use Rattle.exact_forms.specs.Coordinates.{IsShown}
use Rattle.exact_linear.specs.Tables.{Table, IsRectangle, rows_of, table_entry, basic_at}
use Rattle.exact_lp.specs.Rule.{target, top}
use Rattle.exact_lp.specs.Program.{Program, IsState}
use Rattle.exact_lp.proofs.Meaning.{HasWidth}

-- A table that shows a state of the linear program.
pub record IsTableau (P : Program) (t : Table) (m : ℕ) (cs : List ℕ) (B : ℕ → Bool) (coord : ℕ → ℕ → Rational) : Type 0 where
  pub state : IsState P B coord
  pub shown : IsShown P.columns B coord (rows_of t) (table_entry t) (basic_at t)
  pub rectangle : IsRectangle t
  pub wide : HasWidth t m
  pub count : P.columns.count ≡ t.width
  pub row : 1 ≤ rows_of t
  pub low : P.low ≡ rows_of t
  pub high : P.high ≡ rows_of t + m
  pub target_is : P.target ≡ target t m
  pub top_is : P.top ≡ top t m
  pub rank : length cs ≡ P.rank
  pub ranks : (j : ℕ) → j < P.rank → slice_index_or cs j 0 ≡ P.first j
