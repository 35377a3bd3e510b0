-- What holds of all answers of the linear program.
--
--     AtMostOnePlaceAnswer     of two answers that fit a problem and a budget, one is OutOfMemory or they are the same
--     IsOnlyLeaving P B coord e l   column l has a list of ratios lexicographically below that of each other candidate, and no
--                              other column has
--     LeavingIsUnique          at a state, where there is a candidate to leave for e, exactly one column leaves
--     EnteringHasLeaving       at a state of a program with no negative entry, exactly one column leaves for the entering one
--     HasNonnegativeFirst vectors s   the coordinates of S over the first basis are at least 0
--     SettledAtOnce            there a run has no step, and S is inside at its end
--     SettledWhereNonnegative  they are so exactly where the first basis settles the answer on its table
--     OneRun                   two runs of the same vectors and S have the same steps, as far as both go
--     FrontIsRun               the first steps of a run are a run
--     TablesHaveCoordinates    after k steps that were due, the table has the coordinates over its basic columns
use Rattle.std.specs.Prelude.{ℕ, ◌≡◌, ◌<◌, ◌≤◌, ◌⊎◌, ℤ, Bool, true, List, [], length, take}
use Rattle.exact_forms.specs.Rational.{Rational}
use Rattle.exact_forms.specs.Signs.{IsNonnegative}
use Rattle.symmetric_matrix.specs.Symmetric.{Symmetric}
use Rattle.exact_linear.specs.Columns.{HasCoordinates}
use Rattle.exact_lp.specs.declared.placed.Exchange.{Exchange}
use Rattle.exact_lp.specs.declared.placed.Placed.{Placed}
use Rattle.exact_lp.specs.declared.placed.Placed.TheVariants.{OutOfMemory}
use Rattle.exact_lp.specs.Placement.{Problem, problem_of, table_after, is_settled_first, IsStepDue, IsPlaceAnswer}
use Rattle.exact_lp.specs.OfVectors.{program_of, over_first, IsPlaceable}
use Rattle.exact_lp.specs.Program.{Program, IsProgram, IsState, EndsInside, IsEntering, MayLeave, IsLeaving, IsNonnegativeProgram}
use Rattle.exact_lp.specs.Simplex.{step_at, IsSimplexOf}
use Rattle.exact_lp.specs.Ruled.{last_coordinates}

abbrev pub AtMostOnePlaceAnswer : Type 0
AtMostOnePlaceAnswer = (p : Problem) (budget : ℕ) (a b : Placed) → IsPlaceAnswer p budget a → IsPlaceAnswer p budget b
    → (a ≡ b) ⊎ ((a ≡ OutOfMemory) ⊎ (b ≡ OutOfMemory))

pub record IsOnlyLeaving (P : Program) (B : ℕ → Bool) (coord : ℕ → ℕ → Rational) (e l : ℕ) : Type 0 where
  pub leaves : IsLeaving P B coord e l
  pub only : (m : ℕ) → IsLeaving P B coord e m → m ≡ l

-- start are the coordinates over the first basis
abbrev pub LeavingIsUnique : Type 0
LeavingIsUnique =
    (P : Program) (B : ℕ → Bool) (coord start : ℕ → ℕ → Rational) → IsProgram P start → IsState P B coord
    → (e k : ℕ) → MayLeave P B coord e k → (l : ℕ) × IsOnlyLeaving P B coord e l

abbrev pub EnteringHasLeaving : Type 0
EnteringHasLeaving =
    (P : Program) (B : ℕ → Bool) (coord start : ℕ → ℕ → Rational) → IsProgram P start → IsState P B coord
    → IsNonnegativeProgram P
    → (e : ℕ) → IsEntering P coord e → (l : ℕ) × IsOnlyLeaving P B coord e l

abbrev pub HasNonnegativeFirst : List (List ℕ) → Symmetric → Type 0
HasNonnegativeFirst vectors s =
    (j : ℕ) → j < (program_of vectors s).rank
    → IsNonnegative (over_first vectors s (program_of vectors s).target ((program_of vectors s).first j))

abbrev pub SettledAtOnce : Type 0
SettledAtOnce =
    (vectors : List (List ℕ)) (s : Symmetric) (steps : List Exchange) (F : IsSimplexOf vectors s steps)
    → HasNonnegativeFirst vectors s → (steps ≡ []) × EndsInside (program_of vectors s) (last_coordinates F)

abbrev pub SettledWhereNonnegative : Type 0
SettledWhereNonnegative =
    (vectors : List (List ℕ)) (s : Symmetric) (d : ℤ) → IsPlaceable vectors s
    → (HasNonnegativeFirst vectors s → is_settled_first (problem_of vectors s d) ≡ true)
    × (is_settled_first (problem_of vectors s d) ≡ true → HasNonnegativeFirst vectors s)

abbrev pub OneRun : Type 0
OneRun =
    (vectors : List (List ℕ)) (s : Symmetric) (xs ys : List Exchange)
    → IsSimplexOf vectors s xs → IsSimplexOf vectors s ys
    → (k : ℕ) → k < length xs → k < length ys → step_at xs k ≡ step_at ys k

abbrev pub FrontIsRun : Type 0
FrontIsRun =
    (vectors : List (List ℕ)) (s : Symmetric) (steps : List Exchange) → IsSimplexOf vectors s steps
    → (n : ℕ) → n ≤ length steps → IsSimplexOf vectors s (take n steps)

abbrev pub TablesHaveCoordinates : Type 0
TablesHaveCoordinates =
    (vectors : List (List ℕ)) (s : Symmetric) (d : ℤ) → IsPlaceable vectors s
    → (k : ℕ) → ((j : ℕ) → j < k → IsStepDue (problem_of vectors s d) j)
    → HasCoordinates (program_of vectors s).columns (table_after (problem_of vectors s d) k)
