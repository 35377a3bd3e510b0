-- The linear program step by step: its operations in their order, and what `place` answers.
--
--     Problem              the table over the units, how many vectors there are, and the number that the weights are divided by
--     problem_of vectors s d   the one whose columns are the vectors' matrices and whose target is S, the weights divided by d
--     place_is_owed op     the result of this operation does not fit
--     first_owed_in ops    the first such operation of a list
--     first_table p        the table of the first basis; firsts p the columns of the first basis
--     ranks t m firsts     the target's column, then those of the first basis
--     leaving, stepped, step_ops, exchange_of   of the step of an entering column: its row, the table after it, its operations, and
--                          the two vectors' indices
--     IsLeft t r c new a   a is what the exchange at row r and column c answers, told as a step, and new the table after it
--     IsStepped t m firsts e new a    the same of the step of the entering column e
--     opened t m, opened_ops t m   the table after t has come in, and the operations of that
--     table_after p k, steps_of p k   the table after k steps, and these steps
--     is_settled_first p   the target is written by nonnegative coordinates over the first basis
--     is_last p k          it is written so after k steps, or over the first basis already
--     IsStepDue p k        neither is it so, nor is there no entering vector
--     HasLeavingRows p     at each step that is due a row can leave
--     at_target t m c      the coordinate of the target at column c, which is 0 where c is not basic
--     is_raised t m firsts v   t is basic, and vector v in the first basis: t's coefficient is added to that of v
--     coefficient t m firsts v    the coefficient of vector v in the answer Inside, before it is divided
--     coefficient_ops t m firsts d v   the operations of that coefficient, and of its division by d
--     weight_ops t m firsts d v n      those of n vectors from v on
--     weights t m firsts d n       the weights, in the order of the vectors
--     last_table p k       the table that the weights are read from after k steps
--     is_basic_vector t v, zeros_of t m   vector v is basic; the basic vectors
--     first_above t r cs   the first of the columns cs with a positive entry in row r
--     outside_vector t m firsts   the first vector of the first basis whose entry in the row of t is positive
--     IsWeightsAnswer t m firsts d steps a  a is what the weights of the table t answer
--     IsOutsideAnswer t m firsts steps a   a is what the basis of the table t answers
--     opening_ops p k      the operations after step k, up to where it is known which of the three ends applies
--     closing_ops p k      those from there to the next step, or to the end
--     leg_ops p k          all operations after step k and before the next one, or to the end
--     legs p k             those of the first k legs
--     is_step_due p k      another step is due after k steps
--     ops_within p budget k    those that are due after step k: where another step is due and none is left, up to its refusal
--     IsRun p budget steps     these are the first steps, at most so many, none is lacking, and no operation up to them is owed
--     IsInsideAfter, IsOutsideAfter, IsRefusedAfter, IsOwedAfter   the answers Inside, Outside, Pivots and Wide fit after k steps
--     IsPlaceAnswer p budget a  a is an answer that fits with at most so many steps
--     IsOnlyAnswer p budget a  each answer that fits is a, want of memory aside: so a comes exactly where it fits
--
-- Rows, columns and vectors count from 0.
use Rattle.std.specs.Prelude.{ℕ, zero, suc, ◌+◌, ◌-◌, ◌<◌, ◌≤◌, ◌≡◌, ◌≢◌, ℤ, pos, Bool, true, false, not, ◌&&◌, ◌||◌, ◌⊎◌, List, [], ◌∷◌, ◌++◌, map, length, Option, Some, None, Result, Ok, Err, if◌then◌else◌, nat_eq}
use Rattle.std.specs.List.{range_with_len}
use Rattle.exact_forms.specs.Rational.{Rational, whole, ◌+ℚ◌, ◌/ℚ◌}
use Rattle.fraction128.specs.Recipes.{add_ops, div_ops}
use Rattle.symmetric_matrix.specs.Symmetric.{Symmetric}
use Rattle.symmetric_matrix.specs.Operations.{is_owed}
use Rattle.symmetric_matrix.specs.Owed.{first_owed}
use Rattle.exact_linear.specs.declared.entry.EntryOp.{EntryOp}
use Rattle.exact_linear.specs.Tables.{Table, rows_of, table_entry, basic_at, places_where, or_zero, is_there, row_of, is_basic, contains}
use Rattle.exact_linear.specs.Columns.{start_table, with_sum}
use Rattle.exact_linear.specs.Exchange.{entry_is_owed, exchange_ops, exchanged, first_bases, first_ops}
use Rattle.exact_linear.specs.Squares.{squares}
use Rattle.exact_lp.specs.declared.placed.Exchange.{Exchange}
use Rattle.exact_lp.specs.declared.placed.PlaceOp.{PlaceOp}
use Rattle.exact_lp.specs.declared.placed.PlaceOp.TheVariants.{Tableau, Weight}
use Rattle.exact_lp.specs.declared.placed.Placed.{Placed}
use Rattle.exact_lp.specs.declared.placed.Placed.TheVariants.{Inside, Outside, Pivots, Wide, OutOfMemory}
use Rattle.exact_lp.specs.Rule.{target, top, is_positive, top_row, first_columns, is_settled, least_row, is_inside, entering, leaving_row, leaving_ops}

pub record Problem : Type 0 where
  pub start : Table
  pub vectors : ℕ
  pub d : Rational

abbrev pub problem_of : List (List ℕ) → Symmetric → ℤ → Problem
problem_of vectors s d =
    record { start = start_table s.size (squares vectors ++ s ∷ []); vectors = length vectors; d = whole d }

abbrev pub place_is_owed : PlaceOp → Bool
place_is_owed (Tableau e) = entry_is_owed e
place_is_owed (Weight v op) = is_owed op

abbrev pub first_owed_in : List PlaceOp → Option PlaceOp
first_owed_in ops = first_owed place_is_owed ops

abbrev pub first_table : Problem → Table
first_table p = first_bases p.start p.vectors

abbrev pub firsts : Problem → List ℕ
firsts p = first_columns (first_table p) p.vectors

abbrev pub ranks : Table → ℕ → List ℕ → List ℕ
ranks t m firsts = target t m ∷ firsts

-- ---- a step
unfoldable pub leaving : Table → ℕ → List ℕ → ℕ → Option ℕ
leaving t m firsts e = leaving_row t m e (ranks t m firsts) None 0 (rows_of t)

unfoldable pub stepped : Table → ℕ → List ℕ → ℕ → Table
stepped t m firsts e = elim (leaving t m firsts e) as (λ _. Table) [ None ↦ t | Some r ↦ exchanged t r e ]

unfoldable pub step_ops : Table → ℕ → List ℕ → ℕ → List EntryOp
step_ops t m firsts e =
    leaving_ops t m e (ranks t m firsts) None 0 (rows_of t)
    ++ elim (leaving t m firsts e) as (λ _. List EntryOp) [ None ↦ [] | Some r ↦ exchange_ops t r e ]

unfoldable pub exchange_of : Table → ℕ → List ℕ → ℕ → Exchange
exchange_of t m firsts e =
    record { entering = e - rows_of t; leaving = basic_at t (or_zero (leaving t m firsts e)) - rows_of t }

-- what the exchange at row r and column c answers, told as a step, with the table after it
abbrev pub IsLeft : Table → ℕ → ℕ → Table → Result Exchange EntryOp → Type 0
IsLeft t r c new (Err op) = first_owed entry_is_owed (exchange_ops t r c) ≡ Some op
IsLeft t r c new (Ok made) =
    (first_owed entry_is_owed (exchange_ops t r c) ≡ None)
    × ((made ≡ record { entering = c - rows_of t; leaving = basic_at t r - rows_of t }) × (new ≡ exchanged t r c))

-- what a step from the table t answers, with the table after it
abbrev pub IsStepped : Table → ℕ → List ℕ → ℕ → Table → Result Exchange EntryOp → Type 0
IsStepped t m firsts e new (Err op) = first_owed entry_is_owed (step_ops t m firsts e) ≡ Some op
IsStepped t m firsts e new (Ok made) =
    (first_owed entry_is_owed (step_ops t m firsts e) ≡ None)
    × ((made ≡ exchange_of t m firsts e) × (new ≡ stepped t m firsts e))

-- ---- the tables
unfoldable pub opened : Table → ℕ → Table
opened t m = exchanged (with_sum t) (least_row t m 0 1 (rows_of t - 1)) (top t m)

unfoldable pub opened_ops : Table → ℕ → List EntryOp
opened_ops t m = exchange_ops (with_sum t) (least_row t m 0 1 (rows_of t - 1)) (top t m)

unfoldable pub table_after : Problem → ℕ → Table
table_after p zero = opened (first_table p) p.vectors
table_after p (suc k) = stepped (table_after p k) p.vectors (firsts p) (or_zero (entering (table_after p k) p.vectors))

abbrev pub is_settled_first : Problem → Bool
is_settled_first p = is_settled (first_table p) p.vectors

unfoldable pub steps_of : Problem → ℕ → List Exchange
steps_of p zero = []
steps_of p (suc k) =
    steps_of p k ++ exchange_of (table_after p k) p.vectors (firsts p) (or_zero (entering (table_after p k) p.vectors))
    ∷ []

unfoldable pub is_last : Problem → ℕ → Bool
is_last p k = is_settled_first p || is_inside (table_after p k) p.vectors

pub record IsStepDue (p : Problem) (k : ℕ) : Type 0 where
  pub not_last : is_last p k ≡ false
  pub vector : is_there (entering (table_after p k) p.vectors) ≡ true

pub record HasLeavingRows (p : Problem) : Type 0 where
  pub row : (k : ℕ) → ((j : ℕ) → j ≤ k → IsStepDue p j)
      → leaving (table_after p k) p.vectors (firsts p) (or_zero (entering (table_after p k) p.vectors)) ≢ None

-- ---- the ends
abbrev pub at_target : Table → ℕ → ℕ → Rational
at_target t m c = elim (row_of t c) as (λ _. Rational) [ None ↦ whole (pos 0) | Some i ↦ table_entry t i (target t m) ]

-- whether t's coefficient is added to that of vector v
abbrev pub is_raised : Table → ℕ → List ℕ → ℕ → Bool
is_raised t m firsts v = is_basic t (top t m) && contains firsts (rows_of t + v)

unfoldable pub coefficient : Table → ℕ → List ℕ → ℕ → Rational
coefficient t m firsts v =
    if is_raised t m firsts v then at_target t m (rows_of t + v) +ℚ at_target t m (top t m) else at_target t m
    (rows_of t + v)

unfoldable pub coefficient_ops : Table → ℕ → List ℕ → Rational → ℕ → List PlaceOp
coefficient_ops t m firsts d v =
    (if is_raised t m firsts v then map (Weight v) (add_ops (at_target t m (rows_of t + v)) (at_target t m (top t m)))
    else [])
    ++ map (Weight v) (div_ops (coefficient t m firsts v) d)

-- from vector v on, n being left
unfoldable pub weight_ops : Table → ℕ → List ℕ → Rational → ℕ → ℕ → List PlaceOp
weight_ops t m firsts d v zero = []
weight_ops t m firsts d v (suc n) = coefficient_ops t m firsts d v ++ weight_ops t m firsts d (v + 1) n

unfoldable pub weights : Table → ℕ → List ℕ → Rational → ℕ → List Rational
weights t m firsts d n = map (λ v. coefficient t m firsts v /ℚ d) (range_with_len 0 n)

abbrev pub last_table : Problem → ℕ → Table
last_table p k = if is_settled_first p then first_table p else table_after p k

abbrev pub is_basic_vector : Table → ℕ → Bool
is_basic_vector t v = is_basic t (rows_of t + v)

unfoldable pub zeros_of : Table → ℕ → List ℕ
zeros_of t m = places_where (is_basic_vector t) 0 m

-- the first of the columns with a positive entry in row r
unfoldable pub first_above : Table → ℕ → List ℕ → ℕ
first_above t r [] = 0
first_above t r (c ∷ cs) = if is_positive (table_entry t r c) then c else first_above t r cs

abbrev pub outside_vector : Table → ℕ → List ℕ → ℕ
outside_vector t m firsts = first_above t (top_row t m) firsts - rows_of t

-- what the weights of a table answer
abbrev pub IsWeightsAnswer : Table → ℕ → List ℕ → Rational → List Exchange → Placed → Type 0
IsWeightsAnswer t m firsts d steps (Inside found made) =
    (made ≡ steps) × ((first_owed_in (weight_ops t m firsts d 0 m) ≡ None) × (found ≡ weights t m firsts d m))
IsWeightsAnswer t m firsts d steps (Outside zeros vector made) = ⊥
IsWeightsAnswer t m firsts d steps (Pivots made) = ⊥
IsWeightsAnswer t m firsts d steps (Wide op made) =
    (made ≡ steps) × (first_owed_in (weight_ops t m firsts d 0 m) ≡ Some op)
IsWeightsAnswer t m firsts d steps OutOfMemory = Unit {0}

-- what the basis of a table answers
abbrev pub IsOutsideAnswer : Table → ℕ → List ℕ → List Exchange → Placed → Type 0
IsOutsideAnswer t m firsts steps (Inside found made) = ⊥
IsOutsideAnswer t m firsts steps (Outside zeros vector made) =
    (made ≡ steps) × ((zeros ≡ zeros_of t m) × (vector ≡ outside_vector t m firsts))
IsOutsideAnswer t m firsts steps (Pivots made) = ⊥
IsOutsideAnswer t m firsts steps (Wide op made) = ⊥
IsOutsideAnswer t m firsts steps OutOfMemory = Unit {0}

-- ---- the operations
unfoldable pub opening_ops : Problem → ℕ → List PlaceOp
opening_ops p zero =
    map Tableau (first_ops p.start p.vectors)
    ++ (if is_settled_first p then [] else map Tableau (opened_ops (first_table p) p.vectors))
opening_ops p (suc k) = []

unfoldable pub closing_ops : Problem → ℕ → List PlaceOp
closing_ops p k =
    if is_last p k then weight_ops (last_table p k) p.vectors (firsts p) p.d 0 p.vectors
    else elim (entering (table_after p k) p.vectors) as (λ _. List PlaceOp)
    [ None ↦ [] | Some e ↦ map Tableau (step_ops (table_after p k) p.vectors (firsts p) e) ]

abbrev pub leg_ops : Problem → ℕ → List PlaceOp
leg_ops p k = opening_ops p k ++ closing_ops p k

unfoldable pub legs : Problem → ℕ → List PlaceOp
legs p zero = []
legs p (suc k) = legs p k ++ leg_ops p k

-- ---- the answer
pub record IsRun (p : Problem) (budget : ℕ) (steps : List Exchange) : Type 0 where
  pub are : steps ≡ steps_of p (length steps)
  pub due : (k : ℕ) → k < length steps → IsStepDue p k
  pub owes : first_owed_in (legs p (length steps)) ≡ None
  pub within : length steps ≤ budget

pub record IsInsideAfter (p : Problem) (found : List Rational) (k : ℕ) : Type 0 where
  pub last : is_last p k ≡ true
  pub owes : first_owed_in (leg_ops p k) ≡ None
  pub found_are : found ≡ weights (last_table p k) p.vectors (firsts p) p.d p.vectors

pub record IsOutsideAfter (p : Problem) (zeros : List ℕ) (vector k : ℕ) : Type 0 where
  pub not_last : is_last p k ≡ false
  pub none : entering (table_after p k) p.vectors ≡ None
  pub owes : first_owed_in (leg_ops p k) ≡ None
  pub zeros_are : zeros ≡ zeros_of (table_after p k) p.vectors
  pub vector_is : vector ≡ outside_vector (table_after p k) p.vectors (firsts p)

pub record IsRefusedAfter (p : Problem) (budget k : ℕ) : Type 0 where
  pub used : k ≡ budget
  pub due : IsStepDue p k
  pub owes : first_owed_in (opening_ops p k) ≡ None

abbrev pub is_step_due : Problem → ℕ → Bool
is_step_due p k = not (is_last p k) && is_there (entering (table_after p k) p.vectors)

-- where no step is left the operations end before those of the next one
unfoldable pub ops_within : Problem → ℕ → ℕ → List PlaceOp
ops_within p budget k = if nat_eq k budget && is_step_due p k then opening_ops p k else leg_ops p k

abbrev pub IsOwedAfter : Problem → ℕ → PlaceOp → ℕ → Type 0
IsOwedAfter p budget op k = first_owed_in (ops_within p budget k) ≡ Some op

abbrev pub IsPlaceAnswer : Problem → ℕ → Placed → Type 0
IsPlaceAnswer p budget (Inside found steps) = IsRun p budget steps × IsInsideAfter p found (length steps)
IsPlaceAnswer p budget (Outside zeros vector steps) =
    IsRun p budget steps × IsOutsideAfter p zeros vector (length steps)
IsPlaceAnswer p budget (Pivots steps) = IsRun p budget steps × IsRefusedAfter p budget (length steps)
IsPlaceAnswer p budget (Wide op steps) = IsRun p budget steps × IsOwedAfter p budget op (length steps)
IsPlaceAnswer p budget OutOfMemory = Unit {0}

-- want of memory aside, whatever answer fits is the one that was given
abbrev pub IsOnlyAnswer : Problem → ℕ → Placed → Type 0
IsOnlyAnswer p budget answered = (a : Placed) → IsPlaceAnswer p budget a
    → (answered ≡ a) ⊎ ((answered ≡ OutOfMemory) ⊎ (a ≡ OutOfMemory))
