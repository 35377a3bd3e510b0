-- The linear program on a tableau: the tables that it goes through.
--
-- The columns of a table are its units, as many as it has rows; then m vectors; then the target; then the reserved column t.
--
--     target t m, top t m      the columns of the target and of t
--     is_negative x, is_positive x    x is below 0; above 0
--     top_row t m              the row of t
--     first_columns t m        the vectors' columns that are basic, in increasing order
--     is_below t m i           the target's entry in row i is negative
--     is_settled t m           the target has no negative entry
--     is_lower t m b i         row i has a lesser entry of the target than row b, or an equal one and a later vector
--     least_row t m best i n   the row of the target's least entry, of equal ones that of the last vector; n rows from i on are left
--     is_inside t m            the target's entry in the row of t is at least 0
--     goes_down t m c          the entry of column c in the row of t is negative
--     entering t m             the first vector with a negative entry in the row of t
--     ratio_at t e i c         the entry of row i in column c, divided by its entry in column e
--     beats t e b i cs         row i divided by its entry in column e is lexicographically less than row b, over the columns cs
--     versus_ops t e b i cs    the divisions of that comparison, which stops at the first difference
--     is_candidate t m e i     row i is not the row of t, and its entry in column e is positive
--     better t e cs best i, better_ops    the better of the candidate row i and the best one before it; the divisions of that
--     leaving_row t m e cs best i n    the candidate that beats the others; best is the best before row i, and n rows are left
--     leaving_ops              the divisions of its comparisons
--     AreColumns t cs          each number of the list is a column of t
--
-- Rows and columns count from 0.
use Rattle.std.specs.Prelude.{ℕ, zero, suc, ◌+◌, pos, negsuc, Bool, true, false, not, ◌&&◌, List, [], ◌∷◌, ◌++◌, Option, Some, None, if◌then◌else◌, nat_eq, nat_lt, ◌<◌, length, slice_index_or}
use Rattle.std.specs.declared.cmp.Ordering.TheVariants.{Less, Equal, Greater}
use Rattle.exact_forms.specs.Rational.{Rational, ◌/ℚ◌}
use Rattle.fraction128.specs.Order.{order_of}
use Rattle.exact_linear.specs.declared.entry.EntryOp.{EntryOp}
use Rattle.exact_linear.specs.Tables.{Table, rows_of, table_entry, basic_at, first_place, places_where, or_zero, is_there, row_of, is_basic}
use Rattle.exact_linear.specs.Exchange.{divide_entry}

abbrev pub target : Table → ℕ → ℕ
target t m = rows_of t + m

abbrev pub top : Table → ℕ → ℕ
top t m = rows_of t + m + 1

abbrev pub is_negative : Rational → Bool
is_negative x = elim x.num [ pos n ↦ false | negsuc n ↦ true ]

abbrev pub is_positive : Rational → Bool
is_positive x = elim x.num [ pos n ↦ nat_lt 0 n | negsuc n ↦ false ]

unfoldable pub top_row : Table → ℕ → ℕ
top_row t m = or_zero (row_of t (top t m))

unfoldable pub first_columns : Table → ℕ → List ℕ
first_columns t m = places_where (is_basic t) (rows_of t) m

abbrev pub is_below : Table → ℕ → ℕ → Bool
is_below t m i = is_negative (table_entry t i (target t m))

unfoldable pub is_settled : Table → ℕ → Bool
is_settled t m = not (is_there (first_place (is_below t m) 0 (rows_of t)))

-- row i has a lesser entry of the target than row b, or an equal one and a later vector
unfoldable pub is_lower : Table → ℕ → ℕ → ℕ → Bool
is_lower t m b i =
    elim (order_of (table_entry t i (target t m)) (table_entry t b (target t m))) as (λ _. Bool)
    [ Less ↦ true | Equal ↦ nat_lt (basic_at t b) (basic_at t i) | Greater ↦ false ]

unfoldable pub least_row : Table → ℕ → ℕ → ℕ → ℕ → ℕ
least_row t m best i zero = best
least_row t m best i (suc n) = least_row t m (if is_lower t m best i then i else best) (i + 1) n

unfoldable pub is_inside : Table → ℕ → Bool
is_inside t m = not (is_negative (table_entry t (top_row t m) (target t m)))

abbrev pub goes_down : Table → ℕ → ℕ → Bool
goes_down t m c = is_negative (table_entry t (top_row t m) c)

unfoldable pub entering : Table → ℕ → Option ℕ
entering t m = first_place (goes_down t m) (rows_of t) m

abbrev pub ratio_at : Table → ℕ → ℕ → ℕ → Rational
ratio_at t e i c = table_entry t i c /ℚ table_entry t i e

unfoldable pub beats : Table → ℕ → ℕ → ℕ → List ℕ → Bool
beats t e b i [] = false
beats t e b i (c ∷ cs) =
    elim (order_of (ratio_at t e i c) (ratio_at t e b c)) as (λ _. Bool)
    [ Less ↦ true | Equal ↦ beats t e b i cs | Greater ↦ false ]

unfoldable pub versus_ops : Table → ℕ → ℕ → ℕ → List ℕ → List EntryOp
versus_ops t e b i [] = []
versus_ops t e b i (c ∷ cs) =
    divide_entry b c (table_entry t b c) (table_entry t b e)
    ++ (divide_entry i c (table_entry t i c) (table_entry t i e)
    ++ elim (order_of (ratio_at t e i c) (ratio_at t e b c)) as (λ _. List EntryOp)
    [ Less ↦ [] | Equal ↦ versus_ops t e b i cs | Greater ↦ [] ])

abbrev pub is_candidate : Table → ℕ → ℕ → ℕ → Bool
is_candidate t m e i = not (nat_eq (basic_at t i) (top t m)) && is_positive (table_entry t i e)

-- the best of a candidate row and those before it
abbrev pub better : Table → ℕ → List ℕ → Option ℕ → ℕ → Option ℕ
better t e cs None i = Some i
better t e cs (Some b) i = if beats t e b i cs then Some i else Some b

abbrev pub better_ops : Table → ℕ → List ℕ → Option ℕ → ℕ → List EntryOp
better_ops t e cs None i = []
better_ops t e cs (Some b) i = versus_ops t e b i cs

unfoldable pub leaving_row : Table → ℕ → ℕ → List ℕ → Option ℕ → ℕ → ℕ → Option ℕ
leaving_row t m e cs best i zero = best
leaving_row t m e cs best i (suc n) =
    leaving_row t m e cs (if is_candidate t m e i then better t e cs best i else best) (i + 1) n

unfoldable pub leaving_ops : Table → ℕ → ℕ → List ℕ → Option ℕ → ℕ → ℕ → List EntryOp
leaving_ops t m e cs best i zero = []
leaving_ops t m e cs best i (suc n) =
    (if is_candidate t m e i then better_ops t e cs best i else [])
    ++ leaving_ops t m e cs (if is_candidate t m e i then better t e cs best i else best) (i + 1) n

pub record AreColumns (t : Table) (cs : List ℕ) : Type 0 where
  pub within : (k : ℕ) → k < length cs → slice_index_or cs k 0 < t.width
