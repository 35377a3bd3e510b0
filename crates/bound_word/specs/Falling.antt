-- The rule of a falling word.
--
--     greatest_word          the greatest u64
--     opening_view start     the view of the first seat
--     another_view v         the view of a seat that is split off
--     away_view              what is left of a view that was joined into another
--     with_one_more v        v after a split
--     joined_view v w        v after w was joined into it
--     least_given views      the least code that a view gave, or top
--     bound start views      the least of the start and all that was given
--     first_views views      how many views are first
--     present views          how many views were not joined away
--     IsFallingWord start words views
--                            word 0 is the bound, and at most all that the views were told; one view is first, and its
--                            `out` is the number of the others that were not joined away; before a join it was at least 1
--     IsWordOffer code v found w an offer of the code found that word, and changed the view v to w
use Rattle.std.specs.Prelude.{◌≡◌, ℕ, ◌+◌, ◌-◌, ◌^◌, ◌≤◌, min, true, false, cond, List, [], ◌∷◌}
use mathlib.Core.Option.{some}
use lib.ListN.{get_elem?}
use Rattle.bound_word.specs.Totals.{total_of}
pub use Rattle.bound_word.specs.declared.rule.View.{View}

abbrev pub greatest_word : ℕ
greatest_word = 2 ^ 64 - 1

abbrev pub opening_view : ℕ → View
opening_view start = record { given = greatest_word; told = start; first = true; out = 0; out_before = 1; away = false }

abbrev pub another_view : View → View
another_view v = record { given = greatest_word; told = v.told; first = false; out = 0; out_before = 1; away = false }

abbrev pub away_view : View
away_view = record { given = greatest_word; told = greatest_word; first = false; out = 0; out_before = 1; away = true }

abbrev pub with_one_more : View → View
with_one_more v =
    record {
      given = v.given;
      told = v.told;
      first = v.first;
      out = v.out + 1;
      out_before = v.out_before;
      away = v.away;
    }

abbrev pub joined_view : View → View → View
joined_view v w =
    record {
      given = min v.given w.given;
      told = min v.told w.told;
      first = v.first;
      out = v.out - 1;
      out_before = v.out;
      away = v.away;
    }

abbrev pub least_given : List View → ℕ
least_given [] = greatest_word
least_given (v ∷ vs) = min v.given (least_given vs)

abbrev pub bound : ℕ → List View → ℕ
bound start views = min start (least_given views)

abbrev pub first_views : List View → ℕ
first_views views = total_of (λ (v : View). cond v.first 1 0) views

abbrev pub present : List View → ℕ
present views = total_of (λ (v : View). cond v.away 0 1) views

pub record IsFallingWord (start : ℕ) (words : List ℕ) (views : List View) : Type 0 where
  pub count : ℕ
  pub word : words ≡ bound start views ∷ count ∷ []
  pub told : (k : ℕ) (v : View) → get_elem? views k ≡ some v → bound start views ≤ v.told
  pub gone : (k : ℕ) (v : View) → get_elem? views k ≡ some v → v.away ≡ true → v ≡ away_view
  pub one_first : first_views views ≡ 1
  pub out : (k : ℕ) (v : View) → get_elem? views k ≡ some v → v.first ≡ true → v.out + 1 ≡ present views
  pub out_before : (k : ℕ) (v : View) → get_elem? views k ≡ some v → 1 ≤ v.out_before

pub record IsWordOffer (code : ℕ) (v : View) (found : ℕ) (w : View) : Type 0 where
  pub below : found ≤ v.told
  pub given : w.given ≡ min v.given code
  pub told : w.told ≡ min found code
  pub first : w.first ≡ v.first
  pub out : w.out ≡ v.out
  pub out_before : w.out_before ≡ v.out_before
  pub away : w.away ≡ v.away
