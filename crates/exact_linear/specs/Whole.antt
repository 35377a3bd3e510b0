-- Tables of fractions over one denominator, as whole numbers.
--
--     fractions_over d ws      the fractions w/d, in order, for the whole numbers w of ws
--     whole_at ws k            number k of a list of whole numbers, or 0 past its end
--     AreSmallWholes ws        each magnitude is at most 2^63 - 1
--     turned p z               z with the sign of p: its opposite where p is below 0
--     entries_in den ws xs     the fractions w/den where den is at least 1, else xs
--     AreKept den ws ..        what holds of the two tables that are kept
--     AreScales p den          p is small and not 0, den small and at least 1: an exchange's pivot and denominator
use Rattle.std.specs.Prelude.{◌≡◌, ◌≢◌, ℕ, zero, suc, ◌^◌, ◌<◌, ℤ, pos, negsuc, neg_ℤ, nat_abs, ◌≤ℤ◌, List, map, length, slice_index_or}
use Rattle.exact_forms.specs.Rational.{Rational, ratio}

abbrev pub fractions_over : ℕ → List ℤ → List Rational
fractions_over d ws = map (λ w. ratio w d) ws

abbrev pub whole_at : List ℤ → ℕ → ℤ
whole_at ws k = slice_index_or ws k (pos 0)

pub record AreSmallWholes (ws : List ℤ) : Type 0 where
  pub small : (k : ℕ) → nat_abs (whole_at ws k) < 2 ^ 63

abbrev pub turned : ℤ → ℤ → ℤ
turned p z = elim p [ pos n ↦ z | negsuc n ↦ neg_ℤ z ]

-- the entries that are kept: the fractions themselves where the denominator is 0
unfoldable pub entries_in : ℤ → List ℤ → List Rational → List Rational
entries_in (pos zero) ws xs = xs
entries_in (pos (suc n)) ws xs = fractions_over (suc n) ws
entries_in (negsuc n) ws xs = xs

pub record AreScales (p den : ℤ) : Type 0 where
  pub some : p ≢ pos 0
  pub small : nat_abs p < 2 ^ 63
  pub den_positive : pos 1 ≤ℤ den
  pub den_small : nat_abs den < 2 ^ 63

pub record AreKept (den : ℤ) (wholes other : List ℤ) (kept spare : List Rational) : Type 0 where
  pub not_negative : pos 0 ≤ℤ den
  pub den_small : nat_abs den < 2 ^ 63
  pub small : AreSmallWholes wholes
  pub room : length other ≡ length wholes
  pub entries : length kept ≡ length wholes
  pub spare_entries : length spare ≡ length wholes
