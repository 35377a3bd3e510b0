-- What the answers of the linear program mean.
--
--     over s d i j              the entry of S/d at row i, column j
--     AreWeights n vectors s d c    nonnegative c_k, one for each vector, with Σ c_k·v_k·v_kᵗ = S/d
--     weight_in weights k       weight k of a list
--     IsSound n vectors s d answer  the weights of Inside are such weights, one for each vector; Outside comes only where there are
--                               none, and its vectors give a ray that separates S
--
-- Rows, columns and indices count from 0.
use Rattle.std.specs.Prelude.{ℕ, ◌≡◌, ◌<◌, ℤ, pos, List, length, slice_index_or}
use Rattle.exact_forms.specs.Rational.{Rational, whole, ◌/ℚ◌}
use Rattle.exact_forms.specs.Signs.{IsNonnegative}
use Rattle.exact_forms.specs.RankOne.{AreCoordinates}
use Rattle.symmetric_matrix.specs.Symmetric.{Symmetric, entry}
use Rattle.exact_lp.specs.declared.placed.Placed.{Placed}
use Rattle.exact_lp.specs.declared.placed.Placed.TheVariants.{Inside, Outside, Pivots, Wide, OutOfMemory}
use Rattle.exact_linear.specs.Separation.{IsSeparating}

abbrev pub over : Symmetric → ℤ → ℕ → ℕ → Rational
over s d i j = whole (entry s i j) /ℚ whole d

pub record AreWeights (n : ℕ) (vectors : List (List ℕ)) (s : Symmetric) (d : ℤ) (c : ℕ → Rational) : Type 0 where
  pub nonnegative : (k : ℕ) → k < length vectors → IsNonnegative (c k)
  pub sum : AreCoordinates n vectors c (over s d)

abbrev pub weight_in : List Rational → ℕ → Rational
weight_in found k = slice_index_or found k (whole (pos 0))

abbrev pub IsSound : ℕ → List (List ℕ) → Symmetric → ℤ → Placed → Type 0
IsSound n vectors s d (Inside found steps) =
    (length found ≡ length vectors) × AreWeights n vectors s d (weight_in found)
IsSound n vectors s d (Outside zeros vector steps) =
    ((c : ℕ → Rational) → AreWeights n vectors s d c → ⊥) × IsSeparating n vectors s zeros vector
IsSound n vectors s d (Pivots steps) = Unit {0}
IsSound n vectors s d (Wide op steps) = Unit {0}
IsSound n vectors s d OutOfMemory = Unit {0}
