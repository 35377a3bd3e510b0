-- What the linear program answers by its rule, in coordinates.
--
--     last_basis F, last_coordinates F    the basis after the steps of the run F, and the coordinates over it
--     IsInsideEnd P coord m d found   S has a coordinate of at least 0 at t; the m numbers found are the weights, divided by d
--     IsStepLeft P B coord            S has a negative coordinate at t, and this step is due: the vector that enters is the
--                                     first with a negative coordinate at t, the one that leaves has the least list of ratios
--     IsRuled vectors s d answer      the steps are a run of the simplex rule from the first basis on. After them Inside comes
--                                     where S has a coordinate of at least 0 at t. Else Outside comes where no vector enters,
--                                     and names the vectors of the last basis; and Pivots where a step is due
--
-- Steps, columns and vectors count from 0; the column of vector k is P.low + k.
use Rattle.std.specs.Prelude.{ℕ, ◌+◌, ◌≡◌, ◌<◌, ℤ, Bool, List, length}
use Rattle.exact_forms.specs.Rational.{Rational, whole, ◌/ℚ◌}
use Rattle.exact_forms.specs.Signs.{IsNegative}
use Rattle.symmetric_matrix.specs.Symmetric.{Symmetric}
use Rattle.exact_lp.specs.declared.placed.Exchange.{Exchange}
use Rattle.exact_lp.specs.declared.placed.Placed.{Placed}
use Rattle.exact_lp.specs.declared.placed.Placed.TheVariants.{Inside, Outside, Pivots, Wide, OutOfMemory}
use Rattle.exact_lp.specs.OfVectors.{program_of}
use Rattle.exact_lp.specs.Program.{Program, EndsInside, EndsOutside, IsEntering, IsLeaving, weight}
use Rattle.exact_lp.specs.Simplex.{basis_after, coordinates_after, open_basis_of, open_coordinates_of, IsSimplexOf, IsOutsideOf}
use Rattle.exact_lp.specs.Weights.{weight_in}

abbrev pub last_basis :
    {vectors : List (List ℕ)} {s : Symmetric} {steps : List Exchange} → IsSimplexOf vectors s steps → ℕ → Bool
last_basis {vectors} {s} {steps} F =
    basis_after (program_of vectors s) (open_basis_of vectors s F.place) steps (length steps)

abbrev pub last_coordinates :
    {vectors : List (List ℕ)} {s : Symmetric} {steps : List Exchange} → IsSimplexOf vectors s steps → ℕ → ℕ → Rational
last_coordinates {vectors} {s} {steps} F =
    coordinates_after (program_of vectors s) (open_coordinates_of vectors s F.place) steps (length steps)

pub record IsInsideEnd (P : Program) (coord : ℕ → ℕ → Rational) (m : ℕ) (d : ℤ) (found : List Rational) : Type 0 where
  pub inside : EndsInside P coord
  pub weights : (k : ℕ) → k < m → weight_in found k ≡ weight P coord (P.low + k) /ℚ whole d

pub record IsStepLeft (P : Program) (B : ℕ → Bool) (coord : ℕ → ℕ → Rational) : Type 0 where
  pub negative : IsNegative (coord P.target P.top)
  pub step : Exchange  -- the one that is due
  pub enters : IsEntering P coord (P.low + step.entering)
  pub leaves : IsLeaving P B coord (P.low + step.entering) (P.low + step.leaving)

abbrev pub IsRuled : List (List ℕ) → Symmetric → ℤ → Placed → Type 0
IsRuled vectors s d (Inside found steps) =
    (F : IsSimplexOf vectors s steps) × IsInsideEnd (program_of vectors s) (last_coordinates F) (length vectors) d found
IsRuled vectors s d (Outside zeros vector steps) =
    (F : IsSimplexOf vectors s steps)
    × (EndsOutside (program_of vectors s) (last_coordinates F)
    × IsOutsideOf (program_of vectors s) (last_basis F) (last_coordinates F) zeros vector)
IsRuled vectors s d (Pivots steps) =
    (F : IsSimplexOf vectors s steps) × IsStepLeft (program_of vectors s) (last_basis F) (last_coordinates F)
IsRuled vectors s d (Wide op steps) = IsSimplexOf vectors s steps
IsRuled vectors s d OutOfMemory = Unit {0}
