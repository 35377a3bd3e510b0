-- Worked examples: from the start matrix of two rows along the ray 0 -1 / -1 2.
use Rattle.std.specs.Prelude.{◌≡◌, pos, negsuc, [], ◌∷◌}
use Rattle.std.proofs.Common.{refl}
use Rattle.commutative_ring.specs.Gcd.{gcd_of, gcd_steps}
use Rattle.commutative_ring.specs.SumOf.{sum_of}
use Rattle.exact_forms.specs.Sums.{sum_to}
use Rattle.exact_forms.specs.Forms.{bilinear}
use Rattle.exact_forms.specs.Rational.{ratio}
use Rattle.exact_forms.specs.Triangles.{triangle, entry_in}
use Rattle.symmetric_matrix.specs.Symmetric.{entry}
use Rattle.symmetric_matrix.specs.Divisors.{divisor_from}
use Rattle.symmetric_matrix.specs.Recipes.{row_places, triangle_places}
use Rattle.symmetric_matrix.specs.Combining.{combined, primitive_of}
use Rattle.contiguous.specs.Tightenings.{Line, line_along, tighten_of, candidate, level}

line : Line
line = line_along record { size = 2; lower = pos 2 ∷ negsuc 0 ∷ pos 2 ∷ [] } (pos 2) record { size = 2; lower = pos 0 ∷ negsuc 0 ∷ pos 2 ∷ [] }

first : tighten_of line (2 ∷ 1 ∷ []) ≡ record { vector = 2 ∷ 1 ∷ []; p = pos 2; q = pos 1 }
unfolding line tighten_of bilinear sum_to sum_of entry entry_in triangle ratio gcd_of gcd_steps
first = refl

later : tighten_of line (7 ∷ 2 ∷ []) ≡ record { vector = 7 ∷ 2 ∷ []; p = pos 19; q = pos 5 }
unfolding line tighten_of bilinear sum_to sum_of entry entry_in triangle ratio gcd_of gcd_steps
later = refl

-- 5P + 19R is 10 -24 / -24 48, with the divisor 2
later_candidate : candidate line (record { vector = 7 ∷ 2 ∷ []; p = pos 19; q = pos 5 }) ≡ record { size = 2; lower = pos 5 ∷ negsuc 11 ∷ pos 24 ∷ [] }
unfolding line candidate combined primitive_of divisor_from entry entry_in triangle triangle_places row_places gcd_of gcd_steps
later_candidate = refl

later_level : level line (record { vector = 7 ∷ 2 ∷ []; p = pos 19; q = pos 5 }) ≡ pos 5
unfolding line level combined divisor_from entry entry_in triangle triangle_places row_places gcd_of gcd_steps
later_level = refl
