-- Clearing of the denominators of some coefficients.
--
--     Coefficient              a coefficient, and whether it stands on the diagonal
--     factor e c               den/gcd(e,den), for the denominator of c
--     lifted e c               e times that factor: the least common multiple of e and the denominator
--     lift_ops e c             the multiplication that makes it
--     denominator_over e cs    the least common multiple of e and the denominators
--     ray_denominator_ops e cs  the multiplications that make it, one for each coefficient
--     over_denominator e c     num·(e/den)
--     numerator e c            the same, or twice that on the diagonal
--     one_numerator_ops e c    the multiplications that make it
--     numerators e cs, ray_numerator_ops e cs  those of all coefficients, in their order
--     cleared_coefficients cs, ray_clear_ops cs the numerators over the least common denominator, and all multiplications
--     cleared_matrix n cs      the matrix of n rows whose lower triangle the cleared numerators are
--
-- On the diagonal a numerator is doubled: the coefficients belong to units, of which those on the diagonal have 1 once
-- and the others twice.
use Rattle.std.specs.Prelude.{ℕ, ◌*◌, ◌/◌, if◌then◌else◌, ℤ, pos, ◌*ℤ◌, List, [], ◌∷◌, ◌++◌}
use Rattle.commutative_ring.specs.Gcd.{gcd_of}
use Rattle.symmetric_matrix.specs.declared.operation.IntOp.{IntOp}
use Rattle.symmetric_matrix.specs.Operations.{mul_op}
use Rattle.symmetric_matrix.specs.Symmetric.{Symmetric}
use Rattle.extreme_ray.specs.declared.clearing.Coefficient.{Coefficient}

abbrev pub factor : ℕ → Coefficient → ℕ
factor e c = c.value.den / gcd_of e c.value.den

abbrev pub lifted : ℕ → Coefficient → ℕ
lifted e c = e * factor e c

abbrev pub lift_ops : ℕ → Coefficient → List IntOp
lift_ops e c = mul_op (pos e) (pos (factor e c)) ∷ []

unfoldable pub denominator_over : ℕ → List Coefficient → ℕ
denominator_over e [] = e
denominator_over e (c ∷ cs) = denominator_over (lifted e c) cs

unfoldable pub ray_denominator_ops : ℕ → List Coefficient → List IntOp
ray_denominator_ops e [] = []
ray_denominator_ops e (c ∷ cs) = lift_ops e c ++ ray_denominator_ops (lifted e c) cs

abbrev pub over_denominator : ℕ → Coefficient → ℤ
over_denominator e c = c.value.num *ℤ pos (e / c.value.den)

unfoldable pub numerator : ℕ → Coefficient → ℤ
numerator e c = if c.diagonal then over_denominator e c *ℤ pos 2 else over_denominator e c

unfoldable pub one_numerator_ops : ℕ → Coefficient → List IntOp
one_numerator_ops e c =
    mul_op c.value.num (pos (e / c.value.den)) ∷ (if c.diagonal then mul_op (over_denominator e c) (pos 2) ∷ [] else [])

unfoldable pub numerators : ℕ → List Coefficient → List ℤ
numerators e [] = []
numerators e (c ∷ cs) = numerator e c ∷ numerators e cs

unfoldable pub ray_numerator_ops : ℕ → List Coefficient → List IntOp
ray_numerator_ops e [] = []
ray_numerator_ops e (c ∷ cs) = one_numerator_ops e c ++ ray_numerator_ops e cs

abbrev pub cleared_coefficients : List Coefficient → List ℤ
cleared_coefficients cs = numerators (denominator_over 1 cs) cs

abbrev pub ray_clear_ops : List Coefficient → List IntOp
ray_clear_ops cs = ray_denominator_ops 1 cs ++ ray_numerator_ops (denominator_over 1 cs) cs

abbrev pub cleared_matrix : ℕ → List Coefficient → Symmetric
cleared_matrix n cs = record { size = n; lower = cleared_coefficients cs }
