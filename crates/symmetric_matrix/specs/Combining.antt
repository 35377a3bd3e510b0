-- Sums of multiples of two matrices, and matrices in primitive form.
--
--     combined q P p R               q·P + p·R
--     combine_ops q P p R            the operations that make it: at each place of the lower triangle q·P_ij, p·R_ij and their sum
--     IsCombineRefused q P p R f     f is the first of them that does not fit; want of memory is free
--     IsCombineAnswer q P p R a      a is q·P + p·R where no operation is owed, else the first one that is; want of memory is free
--     AreCombined q P p R sums       no operation is owed, and the entries that fit are the lower triangle of q·P + p·R
--     divisor_of M                   the greatest common divisor of the entries
--     primitive_of M                 M divided by it
--     IsTimes g Q M                  each entry of M is g times that of Q
--
-- Rows and columns count from 0.
use Rattle.std.specs.Prelude.{◌≡◌, ℕ, ◌<◌, ℤ, pos, ◌+ℤ◌, ◌*ℤ◌, List, [], ◌∷◌, map, Result, Ok, Err, Some, None}
use Rattle.std.specs.List.{flat_map}
use Rattle.commutative_ring.specs.Gcd.{divided}
use Rattle.symmetric_matrix.specs.declared.operation.IntOp.{IntOp}
use Rattle.symmetric_matrix.specs.declared.combining.Fail.{Fail}
use Rattle.symmetric_matrix.specs.declared.combining.Fail.TheVariants as fail
use Rattle.symmetric_matrix.specs.Operations.{is_owed, mul_op, add_op}
use Rattle.symmetric_matrix.specs.Owed.{first_owed}
use Rattle.symmetric_matrix.specs.Divisors.{divisor_from}
use Rattle.symmetric_matrix.specs.Recipes.{Place, triangle_places}
use Rattle.symmetric_matrix.specs.Symmetric.{Symmetric, IsLower, entry}

unfoldable pub combined : ℤ → Symmetric → ℤ → Symmetric → Symmetric
combined q P p R = record {
  size = P.size;
  lower = map (λ c. q *ℤ entry P c.row c.column +ℤ p *ℤ entry R c.row c.column) (triangle_places P.size);
}

abbrev pub combine_at : ℤ → Symmetric → ℤ → Symmetric → Place → List IntOp
combine_at q P p R c =
    mul_op q (entry P c.row c.column) ∷ mul_op p (entry R c.row c.column)
    ∷ add_op (q *ℤ entry P c.row c.column) (p *ℤ entry R c.row c.column) ∷ []

unfoldable pub combine_ops : ℤ → Symmetric → ℤ → Symmetric → List IntOp
combine_ops q P p R = flat_map (combine_at q P p R) (triangle_places P.size)

abbrev pub IsCombineRefused : ℤ → Symmetric → ℤ → Symmetric → Fail → Type 0
IsCombineRefused q P p R (fail.Wide op) = first_owed is_owed (combine_ops q P p R) ≡ Some op
IsCombineRefused q P p R fail.OutOfMemory = Unit {0}

abbrev pub IsCombineAnswer : ℤ → Symmetric → ℤ → Symmetric → Result Symmetric Fail → Type 0
IsCombineAnswer q P p R (Ok c) = (first_owed is_owed (combine_ops q P p R) ≡ None) × (c ≡ combined q P p R)
IsCombineAnswer q P p R (Err f) = IsCombineRefused q P p R f

-- of the lower triangle alone
pub record AreCombined (q : ℤ) (P : Symmetric) (p : ℤ) (R : Symmetric) (sums : List ℤ) : Type 0 where
  pub fits : first_owed is_owed (combine_ops q P p R) ≡ None
  pub are : sums ≡ (combined q P p R).lower
  pub lower : IsLower P.size sums

abbrev pub divisor_of : Symmetric → ℕ
divisor_of m = divisor_from 0 m.lower

unfoldable pub primitive_of : Symmetric → Symmetric
primitive_of m = record { size = m.size; lower = map (λ z. divided z (divisor_of m)) m.lower }

abbrev pub IsTimes : ℕ → Symmetric → Symmetric → Type 0
IsTimes g q m = (i j : ℕ) → i < m.size → j < m.size → pos g *ℤ entry q i j ≡ entry m i j
