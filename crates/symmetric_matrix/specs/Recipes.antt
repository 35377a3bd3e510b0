-- The operations of the sums over a symmetric matrix, in the order of its lower triangle.
--
--     Place                  a row and a column, counted from 0
--     row_places i           the places of row i up to the diagonal
--     triangle_places n      the places of the lower triangle of n rows, row by row
--     multiplicity p         how often the entry at a place of the lower triangle stands in the matrix: once on the diagonal, else twice
--     Product                two factors, and the operations by which the right one is made
--     product_ops s p        the operations that add the product p to the sum s
--     sum_ops products s     those that add each of the products in turn, from the sum s on
--     form_product q x p     Q_ij times m·x_i·x_j, where (i, j) is the place p and m its multiplicity
--     form_ops q x           the operations of Q[x]: each of these is added to a sum from 0
--     inner_product q s p    Q_ij times m·S_ij, which is made first
--     inner_ops q s          the operations of ⟨Q,S⟩: each of these is added to a sum from 0
use Rattle.std.specs.Prelude.{ℕ, ◌+◌, ◌*◌, nat_eq, if◌then◌else◌, ℤ, pos, ◌+ℤ◌, ◌*ℤ◌, List, [], ◌∷◌, ◌++◌, map, slice_index_or}
use Rattle.std.specs.List.{range_with_len, flat_map}
use Rattle.symmetric_matrix.specs.declared.operation.IntOp.{IntOp}
use Rattle.symmetric_matrix.specs.Operations.{mul_op, add_op}
use Rattle.symmetric_matrix.specs.Symmetric.{Symmetric, entry}

pub record Place : Type 0 where
  pub row : ℕ
  pub column : ℕ

unfoldable pub row_places : ℕ → List Place
row_places i = map (λ j. record { row = i; column = j }) (range_with_len 0 (i + 1))

unfoldable pub triangle_places : ℕ → List Place
triangle_places n = flat_map row_places (range_with_len 0 n)

unfoldable pub multiplicity : Place → ℕ
multiplicity p = if nat_eq p.row p.column then 1 else 2

pub record Product : Type 0 where
  pub before : List IntOp
  pub left : ℤ
  pub right : ℤ

unfoldable pub product_ops : ℤ → Product → List IntOp
product_ops s p = p.before ++ (mul_op p.left p.right ∷ add_op s (p.left *ℤ p.right) ∷ [])

unfoldable pub sum_ops : List Product → ℤ → List IntOp
sum_ops [] s = []
sum_ops (p ∷ rest) s = product_ops s p ++ sum_ops rest (s +ℤ p.left *ℤ p.right)

unfoldable pub form_product : Symmetric → List ℕ → Place → Product
form_product q x p = record {
  before = [];
  left = entry q p.row p.column;
  right = pos (multiplicity p * (slice_index_or x p.row 0 * slice_index_or x p.column 0));
}

unfoldable pub form_ops : Symmetric → List ℕ → List IntOp
form_ops q x = sum_ops (map (form_product q x) (triangle_places q.size)) (pos 0)

unfoldable pub inner_product : Symmetric → Symmetric → Place → Product
inner_product q s p = record {
  before = mul_op (pos (multiplicity p)) (entry s p.row p.column) ∷ [];
  left = entry q p.row p.column;
  right = pos (multiplicity p) *ℤ entry s p.row p.column;
}

unfoldable pub inner_ops : Symmetric → Symmetric → List IntOp
inner_ops q s = sum_ops (map (inner_product q s) (triangle_places q.size)) (pos 0)
