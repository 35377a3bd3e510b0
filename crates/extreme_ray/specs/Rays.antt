-- The ray of a list of vectors: the primitive matrix that is zero at some of them and over 0 at another.
--
--     RayOp                    an operation: an entry's, as the vectors come in (Entry), or one of clearing (Clear)
--     ray_is_owed op           its result does not fit
--     ray_names vectors zeros l   the indices of the columns: the zeros and l, in increasing order
--     position names l         where l stands among them
--     vector_size vectors l    how many coordinates the vectors have
--     ray_start vectors zeros l   the tableau over the units, whose further columns are the matrices of these vectors
--     ray_table vectors zeros l   the tableau after they have come in, one after the other
--     ray_row vectors zeros l     the row in which the column of l is basic
--     coefficient_at t r i j   the entry of row r in the unit (i,j) of the lower triangle
--     row_coefficients t r i, coefficients t r n   those of row i of the triangle, and of its first n rows
--     ray_coefficients         the entries of the row of l in the units, in the order of the lower triangle
--     ray vectors zeros l      the ray, as a matrix that computes
--     ray_ops vectors zeros l  all operations by which it is made, in their order
--     IsRayBasis n vectors zeros l   the zeros and l are n(n+1)/2 vectors of the list, whose matrices are independent
--     IsRayAnswer vectors zeros l a  a is the ray, where no operation is owed, or the first that is; want of memory is
--                              free
--     IsPrimitiveRay n zeros v r     r has n rows, no common divisor but 1, and is a ray of the vectors `zeros` and v
--     IsRayBeside vectors zeros l r  the same of the named vectors of a list
--
-- Rows, columns and indices count from 0. The zeros come in any order.
use Rattle.std.specs.Prelude.{◌≡◌, ℕ, zero, suc, ◌+◌, ◌<◌, Bool, nat_eq, List, [], ◌∷◌, ◌++◌, map, length, Some, None, Result, Ok, Err}
use Rattle.std.specs.List.{range_with_len}
use Rattle.exact_forms.specs.RankOne.{AreIndependent}
use Rattle.exact_forms.specs.Triangles.{triangle}
use Rattle.exact_forms.specs.Neighbours.{IsRay}
use Rattle.symmetric_matrix.specs.declared.operation.IntOp.{IntOp}
use Rattle.symmetric_matrix.specs.Operations.{is_owed}
use Rattle.symmetric_matrix.specs.Owed.{first_owed}
use Rattle.symmetric_matrix.specs.Divisors.{divisor_from}
use Rattle.symmetric_matrix.specs.Symmetric.{Symmetric, entry}
use Rattle.symmetric_matrix.specs.Combining.{primitive_of}
use Rattle.exact_linear.specs.declared.entry.EntryOp.{EntryOp}
use Rattle.exact_linear.specs.Tables.{Table, table_entry, first_place, places_where, contains, row_of, or_zero}
use Rattle.exact_linear.specs.Columns.{start_table}
use Rattle.exact_linear.specs.Exchange.{entry_is_owed, first_bases, first_ops}
use Rattle.exact_linear.specs.Squares.{name_at, squares, vector_at, named}
use Rattle.extreme_ray.specs.declared.clearing.Coefficient.{Coefficient}
use Rattle.extreme_ray.specs.declared.ray.RayFail.{RayFail}
use Rattle.extreme_ray.specs.declared.ray.RayFail.TheVariants as fail
use Rattle.extreme_ray.specs.Clearing.{ray_clear_ops, cleared_matrix}

pub data RayOp : Type 0 where
  Entry : EntryOp → RayOp
  Clear : IntOp → RayOp

abbrev pub ray_is_owed : RayOp → Bool
ray_is_owed (Entry e) = entry_is_owed e
ray_is_owed (Clear op) = is_owed op

-- ---- the tableau
abbrev pub ray_names : List (List ℕ) → List ℕ → ℕ → List ℕ
ray_names vectors zeros l = places_where (contains (l ∷ zeros)) 0 (length vectors)

abbrev pub is_name : List ℕ → ℕ → ℕ → Bool
is_name names l i = nat_eq (name_at names i) l

unfoldable pub position : List ℕ → ℕ → ℕ
position names l = or_zero (first_place (is_name names l) 0 (length names))

abbrev pub vector_size : List (List ℕ) → ℕ → ℕ
vector_size vectors l = length (vector_at vectors l)

abbrev pub ray_start : List (List ℕ) → List ℕ → ℕ → Table
ray_start vectors zeros l = start_table (vector_size vectors l) (squares (named vectors (ray_names vectors zeros l)))

abbrev pub ray_table : List (List ℕ) → List ℕ → ℕ → Table
ray_table vectors zeros l = first_bases (ray_start vectors zeros l) (length (ray_names vectors zeros l))

-- the column of l comes after the units and the names before l
abbrev pub ray_row : List (List ℕ) → List ℕ → ℕ → ℕ
ray_row vectors zeros l =
    or_zero (row_of (ray_table vectors zeros l)
    (triangle (vector_size vectors l) + position (ray_names vectors zeros l) l))

abbrev pub coefficient_at : Table → ℕ → ℕ → ℕ → Coefficient
coefficient_at t r i j = record { value = table_entry t r (triangle i + j); diagonal = nat_eq i j }

abbrev pub row_coefficients : Table → ℕ → ℕ → List Coefficient
row_coefficients t r i = map (coefficient_at t r i) (range_with_len 0 (i + 1))

unfoldable pub coefficients : Table → ℕ → ℕ → List Coefficient
coefficients t r zero = []
coefficients t r (suc n) = coefficients t r n ++ row_coefficients t r n

abbrev pub ray_coefficients : List (List ℕ) → List ℕ → ℕ → List Coefficient
ray_coefficients vectors zeros l =
    coefficients (ray_table vectors zeros l) (ray_row vectors zeros l) (vector_size vectors l)

-- ---- the ray
unfoldable pub ray : List (List ℕ) → List ℕ → ℕ → Symmetric
ray vectors zeros l = primitive_of (cleared_matrix (vector_size vectors l) (ray_coefficients vectors zeros l))

unfoldable pub ray_ops : List (List ℕ) → List ℕ → ℕ → List RayOp
ray_ops vectors zeros l =
    map Entry (first_ops (ray_start vectors zeros l) (length (ray_names vectors zeros l)))
    ++ map Clear (ray_clear_ops (ray_coefficients vectors zeros l))

pub record IsRayBasis (n : ℕ) (vectors : List (List ℕ)) (zeros : List ℕ) (l : ℕ) : Type 0 where
  pub within : (i : ℕ) → i < length zeros → name_at zeros i < length vectors
  pub leaving_within : l < length vectors
  pub number : length zeros + 1 ≡ triangle n
  pub independent : AreIndependent n (named vectors (zeros ++ l ∷ []))

abbrev pub IsRayAnswer : List (List ℕ) → List ℕ → ℕ → Result Symmetric RayFail → Type 0
IsRayAnswer vectors zeros l (Ok r) =
    (first_owed ray_is_owed (ray_ops vectors zeros l) ≡ None) × (r ≡ ray vectors zeros l)
IsRayAnswer vectors zeros l (Err (fail.Entry op)) = first_owed ray_is_owed (ray_ops vectors zeros l) ≡ Some (Entry op)
IsRayAnswer vectors zeros l (Err (fail.Clear op)) = first_owed ray_is_owed (ray_ops vectors zeros l) ≡ Some (Clear op)
IsRayAnswer vectors zeros l (Err fail.OutOfMemory) = Unit {0}

pub record IsPrimitiveRay (n : ℕ) (zeros : List (List ℕ)) (v : List ℕ) (r : Symmetric) : Type 0 where
  pub size : r.size ≡ n
  pub is_ray : IsRay n zeros v (entry r)
  pub primitive : divisor_from 0 r.lower ≡ 1

abbrev pub IsRayBeside : List (List ℕ) → List ℕ → ℕ → Symmetric → Type 0
IsRayBeside vectors zeros l r = IsPrimitiveRay (vector_size vectors l) (named vectors zeros) (vector_at vectors l) r
