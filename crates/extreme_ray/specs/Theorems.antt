-- What holds of rays.
--
--     AtMostOneRay          at most one matrix is the primitive ray of the zeros and l
--     OutsideHasARay        where the linear program answers Outside, its vectors are such a basis, and the primitive ray
--                           of them is an extreme ray of the matrices that are at least 0 at each vector, with a value
--                           below 0 at S
use Rattle.std.specs.Prelude.{◌≡◌, ℕ, pos, ◌<ℤ◌, List}
use Rattle.exact_forms.specs.Copositive.{IsExtremeRay}
use Rattle.exact_forms.specs.Forms.{inner}
use Rattle.symmetric_matrix.specs.Lists.{IsVectorList}
use Rattle.symmetric_matrix.specs.Symmetric.{Symmetric, IsSymmetricMatrix, entry}
use Rattle.exact_linear.specs.Separation.{IsSeparating}
use Rattle.exact_linear.specs.Squares.{vector_at, named}
use Rattle.extreme_ray.specs.Rays.{vector_size, IsRayBasis, IsPrimitiveRay, IsRayBeside}

abbrev pub AtMostOneRay : Type 0
AtMostOneRay = (vectors : List (List ℕ)) (zeros : List ℕ) (l : ℕ) (r s : Symmetric)
    → IsVectorList vectors → IsRayBasis (vector_size vectors l) vectors zeros l
    → IsSymmetricMatrix r → IsSymmetricMatrix s
    → IsRayBeside vectors zeros l r → IsRayBeside vectors zeros l s → r ≡ s

abbrev pub OutsideHasARay : Type 0
OutsideHasARay = (n : ℕ) (vectors : List (List ℕ)) (s : Symmetric) (zeros : List ℕ) (l : ℕ)
    → IsSeparating n vectors s zeros l → IsRayBasis n vectors zeros l
    × ((r : Symmetric) → IsPrimitiveRay n (named vectors zeros) (vector_at vectors l) r
    → IsExtremeRay n (entry r) vectors × (inner n (entry r) (entry s) <ℤ pos 0))
