-- Lists of vectors with positive weights.
--
--     vectors_of terms    the vectors, in order
--     IsTermList terms    the weights are positive, and the vectors strictly increasing
--     IsAfter terms x     x is greater than the last vector of the list
use Rattle.std.specs.Prelude.{◌≡◌, ℕ, ◌+◌, List, [], map, length, slice_index_or}
use Rattle.std.specs.List.{All}
use Rattle.exact_forms.specs.Signs.{IsPositive}
use Rattle.exact_forms.specs.Vectors.{ComesBefore, IsIncreasing}
use Rattle.exact_forms.specs.Factors.{WeightedVector}

abbrev pub vectors_of : List WeightedVector → List (List ℕ)
vectors_of terms = map (λ term. term.vector) terms

pub record IsTermList (terms : List WeightedVector) : Type 0 where
  pub positive : All (λ term. IsPositive term.weight) terms
  pub increasing : IsIncreasing (vectors_of terms)

pub record IsAfter (terms : List WeightedVector) (x : List ℕ) : Type 0 where
  pub greater : (k : ℕ) → k + 1 ≡ length terms → ComesBefore (slice_index_or (vectors_of terms) k []) x
