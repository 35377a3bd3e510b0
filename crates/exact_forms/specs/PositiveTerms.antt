-- The terms that count in a sum whose weights are at least 0.
--
--     has_weight term          the weight is positive
--     positive_terms terms     the terms with a positive weight, in their order
--     IsInOrder terms          each term's vector comes before those of all later terms
use Rattle.std.specs.Prelude.{Bool, pos, int_lt, List, filter}
use Rattle.std.specs.List.{AllPairs}
use Rattle.exact_forms.specs.Vectors.{ComesBefore}
use Rattle.exact_forms.specs.Factors.{WeightedVector}

abbrev pub has_weight : WeightedVector → Bool
has_weight term = int_lt (pos 0) term.weight.num

unfoldable pub positive_terms : List WeightedVector → List WeightedVector
positive_terms terms = filter has_weight terms

abbrev pub IsInOrder : List WeightedVector → Type 0
IsInOrder terms = AllPairs (λ x y. ComesBefore x.vector y.vector) terms
