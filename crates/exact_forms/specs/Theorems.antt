-- What holds of factorizations and of what separates.
--
--     SeparatedIsNotFactored   a matrix that is separated has no factorization
use Rattle.std.specs.Prelude.{ℕ, List}
use Rattle.exact_forms.specs.Rational.{Rational}
use Rattle.exact_forms.specs.Copositive.{Matrix}
use Rattle.exact_forms.specs.Factors.{WeightedVector, IsFactorization, Separates}

abbrev pub SeparatedIsNotFactored : Type 0
SeparatedIsNotFactored = (n : ℕ) (w : Matrix) (a : ℕ → ℕ → Rational) (terms : List WeightedVector) → Separates n w a
    → IsFactorization n a terms → ⊥
