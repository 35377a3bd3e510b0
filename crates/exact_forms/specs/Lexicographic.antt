-- Lexicographic order of lists of rational numbers.
--
--     IsLexPositive n f   the first of f 0, .., f (n - 1) that is not 0 is over 0, and there is one
--     IsLexBelow n f g    at the first place below n where f and g differ, f is the lesser, and there is one
use Rattle.std.specs.Prelude.{ℕ, ◌≡◌, ◌<◌, pos}
use Rattle.exact_forms.specs.Rational.{Rational, whole, ◌+ℚ◌, neg_ℚ}
use Rattle.exact_forms.specs.Signs.{IsPositive}

pub record IsLexPositive (n : ℕ) (f : ℕ → Rational) : Type 0 where
  pub place : ℕ
  pub within : place < n
  pub before : (k : ℕ) → k < place → f k ≡ whole (pos 0)
  pub there : IsPositive (f place)

pub record IsLexBelow (n : ℕ) (f g : ℕ → Rational) : Type 0 where
  pub place : ℕ
  pub within : place < n
  pub before : (k : ℕ) → k < place → f k ≡ g k
  pub there : IsPositive (g place +ℚ neg_ℚ (f place))
