-- The form of a matrix of two rows, written out.
use Rattle.std.specs.Prelude.{◌≡◌, ℕ, ℤ, pos, ◌+ℤ◌, ◌*ℤ◌, [], ◌∷◌}
use Rattle.std.proofs.Common.{arith}
use Rattle.std.proofs.lemmas.Int.{ints}
use Rattle.commutative_ring.specs.SumOf.{sum_of}
use Rattle.exact_forms.specs.Sums.{sum_to}
use Rattle.exact_forms.specs.Forms.{bilinear, form}
use Rattle.exact_forms.specs.Vectors.{coordinate}
use Rattle.exact_forms.specs.Copositive.{Matrix}

abbrev pub at_two : Matrix → ℤ → ℤ → ℤ
at_two z x y = (z 0 0 *ℤ (x *ℤ x) +ℤ z 0 1 *ℤ (x *ℤ y)) +ℤ (z 1 0 *ℤ (y *ℤ x) +ℤ z 1 1 *ℤ (y *ℤ y))

pub form_two : (z : Matrix) (a b : ℕ) → form 2 z (coordinate (a ∷ b ∷ [])) ≡ at_two z (pos a) (pos b)
unfolding bilinear sum_to sum_of
form_two z a b = plain (z 0 0 *ℤ (pos a *ℤ pos a)) (z 0 1 *ℤ (pos a *ℤ pos b)) (z 1 0 *ℤ (pos b *ℤ pos a)) (z 1 1 *ℤ (pos b *ℤ pos b))
  where
    plain : (p q r s : ℤ) → (pos 0 +ℤ ((pos 0 +ℤ p) +ℤ q)) +ℤ ((pos 0 +ℤ r) +ℤ s) ≡ (p +ℤ q) +ℤ (r +ℤ s)
    plain p q r s = omega (arith, ints)
