-- Rays of perfect matrices, and the neighbour along a ray.
--
--     IsRay n zeros leaving r           R is symmetric, zero at each vector of `zeros` and over 0 at the vector `leaving`
--     IsCombined n g q p P R C          g·C = q·P + p·R, entry by entry
--     IsTightening n P R mu w p q       w is a nonzero vector with R[w] below 0, and p/q = (P[w] - mu) / -R[w]
--     IsCandidate n P R mu p q g level C   g·C = q·P + p·R and g·level = q·mu, for g of at least 1
--
-- P is a matrix with the copositive minimum mu. On the line P + λ·R the vector w has the value mu at λ = p/q, and C with
-- its level is P + λ·R with mu, over the divisor g.
use Rattle.std.specs.Prelude.{ℕ, ℤ, pos, ◌+ℤ◌, ◌-ℤ◌, ◌*ℤ◌, ◌≤ℤ◌, ◌<ℤ◌, neg_ℤ, ◌<◌, ◌≡◌, List, length}
use Rattle.std.specs.List.{All}
use Rattle.exact_forms.specs.Forms.{form, IsSymmetric}
use Rattle.exact_forms.specs.Vectors.{coordinate, IsNonzero}
use Rattle.exact_forms.specs.Copositive.{Matrix}

pub record IsRay (n : ℕ) (zeros : List (List ℕ)) (leaving : List ℕ) (r : Matrix) : Type 0 where
  pub symmetric : IsSymmetric n r
  pub at_zeros : All (λ v. form n r (coordinate v) ≡ pos 0) zeros
  pub at_leaving : pos 1 ≤ℤ form n r (coordinate leaving)

pub record IsCombined (n : ℕ) (g q p : ℤ) (P R C : Matrix) : Type 0 where
  pub entries : (i j : ℕ) → i < n → j < n → g *ℤ C i j ≡ q *ℤ P i j +ℤ p *ℤ R i j

pub record IsTightening (n : ℕ) (P R : Matrix) (mu : ℤ) (w : List ℕ) (p q : ℤ) : Type 0 where
  pub size : length w ≡ n
  pub nonzero : IsNonzero n w
  pub below : form n R (coordinate w) <ℤ pos 0
  pub den : pos 1 ≤ℤ q
  pub ratio : p *ℤ neg_ℤ (form n R (coordinate w)) ≡ q *ℤ (form n P (coordinate w) -ℤ mu)

pub record IsCandidate (n : ℕ) (P R : Matrix) (mu p q g level : ℤ) (C : Matrix) : Type 0 where
  pub divisor : pos 1 ≤ℤ g
  pub combined : IsCombined n g q p P R C
  pub level_is : g *ℤ level ≡ q *ℤ mu
