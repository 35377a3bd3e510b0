-- The limits look at the numbers below n alone.
use Rattle.std.specs.Prelude.{◌≡◌, ℕ, zero, suc, ◌<◌, ◌^◌, ℤ, pos, ◌<ℤ◌, nat_abs}
use Rattle.std.proofs.Common.{arith, sym, subst}
use Rattle.unimodular_cone.specs.Cones.{Matrix, Generators, WideEntry, Coordinate, Gram, IsOverLimit, FitsLimits, IsFirstOverLimit}

pub record SameBelow (n : ℕ) (v w : Generators) (g h : Matrix) : Type 0 where
  pub generators : (k p : ℕ) → k < n → p < n → v k p ≡ w k p
  pub gram_is : (i j : ℕ) → i < n → j < n → g i j ≡ h i j

pub same_back : {n : ℕ} {v w : Generators} {g h : Matrix} → SameBelow n v w g h → SameBelow n w v h g
same_back s = record { generators = λ k p lk lp. sym (s.generators k p lk lp); gram_is = λ i j li lj. sym (s.gram_is i j li lj) }

pub over_same : (n : ℕ) (v w : Generators) (g h : Matrix) (entry : WideEntry) → SameBelow n v w g h → IsOverLimit n v g entry → IsOverLimit n w h entry
over_same n v w g h (Coordinate (suc k) (suc p)) s (lk, lp, over) = (lk, lp, subst (λ (z : ℤ). pos (2 ^ 62) <ℤ z) (s.generators k p lk lp) over)
over_same n v w g h (Gram (suc i) (suc j)) s (li, le, over) = (li, le, subst (λ (z : ℤ). 2 ^ 100 < nat_abs z) (s.gram_is i j li (omega arith)) over)
over_same n v w g h (Coordinate zero p) s over = over
over_same n v w g h (Coordinate (suc k) zero) s over = over
over_same n v w g h (Gram zero j) s over = over
over_same n v w g h (Gram (suc i) zero) s over = over

pub fits_same : (n : ℕ) (v w : Generators) (g h : Matrix) → SameBelow n v w g h → FitsLimits n v g → FitsLimits n w h
fits_same n v w g h s fits entry over = fits entry (over_same n w v h g entry (same_back s) over)

pub first_over_same : (n : ℕ) (v w : Generators) (g h : Matrix) (entry : WideEntry) → SameBelow n v w g h → IsFirstOverLimit n v g entry
    → IsFirstOverLimit n w h entry
first_over_same n v w g h entry s f = record {
  over = over_same n v w g h entry s f.over;
  first = λ other before over. f.first other before (over_same n w v h g other (same_back s) over);
}
