-- The units are a basis, over which the coordinates are the lower triangle.
use Rattle.std.specs.Prelude.{◌≡◌, ◌≢◌, ℕ, ◌<◌, ◌≤◌, pos, Bool, ◌⊎◌, if◌then◌else◌, nat_lt, [], ◌∷◌}
use Rattle.std.proofs.Common.{arith, sym, ◌∙◌, ap, refl, inl, inr}
use Rattle.commutative_ring.proofs.Ring.{◌⊗◌, v0, num}
use Rattle.commutative_ring.proofs.SmallCases.{at_least_of_test, test_of_at_least, test_of_below}
use Rattle.exact_forms.specs.Rational.{Rational, whole, ◌*ℚ◌}
use Rattle.exact_forms.specs.Sums.{sum_ℚ}
use Rattle.exact_forms.proofs.Rational.{zero_mul_ℚ}
use Rattle.exact_forms.proofs.Slacks.{replaced_here, replaced_other}
use Rattle.exact_forms.proofs.Rational.{ring_ℚ}
use Rattle.exact_forms.specs.Coordinates.{Columns, IsCoordinates, IsBasis}
use Rattle.exact_linear.proofs.SoFar.{IsFirstSoFar, AreUnits, over_units}
use Rattle.exact_forms.proofs.RationalSums.{sum_ℚ_one}
use Rattle.exact_forms.proofs.Coordinates.{mul_zero_ℚ}

module _ (A : Columns) (low : ℕ) (place : ℕ → ℕ → ℕ) (cell : ℕ → ℕ → Rational) (U : AreUnits A low place cell) where
  below_or_not : (k : ℕ) → (k < low) ⊎ (low ≤ k)
  below_or_not k = grind arith

  within : (k : ℕ) → k < low → k < A.count
  within k l = let w = U.low_within in omega arith

  -- a combination of units has at (a,b) the coefficient of their place
  at_place : (c : ℕ → Rational) → ((k : ℕ) → k < A.count → low ≤ k → c k ≡ whole (pos 0)) → (a b : ℕ) → a < A.size → b < A.size
      → sum_ℚ A.count (λ k. c k *ℚ A.entry k a b) ≡ c (place a b)
  at_place c off a b la lb =
      let p = U.place_below a b la lb in
      sum_ℚ_one A.count (λ k. c k *ℚ A.entry k a b) (place a b) (within (place a b) p) (λ k lk ne. each k lk ne (below_or_not k))
      ∙ ap (λ w. c (place a b) *ℚ w) (U.entry (place a b) a b (within (place a b) p) la lb ∙ U.unit (place a b) (place a b) p p
      ∙ replaced_here (λ k. whole (pos 0)) (place a b) (whole (pos 1)) (place a b) refl)
      ∙ ring_ℚ (c (place a b) ∷ []) (v0 ⊗ num (pos 1)) v0 refl
    where
      each : (k : ℕ) → k < A.count → k ≢ place a b → ((k < low) ⊎ (low ≤ k)) → c k *ℚ A.entry k a b ≡ whole (pos 0)
      each k lk ne (inl l) =
          ap (λ w. c k *ℚ w) (U.entry k a b lk la lb ∙ U.unit k (place a b) l (U.place_below a b la lb)
          ∙ replaced_other (λ k. whole (pos 0)) k (whole (pos 1)) (place a b) (λ s. ne (sym s))) ∙ mul_zero_ℚ (c k)
      each k lk ne (inr m) = ap (λ w. w *ℚ A.entry k a b) (off k lk m) ∙ zero_mul_ℚ (A.entry k a b)

  pub over_below : (j k : ℕ) → k < low → over_units low cell j k ≡ cell k j
  unfolding over_units
  over_below j k l = ap (λ (b : Bool). if b then cell k j else whole (pos 0)) (test_of_below k low l)

  over_above : (j k : ℕ) → low ≤ k → over_units low cell j k ≡ whole (pos 0)
  unfolding over_units
  over_above j k l = ap (λ (b : Bool). if b then cell k j else whole (pos 0)) (test_of_at_least k low l)

  pub units_basis : IsBasis A (λ k. nat_lt k low) (over_units low cell)
  units_basis = record {
    independent = record { only_zero = λ c h k lk. zero c h k lk (below_or_not k) };
    written = λ j lj. record {
      outside = λ k lk b. over_above j k (at_least_of_test k low b);
      sum = λ a b la lb.
          at_place (over_units low cell j) (λ k lk m. over_above j k m) a b la lb
          ∙ over_below j (place a b) (U.place_below a b la lb)
          ∙ sym (U.entry j a b lj la lb);
    };
  }
    where
      zero : (c : ℕ → Rational) → IsCoordinates A (λ k. nat_lt k low) c (λ a b. whole (pos 0)) → (k : ℕ) → k < A.count → ((k < low) ⊎ (low ≤ k))
          → c k ≡ whole (pos 0)
      zero c h k lk (inr m) = h.outside k lk (test_of_at_least k low m)
      zero c h k lk (inl l) =
          let r = U.reached k l in
          ap c (sym r.4) ∙ sym (at_place c (λ k lk m. h.outside k lk (test_of_at_least k low m)) r.0 r.1 r.2 r.3) ∙ h.sum r.0 r.1 r.2 r.3

  -- with no column looked at
  pub first_of_none : IsFirstSoFar A low low (λ k. nat_lt k low) (over_units low cell)
  first_of_none = record {
    basis = units_basis;
    first = record { taken = λ c a b t g. absurd (omega arith); left = λ c a b f. absurd (omega arith) };
    later = λ k a l. test_of_at_least k low a;
    cleared = λ j u a b lu t. absurd (omega arith);
  }
