-- In one program two runs from the same basis have the same steps, as far as both go.
use Rattle.std.specs.Prelude.{◌≡◌, ℕ, zero, suc, ◌+◌, ◌<◌, ◌≤◌, ◌⊎◌, Bool, List, length}
use Rattle.std.proofs.Common.{arith, sym, ◌∙◌, ap₂, refl, subst, inl, inr}
use Rattle.commutative_ring.proofs.SmallCases.{here_or_before, three_ways}
use Rattle.exact_forms.specs.Rational.{Rational}
use Rattle.exact_forms.specs.Coordinates.{swapped, exchanged_coordinates}
use Rattle.exact_forms.proofs.Signs.{negative_not_nonneg}
use Rattle.exact_lp.specs.declared.placed.Exchange.{Exchange}
use Rattle.exact_lp.specs.Program.{Program, IsProgram, IsEntering, IsLeaving}
use Rattle.exact_lp.specs.Simplex.{step_at, entering_column, leaving_column, basis_after, coordinates_after, IsSimplexRun}
use Rattle.exact_lp.proofs.Leaving.{leaving_is_unique}

entering_once : (P : Program) (coord : ℕ → ℕ → Rational) (e f : ℕ) → IsEntering P coord e → IsEntering P coord f → e ≡ f
entering_once P coord e f a b = by (three_ways e f)
  where
    by : ((e < f) ⊎ ((e ≡ f) ⊎ (f < e))) → e ≡ f
    by (inl l) = absurd (negative_not_nonneg (coord e P.top) a.negative (b.first e a.low l))
    by (inr (inl s)) = s
    by (inr (inr l)) = absurd (negative_not_nonneg (coord f P.top) b.negative (a.first f b.low l))

same_exchange : (x y : Exchange) → x.entering ≡ y.entering → x.leaving ≡ y.leaving → x ≡ y
same_exchange x y a b = ap₂ (λ (e l : ℕ). let r : Exchange = record { entering = e; leaving = l } in r) a b

module _ (P : Program) (start : ℕ → ℕ → Rational) (R : IsProgram P start) (B : ℕ → Bool) (coord : ℕ → ℕ → Rational) (xs ys : List Exchange)
    (X : IsSimplexRun P B coord xs) (Y : IsSimplexRun P B coord ys) where
  abbrev AreSame : ℕ → Type 0
  AreSame k = (j : ℕ) → j < k → step_at xs j ≡ step_at ys j

  basis_same : (k : ℕ) → AreSame k → basis_after P B xs k ≡ basis_after P B ys k
  unfolding basis_after
  basis_same zero h = refl
  basis_same (suc k) h =
      ap₂ (λ (C : ℕ → Bool) (x : Exchange). swapped C (P.low + x.leaving) (P.low + x.entering)) (basis_same k (λ j l. h j (omega arith))) (h k (omega arith))

  coordinates_same : (k : ℕ) → AreSame k → coordinates_after P coord xs k ≡ coordinates_after P coord ys k
  unfolding coordinates_after
  coordinates_same zero h = refl
  coordinates_same (suc k) h =
      ap₂ (λ (c : ℕ → ℕ → Rational) (x : Exchange). exchanged_coordinates c (P.low + x.leaving) (P.low + x.entering))
      (coordinates_same k (λ j l. h j (omega arith))) (h k (omega arith))

  step_same : (k : ℕ) → k < length xs → k < length ys → AreSame k → step_at xs k ≡ step_at ys k
  step_same k lx ly h =
      let c = coordinates_same k h in
      let b = basis_same k h in
      let f : IsEntering P (coordinates_after P coord xs k) (entering_column P ys k) =
      subst (λ (w : ℕ → ℕ → Rational). IsEntering P w (entering_column P ys k)) (sym c) (Y.enters k ly) in
      let e : entering_column P xs k ≡ entering_column P ys k =
      entering_once P (coordinates_after P coord xs k) (entering_column P xs k) (entering_column P ys k) (X.enters k lx) f in
      let m : IsLeaving P (basis_after P B xs k) (coordinates_after P coord xs k) (entering_column P xs k) (leaving_column P ys k) =
      subst (λ (n : ℕ). IsLeaving P (basis_after P B xs k) (coordinates_after P coord xs k) n (leaving_column P ys k)) (sym e)
      (subst (λ (C : ℕ → Bool). IsLeaving P C (coordinates_after P coord xs k) (entering_column P ys k) (leaving_column P ys k)) (sym b)
      (subst (λ (w : ℕ → ℕ → Rational). IsLeaving P (basis_after P B ys k) w (entering_column P ys k) (leaving_column P ys k)) (sym c) (Y.leaves k ly))) in
      let u = leaving_is_unique P (basis_after P B xs k) (coordinates_after P coord xs k) start R (X.state k (omega arith)) (entering_column P xs k)
      (leaving_column P xs k) (X.leaves k lx).candidate in
      let l : leaving_column P xs k ≡ leaving_column P ys k = u.1.only (leaving_column P xs k) (X.leaves k lx) ∙ sym (u.1.only (leaving_column P ys k) m) in
      same_exchange (step_at xs k) (step_at ys k) (omega arith) (omega arith)

  pub steps_same : (k : ℕ) → k ≤ length xs → k ≤ length ys → AreSame k
  steps_same zero lx ly j l = absurd (omega arith)
  steps_same (suc k) lx ly j l = by (here_or_before j k (omega arith)) (steps_same k (omega arith) (omega arith))
    where
      by : ((j ≡ k) ⊎ (j < k)) → AreSame k → step_at xs j ≡ step_at ys j
      by (inr m) rec = rec j m
      by (inl e) rec = subst (λ (i : ℕ). step_at xs i ≡ step_at ys i) (sym e) (step_same k (omega arith) (omega arith) rec)
