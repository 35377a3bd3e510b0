-- The first steps of a run are a run.
use Rattle.std.specs.Prelude.{◌≡◌, ℕ, zero, suc, ◌+◌, ◌<◌, ◌≤◌, Bool, List, length, take}
use Rattle.std.proofs.Common.{arith, sym, ap₂, refl, subst}
use Rattle.std.proofs.lemmas.List.{get_or-take, length-take-le}
use Rattle.exact_forms.specs.Rational.{Rational}
use Rattle.exact_forms.specs.Signs.{IsNegative}
use Rattle.exact_forms.specs.Lexicographic.{IsLexBelow}
use Rattle.exact_forms.specs.Coordinates.{swapped, exchanged_coordinates}
use Rattle.exact_lp.specs.declared.placed.Exchange.{Exchange}
use Rattle.exact_lp.specs.Program.{Program, order, IsState, IsEntering, IsLeaving}
use Rattle.exact_lp.specs.Simplex.{no_step, step_at, entering_column, leaving_column, basis_after, coordinates_after, IsSimplexRun}

abbrev pub AreSameTo : List Exchange → List Exchange → ℕ → Type 0
AreSameTo xs ys k = (j : ℕ) → j < k → step_at xs j ≡ step_at ys j

pub basis_to : (P : Program) (B : ℕ → Bool) (xs ys : List Exchange) (k : ℕ) → AreSameTo xs ys k → basis_after P B xs k ≡ basis_after P B ys k
unfolding basis_after
basis_to P B xs ys zero h = refl
basis_to P B xs ys (suc k) h =
    ap₂ (λ (C : ℕ → Bool) (x : Exchange). swapped C (P.low + x.leaving) (P.low + x.entering)) (basis_to P B xs ys k (λ j l. h j (omega arith)))
    (h k (omega arith))

pub coordinates_to : (P : Program) (coord : ℕ → ℕ → Rational) (xs ys : List Exchange) (k : ℕ) → AreSameTo xs ys k
    → coordinates_after P coord xs k ≡ coordinates_after P coord ys k
unfolding coordinates_after
coordinates_to P coord xs ys zero h = refl
coordinates_to P coord xs ys (suc k) h =
    ap₂ (λ (c : ℕ → ℕ → Rational) (x : Exchange). exchanged_coordinates c (P.low + x.leaving) (P.low + x.entering))
    (coordinates_to P coord xs ys k (λ j l. h j (omega arith))) (h k (omega arith))

module _ (P : Program) (B : ℕ → Bool) (coord : ℕ → ℕ → Rational) (xs : List Exchange) (X : IsSimplexRun P B coord xs) (n : ℕ) (l : n ≤ length xs) where
  front : List Exchange
  front = take n xs

  front_step : AreSameTo xs (take n xs) n
  front_step j h = sym (get_or-take n xs j no_step h)

  to : (k : ℕ) → k ≤ n → AreSameTo xs (take n xs) k
  to k h j m = front_step j (omega arith)

  B_is : (k : ℕ) → k ≤ n → basis_after P B xs k ≡ basis_after P B (take n xs) k
  B_is k h = basis_to P B xs (take n xs) k (to k h)

  c_is : (k : ℕ) → k ≤ n → coordinates_after P coord xs k ≡ coordinates_after P coord (take n xs) k
  c_is k h = coordinates_to P coord xs (take n xs) k (to k h)

  size : length (take n xs) ≡ n
  size = length-take-le n xs l

  pub front_is_run : IsSimplexRun P B coord (take n xs)
  front_is_run = record {
    state = λ k h.
        let m : k ≤ n = omega (arith, size) in
        subst (λ (c : ℕ → ℕ → Rational). IsState P (basis_after P B (take n xs) k) c) (c_is k m)
        (subst (λ (C : ℕ → Bool). IsState P C (coordinates_after P coord xs k)) (B_is k m) (X.state k (omega arith)));
    due = λ k h.
        let m : k < n = omega (arith, size) in
        subst (λ (c : ℕ → ℕ → Rational). IsNegative (c P.target P.top)) (c_is k (omega arith)) (X.due k (omega arith));
    enters = λ k h.
        let m : k < n = omega (arith, size) in
        subst (λ (c : ℕ → ℕ → Rational). IsEntering P c (entering_column P (take n xs) k)) (c_is k (omega arith))
        (subst (λ (x : Exchange). IsEntering P (coordinates_after P coord xs k) (P.low + x.entering)) (front_step k m) (X.enters k (omega arith)));
    leaves = λ k h.
        let m : k < n = omega (arith, size) in
        subst (λ (c : ℕ → ℕ → Rational). IsLeaving P (basis_after P B (take n xs) k) c (entering_column P (take n xs) k) (leaving_column P (take n xs) k))
        (c_is k (omega arith))
        (subst (λ (C : ℕ → Bool). IsLeaving P C (coordinates_after P coord xs k) (entering_column P (take n xs) k) (leaving_column P (take n xs) k))
        (B_is k (omega arith))
        (subst (λ (x : Exchange). IsLeaving P (basis_after P B xs k) (coordinates_after P coord xs k) (P.low + x.entering) (P.low + x.leaving)) (front_step k m)
        (X.leaves k (omega arith))));
    grows = λ k h.
        let m : k < n = omega (arith, size) in
        subst (λ (c : ℕ → ℕ → Rational). IsLexBelow (suc P.rank) (λ j. coordinates_after P coord (take n xs) k (order P j) P.top) (λ j. c (order P j) P.top))
        (c_is (suc k) (omega arith))
        (subst (λ (c : ℕ → ℕ → Rational). IsLexBelow (suc P.rank) (λ j. c (order P j) P.top) (λ j. coordinates_after P coord xs (suc k) (order P j) P.top))
        (c_is k (omega arith)) (X.grows k (omega arith)));
    once = λ i j h m.
        let b : j ≤ n = omega (arith, size) in
        subst (λ (C : ℕ → Bool). ((k : ℕ) → k < P.columns.count → basis_after P B (take n xs) i k ≡ C k) → ⊥) (B_is j b)
        (subst (λ (C : ℕ → Bool). ((k : ℕ) → k < P.columns.count → C k ≡ basis_after P B xs j k) → ⊥) (B_is i (omega arith)) (X.once i j h (omega arith)));
  }
