-- The columns over the units: each unit matrix is a multiple of a column, and given columns may be vectors' matrices.
use Rattle.std.specs.Prelude.{◌≡◌, ◌≢◌, ℕ, ◌+◌, ◌<◌, ◌≤◌, ◌⊎◌, ℤ, pos, ◌+ℤ◌, ◌*ℤ◌, Bool, true, false, nat_eq, nat_lt, List, [], ◌∷◌, if◌then◌else◌}
use Rattle.std.proofs.Common.{arith, sym, ◌∙◌, ap, ap₂, refl, inl, inr}
use Rattle.commutative_ring.proofs.Ring.{num, ◌⊗◌, v0}
use Rattle.commutative_ring.proofs.Laws.{mul_zero_ℤ, zero_mul_ℤ}
use Rattle.commutative_ring.proofs.SmallCases.{at_least_or_below, same_or_not, test_of_apart, test_of_same}
use Rattle.exact_forms.specs.Rational.{Rational, whole, ◌*ℚ◌}
use Rattle.exact_forms.specs.Forms.{unit_sum, mark_ℤ}
use Rattle.exact_forms.specs.Triangles.{triangle}
use Rattle.exact_forms.specs.RankOne.{HasVectors}
use Rattle.exact_forms.proofs.Rational.{ring_ℚ}
use Rattle.exact_forms.proofs.Slacks.{replaced_here, replaced_other}
use Rattle.exact_forms.proofs.Triangles.{place_decides}
use Rattle.symmetric_matrix.specs.Symmetric.{Symmetric}
use Rattle.exact_linear.specs.Columns.{place_in, start_cell, columns_of}
use Rattle.exact_linear.proofs.StartTable.{are_units, unit_cell}
use Rattle.exact_forms.specs.Coordinates.{IsBasis}
use Rattle.exact_linear.proofs.Spanning.{AreUnitsAndVectors, at_unit}

-- ---- places of a triangle
pub place_low : (a b : ℕ) → b ≤ a → place_in a b ≡ triangle a + b
unfolding place_in
place_low a b l = let t : nat_lt a b ≡ false = grind arith in rw t refl

place_high : (a b : ℕ) → a < b → place_in a b ≡ triangle b + a
unfolding place_in
place_high a b l = let t : nat_lt a b ≡ true = grind arith in rw t refl

pub place_symmetric : (a b : ℕ) → place_in a b ≡ place_in b a
place_symmetric a b = by (at_least_or_below a b) (at_least_or_below b a)
  where
    by : ((b ≤ a) ⊎ (a < b)) → ((a ≤ b) ⊎ (b < a)) → place_in a b ≡ place_in b a
    by (inl l) (inl m) = let e : a ≡ b = omega arith in ap₂ place_in e (sym e)
    by (inl l) (inr m) = place_low a b l ∙ sym (place_high b a m)
    by (inr l) (inl m) = place_high a b l ∙ sym (place_low b a m)
    by (inr l) (inr m) = absurd (omega arith)

same_place : (i j a b : ℕ) → place_in i j ≡ place_in a b → ((a ≡ i) × (b ≡ j)) ⊎ ((a ≡ j) × (b ≡ i))
same_place i j a b e = by (at_least_or_below i j) (at_least_or_below a b)
  where
    by : ((j ≤ i) ⊎ (i < j)) → ((b ≤ a) ⊎ (a < b)) → ((a ≡ i) × (b ≡ j)) ⊎ ((a ≡ j) × (b ≡ i))
    by (inl l) (inl m) = let d = place_decides i j a b l m (sym (place_low i j l) ∙ e ∙ place_low a b m) in inl (sym d.0, sym d.1)
    by (inl l) (inr m) = let d = place_decides i j b a l (omega arith) (sym (place_low i j l) ∙ e ∙ place_high a b m) in inr (sym d.1, sym d.0)
    by (inr l) (inl m) = let d = place_decides j i a b (omega arith) m (sym (place_high i j l) ∙ e ∙ place_low a b m) in inr (sym d.0, sym d.1)
    by (inr l) (inr m) = let d = place_decides j i b a (omega arith) (omega arith) (sym (place_high i j l) ∙ e ∙ place_high a b m) in inl (sym d.1, sym d.0)

-- ---- `unit i j` is a multiple of a column
abbrev pub unit_times : ℕ → ℕ → Rational
unit_times i j = if nat_eq i j then whole (pos 2) else whole (pos 1)

here : (a i : ℕ) → a ≡ i → mark_ℤ i a ≡ pos 1
here a i e = replaced_here (λ k. pos 0) i (pos 1) a e

other : (a i : ℕ) → a ≢ i → mark_ℤ i a ≡ pos 0
other a i n = replaced_other (λ k. pos 0) i (pos 1) a n

no_product : (i j a b : ℕ) → (a ≡ i → b ≡ j → ⊥) → mark_ℤ i a *ℤ mark_ℤ j b ≡ pos 0
no_product i j a b n = by (same_or_not a i) (same_or_not b j)
  where
    by : ((a ≡ i) ⊎ (a ≢ i)) → ((b ≡ j) ⊎ (b ≢ j)) → mark_ℤ i a *ℤ mark_ℤ j b ≡ pos 0
    by (inl e) (inl f) = absurd (n e f)
    by (inl e) (inr f) = ap (λ (y : ℤ). mark_ℤ i a *ℤ y) (other b j f) ∙ mul_zero_ℤ (mark_ℤ i a)
    by (inr e) f = ap (λ (x : ℤ). x *ℤ mark_ℤ j b) (other a i e) ∙ zero_mul_ℤ (mark_ℤ j b)

one_product : (i j a b : ℕ) → a ≡ i → b ≡ j → mark_ℤ i a *ℤ mark_ℤ j b ≡ pos 1
one_product i j a b e f = ap₂ (λ (x : ℤ) (y : ℤ). x *ℤ y) (here a i e) (here b j f)

unit_none : (i j a b : ℕ) → (a ≡ i → b ≡ j → ⊥) → (a ≡ j → b ≡ i → ⊥) → unit_sum i j a b ≡ pos 0
unit_none i j a b n m = ap₂ (λ (x : ℤ) (y : ℤ). x +ℤ y) (no_product i j a b n) (no_product j i a b m)

unit_some : (i j a b : ℕ) → (((a ≡ i) × (b ≡ j)) ⊎ ((a ≡ j) × (b ≡ i))) → unit_times i j ≡ whole (unit_sum i j a b)
unit_some i j a b h = by (same_or_not i j) h
  where
    times_is : (b : Bool) → nat_eq i j ≡ b → unit_times i j ≡ (if b then whole (pos 2) else whole (pos 1))
    times_is b e = ap (λ (b : Bool). if b then whole (pos 2) else whole (pos 1)) e

    by : ((i ≡ j) ⊎ (i ≢ j)) → (((a ≡ i) × (b ≡ j)) ⊎ ((a ≡ j) × (b ≡ i))) → unit_times i j ≡ whole (unit_sum i j a b)
    by (inl e) (inl h) = times_is true (test_of_same i j e)
        ∙ ap whole (sym (ap₂ (λ (x : ℤ) (y : ℤ). x +ℤ y) (one_product i j a b h.0 h.1) (one_product j i a b (h.0 ∙ e) (h.1 ∙ sym e))))
    by (inl e) (inr h) = times_is true (test_of_same i j e)
        ∙ ap whole (sym (ap₂ (λ (x : ℤ) (y : ℤ). x +ℤ y) (one_product i j a b (h.0 ∙ sym e) (h.1 ∙ e)) (one_product j i a b h.0 h.1)))
    by (inr n) (inl h) = times_is false (test_of_apart i j n)
        ∙ ap whole (sym (ap₂ (λ (x : ℤ) (y : ℤ). x +ℤ y) (one_product i j a b h.0 h.1) (no_product j i a b (λ p q. n (sym h.0 ∙ p)))))
    by (inr n) (inr h) = times_is false (test_of_apart i j n)
        ∙ ap whole (sym (ap₂ (λ (x : ℤ) (y : ℤ). x +ℤ y) (no_product i j a b (λ p q. n (sym p ∙ h.0))) (one_product j i a b h.0 h.1)))

pub units_and_vectors : (n : ℕ) (given : List Symmetric) (vectors : List (List ℕ)) → HasVectors (columns_of n given) (triangle n) vectors
    → AreUnitsAndVectors (columns_of n given) (triangle n) vectors
units_and_vectors n given vectors has = record {
  unit_column = place_in;
  times = λ i j. unit_times i j;
  unit_below = λ i j li lj. (are_units n given).place_below i j li lj;
  units = λ i j a b li lj la lb. at_entry i j a b li lj la lb (same_or_not (place_in a b) (place_in i j));
  has_vectors = has;
  mirrored = λ u a b lu la lb. ap (λ (k : ℕ). start_cell (triangle n) given k u) (place_symmetric a b);
}
  where
    at_entry : (i j a b : ℕ) → i < n → j < n → a < n → b < n → ((place_in a b ≡ place_in i j) ⊎ (place_in a b ≢ place_in i j))
        → unit_times i j *ℚ start_cell (triangle n) given (place_in a b) (place_in i j) ≡ whole (unit_sum i j a b)
    at_entry i j a b li lj la lb (inl e) =
        ap (λ w. unit_times i j *ℚ w)
        (unit_cell (triangle n) given (place_in i j) (place_in a b) ((are_units n given).place_below i j li lj) ((are_units n given).place_below a b la lb)
        ∙ replaced_here (λ k. whole (pos 0)) (place_in i j) (whole (pos 1)) (place_in a b) e)
        ∙ ring_ℚ (unit_times i j ∷ []) (v0 ⊗ num (pos 1)) v0 refl
        ∙ unit_some i j a b (same_place i j a b (sym e))
    at_entry i j a b li lj la lb (inr n') =
        ap (λ w. unit_times i j *ℚ w)
        (unit_cell (triangle n) given (place_in i j) (place_in a b) ((are_units n given).place_below i j li lj) ((are_units n given).place_below a b la lb)
        ∙ replaced_other (λ k. whole (pos 0)) (place_in i j) (whole (pos 1)) (place_in a b) n')
        ∙ ring_ℚ (unit_times i j ∷ []) (v0 ⊗ num (pos 0)) (num (pos 0)) refl
        ∙ ap whole (sym (unit_none i j a b (λ p q. n' (ap₂ place_in p q)) (λ p q. n' (ap₂ place_in p q ∙ place_symmetric j i))))

pub at_unit_is : (n : ℕ) (given : List Symmetric) (vectors : List (List ℕ)) (has : HasVectors (columns_of n given) (triangle n) vectors) (B : ℕ
    → Bool) (coord : ℕ → ℕ → Rational) (H : IsBasis (columns_of n given) B coord) (u i j : ℕ)
    → at_unit (columns_of n given) (triangle n) vectors (units_and_vectors n given vectors has) B coord H u i j ≡ unit_times i j *ℚ coord (place_in i j) u
unfolding units_and_vectors
at_unit_is n given vectors has B coord H u i j = refl
