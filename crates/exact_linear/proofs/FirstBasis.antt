-- The first basis, vector by vector.
use Rattle.std.specs.Prelude.{◌≡◌, ◌≢◌, ℕ, ◌+◌, ◌<◌, ◌≤◌, pos, Bool, true, false, ◌⊎◌, [], ◌∷◌}
use Rattle.std.proofs.Common.{arith, sym, ◌∙◌, ap, ap₂, refl, subst, inl, inr}
use Rattle.exact_forms.proofs.RationalSums.{sum_ℚ_none}
use Rattle.commutative_ring.proofs.Ring.{num, ◌⊕◌, ◌⊗◌, neg, v0, v1}
use Rattle.commutative_ring.proofs.SmallCases.{same_or_not, true_or_false}
use Rattle.exact_forms.specs.Slacks.{replaced}
use Rattle.exact_forms.specs.Rational.{Rational, whole, inverse, neg_ℚ, ◌+ℚ◌, ◌*ℚ◌, ◌/ℚ◌}
use Rattle.exact_forms.proofs.Rational.{zero_mul_ℚ, mul-inverse}
use Rattle.exact_forms.proofs.Slacks.{replaced_here, replaced_other}
use Rattle.exact_forms.proofs.Rational.{ring_ℚ}
use Rattle.exact_forms.specs.Coordinates.{Columns, mark, swapped, exchanged_coordinates}
use Rattle.exact_linear.specs.FirstBasis.{IsCombinationBelow}
use Rattle.exact_linear.proofs.SoFar.{IsFirstSoFar}
use Rattle.exact_forms.proofs.Coordinates.{mul_zero_ℚ, mark_off, read_off, exchange_keeps}

zero_quotient : (x y : Rational) → x ≡ whole (pos 0) → x /ℚ y ≡ whole (pos 0)
unfolding ◌/ℚ◌
zero_quotient x y e = ap (λ w. w *ℚ inverse y.num y.den) e ∙ zero_mul_ℚ (inverse y.num y.den)

quotient_self : (x : Rational) → x ≢ whole (pos 0) → x /ℚ x ≡ whole (pos 1)
unfolding ◌/ℚ◌
quotient_self x n = mul-inverse x n

module _ (A : Columns) (low c : ℕ) (B : ℕ → Bool) (coord : ℕ → ℕ → Rational) (S : IsFirstSoFar A low c B coord) (lo : low ≤ c) (lc : c < A.count) where
  -- what the vectors before c write is zero at each unit of the basis
  pub combination_cleared : (g : IsCombinationBelow A low c) (u : ℕ) → u < low → B u ≡ true → coord c u ≡ whole (pos 0)
  combination_cleared g u lu b =
      read_off A B coord g.weight (coord c) (A.entry c) S.basis (S.basis.written c lc) g.sum u (omega arith)
      ∙ sum_ℚ_none A.count _ (λ j lj. each j lj (where_is j))
    where
      where_is : (j : ℕ) → ((j < low) ⊎ (c ≤ j)) ⊎ ((low ≤ j) × (j < c))
      where_is j = grind arith

      each : (j : ℕ) → j < A.count → (((j < low) ⊎ (c ≤ j)) ⊎ ((low ≤ j) × (j < c))) → g.weight j *ℚ coord j u ≡ whole (pos 0)
      each j lj (inl o) = ap (λ w. w *ℚ coord j u) (g.outside j lj o) ∙ zero_mul_ℚ (coord j u)
      each j lj (inr i) = ap (λ w. g.weight j *ℚ w) (S.cleared j u i.0 i.1 lu b) ∙ mul_zero_ℚ (g.weight j)

  last_or_before : (k : ℕ) → k < c + 1 → (k ≡ c) ⊎ (k < c)
  last_or_before k l = grind arith

  -- c is zero at each unit of the basis: it is left
  pub first_left : ((u : ℕ) → u < low → B u ≡ true → coord c u ≡ whole (pos 0)) → IsFirstSoFar A low (c + 1) B coord
  first_left none = record {
    basis = S.basis;
    first = record {
      taken = λ k a b t g. taken k a t g (last_or_before k b);
      left = λ k a b f. left k a f (last_or_before k b);
    };
    later = λ k a l. S.later k (omega arith) l;
    cleared = λ j u a b lu t. cleared j u a lu t (last_or_before j b);
  }
    where
      taken : (k : ℕ) → low ≤ k → B k ≡ true → IsCombinationBelow A low k → ((k ≡ c) ⊎ (k < c)) → ⊥
      taken k a t g (inl e) = absurd (let f = S.later c (omega arith) lc in let u : B k ≡ B c = ap B e in cc)
      taken k a t g (inr l) = S.first.taken k a l t g

      supported : (k : ℕ) → k < A.count → ((k < low) ⊎ (c ≤ k)) → ((B k ≡ true) ⊎ (B k ≡ false)) → coord c k ≡ whole (pos 0)
      supported k l o (inr f) = (S.basis.written c lc).outside k l f
      supported k l (inl u) (inl t) = none k u t
      supported k l (inr a) (inl t) = absurd (let f = S.later k a l in cc)

      left : (k : ℕ) → low ≤ k → B k ≡ false → ((k ≡ c) ⊎ (k < c)) → IsCombinationBelow A low k
      left k a f (inl e) = subst (λ (k : ℕ). IsCombinationBelow A low k) (sym e)
          record { weight = coord c; outside = λ k l o. supported k l o (true_or_false (B k)); sum = (S.basis.written c lc).sum }
      left k a f (inr l) = S.first.left k a l f

      cleared : (j u : ℕ) → low ≤ j → u < low → B u ≡ true → ((j ≡ c) ⊎ (j < c)) → coord j u ≡ whole (pos 0)
      cleared j u a lu t (inl e) = ap (λ (j : ℕ). coord j u) e ∙ none u lu t
      cleared j u a lu t (inr l) = S.cleared j u a l lu t

  -- c is not zero at the unit u of the basis: it takes its place
  pub first_taken : (u : ℕ) → u < low → B u ≡ true → coord c u ≢ whole (pos 0) → IsFirstSoFar A low (c + 1) (swapped B u c) (exchanged_coordinates coord u c)
  first_taken u lu bu ne = record {
    basis = exchange_keeps A B coord u c (omega arith) lc bu out ne S.basis;
    first = record {
      taken = λ k a b t g. taken k a t g (last_or_before k b);
      left = λ k a b f. left k a f (last_or_before k b);
    };
    later = λ k a l. as_before k (omega arith) (omega arith) ∙ S.later k (omega arith) l;
    cleared = λ j w a b lw t. cleared j w a lw t (last_or_before j b) (same_or_not w u);
  }
    where
      out : B c ≡ false
      out = S.later c (omega arith) lc

      as_before : (k : ℕ) → k ≢ u → k ≢ c → swapped B u c k ≡ B k
      as_before k nu nc = replaced_other (replaced B u false) c true k nc ∙ replaced_other B u false k nu

      at_c : swapped B u c c ≡ true
      at_c = replaced_here (replaced B u false) c true c refl

      taken : (k : ℕ) → low ≤ k → swapped B u c k ≡ true → IsCombinationBelow A low k → ((k ≡ c) ⊎ (k < c)) → ⊥
      taken k a t g (inl e) = ne (combination_cleared (subst (λ (k : ℕ). IsCombinationBelow A low k) e g) u lu bu)
      taken k a t g (inr l) = S.first.taken k a l (sym (as_before k (omega arith) (omega arith)) ∙ t) g

      left : (k : ℕ) → low ≤ k → swapped B u c k ≡ false → ((k ≡ c) ⊎ (k < c)) → IsCombinationBelow A low k
      left k a f (inl e) = absurd (let t : swapped B u c k ≡ swapped B u c c = ap (λ (k : ℕ). swapped B u c k) e in let s = at_c in cc)
      left k a f (inr l) = S.first.left k a l (sym (as_before k (omega arith) (omega arith)) ∙ f)

      unchanged : (j w : ℕ) → coord j u ≡ whole (pos 0) → exchanged_coordinates coord u c j w ≡ coord j w
      unchanged j w z =
          ap (λ x. coord j w +ℚ x *ℚ (mark c w +ℚ neg_ℚ (coord c w))) (zero_quotient (coord j u) (coord c u) z)
          ∙ ring_ℚ (coord j w ∷ (mark c w +ℚ neg_ℚ (coord c w)) ∷ []) (v0 ⊕ num (pos 0) ⊗ v1) v0 refl

      -- the new coordinates of c itself
      of_c : (w : ℕ) → w < low → coord c u /ℚ coord c u ≡ whole (pos 1) → exchanged_coordinates coord u c c w ≡ whole (pos 0)
      of_c w lw one =
          ap₂ (λ x y. coord c w +ℚ x *ℚ (y +ℚ neg_ℚ (coord c w))) one (mark_off A c w (omega arith))
          ∙ ring_ℚ (coord c w ∷ []) (v0 ⊕ num (pos 1) ⊗ (num (pos 0) ⊕ neg v0)) (num (pos 0)) refl

      cleared : (j w : ℕ) → low ≤ j → w < low → swapped B u c w ≡ true → ((j ≡ c) ⊎ (j < c)) → ((w ≡ u) ⊎ (w ≢ u))
          → exchanged_coordinates coord u c j w ≡ whole (pos 0)
      cleared j w a lw t d (inl s) = absurd (let x = replaced_here B u false w s in let y = replaced_other (replaced B u false) c true w (omega arith) in cc)
      cleared j w a lw t (inl e) (inr n) = ap (λ (j : ℕ). exchanged_coordinates coord u c j w) e ∙ of_c w lw (quotient_self (coord c u) ne)
      cleared j w a lw t (inr l) (inr n) =
          unchanged j w (S.cleared j u a l lu bu) ∙ S.cleared j w a l lw (sym (as_before w n (omega arith)) ∙ t)
