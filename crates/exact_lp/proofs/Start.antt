-- The first state: t takes the place of the vector with the least coordinate of the target, the last one among equals.
use Rattle.std.specs.Prelude.{◌≡◌, ◌≢◌, ℕ, zero, suc, ◌<◌, ◌≤◌, pos, true, false, ◌⊎◌, [], ◌∷◌}
use Rattle.std.proofs.Common.{arith, sym, ◌∙◌, ap, ap₂, refl, subst, inl, inr}
use Rattle.commutative_ring.proofs.Ring.{num, ◌⊕◌, ◌⊗◌, neg, v0, v1}
use Rattle.commutative_ring.proofs.SmallCases.{same_or_not, three_ways}
use Rattle.exact_forms.specs.Slacks.{replaced}
use Rattle.exact_forms.specs.Rational.{Rational, whole, neg_ℚ, ◌+ℚ◌, ◌*ℚ◌}
use Rattle.exact_forms.proofs.Slacks.{replaced_here, replaced_other}
use Rattle.exact_forms.proofs.Rational.{ring_ℚ}
use Rattle.exact_forms.specs.Signs.{IsPositive, IsNonnegative}
use Rattle.exact_forms.specs.Lexicographic.{IsLexPositive}
use Rattle.exact_forms.specs.Coordinates.{mark, swapped, exchanged_coordinates}
use Rattle.exact_lp.specs.Program.{Program, order, IsProgram, IsState, IsLeastPlace}
use Rattle.exact_forms.proofs.Signs.{Sign, above, none, below, sign_of, positive_not_zero, one_positive, not_both, zero_not_positive}
use Rattle.exact_forms.proofs.Coordinates.{mark_off, basis_mark, exchange_keeps}
use Rattle.exact_linear.proofs.Exchanges.{by_one}
use Rattle.exact_lp.proofs.Outcome.{top_at_chosen, top_not_chosen, first_apart}
use Rattle.exact_lp.proofs.Within.{first_within}

module _ (P : Program) (start : ℕ → ℕ → Rational) (R : IsProgram P start) where
  pub start_state : (i : ℕ) → IsLeastPlace P start i → IsState P (swapped P.chosen (P.first i) P.top) (exchanged_coordinates start (P.first i) P.top)
  unfolding order
  start_state i L =
      record {
        basis = exchange_keeps P.columns P.chosen start r P.top r_within R.top_within r_chosen (top_not_chosen P start R)
            (λ e. positive_not_zero (whole (pos 1)) one_positive (sym r_one ∙ e)) R.basis;
        has_top = replaced_here (replaced P.chosen r false) P.top true P.top refl;
        vectors = λ k l b n. let h = R.chosen_is_first k l (was k b n).1 in subst (λ (k : ℕ). (P.low ≤ k) × (k < P.high)) h.2 (R.first_is_vector h.0 h.1);
        positive = λ k l b n.
            let w = was k b n in
            let h = R.chosen_is_first k l w.1 in
            subst (λ (k : ℕ). IsLexPositive (suc P.rank) (λ j. exchanged_coordinates start r P.top (order P j) k)) h.2
            (at_place h.0 h.1 (λ (s : P.first h.0 ≡ r). w.0 (sym h.2 ∙ s)) (sign_of (start P.target (P.first h.0) +ℚ neg_ℚ (start P.target r))));
      }
    where
      r : ℕ
      r = P.first i

      r_within : r < P.columns.count
      r_within = let a = (R.first_is_vector i L.within).1 in let b = R.vectors in omega arith

      r_chosen : P.chosen r ≡ true
      r_chosen = R.first_is_chosen i L.within

      r_one : start P.top r ≡ whole (pos 1)
      r_one = top_at_chosen P start R r r_within r_chosen

      was : (k : ℕ) → swapped P.chosen r P.top k ≡ true → k ≢ P.top → (k ≢ r) × (P.chosen k ≡ true)
      was k b n = by (same_or_not k r)
        where
          by : ((k ≡ r) ⊎ (k ≢ r)) → (k ≢ r) × (P.chosen k ≡ true)
          by (inl s) = absurd (let t = replaced_here P.chosen r false k s in let u = replaced_other (replaced P.chosen r false) P.top true k n in cc)
          by (inr m) = (m, sym (replaced_other P.chosen r false k m) ∙ sym (replaced_other (replaced P.chosen r false) P.top true k n) ∙ b)

      -- the lists are the differences to that of r
      list_is : (c k : ℕ) → k < P.columns.count → P.chosen k ≡ true → exchanged_coordinates start r P.top c k ≡ start c k +ℚ neg_ℚ (start c r)
      list_is c k l h =
          ap₂ (λ v w. start c k +ℚ v *ℚ w) (by_one (start c r) (start P.top r) r_one)
          (ap₂ (λ v w. v +ℚ neg_ℚ w)
          (mark_off P.columns P.top k (λ (s : k ≡ P.top). absurd (let t = top_not_chosen P start R in
          let u : P.chosen k ≡ P.chosen P.top = ap P.chosen s in cc))) (top_at_chosen P start R k l h))
          ∙ ring_ℚ (start c k ∷ start c r ∷ []) (v0 ⊕ v1 ⊗ (num (pos 0) ⊕ neg (num (pos 1)))) (v0 ⊕ neg v1) refl

      at_first : (a j : ℕ) → a < P.rank → j < P.rank → start (P.first a) (P.first j) ≡ mark (P.first a) (P.first j)
      at_first a j la lj =
          basis_mark P.columns P.chosen start R.basis (P.first a) (first_within P start R a la) (R.first_is_chosen a la) (P.first j)
          (first_within P start R j lj)

      apart_zero : (a j : ℕ) → a < P.rank → j < P.rank → a ≢ j → start (P.first a) (P.first j) ≡ whole (pos 0)
      apart_zero a j la lj ne = at_first a j la lj ∙ mark_off P.columns (P.first a) (P.first j) (λ s. first_apart P start R a j la lj ne (sym s))

      same_one : (j : ℕ) → j < P.rank → start (P.first j) (P.first j) ≡ whole (pos 1)
      same_one j lj = at_first j j lj lj ∙ replaced_here (λ k. whole (pos 0)) (P.first j) (whole (pos 1)) (P.first j) refl

      -- an equal one stands before r
      earlier : (j : ℕ) → j < P.rank → P.first j ≢ r → start P.target (P.first j) +ℚ neg_ℚ (start P.target r) ≡ whole (pos 0) → j < i
      earlier j lj ne e = by (three_ways i j)
        where
          by : ((i < j) ⊎ ((i ≡ j) ⊎ (j < i))) → j < i
          by (inl l) = absurd (zero_not_positive (subst IsPositive e (L.last j l lj)))
          by (inr (inl s)) = absurd (ne (ap P.first (sym s)))
          by (inr (inr l)) = l

      at_place : (j : ℕ) → j < P.rank → P.first j ≢ r → Sign (start P.target (P.first j) +ℚ neg_ℚ (start P.target r))
          → IsLexPositive (suc P.rank) (λ c. exchanged_coordinates start r P.top (order P c) (P.first j))
      at_place j lj ne (above s) = record {
        place = 0;
        within = omega arith;
        before = λ k l. absurd (omega arith);
        there = subst IsPositive (sym (list_is P.target (P.first j) (first_within P start R j lj) (R.first_is_chosen j lj))) s;
      }
      at_place j lj ne (none z) = record {
        place = suc j;
        within = omega arith;
        before = λ k l. earlier_zero j lj z (earlier j lj ne z) k l;
        there = subst IsPositive
            (ring_ℚ [] (num (pos 1)) (num (pos 1) ⊕ neg (num (pos 0))) refl
            ∙ sym (list_is (P.first j) (P.first j) (first_within P start R j lj) (R.first_is_chosen j lj)
            ∙ ap₂ (λ v w. v +ℚ neg_ℚ w) (same_one j lj) (apart_zero j i lj L.within (let l = earlier j lj ne z in omega arith))))
            one_positive;
      }
        where
          earlier_zero : (j : ℕ) → j < P.rank → start P.target (P.first j) +ℚ neg_ℚ (start P.target r) ≡ whole (pos 0) → j < i → (k : ℕ) → k < suc j
              → exchanged_coordinates start r P.top (order P k) (P.first j) ≡ whole (pos 0)
          earlier_zero j lj z l zero m = list_is P.target (P.first j) (first_within P start R j lj) (R.first_is_chosen j lj) ∙ z
          earlier_zero j lj z l (suc a) m =
              list_is (P.first a) (P.first j) (first_within P start R j lj) (R.first_is_chosen j lj)
              ∙ ap₂ (λ v w. v +ℚ neg_ℚ w) (apart_zero a j (omega arith) lj (omega arith)) (apart_zero a i (omega arith) L.within (omega arith))
              ∙ ring_ℚ [] (num (pos 0) ⊕ neg (num (pos 0))) (num (pos 0)) refl
      at_place j lj ne (below s) =
          absurd (not_both _ s
          (subst IsNonnegative (ring_ℚ ((start P.target (P.first j) +ℚ neg_ℚ (start P.target r)) ∷ []) v0 (neg (neg v0)) refl) (L.least j lj)))
