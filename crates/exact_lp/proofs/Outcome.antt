-- The two answers of the linear program.
use Rattle.std.specs.Prelude.{◌≡◌, ◌≢◌, ℕ, suc, ◌<◌, ◌≤◌, pos, negsuc, Bool, true, false, ◌⊎◌, cond, eqb, [], ◌∷◌}
use Rattle.std.proofs.Common.{arith, sym, ◌∙◌, ap, ap₂, refl, subst, inl, inr}
use Rattle.exact_forms.proofs.RationalSums.{sum_ℚ_same, sum_ℚ_none, sum_ℚ-add, mul-sum_ℚ, sum_ℚ_swap, sum_ℚ_one}
use Rattle.commutative_ring.proofs.Ring.{num, ◌⊕◌, ◌⊗◌, neg, v0, v1, v2, v3, v4}
use Rattle.commutative_ring.proofs.SmallCases.{names_apart, same_or_not, true_or_false}
use Rattle.exact_forms.specs.Rational.{Rational, whole, neg_ℚ, ◌+ℚ◌, ◌*ℚ◌}
use Rattle.exact_forms.specs.Sums.{sum_ℚ}
use Rattle.exact_forms.proofs.Slacks.{replaced_here, replaced_other}
use Rattle.exact_forms.proofs.Rational.{ring_ℚ}
use Rattle.exact_forms.specs.Signs.{IsNonnegative}
use Rattle.exact_forms.specs.Coordinates.{IsBasis, mark}
use Rattle.exact_lp.specs.Program.{Program, order, IsProgram, EndsInside, IsState, weight}
use Rattle.exact_lp.proofs.Within.{first_within}
use Rattle.exact_forms.proofs.Signs.{nonneg_add, nonneg_zero, zero_nonneg}
use Rattle.exact_forms.proofs.Lexicographic.{lex_head}
use Rattle.exact_forms.proofs.Coordinates.{mul_zero_ℚ, sum_marked, mark_off, coordinates_unique}

-- nonnegative weights of the vectors' columns that write the target
pub record IsFactored (P : Program) (w : ℕ → Rational) : Type 0 where
  pub vectors : (k : ℕ) → k < P.columns.count → ((k < P.low) ⊎ (P.high ≤ k)) → w k ≡ whole (pos 0)
  pub nonnegative : (k : ℕ) → k < P.columns.count → IsNonnegative (w k)
  pub sum : (a b : ℕ) → a < P.columns.size → b < P.columns.size → sum_ℚ P.columns.count (λ k. w k *ℚ P.columns.entry k a b) ≡ P.columns.entry P.target a b

pub order_suc : (P : Program) (j : ℕ) → order P (suc j) ≡ P.first j
unfolding order
order_suc P j = refl

-- ---- the sum of the first basis
-- 1 at its columns, else 0
abbrev pub times_first : Program → ℕ → Rational
times_first P k = sum_ℚ P.rank (λ j. mark (P.first j) k)

module _ (P : Program) (start : ℕ → ℕ → Rational) (R : IsProgram P start) where
  pub first_apart : (i j : ℕ) → i < P.rank → j < P.rank → i ≢ j → P.first i ≢ P.first j
  first_apart = names_apart P.first P.rank (λ i j l lj e. let a = R.increasing i j l lj in omega arith)

  times_chosen : (k : ℕ) → k < P.columns.count → P.chosen k ≡ true → times_first P k ≡ whole (pos 1)
  times_chosen k l c =
      let h = R.chosen_is_first k l c in
      let j = h.0 in
      sum_ℚ_one P.rank (λ j. mark (P.first j) k) j h.1
      (λ i li ne. mark_off P.columns (P.first i) k (λ (s : k ≡ P.first i). first_apart i j li h.1 ne (sym s ∙ sym h.2)))
      ∙ replaced_here (λ k. whole (pos 0)) (P.first j) (whole (pos 1)) k (sym h.2)

  times_other : (k : ℕ) → P.chosen k ≡ false → times_first P k ≡ whole (pos 0)
  times_other k c =
      sum_ℚ_none P.rank _
      (λ j lj. mark_off P.columns (P.first j) k (λ (s : k ≡ P.first j). absurd (let t = R.first_is_chosen j lj in
      let u : P.chosen k ≡ P.chosen (P.first j) = ap P.chosen s in cc)))

  pub sum_over_first : (f : ℕ → Rational) → sum_ℚ P.columns.count (λ k. times_first P k *ℚ f k) ≡ sum_ℚ P.rank (λ j. f (P.first j))
  sum_over_first f =
      sum_ℚ_same P.columns.count _ _ (λ k l.
      ring_ℚ (times_first P k ∷ f k ∷ []) (v0 ⊗ v1) (v1 ⊗ v0) refl
      ∙ mul-sum_ℚ (f k) P.rank (λ j. mark (P.first j) k)
      ∙ sum_ℚ_same P.rank _ _ (λ j m. ring_ℚ (f k ∷ mark (P.first j) k ∷ []) (v0 ⊗ v1) (v1 ⊗ v0) refl))
      ∙ sum_ℚ_swap P.columns.count P.rank (λ k j. mark (P.first j) k *ℚ f k)
      ∙ sum_ℚ_same P.rank _ _ (λ j m. sum_marked P.columns.count f (P.first j) (first_within P start R j m))

  -- the coordinates of t over the first basis are 1
  pub top_at_chosen : (k : ℕ) → k < P.columns.count → P.chosen k ≡ true → start P.top k ≡ whole (pos 1)
  top_at_chosen k l c =
      coordinates_unique P.columns P.chosen (start P.top) (times_first P) (P.columns.entry P.top) (P.columns.entry P.top) R.basis.independent
      (R.basis.written P.top R.top_within)
      record { outside = λ k lk b. times_other k b; sum = λ a b la lb. sum_over_first (λ k. P.columns.entry k a b) ∙ sym (R.top_is_sum a b la lb) }
      (λ a b la lb. refl) k l
      ∙ times_chosen k l c

  pub top_not_chosen : P.chosen P.top ≡ false
  top_not_chosen = by (true_or_false (P.chosen P.top))
    where
      by : ((P.chosen P.top ≡ true) ⊎ (P.chosen P.top ≡ false)) → P.chosen P.top ≡ false
      by (inr f) = f
      by (inl t) =
          let h = R.chosen_is_first P.top R.top_within t in
          let v = R.first_is_vector h.0 h.1 in
          absurd (R.top_apart (P.first h.0) v.0 v.1 h.2)

  -- ---- Outside: no weights
  -- ---- Inside: the weights
  but_top : (coord : ℕ → ℕ → Rational) (k : ℕ)
      → cond (eqb k P.top) (whole (pos 0)) (coord P.target k) ≡ coord P.target k +ℚ neg_ℚ (coord P.target P.top) *ℚ mark P.top k
  but_top coord k = by (same_or_not k P.top)
    where
      by : ((k ≡ P.top) ⊎ (k ≢ P.top))
          → cond (eqb k P.top) (whole (pos 0)) (coord P.target k) ≡ coord P.target k +ℚ neg_ℚ (coord P.target P.top) *ℚ mark P.top k
      by (inl s) =
          replaced_here (coord P.target) P.top (whole (pos 0)) k s
          ∙ ring_ℚ (coord P.target P.top ∷ []) (num (pos 0)) (v0 ⊕ neg v0 ⊗ num (pos 1)) refl
          ∙ ap₂ (λ v w. v +ℚ neg_ℚ (coord P.target P.top) *ℚ w) (ap (coord P.target) (sym s))
          (sym (replaced_here (λ k. whole (pos 0)) P.top (whole (pos 1)) k s))
      by (inr n) =
          replaced_other (coord P.target) P.top (whole (pos 0)) k n
          ∙ ring_ℚ (coord P.target k ∷ coord P.target P.top ∷ []) v0 (v0 ⊕ neg v1 ⊗ num (pos 0)) refl
          ∙ ap (λ w. coord P.target k +ℚ neg_ℚ (coord P.target P.top) *ℚ w) (sym (mark_off P.columns P.top k n))

  chosen_part : (x : Rational) (k : ℕ) → k < P.columns.count → cond (P.chosen k) x (whole (pos 0)) ≡ x *ℚ times_first P k
  chosen_part x k l = by (true_or_false (P.chosen k))
    where
      by : ((P.chosen k ≡ true) ⊎ (P.chosen k ≡ false)) → cond (P.chosen k) x (whole (pos 0)) ≡ x *ℚ times_first P k
      by (inl t) = ap (λ (b : Bool). cond b x (whole (pos 0))) t ∙ ring_ℚ (x ∷ []) v0 (v0 ⊗ num (pos 1)) refl ∙ ap (λ w. x *ℚ w) (sym (times_chosen k l t))
      by (inr f) = ap (λ (b : Bool). cond b x (whole (pos 0))) f ∙ sym (mul_zero_ℚ x) ∙ ap (λ w. x *ℚ w) (sym (times_other k f))

  weight_is : (coord : ℕ → ℕ → Rational) (k : ℕ) → k < P.columns.count
      → weight P coord k ≡ (coord P.target k +ℚ neg_ℚ (coord P.target P.top) *ℚ mark P.top k) +ℚ coord P.target P.top *ℚ times_first P k
  unfolding weight
  weight_is coord k l = ap₂ (λ v w. v +ℚ w) (but_top coord k) (chosen_part (coord P.target P.top) k l)

  weights_sum : (B : ℕ → Bool) (coord : ℕ → ℕ → Rational) → IsBasis P.columns B coord → (a b : ℕ) → a < P.columns.size → b < P.columns.size
      → sum_ℚ P.columns.count (λ k. weight P coord k *ℚ P.columns.entry k a b) ≡ P.columns.entry P.target a b
  weights_sum B coord h a b la lb =
      let x : Rational = coord P.target P.top in
      sum_ℚ_same P.columns.count _ _ (λ k l.
      ap (λ w. w *ℚ P.columns.entry k a b) (weight_is coord k l)
      ∙ ring_ℚ (coord P.target k ∷ x ∷ mark P.top k ∷ times_first P k ∷ P.columns.entry k a b ∷ []) (((v0 ⊕ neg v1 ⊗ v2) ⊕ v1 ⊗ v3) ⊗ v4)
      (v0 ⊗ v4 ⊕ v1 ⊗ (num (negsuc 0) ⊗ (v2 ⊗ v4) ⊕ v3 ⊗ v4)) refl)
      ∙ sum_ℚ-add P.columns.count (λ k. coord P.target k *ℚ P.columns.entry k a b)
      (λ k. x *ℚ (whole (negsuc 0) *ℚ (mark P.top k *ℚ P.columns.entry k a b) +ℚ times_first P k *ℚ P.columns.entry k a b))
      ∙ ap₂ (λ v w. v +ℚ w) ((h.written P.target R.target_within).sum a b la lb)
      (sym (mul-sum_ℚ x P.columns.count (λ k. whole (negsuc 0) *ℚ (mark P.top k *ℚ P.columns.entry k a b) +ℚ times_first P k *ℚ P.columns.entry k a b))
      ∙ ap (λ w. x *ℚ w)
      (sum_ℚ-add P.columns.count (λ k. whole (negsuc 0) *ℚ (mark P.top k *ℚ P.columns.entry k a b)) (λ k. times_first P k *ℚ P.columns.entry k a b)
      ∙ ap₂ (λ v w. v +ℚ w)
      (sym (mul-sum_ℚ (whole (negsuc 0)) P.columns.count (λ k. mark P.top k *ℚ P.columns.entry k a b))
      ∙ ap (λ w. whole (negsuc 0) *ℚ w) (sum_marked P.columns.count (λ k. P.columns.entry k a b) P.top R.top_within))
      (sum_over_first (λ k. P.columns.entry k a b) ∙ sym (R.top_is_sum a b la lb))))
      ∙ ring_ℚ (P.columns.entry P.target a b ∷ x ∷ P.columns.entry P.top a b ∷ []) (v0 ⊕ v1 ⊗ (num (negsuc 0) ⊗ v2 ⊕ v2)) v0 refl

  pub inside_factors : (B : ℕ → Bool) (coord : ℕ → ℕ → Rational) → IsState P B coord → EndsInside P coord → IsFactored P (weight P coord)
  unfolding weight order
  inside_factors B coord H I = record {
    vectors = λ k l n. beside k l n (same_or_not k P.top) (true_or_false (B k)) (true_or_false (P.chosen k));
    nonnegative = λ k l. nonneg_add _ _ (part k l (same_or_not k P.top) (true_or_false (B k))) (other k (P.chosen k));
    sum = λ a b la lb. weights_sum B coord H.basis a b la lb;
  }
    where
      other : (k : ℕ) (b : Bool) → IsNonnegative (cond b (coord P.target P.top) (whole (pos 0)))
      other k true = I.here
      other k false = zero_nonneg

      part : (k : ℕ) → k < P.columns.count → ((k ≡ P.top) ⊎ (k ≢ P.top)) → ((B k ≡ true) ⊎ (B k ≡ false))
          → IsNonnegative (cond (eqb k P.top) (whole (pos 0)) (coord P.target k))
      part k l (inl s) b = nonneg_zero _ (replaced_here (coord P.target) P.top (whole (pos 0)) k s)
      part k l (inr n) (inl t) =
          subst IsNonnegative (sym (replaced_other (coord P.target) P.top (whole (pos 0)) k n))
          (lex_head (suc P.rank) (λ j. coord (order P j) k) (H.positive k l t n))
      part k l (inr n) (inr f) =
          nonneg_zero _ (replaced_other (coord P.target) P.top (whole (pos 0)) k n ∙ (H.basis.written P.target R.target_within).outside k l f)

      no_sum : (x y : Rational) → x ≡ whole (pos 0) → y ≡ whole (pos 0) → x +ℚ y ≡ whole (pos 0)
      no_sum x y a b = ap₂ (λ v w. v +ℚ w) a b ∙ ring_ℚ [] (num (pos 0) ⊕ num (pos 0)) (num (pos 0)) refl

      not_vector : (k : ℕ) → ((k < P.low) ⊎ (P.high ≤ k)) → (P.low ≤ k) × (k < P.high) → ⊥
      not_vector k (inl l) v = let a = v.0 in omega arith
      not_vector k (inr l) v = let a = v.1 in omega arith

      beside : (k : ℕ) → k < P.columns.count → ((k < P.low) ⊎ (P.high ≤ k)) → ((k ≡ P.top) ⊎ (k ≢ P.top)) → ((B k ≡ true) ⊎ (B k ≡ false))
          → ((P.chosen k ≡ true) ⊎ (P.chosen k ≡ false))
          → cond (eqb k P.top) (whole (pos 0)) (coord P.target k) +ℚ cond (P.chosen k) (coord P.target P.top) (whole (pos 0)) ≡ whole (pos 0)
      beside k l n t b (inl c) =
          absurd (let h = R.chosen_is_first k l c in not_vector k n (subst (λ (k : ℕ). (P.low ≤ k) × (k < P.high)) h.2 (R.first_is_vector h.0 h.1)))
      beside k l n (inl s) b (inr c) =
          no_sum _ _ (replaced_here (coord P.target) P.top (whole (pos 0)) k s) (ap (λ (b : Bool). cond b (coord P.target P.top) (whole (pos 0))) c)
      beside k l n (inr m) (inl t) (inr c) = absurd (not_vector k n (H.vectors k l t m))
      beside k l n (inr m) (inr f) (inr c) =
          no_sum _ _ (replaced_other (coord P.target) P.top (whole (pos 0)) k m
          ∙ (H.basis.written P.target R.target_within).outside k l f) (ap (λ (b : Bool). cond b (coord P.target P.top) (whole (pos 0))) c)
