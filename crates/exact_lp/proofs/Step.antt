-- A step of the linear program.
use Rattle.std.specs.Prelude.{◌≡◌, ◌≢◌, ℕ, suc, ◌<◌, ◌≤◌, pos, Bool, true, false, ◌⊎◌, [], ◌∷◌}
use Rattle.std.proofs.Common.{arith, sym, ◌∙◌, ap, ap₂, refl, subst, inl, inr}
use Rattle.commutative_ring.proofs.Ring.{num, ◌⊕◌, ◌⊗◌, neg, v0, v1, v2}
use Rattle.commutative_ring.proofs.SmallCases.{false_unless, same_or_not}
use Rattle.exact_forms.specs.Slacks.{replaced}
use Rattle.exact_forms.specs.Rational.{Rational, whole, inverse, neg_ℚ, ◌+ℚ◌, ◌*ℚ◌, ◌/ℚ◌}
use Rattle.exact_forms.proofs.Slacks.{replaced_here, replaced_other}
use Rattle.exact_forms.proofs.Rational.{ring_ℚ, div-mul}
use Rattle.exact_forms.specs.Signs.{IsPositive}
use Rattle.exact_forms.specs.Lexicographic.{IsLexPositive, IsLexBelow}
use Rattle.exact_forms.specs.Coordinates.{swapped, exchanged_coordinates}
use Rattle.exact_lp.specs.Program.{Program, order, IsProgram, IsEntering, IsLeaving, IsState, ratios}
use Rattle.exact_lp.proofs.Within.{order_within}
use Rattle.exact_forms.proofs.Signs.{Sign, above, none, below, sign_of, positive_inverse, positive_not_zero, zero_not_positive, negative_opposite}
use Rattle.exact_forms.proofs.Lexicographic.{lex_same, lex_difference, lex_below, lex_add, lex_times}
use Rattle.exact_forms.proofs.Coordinates.{mark_off, basis_mark, exchange_keeps}

pub lex_quotient : (n : ℕ) (f : ℕ → Rational) (c : Rational) → IsPositive c → IsLexPositive n f → IsLexPositive n (λ j. f j /ℚ c)
unfolding ◌/ℚ◌
lex_quotient n f c hc p =
    lex_same n (λ j. inverse c.num c.den *ℚ f j) (λ j. f j *ℚ inverse c.num c.den) (λ k l. ring_ℚ (inverse c.num c.den ∷ f k ∷ []) (v0 ⊗ v1) (v1 ⊗ v0) refl)
    (lex_times n (inverse c.num c.den) f (positive_inverse c hc) p)

module _ (P : Program) (B : ℕ → Bool) (coord start : ℕ → ℕ → Rational) (R : IsProgram P start) (H : IsState P B coord) where
  -- the entering column is not in the basis
  pub entering_outside : (e : ℕ) → IsEntering P coord e → B e ≡ false
  entering_outside e E =
      false_unless (B e) (λ t. zero_not_positive (subst IsPositive
      (ap neg_ℚ (basis_mark P.columns B coord H.basis e (let a = R.vectors in let b = E.high in omega arith) t P.top R.top_within
      ∙ mark_off P.columns e P.top (λ (s : P.top ≡ e). R.top_apart e E.low E.high (sym s)))
      ∙ ring_ℚ [] (neg (num (pos 0))) (num (pos 0)) refl) ((negative_opposite _).0 E.negative)))

  -- ---- the lists after a step
  list_other : (l e k j : ℕ) → k ≢ e → exchanged_coordinates coord l e j k ≡ coord j k +ℚ neg_ℚ (coord e k) *ℚ (coord j l /ℚ coord e l)
  list_other l e k j ne =
      ap (λ w. coord j k +ℚ (coord j l /ℚ coord e l) *ℚ (w +ℚ neg_ℚ (coord e k))) (mark_off P.columns e k ne)
      ∙ ring_ℚ (coord j k ∷ (coord j l /ℚ coord e l) ∷ coord e k ∷ []) (v0 ⊕ v1 ⊗ (num (pos 0) ⊕ neg v2)) (v0 ⊕ neg v2 ⊗ v1) refl

  list_here : (l e j : ℕ) → e < P.columns.count → j < P.columns.count → B e ≡ false → coord j l /ℚ coord e l ≡ exchanged_coordinates coord l e j e
  list_here l e j le lj be =
      ring_ℚ ((coord j l /ℚ coord e l) ∷ []) v0 (num (pos 0) ⊕ v0 ⊗ (num (pos 1) ⊕ neg (num (pos 0)))) refl
      ∙ sym (ap₂ (λ v w. v +ℚ (coord j l /ℚ coord e l) *ℚ w) ((H.basis.written j lj).outside e le be)
      (ap₂ (λ v w. v +ℚ neg_ℚ w) (replaced_here (λ k. whole (pos 0)) e (whole (pos 1)) e refl) ((H.basis.written e le).outside e le be)))

  -- a list stays lexicographically positive
  positive_other : (l e k : ℕ) → IsLeaving P B coord e l → IsPositive (coord e l) → IsLexPositive (suc P.rank) (λ j. coord (order P j) l)
      → IsLexPositive (suc P.rank) (λ j. coord (order P j) k) → k < P.columns.count → B k ≡ true → k ≢ P.top → k ≢ l → Sign (coord e k)
      → IsLexPositive (suc P.rank) (λ j. coord (order P j) k +ℚ neg_ℚ (coord e k) *ℚ (coord (order P j) l /ℚ coord e l))
  positive_other l e k L pl posl posk lk bk nt nl (above s) =
      lex_same (suc P.rank) _ _
      (λ j m. ap (λ w. w +ℚ neg_ℚ (coord e k) *ℚ (coord (order P j) l /ℚ coord e l))
      (div-mul (coord (order P j) k) (coord e k) (positive_not_zero (coord e k) s)))
      (lex_same (suc P.rank) _ (λ j. (coord (order P j) k /ℚ coord e k) *ℚ coord e k +ℚ neg_ℚ (coord e k) *ℚ (coord (order P j) l /ℚ coord e l))
      (λ j m. ring_ℚ (coord e k ∷ (coord (order P j) k /ℚ coord e k) ∷ (coord (order P j) l /ℚ coord e l) ∷ []) (v0 ⊗ (v1 ⊕ neg v2)) (v1 ⊗ v0 ⊕ neg v0 ⊗ v2)
      refl)
      (lex_times (suc P.rank) (coord e k) _ s
      (lex_difference (suc P.rank) (ratios P coord e l) (ratios P coord e k) (L.least k record { within = lk; basic = bk; other = nt; positive = s } nl))))
  positive_other l e k L pl posl posk lk bk nt nl (none z) =
      lex_same (suc P.rank) _ _
      (λ j m. ring_ℚ (coord (order P j) k ∷ (coord (order P j) l /ℚ coord e l) ∷ []) v0 (v0 ⊕ neg (num (pos 0)) ⊗ v1) refl
      ∙ ap (λ w. coord (order P j) k +ℚ neg_ℚ w *ℚ (coord (order P j) l /ℚ coord e l)) (sym z))
      posk
  positive_other l e k L pl posl posk lk bk nt nl (below s) =
      lex_add (suc P.rank) _ _ posk (lex_times (suc P.rank) (neg_ℚ (coord e k)) _ s (lex_quotient (suc P.rank) _ (coord e l) pl posl))

  -- the basis after a step
  basic_after : (l e k : ℕ) → swapped B l e k ≡ true → k ≢ e → (k ≢ l) × (B k ≡ true)
  basic_after l e k h ne = by (same_or_not k l)
    where
      by : ((k ≡ l) ⊎ (k ≢ l)) → (k ≢ l) × (B k ≡ true)
      by (inl s) = absurd (let t = replaced_here B l false k s in let u = replaced_other (replaced B l false) e true k ne in cc)
      by (inr n) = (n, sym (replaced_other B l false k n) ∙ sym (replaced_other (replaced B l false) e true k ne) ∙ h)

  pub step_keeps : (e l : ℕ) → IsEntering P coord e → IsLeaving P B coord e l → IsState P (swapped B l e) (exchanged_coordinates coord l e)
  step_keeps e l E L =
      let le : e < P.columns.count = (let a = R.vectors in let b = E.high in omega arith) in
      let be : B e ≡ false = entering_outside e E in
      let ll : l < P.columns.count = L.candidate.within in
      let bl : B l ≡ true = L.candidate.basic in
      let ne_top : e ≢ P.top = R.top_apart e E.low E.high in
      let posl : IsLexPositive (suc P.rank) (λ j. coord (order P j) l) = H.positive l ll bl L.candidate.other in
      record {
        basis = exchange_keeps P.columns B coord l e ll le bl be (positive_not_zero (coord e l) L.candidate.positive) H.basis;
        has_top = replaced_other (replaced B l false) e true P.top (λ s. ne_top (sym s)) ∙ replaced_other B l false P.top (λ s. L.candidate.other (sym s))
            ∙ H.has_top;
        vectors = λ k lk bk nt. vectors_after k lk bk nt (same_or_not k e);
        positive = λ k lk bk nt. positive_after posl le be k lk bk nt (same_or_not k e);
      }
    where
      vectors_after : (k : ℕ) → k < P.columns.count → swapped B l e k ≡ true → k ≢ P.top → ((k ≡ e) ⊎ (k ≢ e)) → (P.low ≤ k) × (k < P.high)
      vectors_after k lk bk nt (inl s) = subst (λ (k : ℕ). (P.low ≤ k) × (k < P.high)) (sym s) (E.low, E.high)
      vectors_after k lk bk nt (inr n) = H.vectors k lk (basic_after l e k bk n).1 nt

      positive_after : IsLexPositive (suc P.rank) (λ j. coord (order P j) l) → e < P.columns.count → B e ≡ false
          → (k : ℕ) → k < P.columns.count → swapped B l e k ≡ true → k ≢ P.top → ((k ≡ e) ⊎ (k ≢ e))
          → IsLexPositive (suc P.rank) (λ j. exchanged_coordinates coord l e (order P j) k)
      positive_after posl le be k lk bk nt (inl s) =
          subst (λ (k : ℕ). IsLexPositive (suc P.rank) (λ j. exchanged_coordinates coord l e (order P j) k)) (sym s)
          (lex_same (suc P.rank) _ _ (λ j m. list_here l e (order P j) le (order_within P start R j m) be)
          (lex_quotient (suc P.rank) _ (coord e l) L.candidate.positive posl))
      positive_after posl le be k lk bk nt (inr n) =
          let before = basic_after l e k bk n in
          lex_same (suc P.rank) _ _ (λ j m. sym (list_other l e k (order P j) n))
          (positive_other l e k L L.candidate.positive posl (H.positive k lk before.1 nt) lk before.1 nt before.0 (sign_of (coord e k)))

  -- the list of t grows
  pub step_grows : (e l : ℕ) → IsEntering P coord e → IsLeaving P B coord e l
      → IsLexBelow (suc P.rank) (λ j. coord (order P j) P.top) (λ j. exchanged_coordinates coord l e (order P j) P.top)
  step_grows e l E L =
      lex_below (suc P.rank) _ _
      (lex_same (suc P.rank) _ _ (λ j m. change j)
      (lex_times (suc P.rank) (neg_ℚ (coord e P.top)) _ ((negative_opposite _).0 E.negative)
      (lex_quotient (suc P.rank) (λ j. coord (order P j) l) (coord e l) L.candidate.positive
      (H.positive l L.candidate.within L.candidate.basic L.candidate.other))))
    where
      change : (j : ℕ)
          → neg_ℚ (coord e P.top) *ℚ (coord (order P j) l /ℚ coord e l) ≡ exchanged_coordinates coord l e (order P j) P.top +ℚ neg_ℚ (coord (order P j) P.top)
      change j =
          ring_ℚ (coord (order P j) P.top ∷ coord e P.top ∷ (coord (order P j) l /ℚ coord e l) ∷ []) (neg v1 ⊗ v2) ((v0 ⊕ neg v1 ⊗ v2) ⊕ neg v0) refl
          ∙ ap (λ w. w +ℚ neg_ℚ (coord (order P j) P.top)) (sym (list_other l e P.top (order P j) (λ s. R.top_apart e E.low E.high (sym s))))
