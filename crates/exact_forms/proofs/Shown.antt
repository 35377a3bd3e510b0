-- A table of rows shows coordinates, and an exchange in it is the exchange of the bases.
use Rattle.std.specs.Prelude.{◌≡◌, ◌≢◌, ℕ, ◌<◌, pos, Bool, true, false, ◌⊎◌, [], ◌∷◌}
use Rattle.std.proofs.Common.{sym, ◌∙◌, ap, ap₂, refl, subst, inl, inr}
use Rattle.commutative_ring.proofs.Ring.{num, ◌⊕◌, ◌⊗◌, neg, v0, v1, v2}
use Rattle.commutative_ring.proofs.SmallCases.{same_or_not}
use Rattle.exact_forms.specs.Slacks.{replaced}
use Rattle.exact_forms.specs.Rational.{Rational, whole, neg_ℚ, ◌+ℚ◌, ◌*ℚ◌, ◌-ℚ◌, ◌/ℚ◌}
use Rattle.exact_forms.proofs.Rational.{ring_ℚ}
use Rattle.exact_forms.proofs.Slacks.{replaced_here, replaced_other}
use Rattle.exact_forms.specs.Coordinates.{Columns, IsBasis, IsShown, swapped, exchanged_coordinates}
use Rattle.exact_forms.proofs.Coordinates.{mark_off}

-- the table t' comes of t by the exchange at row r and column c
pub record IsTableExchange (rows count : ℕ) (t : ℕ → ℕ → Rational) (basic : ℕ → ℕ) (r c : ℕ) (t' : ℕ → ℕ → Rational) (basic' : ℕ → ℕ) : Type 0 where
  pub pivot_row : (j : ℕ) → j < count → t' r j ≡ t r j /ℚ t r c
  pub other_rows : (i j : ℕ) → i < rows → j < count → i ≢ r → t' i j ≡ t i j -ℚ t i c *ℚ (t r j /ℚ t r c)
  pub entering : basic' r ≡ c
  pub kept : (i : ℕ) → i < rows → i ≢ r → basic' i ≡ basic i

module _ (A : Columns) (B : ℕ → Bool) (coord : ℕ → ℕ → Rational) (rows : ℕ) (t : ℕ → ℕ → Rational) (basic : ℕ → ℕ)
    (H : IsBasis A B coord) (S : IsShown A B coord rows t basic) (r c : ℕ) (lr : r < rows) (lc : c < A.count) (out : B c ≡ false) where
  -- the new entries
  at_row : (j : ℕ) → j < A.count → t r j /ℚ t r c ≡ exchanged_coordinates coord (basic r) c j c
  at_row j lj =
      ap₂ (λ x y. x /ℚ y) (S.entry r j lr lj) (S.entry r c lr lc)
      ∙ ring_ℚ ((coord j (basic r) /ℚ coord c (basic r)) ∷ []) v0 (num (pos 0) ⊕ v0 ⊗ (num (pos 1) ⊕ neg (num (pos 0)))) refl
      ∙ sym (ap₂ (λ v w. v +ℚ (coord j (basic r) /ℚ coord c (basic r)) *ℚ w) ((H.written j lj).outside c lc out)
      (ap₂ (λ v w. v +ℚ neg_ℚ w) (replaced_here (λ k. whole (pos 0)) c (whole (pos 1)) c refl) ((H.written c lc).outside c lc out)))

  not_entering : (i : ℕ) → i < rows → basic i ≢ c
  not_entering i li e = absurd (let b = S.in_basis i li in let u : B (basic i) ≡ B c = ap B e in cc)

  at_other : (i j : ℕ) → i < rows → j < A.count → t i j -ℚ t i c *ℚ (t r j /ℚ t r c) ≡ exchanged_coordinates coord (basic r) c j (basic i)
  unfolding ◌-ℚ◌
  at_other i j li lj =
      ap₂ (λ x y. x +ℚ neg_ℚ y) (S.entry i j li lj) (ap₂ (λ x y. x *ℚ y) (S.entry i c li lc) (ap₂ (λ x y. x /ℚ y) (S.entry r j lr lj) (S.entry r c lr lc)))
      ∙ ring_ℚ (coord j (basic i) ∷ coord c (basic i) ∷ (coord j (basic r) /ℚ coord c (basic r)) ∷ []) (v0 ⊕ neg (v1 ⊗ v2)) (v0 ⊕ v2 ⊗ (num (pos 0) ⊕ neg v1))
      refl
      ∙ ap (λ w. coord j (basic i) +ℚ (coord j (basic r) /ℚ coord c (basic r)) *ℚ (w +ℚ neg_ℚ (coord c (basic i))))
      (sym (mark_off A c (basic i) (not_entering i li)))

  pub exchange_shown : (t' : ℕ → ℕ → Rational) (basic' : ℕ → ℕ) → IsTableExchange rows A.count t basic r c t' basic'
      → IsShown A (swapped B (basic r) c) (exchanged_coordinates coord (basic r) c) rows t' basic'
  exchange_shown t' basic' T = record {
    entry = λ i j li lj. new_entry i j li lj (same_or_not i r);
    within = λ i li. new_within i li (same_or_not i r);
    in_basis = λ i li. new_in i li (same_or_not i r);
    every = λ k lk b. new_every k lk b (same_or_not k c);
    apart = λ i j li lj ne. new_apart i j li lj ne (same_or_not i r) (same_or_not j r);
  }
    where
      here : (i : ℕ) → i ≡ r → basic' i ≡ c
      here i e = ap basic' e ∙ T.entering

      new_entry : (i j : ℕ) → i < rows → j < A.count → ((i ≡ r) ⊎ (i ≢ r)) → t' i j ≡ exchanged_coordinates coord (basic r) c j (basic' i)
      new_entry i j li lj (inl e) =
          ap (λ (i : ℕ). t' i j) e ∙ T.pivot_row j lj
          ∙ at_row j lj ∙ ap (λ (k : ℕ). exchanged_coordinates coord (basic r) c j k) (sym (here i e))
      new_entry i j li lj (inr n) =
          T.other_rows i j li lj n
          ∙ at_other i j li lj ∙ ap (λ (k : ℕ). exchanged_coordinates coord (basic r) c j k) (sym (T.kept i li n))

      new_within : (i : ℕ) → i < rows → ((i ≡ r) ⊎ (i ≢ r)) → basic' i < A.count
      new_within i li (inl e) = subst (λ (k : ℕ). k < A.count) (sym (here i e)) lc
      new_within i li (inr n) = subst (λ (k : ℕ). k < A.count) (sym (T.kept i li n)) (S.within i li)

      new_in : (i : ℕ) → i < rows → ((i ≡ r) ⊎ (i ≢ r)) → swapped B (basic r) c (basic' i) ≡ true
      new_in i li (inl e) = ap (λ (k : ℕ). swapped B (basic r) c k) (here i e) ∙ replaced_here (replaced B (basic r) false) c true c refl
      new_in i li (inr n) =
          ap (λ (k : ℕ). swapped B (basic r) c k) (T.kept i li n)
          ∙ replaced_other (replaced B (basic r) false) c true (basic i) (not_entering i li)
          ∙ replaced_other B (basic r) false (basic i) (S.apart i r li lr n)
          ∙ S.in_basis i li

      new_every : (k : ℕ) → k < A.count → swapped B (basic r) c k ≡ true → ((k ≡ c) ⊎ (k ≢ c)) → (i : ℕ) × (i < rows) × (basic' i ≡ k)
      new_every k lk b (inl e) = (r, lr, here r refl ∙ sym e)
      new_every k lk b (inr n) = by (same_or_not k (basic r))
        where
          by : ((k ≡ basic r) ⊎ (k ≢ basic r)) → (i : ℕ) × (i < rows) × (basic' i ≡ k)
          by (inl e) = absurd (let u = replaced_here B (basic r) false k e in let v = replaced_other (replaced B (basic r) false) c true k n in cc)
          by (inr m) =
              let i = S.every k lk (sym (replaced_other B (basic r) false k m) ∙ sym (replaced_other (replaced B (basic r) false) c true k n) ∙ b) in
              (i.0, i.1, T.kept i.0 i.1 (λ (e : i.0 ≡ r). m (sym i.2 ∙ ap basic e)) ∙ i.2)

      new_apart : (i j : ℕ) → i < rows → j < rows → i ≢ j → ((i ≡ r) ⊎ (i ≢ r)) → ((j ≡ r) ⊎ (j ≢ r)) → basic' i ≢ basic' j
      new_apart i j li lj ne (inl e) (inl f) s = ne (e ∙ sym f)
      new_apart i j li lj ne (inl e) (inr n) s = not_entering j lj (sym (T.kept j lj n) ∙ sym s ∙ here i e)
      new_apart i j li lj ne (inr n) (inl f) s = not_entering i li (sym (T.kept i li n) ∙ s ∙ here j f)
      new_apart i j li lj ne (inr n) (inr m) s = S.apart i j li lj ne (sym (T.kept i li n) ∙ s ∙ T.kept j lj m)
