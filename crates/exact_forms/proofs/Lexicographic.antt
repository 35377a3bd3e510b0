-- Lexicographic order of lists of fractions.
use Rattle.std.specs.Prelude.{◌≡◌, ℕ, zero, suc, ◌<◌, pos, ◌⊎◌, [], ◌∷◌}
use Rattle.std.proofs.Common.{arith, sym, ◌∙◌, ap, ap₂, refl, subst, inl, inr}
use Rattle.commutative_ring.proofs.Ring.{num, ◌⊕◌, ◌⊗◌, neg, v0, v1}
use Rattle.commutative_ring.proofs.SmallCases.{last_or_before, three_ways}
use Rattle.exact_forms.specs.Rational.{Rational, whole, neg_ℚ, ◌+ℚ◌, ◌*ℚ◌}
use Rattle.exact_forms.proofs.Rational.{ring_ℚ}
use Rattle.exact_forms.specs.Signs.{IsPositive, IsNonnegative}
use Rattle.exact_forms.specs.Lexicographic.{IsLexPositive, IsLexBelow}
use Rattle.exact_forms.proofs.Signs.{Sign, above, none, below, sign_of, positive_add, positive_product, positive_nonneg, nonneg_zero, not_both}

-- only the numbers count
pub lex_same : (n : ℕ) (f g : ℕ → Rational) → ((k : ℕ) → k < n → f k ≡ g k) → IsLexPositive n f → IsLexPositive n g
lex_same n f g h p = record {
  place = p.place;
  within = p.within;
  before = λ k l. sym (h k (let a = p.within in omega arith)) ∙ p.before k l;
  there = subst IsPositive (h p.place p.within) p.there;
}

pub lex_difference : (n : ℕ) (f g : ℕ → Rational) → IsLexBelow n f g → IsLexPositive n (λ k. g k +ℚ neg_ℚ (f k))
lex_difference n f g h = record {
  place = h.place;
  within = h.within;
  before = λ k l. ap (λ x. g k +ℚ neg_ℚ x) (h.before k l) ∙ ring_ℚ (g k ∷ []) (v0 ⊕ neg v0) (num (pos 0)) refl;
  there = h.there;
}

pub lex_below : (n : ℕ) (f g : ℕ → Rational) → IsLexPositive n (λ k. g k +ℚ neg_ℚ (f k)) → IsLexBelow n f g
lex_below n f g h = record {
  place = h.place;
  within = h.within;
  before = λ k l. ring_ℚ (f k ∷ []) v0 (num (pos 0) ⊕ v0) refl ∙ ap (λ x. x +ℚ f k) (sym (h.before k l)) ∙ ring_ℚ (g k ∷ f k ∷ []) ((v0 ⊕ neg v1) ⊕ v1) v0 refl;
  there = h.there;
}

pub lex_add : (n : ℕ) (f g : ℕ → Rational) → IsLexPositive n f → IsLexPositive n g → IsLexPositive n (λ k. f k +ℚ g k)
lex_add n f g p q = by (three_ways p.place q.place)
  where
    none_here : (k : ℕ) → f k ≡ whole (pos 0) → g k ≡ whole (pos 0) → f k +ℚ g k ≡ whole (pos 0)
    none_here k a b = ap₂ (λ x y. x +ℚ y) a b ∙ ring_ℚ [] (num (pos 0) ⊕ num (pos 0)) (num (pos 0)) refl

    first : ((k : ℕ) → k < p.place → g k ≡ whole (pos 0)) → IsNonnegative (g p.place) → IsLexPositive n (λ k. f k +ℚ g k)
    first zeros h = record {
      place = p.place;
      within = p.within;
      before = λ k m. none_here k (p.before k m) (zeros k m);
      there = positive_add (f p.place) (g p.place) p.there h;
    }

    by : ((p.place < q.place) ⊎ ((p.place ≡ q.place) ⊎ (q.place < p.place))) → IsLexPositive n (λ k. f k +ℚ g k)
    by (inl l) = first (λ k m. q.before k (omega arith)) (nonneg_zero (g p.place) (q.before p.place l))
    by (inr (inl e)) = first (λ k m. q.before k (omega arith)) (positive_nonneg (g p.place) (subst (λ k. IsPositive (g k)) (sym e) q.there))
    by (inr (inr l)) = record {
      place = q.place;
      within = q.within;
      before = λ k m. none_here k (p.before k (omega arith)) (q.before k m);
      there = subst IsPositive (ring_ℚ (g q.place ∷ f q.place ∷ []) (v0 ⊕ v1) (v1 ⊕ v0) refl)
          (positive_add (g q.place) (f q.place) q.there (nonneg_zero (f q.place) (p.before q.place l)));
    }

pub lex_times : (n : ℕ) (c : Rational) (f : ℕ → Rational) → IsPositive c → IsLexPositive n f → IsLexPositive n (λ k. c *ℚ f k)
lex_times n c f hc p = record {
  place = p.place;
  within = p.within;
  before = λ k l. ap (λ x. c *ℚ x) (p.before k l) ∙ ring_ℚ (c ∷ []) (v0 ⊗ num (pos 0)) (num (pos 0)) refl;
  there = positive_product c (f p.place) hc p.there;
}

-- the first number of a lexicographically positive list is at least 0
pub lex_head : (n : ℕ) (f : ℕ → Rational) → IsLexPositive n f → IsNonnegative (f 0)
lex_head n f p = by p.place p.before p.there
  where
    by : (i : ℕ) → ((k : ℕ) → k < i → f k ≡ whole (pos 0)) → IsPositive (f i) → IsNonnegative (f 0)
    by zero b t = positive_nonneg (f 0) t
    by (suc i) b t = nonneg_zero (f 0) (b 0 (omega arith))

-- of a list and its negative one is positive, or all is 0
pub data LexSign (n : ℕ) (f : ℕ → Rational) : Type 0 where
  lex_above : IsLexPositive n f → LexSign n f
  lex_none : ((k : ℕ) → k < n → f k ≡ whole (pos 0)) → LexSign n f
  lex_below_zero : IsLexPositive n (λ k. neg_ℚ (f k)) → LexSign n f

pub lex_sign : (n : ℕ) (f : ℕ → Rational) → LexSign n f
lex_sign zero f = lex_none (λ k l. absurd (omega arith))
lex_sign (suc n) f = by (lex_sign n f)
  where
    minus_none : (x : Rational) → x ≡ whole (pos 0) → neg_ℚ x ≡ whole (pos 0)
    minus_none x e = ap neg_ℚ e ∙ ring_ℚ [] (neg (num (pos 0))) (num (pos 0)) refl

    at_last : ((k : ℕ) → k < n → f k ≡ whole (pos 0)) → f n ≡ whole (pos 0) → (k : ℕ) → ((k ≡ n) ⊎ (k < n)) → f k ≡ whole (pos 0)
    at_last h e k (inl s) = ap f s ∙ e
    at_last h e k (inr l) = h k l

    then : ((k : ℕ) → k < n → f k ≡ whole (pos 0)) → Sign (f n) → LexSign (suc n) f
    then h (above p) = lex_above record { place = n; within = omega arith; before = h; there = p }
    then h (none e) = lex_none (λ k l. at_last h e k (last_or_before k n l))
    then h (below p) = lex_below_zero record { place = n; within = omega arith; before = λ k l. minus_none (f k) (h k l); there = p }

    by : LexSign n f → LexSign (suc n) f
    by (lex_above p) = lex_above record { place = p.place; within = let a = p.within in omega arith; before = p.before; there = p.there }
    by (lex_none h) = then h (sign_of (f n))
    by (lex_below_zero p) = lex_below_zero record { place = p.place; within = let a = p.within in omega arith; before = p.before; there = p.there }

pub lex_not_both : (n : ℕ) (f : ℕ → Rational) → IsLexPositive n f → IsLexPositive n (λ k. neg_ℚ (f k)) → ⊥
lex_not_both n f p q = by (three_ways p.place q.place)
  where
    clash : (k : ℕ) → IsPositive (f k) → neg_ℚ (f k) ≡ whole (pos 0) → ⊥
    clash k h e = not_both (f k) h (nonneg_zero (neg_ℚ (f k)) e)

    other : (k : ℕ) → IsPositive (neg_ℚ (f k)) → f k ≡ whole (pos 0) → ⊥
    other k h e = not_both (neg_ℚ (f k)) h (nonneg_zero _ (ap (λ x. neg_ℚ (neg_ℚ x)) e ∙ ring_ℚ [] (neg (neg (num (pos 0)))) (num (pos 0)) refl))

    by : ((p.place < q.place) ⊎ ((p.place ≡ q.place) ⊎ (q.place < p.place))) → ⊥
    by (inl l) = clash p.place p.there (q.before p.place l)
    by (inr (inl e)) = not_both (f p.place) p.there (positive_nonneg _ (subst (λ k. IsPositive (neg_ℚ (f k))) (sym e) q.there))
    by (inr (inr l)) = other q.place q.there (p.before q.place l)
