-- No basis comes twice.
use Rattle.std.specs.Prelude.{◌≡◌, ℕ, suc, ◌<◌, pos, Bool, [], ◌∷◌}
use Rattle.std.proofs.Common.{◌∙◌, ap, refl, subst}
use Rattle.commutative_ring.proofs.Ring.{num, ◌⊕◌, neg, v0}
use Rattle.exact_forms.specs.Rational.{Rational, ◌+ℚ◌, neg_ℚ}
use Rattle.exact_forms.proofs.Rational.{ring_ℚ}
use Rattle.exact_forms.specs.Signs.{IsPositive}
use Rattle.exact_forms.specs.Lexicographic.{IsLexBelow}
use Rattle.exact_forms.specs.Coordinates.{Columns, IsBasis}
use Rattle.exact_lp.specs.Program.{Program, order, IsProgram}
use Rattle.exact_lp.proofs.Within.{order_within}
use Rattle.exact_forms.proofs.Signs.{zero_not_positive}
use Rattle.exact_forms.proofs.Coordinates.{coordinates_unique}

-- the same columns have the same coordinates
pub same_basis : (A : Columns) (B C : ℕ → Bool) (coord other : ℕ → ℕ → Rational) → IsBasis A B coord → IsBasis A C other → ((k : ℕ) → k < A.count → B k ≡ C k)
    → (j k : ℕ) → j < A.count → k < A.count → coord j k ≡ other j k
same_basis A B C coord other H K same j k lj lk =
    coordinates_unique A C (coord j) (other j) (A.entry j) (A.entry j) K.independent
    record { outside = λ i l b. (H.written j lj).outside i l (same i l ∙ b); sum = (H.written j lj).sum }
    (K.written j lj) (λ a b la lb. refl) k lk

-- a list is not below itself
pub lex_irreflexive : (n : ℕ) (f g : ℕ → Rational) → ((k : ℕ) → k < n → f k ≡ g k) → IsLexBelow n f g → ⊥
lex_irreflexive n f g same h =
    zero_not_positive (subst IsPositive (ap (λ x. g h.place +ℚ neg_ℚ x) (same h.place h.within)
    ∙ ring_ℚ (g h.place ∷ []) (v0 ⊕ neg v0) (num (pos 0)) refl) h.there)

-- where t's list has grown, the basis is another
pub grown_is_other : (P : Program) (B C : ℕ → Bool) (coord other start : ℕ → ℕ → Rational) → IsProgram P start → IsBasis P.columns B coord
    → IsBasis P.columns C other
    → IsLexBelow (suc P.rank) (λ j. coord (order P j) P.top) (λ j. other (order P j) P.top) → ((k : ℕ) → k < P.columns.count → B k ≡ C k) → ⊥
unfolding order
grown_is_other P B C coord other start R H K grown same =
    lex_irreflexive (suc P.rank) _ _ (λ j l. same_basis P.columns B C coord other H K same (order P j) P.top (order_within P start R j l) R.top_within) grown
