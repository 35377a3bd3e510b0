-- The children of a split with their slacks, and the choice of those that are made.
use Rattle.std.specs.Prelude.{◌≡◌, ◌↔◌, ◌⊎◌, ℕ, ◌<◌, ◌≤◌, ◌^◌, min, ℤ, pos, ◌≤ℤ◌, IsTrue, nat_abs}
use Rattle.std.specs.Prelude.{Option, Some, None, MatchOption, IfSome, List, slice_index_or}
use Rattle.std.proofs.Common.{arith, sym, ◌∙◌, ap, subst, inl, inr}
use Rattle.std.proofs.lemmas.Int.{ints}
use Rattle.commutative_ring.proofs.SmallCases.{at_least_or_below}
use Rattle.exact_forms.specs.Slacks.{slack, IsClosed}
use Rattle.exact_forms.proofs.Slacks.{slack_same}
use Rattle.unimodular_cone.specs.Paths.{Path}
use Rattle.unimodular_cone.specs.Cones.{Matrix, child_gram}
use Rattle.unimodular_cone.specs.Shown.{ShownCone, shown_gram}
use Rattle.unimodular_cone.specs.Narrow.{HasNarrowMediant}
use Rattle.unimodular_cone.specs.Replacement.{IsChildWith}
use Rattle.unimodular_cone.specs.Mediant.{IsMediantOf}
use Rattle.unimodular_cone.specs.declared.open_children.Opened.{Opened}
use Rattle.unimodular_cone.specs.declared.open_children.OpenChildren.{OpenChildren}
use Rattle.unimodular_cone.specs.declared.open_children.OpenChildren.TheVariants.{Below, Both, First, Second, Neither}
use Rattle.unimodular_cone.specs.OpenChildren.{AreSlacks, AreAtLeast, IsMediantFrom, IsMediantAt, IsChoiceOf, IsChoice, IsOpening}
use Rattle.unimodular_cone.proofs.Additions.{child_gram_square}

-- a child's slacks are those of the cone that shows it
pub child_has_slacks : (c d : ShownCone) (n r s : ℕ) (path : Path) (xs : List ℤ) → IsChildWith c r s path d → n ≡ c.size
    → AreSlacks n (child_gram (shown_gram c) r s) xs → AreSlacks d.size (shown_gram d) xs
child_has_slacks c d n r s path xs child size slacks k l =
    let lk : k < c.size = omega (arith, l, child.size) in
    let ln : k < n = omega (arith, lk, size) in
    slacks k ln
    ∙ slack_same n (child_gram (shown_gram c) r s) (shown_gram d) k ln (λ j lj. sym (child.gram_is k j lk (omega (arith, lj, size))))
    ∙ ap (λ (m : ℕ). slack m (shown_gram d) k) (size ∙ sym child.size)

-- ---- the choice
choice_same : {A B C E F G : Type 0} → (A ↔ E) → (B ↔ F) → (C ↔ G) → (made : OpenChildren) → IsChoiceOf A B C made → IsChoiceOf E F G made
choice_same from zero one Below h = λ e. h (from.1 e)
choice_same from zero one Both (o, z, n) = (from.0 o, λ f. z (zero.1 f), λ g. n (one.1 g))
choice_same from zero one First (o, z, n) = (from.0 o, λ f. z (zero.1 f), one.0 n)
choice_same from zero one Second (o, z, n) = (from.0 o, zero.0 z, λ g. n (one.1 g))
choice_same from zero one Neither (o, z, n) = (from.0 o, zero.0 z, one.0 n)

-- numbers are at least a bound where the slacks are that they list
closed_by_slacks : (n m : ℕ) (g : Matrix) (b : ℤ) (xs : List ℤ) → n ≡ m → AreSlacks n g xs → AreAtLeast n xs b ↔ IsClosed m g b
closed_by_slacks n m g b xs size slacks = (
  λ h k l. subst (λ (z : ℤ). b ≤ℤ z) (read k l) (h k (omega (arith, l, size))),
  λ h k l. subst (λ (z : ℤ). b ≤ℤ z) (sym (read k (omega (arith, l, size)))) (h k (omega (arith, l, size))),
)
  where
    read : (k : ℕ) → k < m → slice_index_or xs k (pos 0) ≡ slack m g k
    read k l = slacks k (omega (arith, l, size)) ∙ ap (λ (m : ℕ). slack m g k) size

pub choice_by_slacks : (c : ShownCone) (n i j : ℕ) (b value : ℤ) (first second : List ℤ) (made : OpenChildren) → n ≡ c.size
    → value ≡ child_gram (shown_gram c) i j i i → AreSlacks n (child_gram (shown_gram c) i j) first
    → AreSlacks n (child_gram (shown_gram c) j i) second → IsChoiceOf (b ≤ℤ value) (AreAtLeast n first b) (AreAtLeast n second b) made → IsChoice c i j b made
choice_by_slacks c n i j b value first second made size is zero one =
    choice_same (subst (λ (z : ℤ). b ≤ℤ z) is, subst (λ (z : ℤ). b ≤ℤ z) (sym is))
    (closed_by_slacks n c.size (child_gram (shown_gram c) i j) b first size zero) (closed_by_slacks n c.size (child_gram (shown_gram c) j i) b second size one)
    made

pub opening_by_slacks : (c : ShownCone) (n i j : ℕ) (b value : ℤ) (first second : List ℤ) (o : Opened) (xs : List ℕ) → n ≡ c.size
    → value ≡ child_gram (shown_gram c) i j i i → AreSlacks n (child_gram (shown_gram c) i j) first
    → AreSlacks n (child_gram (shown_gram c) j i) second → IsChoiceOf (b ≤ℤ value) (AreAtLeast n first b) (AreAtLeast n second b) o.made
    → IsTrue o.attains ↔ (value ≡ b) → (IsTrue o.attains → IsMediantOf c i j xs) → IsOpening c i j b o xs
opening_by_slacks c n i j b value first second o xs size is zero one choice attains mediant = record {
  choice = choice_by_slacks c n i j b value first second o.made size is zero one choice;
  attains = (λ t. sym is ∙ attains.0 t, λ e. attains.1 (is ∙ e));
  mediant = mediant;
}

-- no mediant's value is from a bound of 2^60 on
module _ (c : ShownCone) (i j bound : ℕ) (narrow : HasNarrowMediant c i j) where
  small : nat_abs (child_gram (shown_gram c) i j i i) ≤ 2 ^ 59
  small = rw (child_gram_square (shown_gram c) i j) narrow.square

  never : (b : ℕ) → 2 ^ 60 ≤ b → ¬ IsMediantFrom c i j (pos b)
  never b high from = let s : nat_abs (child_gram (shown_gram c) i j i i) ≤ 2 ^ 59 = small in omega (arith, ints)

  never_at : (b : ℕ) → 2 ^ 60 ≤ b → ¬ IsMediantAt c i j (pos b)
  never_at b high at = never b high (subst (λ (z : ℤ). pos b ≤ℤ z) (sym at) (omega (arith, ints)))

  clamped : 2 ^ 60 < bound → 2 ^ 60 ≤ min bound (2 ^ 60)
  clamped high = omega arith

  choice_from : 2 ^ 60 < bound → (made : OpenChildren) → IsChoice c i j (pos (min bound (2 ^ 60))) made → IsChoice c i j (pos bound) made
  choice_from high Below h = never bound (omega arith)
  choice_from high Both (from, z, n) = absurd (never (min bound (2 ^ 60)) (clamped high) from)
  choice_from high First (from, z, n) = absurd (never (min bound (2 ^ 60)) (clamped high) from)
  choice_from high Second (from, z, n) = absurd (never (min bound (2 ^ 60)) (clamped high) from)
  choice_from high Neither (from, z, n) = absurd (never (min bound (2 ^ 60)) (clamped high) from)

  opening_at_bound : (o : Opened) (xs : List ℕ) → IsOpening c i j (pos (min bound (2 ^ 60))) o xs → IsOpening c i j (pos bound) o xs
  opening_at_bound o xs h = by (at_least_or_below (2 ^ 60) bound)
    where
      by : ((bound ≤ 2 ^ 60) ⊎ (2 ^ 60 < bound)) → IsOpening c i j (pos bound) o xs
      by (inl low) = let e : min bound (2 ^ 60) ≡ bound = omega arith in subst (λ (b : ℕ). IsOpening c i j (pos b) o xs) e h
      by (inr high) = record {
        choice = choice_from high o.made h.choice;
        attains = (
          λ t. absurd (never_at (min bound (2 ^ 60)) (clamped high) (h.attains.0 t)),
          λ e. absurd (never_at bound (omega arith) e),
        );
        mediant = h.mediant;
      }

pub openings_at_bound : (c : ShownCone) (i j bound : ℕ) (o : Option Opened) (xs : List ℕ)
    → MatchOption o (¬ HasNarrowMediant c i j) (λ _. HasNarrowMediant c i j)
    → IfSome o (λ it. IsOpening c i j (pos (min bound (2 ^ 60))) it xs) → IfSome o (λ it. IsOpening c i j (pos bound) it xs)
openings_at_bound c i j bound None xs narrow h = tt
openings_at_bound c i j bound (Some o) xs narrow h = opening_at_bound c i j bound narrow o xs h
