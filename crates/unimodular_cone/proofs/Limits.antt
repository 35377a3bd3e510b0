-- The first entry of a child that is over its limit stands with the mediant.
use Rattle.std.specs.Prelude.{◌≡◌, ◌≢◌, ◌⊎◌, ℕ, zero, suc, ◌<◌, ◌≤◌, ◌+◌, ◌^◌, max, min, ℤ, pos, ◌+ℤ◌, ◌<ℤ◌, nat_abs, List, length, slice_index_or, slice_set}
use Rattle.std.proofs.Common.{arith, sym, ◌∙◌, ap, ap₂, refl, inl, inr, subst, get_or-set_other, get_or-set_same}
use Rattle.std.proofs.lemmas.Int.{ints}
use Rattle.exact_forms.proofs.Slacks.{same_or_not, replaced_here, replaced_other}
use Rattle.unimodular_cone.specs.Cones.{child, child_gram, WideEntry, Coordinate, Gram, IsOverLimit, StandsBefore}
use Rattle.unimodular_cone.specs.Shown.{ShownCone, shown_gram, shown_coordinate, shown_generators, IsWithinLimits}
use Rattle.unimodular_cone.specs.Mediant.{IsMediantOf, AreProducts, IsRowOf, HoldsFirstAt, FitsWith, IsFirstOverWith, wide_gram}
use Rattle.unimodular_cone.proofs.Additions.{child_gram_other, child_gram_mirror}
use Rattle.unimodular_cone.proofs.Mediants.{row_is}
use Rattle.unimodular_cone.proofs.ShownLaws.{shown_gram_mirror, gram_within, coordinate_within}

abbrev pub IsWideCoordinate : ℕ → Type 0
IsWideCoordinate x = 2 ^ 62 < x

abbrev pub IsWideProduct : ℤ → Type 0
IsWideProduct z = 2 ^ 100 < nat_abs z

lower_it : (x : ℕ) → pos (2 ^ 62) <ℤ pos x → 2 ^ 62 < x
lower_it x h = omega (arith, ints)

lift_it : (x : ℕ) → 2 ^ 62 < x → pos (2 ^ 62) <ℤ pos x
lift_it x h = omega (arith, ints)

not_both : (a b : ℕ) → a ≤ b → b < a → ⊥
not_both a b h k = omega arith

-- the numbers of the mediant of two generators of a cone within its limits
pub record AreMediantNumbers (c : ShownCone) (r s : ℕ) (xs : List ℕ) (row : List ℤ) : Type 0 where
  pub within : IsWithinLimits c
  pub first : r < c.size
  pub second : s < c.size
  pub coordinates : IsMediantOf c r s xs
  pub row_is : IsRowOf c r s row

module _ (c : ShownCone) (r s : ℕ) (xs : List ℕ) (row : List ℤ) (m : AreMediantNumbers c r s xs row) where
  -- the mediant's numbers
  coordinate_is : (p : ℕ) → p < c.size → child (shown_generators c) r s r p ≡ pos (slice_index_or xs p 0)
  coordinate_is p lp = ap (λ (f : ℕ → ℤ). f p) (replaced_here (shown_generators c) r (λ p. shown_generators c r p +ℤ shown_generators c s p) r refl)
      ∙ ap pos (sym (m.coordinates.sums p lp))

  entry_is : (k : ℕ) → k < c.size → child_gram (shown_gram c) r s r k ≡ slice_index_or row k (pos 0)
  entry_is k lk = sym (m.row_is.entries k lk)

  mirrored_is : (k : ℕ) → k < c.size → child_gram (shown_gram c) r s k r ≡ slice_index_or row k (pos 0)
  mirrored_is k lk = child_gram_mirror (shown_gram c) r s k r (shown_gram_mirror c) ∙ entry_is k lk

  -- nothing else is over its limit
  coordinate_fits : (k p : ℕ) → k < c.size → p < c.size → (k ≡ r → ¬ IsWideCoordinate (slice_index_or xs p 0))
      → ¬ (pos (2 ^ 62) <ℤ child (shown_generators c) r s k p)
  coordinate_fits k p lk lp h over = by (same_or_not k r)
    where
      by : ((k ≡ r) ⊎ (k ≢ r)) → ⊥
      by (inl e) = h e (lower_it _ (subst (λ (z : ℤ). pos (2 ^ 62) <ℤ z) (ap (λ (a : ℕ). child (shown_generators c) r s a p) e ∙ coordinate_is p lp) over))
      by (inr ne) = not_both _ _ (coordinate_within c k p m.within lk lp)
          (lower_it _ (subst (λ (z : ℤ). pos (2 ^ 62) <ℤ z)
          (ap (λ (f : ℕ → ℤ). f p) (replaced_other (shown_generators c) r (λ p. shown_generators c r p +ℤ shown_generators c s p) k ne)) over))

  product_fits : (a b : ℕ) → a < c.size → b < c.size → (a ≡ r → ¬ IsWideProduct (slice_index_or row b (pos 0)))
      → (b ≡ r → ¬ IsWideProduct (slice_index_or row a (pos 0)))
      → ¬ (2 ^ 100 < nat_abs (child_gram (shown_gram c) r s a b))
  product_fits a b la lb h k over = by (same_or_not a r) (same_or_not b r)
    where
      moved : (z : ℤ) → child_gram (shown_gram c) r s a b ≡ z → IsWideProduct z
      moved z e = subst (λ (y : ℤ). 2 ^ 100 < nat_abs y) e over

      by : ((a ≡ r) ⊎ (a ≢ r)) → ((b ≡ r) ⊎ (b ≢ r)) → ⊥
      by (inl e) f = h e (moved _ (ap (λ (x : ℕ). child_gram (shown_gram c) r s x b) e ∙ entry_is b lb))
      by (inr ne) (inl f) = k f (moved _ (ap (λ (x : ℕ). child_gram (shown_gram c) r s a x) f ∙ mirrored_is a la))
      by (inr ne) (inr nf) = not_both _ _ (gram_within c a b m.within la lb) (moved (shown_gram c a b) (child_gram_other (shown_gram c) r s a b ne nf))

  -- ---- a coordinate
  pub first_at_coordinate : (p : ℕ) → HoldsFirstAt c.size (λ p. 2 ^ 62 < slice_index_or xs p 0) p → IsFirstOverWith c r s (Coordinate (suc r) (suc p))
  first_at_coordinate p h = record {
    over = (m.first, h.range, subst (λ (z : ℤ). pos (2 ^ 62) <ℤ z) (sym (coordinate_is p h.range)) (lift_it _ h.holds));
    first = first;
  }
    where
      first : (other : WideEntry) → StandsBefore other (Coordinate (suc r) (suc p))
          → ¬ IsOverLimit c.size (child (shown_generators c) r s) (child_gram (shown_gram c) r s) other
      first (Coordinate zero b) before over = over
      first (Coordinate (suc a) zero) before over = over
      first (Coordinate (suc a) (suc b)) (inl before) (la, lb, over) = coordinate_fits a b la lb (λ e. absurd (omega arith)) over
      first (Coordinate (suc a) (suc b)) (inr (e, before)) (la, lb, over) = coordinate_fits a b la lb (λ f. h.first b (omega arith)) over
      first (Gram a b) before over = before

  abbrev NoWideCoordinate : Type 0
  NoWideCoordinate = (p : ℕ) → p < c.size → ¬ (2 ^ 62 < slice_index_or xs p 0)

  no_coordinate : NoWideCoordinate → (a b : ℕ) → ¬ IsOverLimit c.size (child (shown_generators c) r s) (child_gram (shown_gram c) r s) (Coordinate a b)
  no_coordinate none zero b over = over
  no_coordinate none (suc a) zero over = over
  no_coordinate none (suc a) (suc b) (la, lb, over) = coordinate_fits a b la lb (λ e. none b lb) over

  -- ---- a Gram entry
  pub fits_with : NoWideCoordinate → ((k : ℕ) → k < c.size → ¬ (2 ^ 100 < nat_abs (slice_index_or row k (pos 0)))) → FitsWith c r s
  fits_with none rest (Coordinate a b) over = no_coordinate none a b over
  fits_with none rest (Gram zero b) over = over
  fits_with none rest (Gram (suc a) zero) over = over
  fits_with none rest (Gram (suc a) (suc b)) (la, le, over) = let lb : b < c.size = omega arith in product_fits a b la lb (λ e. rest b lb) (λ e. rest a la) over

  abbrev IsOver : WideEntry → Type 0
  IsOver = IsOverLimit c.size (child (shown_generators c) r s) (child_gram (shown_gram c) r s)

  -- no entry before a Gram entry is over its limit, where no Gram entry before it is
  none_before : NoWideCoordinate → (i j : ℕ)
      → ((a b : ℕ) → StandsBefore (Gram (suc a) (suc b)) (Gram (suc i) (suc j)) → IsOver (Gram (suc a) (suc b)) → ⊥)
      → (other : WideEntry) → StandsBefore other (Gram (suc i) (suc j)) → ¬ IsOver other
  none_before none i j grams (Coordinate a b) before over = no_coordinate none a b over
  none_before none i j grams (Gram zero b) before over = over
  none_before none i j grams (Gram (suc a) zero) before over = over
  none_before none i j grams (Gram (suc a) (suc b)) before over = grams a b before over

  -- in the mediant's row, and in its column
  in_row : NoWideCoordinate → (k : ℕ) → k ≤ r → HoldsFirstAt c.size (λ k. 2 ^ 100 < nat_abs (slice_index_or row k (pos 0))) k
      → IsFirstOverWith c r s (Gram (suc r) (suc k))
  in_row none k le h = record {
    over = (m.first, le, subst (λ (z : ℤ). 2 ^ 100 < nat_abs z) (sym (entry_is k h.range)) h.holds);
    first = none_before none r k grams;
  }
    where
      grams : (a b : ℕ) → StandsBefore (Gram (suc a) (suc b)) (Gram (suc r) (suc k)) → IsOver (Gram (suc a) (suc b)) → ⊥
      grams a b (inl before) (la, lb, over) = product_fits a b la (omega arith) (λ e. absurd (omega arith)) (λ e. absurd (omega arith)) over
      grams a b (inr (f, before)) (la, lb, over) = product_fits a b la (omega arith) (λ e. h.first b (omega arith)) (λ e. absurd (omega arith)) over

  in_column : NoWideCoordinate → (k : ℕ) → r < k → HoldsFirstAt c.size (λ k. 2 ^ 100 < nat_abs (slice_index_or row k (pos 0))) k
      → IsFirstOverWith c r s (Gram (suc k) (suc r))
  in_column none k lt h = record {
    over = (h.range, (omega arith), subst (λ (z : ℤ). 2 ^ 100 < nat_abs z) (sym (mirrored_is k h.range)) h.holds);
    first = none_before none k r grams;
  }
    where
      grams : (a b : ℕ) → StandsBefore (Gram (suc a) (suc b)) (Gram (suc k) (suc r)) → IsOver (Gram (suc a) (suc b)) → ⊥
      grams a b (inl before) (la, lb, over) = product_fits a b la (omega arith) (λ e. h.first b (omega arith)) (λ e. h.first a (omega arith)) over
      grams a b (inr (f, before)) (la, lb, over) = product_fits a b la (omega arith) (λ e. absurd (omega arith)) (λ e. absurd (omega arith)) over

  pub first_at_product : NoWideCoordinate → (k : ℕ) → HoldsFirstAt c.size (λ k. 2 ^ 100 < nat_abs (slice_index_or row k (pos 0))) k
      → IsFirstOverWith c r s (wide_gram r k)
  first_at_product none k h = by (order k r)
    where
      order : (k r : ℕ) → (k ≤ r) ⊎ (r < k)
      order k r = grind arith

      by : ((k ≤ r) ⊎ (r < k)) → IsFirstOverWith c r s (wide_gram r k)
      by (inl le) = let a : max r k + 1 ≡ suc r = omega arith in let b : min r k + 1 ≡ suc k = omega arith in
          subst (λ (e : WideEntry). IsFirstOverWith c r s e) (ap₂ Gram (sym a) (sym b)) (in_row none k le h)
      by (inr lt) = let a : max r k + 1 ≡ suc k = omega arith in let b : min r k + 1 ≡ suc r = omega arith in
          subst (λ (e : WideEntry). IsFirstOverWith c r s e) (ap₂ Gram (sym a) (sym b)) (in_column none k lt h)

-- ---- both children at once
pub mediant_mirror : (c : ShownCone) (r s : ℕ) (xs : List ℕ) → IsMediantOf c r s xs → IsMediantOf c s r xs
mediant_mirror c r s xs h = record {
  count = h.count;
  sums = λ p l. h.sums p l ∙ swap (shown_coordinate c r p) (shown_coordinate c s p);
  rest = h.rest;
}
  where
    swap : (a b : ℕ) → a + b ≡ b + a
    swap a b = omega arith

pub int_swap : (a b : ℤ) → a +ℤ b ≡ b +ℤ a
int_swap a b = omega (arith, ints)

pub products_mirror : (c : ShownCone) (r s : ℕ) (products : List ℤ) → AreProducts c r s products → AreProducts c s r products
products_mirror c r s products h k l = h k l ∙ int_swap (shown_gram c r k) (shown_gram c s k)

-- every product fits, and the product of the mediant with itself
pub fits_by_products : (c : ShownCone) → IsWithinLimits c → (r s : ℕ) → r < c.size → s < c.size → (xs : List ℕ) (products : List ℤ) → IsMediantOf c r s xs
    → AreProducts c r s products → length products ≡ 8
    → ((p : ℕ) → p < c.size → ¬ IsWideCoordinate (slice_index_or xs p 0)) → ((k : ℕ) → k < c.size → ¬ IsWideProduct (slice_index_or products k (pos 0)))
    → ¬ IsWideProduct (slice_index_or products r (pos 0) +ℤ slice_index_or products s (pos 0)) → FitsWith c r s
fits_by_products c w r s lr ls xs products hx hp room coordinates rest square =
    fits_with c r s xs (slice_set products r corner) record {
      within = w;
      first = lr;
      second = ls;
      coordinates = hx;
      row_is = row_is c r s r products corner hp inside refl (ap₂ (λ (a : ℤ) (b : ℤ). a +ℤ b) (hp r lr) (hp s ls));
    } coordinates (λ k l. by k l (same_or_not k r))
  where
    corner : ℤ
    corner = slice_index_or products r (pos 0) +ℤ slice_index_or products s (pos 0)

    inside : r < length products
    inside = omega (arith, w.few)

    by : (k : ℕ) → k < c.size → ((k ≡ r) ⊎ (k ≢ r)) → ¬ IsWideProduct (slice_index_or (slice_set products r corner) k (pos 0))
    by k l (inl e) =
        subst (λ (z : ℤ). ¬ IsWideProduct z) (sym (ap (λ (i : ℕ). slice_index_or (slice_set products r corner) i (pos 0)) e
        ∙ get_or-set_same products r corner (pos 0) inside)) square
    by k l (inr ne) = subst (λ (z : ℤ). ¬ IsWideProduct z) (sym (get_or-set_other products r k corner (pos 0) ne)) (rest k l)

pub not_wide : (u : ℕ) (z : ℤ) → u ≤ 2 ^ 100 → u ≡ nat_abs z → ¬ IsWideProduct z
not_wide u z le e l = omega arith

pub product_bound : (z : ℤ) → ¬ IsWideProduct z → nat_abs z ≤ 2 ^ 101
product_bound z h = omega arith
