-- Lists of vectors.
use Rattle.std.specs.Prelude.{◌≡◌, ℕ, zero, suc, ◌↔◌, ◌+◌, ◌-◌, ◌<◌, ◌⊎◌, List, [], ◌∷◌, ◌++◌, length, slice_index_or}
use Rattle.std.specs.List.{Contains}
use Rattle.std.proofs.Common.{arith, sym, ◌∙◌, ap, subst, refl, inl, inr}
use Rattle.std.proofs.lemmas.List.{get_or_append_left, get_or_push, length_push, get_or_default}
use Rattle.std.specs.Ordering.{nat_cmp}
use Rattle.std.specs.Cmp.{nat_cmp_is}
use Rattle.std.specs.Cmp.Lexicographic.{slice_cmp}
use Rattle.std.specs.declared.cmp.Ordering.{Ordering}
use Rattle.std.specs.declared.cmp.Ordering.TheVariants.{Less, Equal, Greater}
use Rattle.commutative_ring.proofs.SmallCases.{before_or_here}
use Rattle.exact_forms.specs.Vectors.{ComesBefore}
use Rattle.exact_forms.proofs.Vectors.{Compared, before, same, after, before_total, before_irreflexive, before_asymmetric, before_transitive, increasing_push}
use Rattle.exact_forms.proofs.Vectors.{increasing_places}
use Rattle.symmetric_matrix.specs.Lists.{IsVectorList, CanFollow}

-- the first place where two vectors differ decides their order
pub comes_before_at : (x y : List ℕ) (p : ℕ) → p < length x → p < length y → ((k : ℕ) → k < p → slice_index_or x k 0 ≡ slice_index_or y k 0)
    → slice_index_or x p 0 < slice_index_or y p 0 → ComesBefore x y
comes_before_at [] y p lx ly agree less = absurd (omega arith)
comes_before_at (a ∷ x) [] p lx ly agree less = absurd (omega arith)
comes_before_at (a ∷ x) (b ∷ y) zero lx ly agree less = inl less
comes_before_at (a ∷ x) (b ∷ y) (suc p) lx ly agree less =
    inr (agree 0 (omega arith), comes_before_at x y p (omega arith) (omega arith) (λ k l. agree (suc k) (omega arith)) less)

-- a vector that can follow keeps the list
pub list_push : (xs : List (List ℕ)) (x : List ℕ) → IsVectorList xs → CanFollow xs x → IsVectorList (xs ++ x ∷ [])
list_push xs x list follows = record {
  one_length = λ k l hk hl. as_long k (before_or_here k (length xs) (omega (arith, length_push xs x)))
      ∙ sym (as_long l (before_or_here l (length xs) (omega (arith, length_push xs x))));
  increasing = increasing_push xs x list.increasing (λ z c. earlier z c (before_or_here (c.0 + 1) (length xs) (let l = c.1 in omega arith)));
}
  where
    as_long : (k : ℕ) → ((k < length xs) ⊎ (k ≡ length xs)) → length (slice_index_or (xs ++ x ∷ []) k []) ≡ length x
    as_long k (inl l) = ap length (get_or_append_left xs (x ∷ []) [] k l) ∙ follows.one_length k l
    as_long k (inr e) = ap length (get_or_push xs x [] k (sym e))

    earlier : (z : List ℕ) (c : Contains xs z) → ((c.0 + 1 < length xs) ⊎ (c.0 + 1 ≡ length xs)) → ComesBefore z x
    earlier z (k, l, e) (inr last) = subst (λ (w : List ℕ). ComesBefore w x) (get_or_default xs k [] z l ∙ e) (follows.greater k last)
    earlier z (k, l, e) (inl more) =
        subst (λ (w : List ℕ). ComesBefore w x) (get_or_default xs k [] z l ∙ e)
        (before_transitive (slice_index_or xs k []) (slice_index_or xs (length xs - 1) []) x
        (increasing_places xs [] list.increasing k (length xs - 1) (omega arith) (omega arith)) (follows.greater (length xs - 1) (omega arith)))

-- ---- the order of two vectors, as a slice's `cmp` gives it
cmp_less : (x y : List ℕ) → ComesBefore x y → slice_cmp nat_cmp x y ≡ Less
cmp_less [] y h = absurd h
cmp_less (a ∷ x) [] h = absurd h
cmp_less (a ∷ x) (b ∷ y) (inl h) = let e : Less ≡ nat_cmp a b = nat_cmp_is a b Less h in rw (← e) refl
cmp_less (a ∷ x) (b ∷ y) (inr h) = let e : Equal ≡ nat_cmp a b = nat_cmp_is a b Equal h.0 in rw (← e) (cmp_less x y h.1)

cmp_greater : (x y : List ℕ) → ComesBefore y x → slice_cmp nat_cmp x y ≡ Greater
cmp_greater x [] h = absurd h
cmp_greater [] (b ∷ y) h = absurd h
cmp_greater (a ∷ x) (b ∷ y) (inl h) = let e : Greater ≡ nat_cmp a b = nat_cmp_is a b Greater h in rw (← e) refl
cmp_greater (a ∷ x) (b ∷ y) (inr h) = let e : Equal ≡ nat_cmp a b = nat_cmp_is a b Equal (sym h.0) in rw (← e) (cmp_greater x y h.1)

cmp_equal : (x : List ℕ) → slice_cmp nat_cmp x x ≡ Equal
cmp_equal [] = refl
cmp_equal (a ∷ x) = let e : Equal ≡ nat_cmp a a = nat_cmp_is a a Equal refl in rw (← e) (cmp_equal x)

pub record Orders (x y : List ℕ) (r : Ordering) : Type 0 where
  pub less : (r ≡ Less) ↔ ComesBefore x y
  pub equal : (r ≡ Equal) ↔ (x ≡ y)
  pub greater : (r ≡ Greater) ↔ ComesBefore y x

pub slice_cmp_orders : (x y : List ℕ) (r : Ordering) → length x ≡ length y → r ≡ slice_cmp nat_cmp x y → Orders x y r
slice_cmp_orders x y r long e = by (before_total x y long)
  where
    by : Compared x y → Orders x y r
    by (before h) = let is : r ≡ Less = e ∙ cmp_less x y h in record {
      less = (λ _. h, λ _. is);
      equal = (λ k. absurd (cc), λ k. absurd (before_irreflexive y (subst (λ (w : List ℕ). ComesBefore w y) k h)));
      greater = (λ k. absurd (cc), λ k. absurd (before_asymmetric x y h k));
    }
    by (same h) = let is : r ≡ Equal = e ∙ ap (λ (w : List ℕ). slice_cmp nat_cmp w y) h ∙ cmp_equal y in record {
      less = (λ k. absurd (cc), λ k. absurd (before_irreflexive y (subst (λ (w : List ℕ). ComesBefore w y) h k)));
      equal = (λ _. h, λ _. is);
      greater = (λ k. absurd (cc), λ k. absurd (before_irreflexive y (subst (ComesBefore y) h k)));
    }
    by (after h) = let is : r ≡ Greater = e ∙ cmp_greater x y h in record {
      less = (λ k. absurd (cc), λ k. absurd (before_asymmetric x y k h));
      equal = (λ k. absurd (cc), λ k. absurd (before_irreflexive y (subst (ComesBefore y) k h)));
      greater = (λ _. h, λ _. is);
    }
