-- Totals over a list: what a change of one item does to them, and lists of which one item is first.
use Rattle.std.proofs.Common.{◌≡◌, ◌≢◌, ℕ, zero, suc, ◌+◌, ◌≤◌, Bool, true, cond, List, [], ◌∷◌, ◌++◌, slice_set, refl, sym, ap, subst, ⊎_elim, arith}
use mathlib.Core.Option.{some, some-injective, some-ne-none}
use lib.ListN.{get_elem?}
use Rattle.atomic_table.proofs.Lists.{at_set}
use Rattle.bound_word.specs.Totals.{total_of}
use Rattle.bound_word.proofs.Each.{Each}
use Rattle.bound_word.proofs.Numbers.{suc_is_not_zero, zero_is_not_suc, suc_same}

module _ {A : Type 0} (f : A → ℕ) where
  pub total_set : (xs : List A) (k : ℕ) (v w : A) → get_elem? xs k ≡ some v → total_of f (slice_set xs k w) + f v ≡ total_of f xs + f w
  total_set [] k v w at = absurd (some-ne-none v (sym at))
  total_set (x ∷ xs) zero v w at = let e : f x ≡ f v = ap f (some-injective x v at) in omega arith
  total_set (x ∷ xs) (suc k) v w at = let h = total_set xs k v w at in omega arith

  pub total_snoc : (xs : List A) (w : A) → total_of f (xs ++ w ∷ []) ≡ total_of f xs + f w
  total_snoc [] w = omega arith
  total_snoc (x ∷ xs) w = let h = total_snoc xs w in omega arith

  pub total_at : (xs : List A) (k : ℕ) (v : A) → get_elem? xs k ≡ some v → f v ≤ total_of f xs
  total_at [] k v at = absurd (some-ne-none v (sym at))
  total_at (x ∷ xs) zero v at = let e : f x ≡ f v = ap f (some-injective x v at) in omega arith
  total_at (x ∷ xs) (suc k) v at = let h = total_at xs k v at in omega arith

  pub total_two : (xs : List A) (j k : ℕ) (v u : A) → get_elem? xs j ≡ some v → get_elem? xs k ≡ some u → j ≢ k → f v + f u ≤ total_of f xs
  total_two [] j k v u here there apart = absurd (some-ne-none v (sym here))
  total_two (x ∷ xs) zero zero v u here there apart = absurd (apart refl)
  total_two (x ∷ xs) zero (suc k) v u here there apart = let e : f x ≡ f v = ap f (some-injective x v here) in let h = total_at xs k u there in omega arith
  total_two (x ∷ xs) (suc j) zero v u here there apart = let e : f x ≡ f u = ap f (some-injective x u there) in let h = total_at xs j v here in omega arith
  total_two (x ∷ xs) (suc j) (suc k) v u here there apart = let h = total_two xs j k v u here there (λ e. apart (ap suc e)) in omega arith

  none_elsewhere : (xs : List A) → ((j : ℕ) (u : A) → get_elem? xs j ≡ some u → f u ≡ 0) → total_of f xs ≡ 0
  none_elsewhere [] each = refl
  none_elsewhere (x ∷ xs) each = let h = none_elsewhere xs (λ j u there. each (suc j) u there) in let g = each 0 x refl in omega arith

  -- no other counts
  pub total_alone : (xs : List A) (k : ℕ) (v : A) → get_elem? xs k ≡ some v → ((j : ℕ) (u : A) → get_elem? xs j ≡ some u → j ≢ k → f u ≡ 0)
      → total_of f xs ≡ f v
  total_alone [] k v at others = absurd (some-ne-none v (sym at))
  total_alone (x ∷ xs) zero v at others =
      let e : f x ≡ f v = ap f (some-injective x v at) in
      let h : total_of f xs ≡ 0 = none_elsewhere xs (λ j u there. others (suc j) u there (suc_is_not_zero j)) in
      omega arith
  total_alone (x ∷ xs) (suc k) v at others =
      let g : f x ≡ 0 = others 0 x refl (zero_is_not_suc k) in
      let h : total_of f xs ≡ f v = total_alone xs k v at (λ j u there apart. others (suc j) u there (λ same. apart (suc_same j k same))) in
      omega arith

-- an item that isn't the one that was set
pub still_there : {A : Type 0} (xs : List A) (k other : ℕ) (v w : A) → other ≢ k → get_elem? (slice_set xs k v) other ≡ some w → get_elem? xs other ≡ some w
still_there xs k other v w apart at = ⊎_elim (λ (t : (other ≡ k) × (v ≡ w)). absurd (apart t.0))
    (λ (t : (other ≢ k) × (get_elem? xs other ≡ some w)). t.1) (at_set xs k other v w at)

-- ---- one item is first
module _ {A : Type 0} (first : A → Bool) where
  abbrev pub is_first : A → ℕ
  is_first x = cond (first x) 1 0

  two_firsts : (xs : List A) (i j : ℕ) (v u : A) → get_elem? xs i ≡ some v → get_elem? xs j ≡ some u → first v ≡ true → first u ≡ true → j ≢ i
      → total_of is_first xs ≡ 1 → ⊥
  two_firsts xs i j v u here there a b apart one =
      let t = total_two is_first xs j i u v there here apart in
      let x : is_first v ≡ 1 = ap (λ c. cond c 1 0) a in
      let y : is_first u ≡ 1 = ap (λ c. cond c 1 0) b in
      omega arith

  -- where the first is set, what is to hold of the first has to hold of it alone
  pub first_set : (P : A → Type 0) (xs : List A) (k : ℕ) (v w : A) → get_elem? xs k ≡ some v → first v ≡ true → total_of is_first xs ≡ 1 → P w
      → Each (λ (u : A). first u ≡ true → P u) (slice_set xs k w)
  first_set P xs k v w at is one mine j u there = ⊎_elim
      (λ (t : (j ≡ k) × (w ≡ u)). λ e. subst P t.1 mine)
      (λ (t : (j ≢ k) × (get_elem? xs j ≡ some u)). λ e. absurd (two_firsts xs k j v u at t.1 is e t.0 one))
      (at_set xs k j w u there)
