-- Lists: what they contain, what is left of them, and those that a loop writes entry by entry.
--
-- | nothing_in, top_in | what a list contains |
-- | drop_at | the rest of a list, from an entry on |
-- | range_more, each_of_range | the numbers from one on |
-- | six_joined | joined lists |
-- | more_set | one more entry that is written |
use Rattle.std.specs.Prelude.{◌≡◌, ◌⊎◌, ℕ, zero, suc, ◌<◌, ◌+◌, List, [], ◌∷◌, ◌++◌, length, map, drop, get_or, slice_index_or, slice_set}
use Rattle.std.specs.List.{Contains, AllByRecursion, range_with_len}
use Rattle.std.proofs.Common.{arith, refl, sym, ◌∙◌, ap, subst, inl, inr, append_assoc, get_or-set_other, get_or-set_same}
use Rattle.std.proofs.lemmas.List.{drop_more}
use Rattle.std.proofs.lemmas.List.Elements.{Contains-push}
use Rattle.commutative_ring.proofs.SmallCases.{before_or_here}

pub nothing_in : {A : Type 0} (x : A) → Contains [] x → ⊥
nothing_in x (k, l, e) = omega arith

pub top_in : {A : Type 0} (xs rest : List A) (x : A) → xs ≡ rest ++ x ∷ [] → Contains xs x
top_in {A} xs rest x e = subst (λ (ys : List A). Contains ys x) (sym e) (Contains-push rest x)

pub drop_at : {A : Type 0} (xs : List A) (k : ℕ) (x : A) → k < length xs → x ≡ get_or xs k x → drop k xs ≡ x ∷ drop (k + 1) xs
drop_at {A} xs k x l e = drop_more xs k x l ∙ ap (λ (y : A). y ∷ drop (k + 1) xs) (sym e)

pub range_more : (a n : ℕ) → range_with_len a (n + 1) ≡ range_with_len a n ++ (a + n) ∷ []
range_more a zero = let k : a + 0 ≡ a = omega arith in rw k refl
range_more a (suc n) =
    let k : (a + 1) + n ≡ a + suc n = omega arith in
    let next : suc n + 1 ≡ suc (n + 1) = omega arith in
    rw next (ap (λ ns. a ∷ ns) (range_more (a + 1) n ∙ ap (λ m. range_with_len (a + 1) n ++ m ∷ []) k))

pub each_of_range : {A : Type 0} (P : A → Type 0) (f : ℕ → A) (a n : ℕ) → ((i : ℕ) → P (f i)) → AllByRecursion P (map f (range_with_len a n))
each_of_range P f a zero h = tt
each_of_range P f a (suc n) h = (h a, each_of_range P f (a + 1) n h)

pub six_joined : (old p q r s t : List ℕ) → ((((old ++ p) ++ q) ++ r) ++ s) ++ t ≡ old ++ ((((p ++ q) ++ r) ++ s) ++ t)
six_joined old p q r s t = simp append_assoc

-- one more entry of a list is written
pub more_set : {A : Type 0} (none : A) (xs : List A) (f : ℕ → A) (i at : ℕ) (v : A) → ((k : ℕ) → k < i → slice_index_or xs k none ≡ f k)
    → i < length xs → at ≡ i → v ≡ f i → (k : ℕ) → k < i + 1 → slice_index_or (slice_set xs at v) k none ≡ f k
more_set none xs f i at v before room e is k l = rw e (by (before_or_here k i l))
  where
    by : ((k < i) ⊎ (k ≡ i)) → slice_index_or (slice_set xs i v) k none ≡ f k
    by (inl lt) = get_or-set_other xs i k v none (λ same. absurd (omega arith)) ∙ before k lt
    by (inr same) = ap (λ (w : ℕ). slice_index_or (slice_set xs i v) w none) same ∙ get_or-set_same xs i v none room ∙ is ∙ ap f (sym same)
