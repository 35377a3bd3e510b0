-- Lists by their places: what holds of each item, after one is changed, put at the end, or stands alone.
use Rattle.std.proofs.Common.{◌≡◌, ◌≢◌, ℕ, zero, suc, List, [], ◌∷◌, ◌++◌, slice_set, sym, subst, ⊎_elim}
use mathlib.Core.Option.{some, some-injective, some-ne-none}
use lib.ListN.{get_elem?}
use Rattle.atomic_table.proofs.Lists.{at_set, at_snoc}

abbrev pub Each : {A : Type 0} → (A → Type 0) → List A → Type 0
Each {A} P xs = (k : ℕ) (x : A) → get_elem? xs k ≡ some x → P x

module _ {A : Type 0} (P : A → Type 0) where
  pub each_set : (xs : List A) (k : ℕ) (w : A) → P w → Each P xs → Each P (slice_set xs k w)
  each_set xs k w mine others j u at =
      ⊎_elim (λ (t : (j ≡ k) × (w ≡ u)). subst P t.1 mine) (λ (t : (j ≢ k) × (get_elem? xs j ≡ some u)). others j u t.1) (at_set xs k j w u at)

  pub each_snoc : (xs : List A) (w : A) → P w → Each P xs → Each P (xs ++ w ∷ [])
  each_snoc xs w mine others j u at = ⊎_elim (λ (t : get_elem? xs j ≡ some u). others j u t) (λ (t : w ≡ u). subst P t mine) (at_snoc xs w u j at)

  pub each_one : (w : A) → P w → Each P (w ∷ [])
  each_one w mine zero u at = subst P (some-injective w u at) mine
  each_one w mine (suc k) u at = absurd (some-ne-none u (sym at))
