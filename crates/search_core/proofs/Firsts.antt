-- A scan for the first judgement by place.
use Rattle.std.specs.Prelude.{Option, Some, None, ℕ, ◌≡◌, ◌<◌, ◌+◌, ◌⊎◌, List, [], ◌∷◌, ◌++◌, length, take, slice_index_or}
use Rattle.std.specs.List.{Contains}
use Rattle.std.specs.Ordering.{MatchOrdering, is_lt}
use Rattle.std.specs.Bool.{MatchBool}
use Rattle.std.specs.declared.cmp.Ordering.{Ordering}
use Rattle.std.specs.declared.cmp.Ordering.TheVariants.{Less, Equal, Greater}
use Rattle.std.proofs.Common.{arith, sym, ◌∙◌, ap, inl, inr, subst}
use Rattle.std.proofs.lemmas.List.{take_more, take_all}
use Rattle.std.proofs.lemmas.List.Elements.{Contains-push, Contains-append_left, Contains-push_cases}
use Rattle.unimodular_cone.specs.Paths.{Path, IsNoLater, place_order}
use Rattle.unimodular_cone.proofs.Orders.{place_order_is, no_later_self, no_later_trans}
use Rattle.search_core.specs.Fair.{Judged}
use Rattle.search_core.specs.Scans.{FindsFirst, IsBefore, IsBehind}

-- ---- the order
pub earlier_is : (p r : Path) → MatchBool (is_lt (place_order p r)) (IsNoLater p r) (IsNoLater r p)
earlier_is p r = by (place_order p r) (place_order_is p r)
  where
    by : (o : Ordering) → MatchOrdering o (IsNoLater p r × (¬ IsNoLater r p)) (p ≡ r) (IsNoLater r p × (¬ IsNoLater p r))
        → MatchBool (is_lt o) (IsNoLater p r) (IsNoLater r p)
    by Less h = h.0
    by Equal h = subst (λ (w : Path). IsNoLater w p) h (no_later_self p)
    by Greater h = h.0

-- ---- one more judgement
kept : (P : Judged → Type 0) (xs : List Judged) (j : Judged) (best : Option Judged) → FindsFirst P xs best → ((¬ P j) ⊎ IsBehind j best)
    → FindsFirst P (xs ++ j ∷ []) best
kept P xs j None h (inl no_p) = λ k c p. by k p (Contains-push_cases xs j k c)
  where
    by : (k : Judged) → P k → (Contains xs k ⊎ (j ≡ k)) → ⊥
    by k p (inl c) = h k c p
    by k p (inr e) = no_p (subst P (sym e) p)
kept P xs j None h (inr behind) = absurd behind
kept P xs j (Some b) h not_it = record {
  member = Contains-append_left xs (j ∷ []) b h.member;
  holds = h.holds;
  first = λ k c p. by k p (Contains-push_cases xs j k c) not_it;
}
  where
    by : (k : Judged) → P k → (Contains xs k ⊎ (j ≡ k)) → ((¬ P j) ⊎ IsNoLater b.path j.path) → IsNoLater b.path k.path
    by k p (inl c) not_it = h.first k c p
    by k p (inr e) (inl no_p) = absurd (no_p (subst P (sym e) p))
    by k p (inr e) (inr behind) = subst (λ (w : Judged). IsNoLater b.path w.path) e behind

found : (P : Judged → Type 0) (xs : List Judged) (j : Judged) (best : Option Judged) → FindsFirst P xs best → P j → IsBefore j best
    → FindsFirst P (xs ++ j ∷ []) (Some j)
found P xs j best h p before = record { member = Contains-push xs j; holds = p; first = λ k c pk. by k pk (Contains-push_cases xs j k c) best h before }
  where
    by : (k : Judged) → P k → (Contains xs k ⊎ (j ≡ k)) → (best : Option Judged) → FindsFirst P xs best → IsBefore j best → IsNoLater j.path k.path
    by k pk (inl c) None h before = absurd (h k c pk)
    by k pk (inl c) (Some b) h before = no_later_trans j.path b.path k.path before (h.first k c pk)
    by k pk (inr e) best h before = subst (λ (w : Judged). IsNoLater j.path w.path) e (no_later_self j.path)

pub more_judged : (xs : List Judged) (k : ℕ) (j : Judged) → k < length xs → j ≡ slice_index_or xs k j → take k xs ++ j ∷ [] ≡ take (k + 1) xs
more_judged xs k j l is = sym (take_more xs k j l ∙ ap (λ (w : Judged). take k xs ++ w ∷ []) (sym is))

pub first_kept : (P : Judged → Type 0) (xs : List Judged) (k : ℕ) (j : Judged) (best : Option Judged) → k < length xs → j ≡ slice_index_or xs k j
    → FindsFirst P (take k xs) best → ((¬ P j) ⊎ IsBehind j best) → FindsFirst P (take (k + 1) xs) best
first_kept P xs k j best l is h not_it = subst (λ (w : List Judged). FindsFirst P w best) (more_judged xs k j l is) (kept P (take k xs) j best h not_it)

pub first_found : (P : Judged → Type 0) (xs : List Judged) (k : ℕ) (j : Judged) (best : Option Judged) → k < length xs → j ≡ slice_index_or xs k j
    → FindsFirst P (take k xs) best → P j → IsBefore j best → FindsFirst P (take (k + 1) xs) (Some j)
first_found P xs k j best l is h p before =
    subst (λ (w : List Judged). FindsFirst P w (Some j)) (more_judged xs k j l is) (found P (take k xs) j best h p before)

pub first_none : (P : Judged → Type 0) (j : Judged) → Contains [] j → ¬ P j
first_none P j (k, l, e) p = omega arith

pub first_whole : (P : Judged → Type 0) (xs : List Judged) (k : ℕ) (best : Option Judged) → k ≡ length xs → FindsFirst P (take k xs) best → FindsFirst P xs best
first_whole P xs k best e h = subst (λ (w : List Judged). FindsFirst P w best) (ap (λ (m : ℕ). take m xs) e ∙ take_all (length xs) xs (omega arith)) h
