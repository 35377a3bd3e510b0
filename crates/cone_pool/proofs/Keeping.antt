-- What is kept of the judgements has all that an answer may look at.
use Rattle.std.proofs.Common.{◌≡◌, true, ℕ, ◌≤◌, ◌⊎◌, List, [], ◌∷◌, ◌++◌, sym, ap, ap₂, ◌∙◌, subst, inl, inr}
use Rattle.std.specs.List.{Contains}
use Rattle.std.proofs.lemmas.List.Elements.{Contains-push, Contains-append_left, Contains-append_right, Contains-append_cases, Contains-push_cases}
use Rattle.exact_forms.proofs.Lists.{nothing_in}
use Rattle.unimodular_cone.specs.declared.Mode.{Mode}
use Rattle.unimodular_cone.specs.Cones.{Matrix}
use Rattle.search_core.specs.declared.Judged.{Judged}
use Rattle.search_core.specs.Fair.{IsIrrelevant, IsKeptOrIrrelevant, IsFair, IsFairPart}
use Rattle.search_core.proofs.Irrelevant.{irrelevant_lower, all_relevant}
use Rattle.cone_pool.specs.Keeping.{Judgements, AreNone, IsSameList, IsNoted, IsAppended, KeepsRelevant}

module _ (m : Mode) where
  pub none_kept : (word : ℕ) (js : Judgements) → AreNone js → KeepsRelevant m word js
  none_kept word js none = record {
    within = λ j there. absurd (nothing_in j (subst (λ (l : List Judged). Contains l j) none.kept there));
    rest = λ j there. absurd (nothing_in j (subst (λ (l : List Judged). Contains l j) none.items there));
    each = λ whole. none.kept ∙ sym none.items;
  }

  pub same_kept : (word : ℕ) (old new : Judgements) → IsSameList old new → KeepsRelevant m word old → KeepsRelevant m word new
  same_kept word old new same h = record {
    within = λ j there. subst (λ (l : List Judged). Contains l j) (sym same.items) (h.within j (subst (λ (l : List Judged). Contains l j) same.kept there));
    rest = λ j there. by j (h.rest j (subst (λ (l : List Judged). Contains l j) same.items there));
    each = λ whole. same.kept ∙ h.each (sym same.whole ∙ whole) ∙ sym same.items;
  }
    where
      by : (j : Judged) → (Contains old.kept j ⊎ IsIrrelevant m word j) → Contains new.kept j ⊎ IsIrrelevant m word j
      by j (inl c) = inl (subst (λ (l : List Judged). Contains l j) (sym same.kept) c)
      by j (inr u) = inr u

  -- one more judgement, under a word that is no greater
  pub one_kept : (told word : ℕ) (j : Judged) (old new : Judgements) → word ≤ told → IsNoted m word j old new → KeepsRelevant m told old
      → KeepsRelevant m word new
  one_kept told word j old new low noted h = record {
    within = λ k there. subst (λ (l : List Judged). Contains l k) (sym noted.items) (within k (kept_cases k noted.kept there));
    rest = λ k there. rest noted.kept k (Contains-push_cases old.items j k (subst (λ (l : List Judged). Contains l k) noted.items there));
    each = λ whole.
        let was : old.whole ≡ true = sym noted.whole ∙ whole in
        noted.each was ∙ ap (λ (l : List Judged). l ++ j ∷ []) (h.each was) ∙ sym noted.items;
  }
    where
      kept_cases : (k : Judged) → IsKeptOrIrrelevant m word j old.kept new.kept → Contains new.kept k → Contains old.kept k ⊎ (j ≡ k)
      kept_cases k (inl e) there = Contains-push_cases old.kept j k (subst (λ (l : List Judged). Contains l k) e there)
      kept_cases k (inr (e, u)) there = inl (subst (λ (l : List Judged). Contains l k) e there)

      within : (k : Judged) → (Contains old.kept k ⊎ (j ≡ k)) → Contains (old.items ++ j ∷ []) k
      within k (inl c) = Contains-append_left old.items (j ∷ []) k (h.within k c)
      within k (inr e) = subst (Contains (old.items ++ j ∷ [])) e (Contains-push old.items j)

      was : (k : Judged) → (Contains old.kept k ⊎ IsIrrelevant m told k) → (Contains old.kept k → Contains new.kept k)
          → Contains new.kept k ⊎ IsIrrelevant m word k
      was k (inl c) on = inl (on c)
      was k (inr u) on = inr (irrelevant_lower m told word k low u)

      rest : IsKeptOrIrrelevant m word j old.kept new.kept → (k : Judged) → (Contains old.items k ⊎ (j ≡ k)) → Contains new.kept k ⊎ IsIrrelevant m word k
      rest (inl e) k (inl c) = was k (h.rest k c) (λ o. subst (λ (l : List Judged). Contains l k) (sym e) (Contains-append_left old.kept (j ∷ []) k o))
      rest (inl e) k (inr s) = inl (subst (Contains new.kept) s (subst (λ (l : List Judged). Contains l j) (sym e) (Contains-push old.kept j)))
      rest (inr (e, u)) k (inl c) = was k (h.rest k c) (λ o. subst (λ (l : List Judged). Contains l k) (sym e) o)
      rest (inr (e, u)) k (inr s) = inr (subst (IsIrrelevant m word) s u)

  -- the judgements of two workers, under a word that is no greater than theirs
  pub both_kept : (s t word : ℕ) (more old new : Judgements) → word ≤ s → word ≤ t → more.whole ≡ old.whole → IsAppended more old new
      → KeepsRelevant m s old → KeepsRelevant m t more → KeepsRelevant m word new
  both_kept s t word more old new below_s below_t alike both h g = record {
    within = λ j there. subst (λ (l : List Judged). Contains l j) (sym both.items)
        (within j (Contains-append_cases old.kept more.kept j (subst (λ (l : List Judged). Contains l j) both.kept there)));
    rest = λ j there. rest j (Contains-append_cases old.items more.items j (subst (λ (l : List Judged). Contains l j) both.items there));
    each = λ whole.
        let was : old.whole ≡ true = sym both.whole ∙ whole in
        both.kept ∙ ap₂ (λ (l k : List Judged). l ++ k) (h.each was) (g.each (alike ∙ was)) ∙ sym both.items;
  }
    where
      within : (j : Judged) → (Contains old.kept j ⊎ Contains more.kept j) → Contains (old.items ++ more.items) j
      within j (inl c) = Contains-append_left old.items more.items j (h.within j c)
      within j (inr c) = Contains-append_right old.items more.items j (g.within j c)

      first : (j : Judged) → (Contains old.kept j ⊎ IsIrrelevant m s j) → Contains new.kept j ⊎ IsIrrelevant m word j
      first j (inl c) = inl (subst (λ (l : List Judged). Contains l j) (sym both.kept) (Contains-append_left old.kept more.kept j c))
      first j (inr u) = inr (irrelevant_lower m s word j below_s u)

      second : (j : Judged) → (Contains more.kept j ⊎ IsIrrelevant m t j) → Contains new.kept j ⊎ IsIrrelevant m word j
      second j (inl c) = inl (subst (λ (l : List Judged). Contains l j) (sym both.kept) (Contains-append_right old.kept more.kept j c))
      second j (inr u) = inr (irrelevant_lower m t word j below_t u)

      rest : (j : Judged) → (Contains old.items j ⊎ Contains more.items j) → Contains new.kept j ⊎ IsIrrelevant m word j
      rest j (inl c) = first j (h.rest j c)
      rest j (inr c) = second j (g.rest j c)

  -- the final word is no greater than the word under which what is not kept is irrelevant
  pub part_at_end : (n : ℕ) (q : Matrix) (d final word : ℕ) (js : Judgements) → final ≤ word → KeepsRelevant m word js → IsFair m n q d js.items final
      → IsFairPart m n q d js.kept final
  part_at_end n q d final word js low h fair = record {
    all = js.items;
    fair = fair;
    relevant = all_relevant m n q d final js.items js.kept fair h.within (λ j there. now j (h.rest j there));
  }
    where
      now : (j : Judged) → (Contains js.kept j ⊎ IsIrrelevant m word j) → Contains js.kept j ⊎ IsIrrelevant m final j
      now j (inl c) = inl c
      now j (inr u) = inr (irrelevant_lower m word final j low u)
