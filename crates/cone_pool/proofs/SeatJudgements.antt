-- The judgements of the worker that has a seat, at the steps on the seat.
use Rattle.std.proofs.Common.{◌≡◌, ℕ, ◌≤◌, ◌⊎◌, min, List, [], ◌∷◌, ◌++◌, sym, ap, ◌∙◌, subst, inl, inr, arith, le_trans}
use Rattle.std.specs.List.{Contains}
use Rattle.std.proofs.lemmas.List.Elements.{Contains-push, Contains-append_left, Contains-append_right, Contains-append_cases, Contains-push_cases}
use Rattle.exact_forms.proofs.Lists.{nothing_in}
use Rattle.unimodular_cone.specs.declared.Mode.{Mode}
use Rattle.unimodular_cone.specs.Cones.{Matrix}
use Rattle.search_core.specs.declared.Judged.{Judged}
use Rattle.search_core.specs.Fair.{code, IsJudgement}
use Rattle.bound_word.specs.Seats.{Seat, greatest_word, after_offer, joined_seat}
use Rattle.cone_pool.specs.Keeping.{Judgements, AreNone, IsSameList, IsNoted, IsAppended}
use Rattle.cone_pool.specs.Parts.{AreJudgedAt}
use Rattle.cone_pool.proofs.Keeping.{none_kept, same_kept, one_kept, both_kept}

pub lesser : (a b : ℕ) → (min a b ≡ a) ⊎ (min a b ≡ b)
lesser a b = grind arith

module _ (m : Mode) (n : ℕ) (q : Matrix) (d : ℕ) where
  abbrev IsGiven : ℕ → List Judged → Type 0
  IsGiven given js = (given ≡ greatest_word) ⊎ ((j : Judged) × Contains js j × (given ≡ code m n q j.path))

  pub lower_told : (old new : ℕ) (j : Judged) → new ≤ old → IsJudgement m n q d old j → IsJudgement m n q d new j
  lower_told old new j le h = record { least = h.least; fate = h.fate; above_final = le_trans le h.above_final; below_code = h.below_code }

  pub none_judged : (seat : Seat) (js : Judgements) → seat.given ≡ greatest_word → AreNone js → AreJudgedAt m n q d seat js
  none_judged seat js given none = record {
    judgements = λ j there. absurd (nothing_in j (subst (λ (l : List Judged). Contains l j) none.items there));
    given_below = λ j there. absurd (nothing_in j (subst (λ (l : List Judged). Contains l j) none.items there));
    given_is = inl given;
    keeps = none_kept m seat.told js none;
  }

  pub same_judged : (seat : Seat) (old new : Judgements) → IsSameList old new → AreJudgedAt m n q d seat old → AreJudgedAt m n q d seat new
  same_judged seat old new same h = record {
    judgements = λ j there. h.judgements j (subst (λ (l : List Judged). Contains l j) same.items there);
    given_below = λ j there. h.given_below j (subst (λ (l : List Judged). Contains l j) same.items there);
    given_is = subst (IsGiven seat.given) (sym same.items) h.given_is;
    keeps = same_kept m seat.told old new same h.keeps;
  }

  -- one more judgement, under the word that an offer was answered
  pub one_judged : (seat : Seat) (old now : Judgements) (offered word : ℕ) (j : Judged) → AreJudgedAt m n q d seat old → IsJudgement m n q d word j
      → word ≤ seat.told → offered ≡ code m n q j.path → IsNoted m word j old now → AreJudgedAt m n q d (after_offer seat offered word) now
  one_judged seat old now offered word j h mine low coded noted = record {
    judgements = λ k there. judged k (cases k there);
    given_below = λ k there. below k (cases k there);
    given_is = is (lesser seat.given offered) h.given_is;
    keeps = one_kept m seat.told word j old now low noted h.keeps;
  }
    where
      js : List Judged
      js = old.items

      new : List Judged
      new = now.items

      pushed : new ≡ js ++ j ∷ []
      pushed = noted.items

      cases : (k : Judged) → Contains new k → Contains js k ⊎ (j ≡ k)
      cases k there = Contains-push_cases js j k (subst (λ (l : List Judged). Contains l k) pushed there)

      judged : (k : Judged) → (Contains js k ⊎ (j ≡ k)) → IsJudgement m n q d word k
      judged k (inl old) = lower_told seat.told word k low (h.judgements k old)
      judged k (inr e) = subst (IsJudgement m n q d word) e mine

      below : (k : Judged) → (Contains js k ⊎ (j ≡ k)) → min seat.given offered ≤ code m n q k.path
      below k (inl old) = let b = h.given_below k old in omega arith
      below k (inr e) = subst (λ (i : Judged). min seat.given offered ≤ code m n q i.path) e (omega arith)

      is : ((min seat.given offered ≡ seat.given) ⊎ (min seat.given offered ≡ offered)) → IsGiven seat.given js → IsGiven (min seat.given offered) new
      is (inr e) was = inr (j, subst (λ (l : List Judged). Contains l j) (sym pushed) (Contains-push js j), e ∙ coded)
      is (inl e) (inl none) = inl (e ∙ none)
      is (inl e) (inr (i, old, f)) = inr (i, subst (λ (l : List Judged). Contains l i) (sym pushed) (Contains-append_left js (j ∷ []) i old), e ∙ f)

  -- two seats are joined, and their judgements appended
  pub both_judged : (s t u : Seat) (old more now : Judgements) → u ≡ joined_seat s t → more.whole ≡ old.whole → IsAppended more old now
      → AreJudgedAt m n q d s old → AreJudgedAt m n q d t more → AreJudgedAt m n q d u now
  both_judged s t u old more now joined alike both h g = record {
    judgements = λ j there. judged j (cases j there);
    given_below = λ j there. below j (cases j there);
    given_is = subst (λ (r : Seat). IsGiven r.given new) (sym joined) (is (lesser s.given t.given) h.given_is g.given_is);
    keeps = both_kept m s.told t.told u.told more old now (let a = told in omega arith) (let a = told in omega arith) alike both h.keeps g.keeps;
  }
    where
      js : List Judged
      js = old.items

      ks : List Judged
      ks = more.items

      new : List Judged
      new = now.items

      appended : new ≡ js ++ ks
      appended = both.items

      told : u.told ≡ min s.told t.told
      told = ap (λ (r : Seat). r.told) joined

      gave : u.given ≡ min s.given t.given
      gave = ap (λ (r : Seat). r.given) joined

      cases : (j : Judged) → Contains new j → Contains js j ⊎ Contains ks j
      cases j there = Contains-append_cases js ks j (subst (λ (l : List Judged). Contains l j) appended there)

      judged : (j : Judged) → (Contains js j ⊎ Contains ks j) → IsJudgement m n q d u.told j
      judged j (inl c) = lower_told s.told u.told j (let a = told in omega arith) (h.judgements j c)
      judged j (inr c) = lower_told t.told u.told j (let a = told in omega arith) (g.judgements j c)

      below : (j : Judged) → (Contains js j ⊎ Contains ks j) → u.given ≤ code m n q j.path
      below j (inl c) = let a = gave in let b = h.given_below j c in omega arith
      below j (inr c) = let a = gave in let b = g.given_below j c in omega arith

      is : ((min s.given t.given ≡ s.given) ⊎ (min s.given t.given ≡ t.given)) → IsGiven s.given js → IsGiven t.given ks → IsGiven (min s.given t.given) new
      is (inl e) (inl none) r = inl (e ∙ none)
      is (inl e) (inr (j, c, f)) r = inr (j, subst (λ (l : List Judged). Contains l j) (sym appended) (Contains-append_left js ks j c), e ∙ f)
      is (inr e) l (inl none) = inl (e ∙ none)
      is (inr e) l (inr (j, c, f)) = inr (j, subst (λ (x : List Judged). Contains x j) (sym appended) (Contains-append_right js ks j c), e ∙ f)
