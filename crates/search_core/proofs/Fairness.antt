-- Fair lists: what is judged, the final word and bound, and the three settled answers.
use Rattle.std.specs.Prelude.{◌≡◌, ◌≢◌, ℕ, suc, ◌<◌, ◌≤◌, ◌⊎◌, List, [], ◌∷◌, ◌++◌, length}
use Rattle.std.proofs.Common.{arith, sym, ◌∙◌, ap, refl, inl, inr, subst, append_assoc}
use Rattle.std.specs.List.{Contains}
use Rattle.commutative_ring.proofs.SmallCases.{below_or_not}
use Rattle.exact_forms.specs.Forms.{IsSymmetric}
use Rattle.unimodular_cone.specs.declared.WideAt.{WideAt}
use Rattle.unimodular_cone.specs.Paths.{Path, IsAbove, IsNoLater, IsNoDeeper}
use Rattle.unimodular_cone.specs.Cones.{Matrix, cone_at}
use Rattle.unimodular_cone.specs.declared.Mode.{Mode}
use Rattle.unimodular_cone.specs.Tree.{IsInTree, IsLow, IsFirstLowAt, IsFirstLow, HasWideChild, IsOpen, IsFirstOpen, IsFirstOverBelow}
use Rattle.search_core.specs.Fair.{Fate, AtLimit, Judged, word_of, bound_under, IsSplit, HasPath, IsFair, IsLowFate}
use Rattle.search_core.proofs.PathFates.{IsClosedUnder, IsPathFate}
use Rattle.search_core.proofs.ShownFates.{judged_fate}
use Rattle.search_core.proofs.Reaching.{due_in_tree}
use Rattle.search_core.proofs.Settle.{split_not_wide, split_above_low, low_itself, word_of_low, split_above_open, IsLimitFate, split_or_limit, split_can}

pub append_nil : (p : Path) → p ++ [] ≡ p
append_nil [] = refl
append_nil (s ∷ p) = ap (λ (w : Path). s ∷ w) (append_nil p)

-- what comes before a judgement
abbrev pub NoLowBefore : List Judged → ℕ → Judged → Type 0
NoLowBefore judged final j = (k : Judged) → Contains judged k → IsLowFate k.fate → length k.path ≡ final → IsNoLater j.path k.path

abbrev pub NoOpenBefore : Mode → ℕ → Matrix → ℕ → List Judged → ℕ → Judged → Type 0
NoOpenBefore m n q d judged final j =
    (k : Judged) → Contains judged k → IsLimitFate n q d k.path k.fate → IsOpen n q d (bound_under m final) k.path → IsNoLater j.path k.path

module _ (m : Mode) (n : ℕ) (q : Matrix) (d : ℕ) (judged : List Judged) (final : ℕ) (s : IsSymmetric n q) (fair : IsFair m n q d judged final) where
  -- each judged path is in the tree
  pub judged_in_tree : (j : Judged) → Contains judged j → IsInTree n q d j.path
  judged_in_tree j c = due_in_tree m n q d final judged fair.judgements fair.no_other j.path (fair.no_other j c)

  fate_of : (j : Judged) → Contains judged j → IsPathFate m n q d j.path (word_of j.path j.fate) j.fate
  fate_of j c = judged_fate m n q d final j (fair.judgements j c)

  -- a path is judged where each judgement above it is a Split
  pub reached : (p : Path) → ((j : Judged) → Contains judged j → IsAbove j.path p → IsSplit j.fate) → HasPath judged p
  reached p splits = go p [] refl (fair.due [] (inl refl))
    where
      go : (rest done : Path) → done ++ rest ≡ p → HasPath judged done → HasPath judged p
      go [] done e h = subst (HasPath judged) (sym (append_nil done) ∙ e) h
      go (side ∷ rest) done e (j, c, same) =
          go rest (done ++ side ∷ []) (append_assoc done (side ∷ []) rest ∙ e)
          (fair.due (done
          ++ side ∷ [])
          (inr (
            j,
            side,
            c,
            splits j c (side, rest, sym e ∙ ap (λ (w : Path). w ++ side ∷ rest) (sym same)),
            ap (λ (w : Path). w ++ side ∷ []) (sym same),
          )))

  -- a low path of the tree that is no deeper than the final word is judged Low, and its depth is that word
  pub low_is_judged : (p : Path) → IsInTree n q d p → IsLow m n q (cone_at n q p) → length p ≤ final
      → (j : Judged) × Contains judged j × (j.path ≡ p) × IsLowFate j.fate × (length p ≡ final)
  low_is_judged p t low short = by (reached p (λ j c above.
      split_above_low m n q d final j.path p j.fate s (fate_of j c) (fair.judgements j c).above_final above t low short))
    where
      by : HasPath judged p → (j : Judged) × Contains judged j × (j.path ≡ p) × IsLowFate j.fate × (length p ≡ final)
      by (j, c, same) =
          let low_j : IsLow m n q (cone_at n q j.path) = subst (λ (w : Path). IsLow m n q (cone_at n q w)) (sym same) low in
          let short_j : length j.path ≤ final = subst (λ (w : Path). length w ≤ final) (sym same) short in
          let f : IsLowFate j.fate =
          low_itself m n q d final j.path j.fate (fate_of j c) (fair.judgements j c).above_final low_j short_j in
          let e : word_of j.path j.fate ≡ length j.path = word_of_low j.path j.fate f in
          let a : final ≤ word_of j.path j.fate = (fair.judgements j c).above_final in
          let l : length j.path ≡ length p = ap length same in
          (j, c, same, f, omega arith)

  pub none_low : d ≤ 200 → 256 ≤ final → (p : Path) → IsInTree n q d p → ¬ IsLow m n q (cone_at n q p)
  none_low small large p t low = let h : length p ≤ d = t.short in let r = low_is_judged p t low (omega arith) in let e : length p ≡ final = r.4 in omega arith

  -- no judgement above FirstLow is Closed or Dropped: the first Low judgement of the final depth is FirstLow
  pub settles_low : (j : Judged) → Contains judged j → (which : ℕ) → j.fate ≡ Fate.Low (suc which) → length j.path ≡ final
      → NoLowBefore judged final j
      → IsFirstLow m n q d j.path × IsFirstLowAt m n q (cone_at n q j.path) which
  settles_low j c which e depth first = (record { in_tree = judged_in_tree j c; low = (which, at_which.range, at_which.low); first = others }, at_which)
    where
      fate : IsPathFate m n q d j.path (word_of j.path (Fate.Low (suc which))) (Fate.Low (suc which))
      fate = subst (λ (f : Fate). IsPathFate m n q d j.path (word_of j.path f) f) e (fate_of j c)

      at_which : IsFirstLowAt m n q (cone_at n q j.path) which
      at_which = by fate.1
        where
          by : ((k : ℕ) × (suc which ≡ suc k) × IsFirstLowAt m n q (cone_at n q j.path) k) → IsFirstLowAt m n q (cone_at n q j.path) which
          by (k, e, h) = subst (IsFirstLowAt m n q (cone_at n q j.path)) (let f : k ≡ which = omega arith in f) h

      others : (p : Path) → IsInTree n q d p → IsLow m n q (cone_at n q p) → IsNoDeeper j.path p
      others p t low = by (below_or_not final (length p))
        where
          by : ((final < length p) ⊎ (length p ≤ final)) → IsNoDeeper j.path p
          by (inl lt) = inl (omega arith)
          by (inr le) = at_judged (low_is_judged p t low le)
            where
              at_judged : ((k : Judged) × Contains judged k × (k.path ≡ p) × IsLowFate k.fate × (length p ≡ final)) → IsNoDeeper j.path p
              at_judged (k, ck, same, f, l) = inr (depth ∙ sym l, subst (IsNoLater j.path) same (first k ck f (ap length same ∙ l)))

  -- ---- where the final word stands for a bound
  pub open_is_judged : d ≤ 200 → 256 ≤ final → (p : Path) → IsOpen n q d (bound_under m final) p
      → (j : Judged) × Contains judged j × (j.path ≡ p) × IsLimitFate n q d j.path j.fate
  open_is_judged small large p o = by (reached p (λ j c above.
      split_above_open m n q d final j.path p j.fate small large (fate_of j c) (fair.judgements j c).above_final above o.in_tree (o.above j.path above)))
    where
      no_split : (j : Judged) → Contains judged j → j.path ≡ p → ((length p ≡ d) ⊎ HasWideChild n q p) → IsSplit j.fate → ⊥
      no_split j c same (inl e) sp = (split_can m n q d j.path j.fate (fate_of j c) sp).1 (ap length same ∙ e)
      no_split j c same (inr (at_path, entry, wide)) sp =
          split_not_wide n q j.path at_path entry (split_can m n q d j.path j.fate (fate_of j c) sp).0
          (subst (λ (w : Path). IsFirstOverBelow n q w at_path entry) (sym same) wide)

      which : (j : Judged) → Contains judged j → j.path ≡ p → (IsSplit j.fate ⊎ IsLimitFate n q d j.path j.fate) → IsLimitFate n q d j.path j.fate
      which j c same (inl sp) = absurd (no_split j c same o.ends sp)
      which j c same (inr f) = f

      by : HasPath judged p → (j : Judged) × Contains judged j × (j.path ≡ p) × IsLimitFate n q d j.path j.fate
      by (j, c, same) = (
        j,
        c,
        same,
        which j c same
            (split_or_limit m n q d final j.path j.fate small large (fate_of j c) (fair.judgements j c).above_final
            (judged_in_tree j c).short (λ h. o.itself (subst (λ (w : Path). IsClosedUnder m n q w final) same h))),
      )

  -- a judgement at the limit, or with a child that does not fit, is open where neither it nor a cone above it is closed at the final bound
  pub limit_is_open : (j : Judged) → Contains judged j → IsLimitFate n q d j.path j.fate → (¬ IsClosedUnder m n q j.path final)
      → ((a : Path) → IsAbove a j.path → ¬ IsClosedUnder m n q a final) → IsOpen n q d (bound_under m final) j.path
  limit_is_open j c f itself above = record { in_tree = judged_in_tree j c; ends = ends f.which; itself = itself; above = above }
    where
      ends : ((j.fate ≡ AtLimit f.word) × (length j.path ≡ d))
          ⊎ ((at : WideAt) × (j.fate ≡ Fate.Wide f.word at) × (length j.path ≢ d) × IsFirstOverBelow n q j.path at.path at.entry)
          → (length j.path ≡ d) ⊎ HasWideChild n q j.path
      ends (inl (e, l)) = inl l
      ends (inr (at, e, l, w)) = inr (at.path, at.entry, w)

  -- no judgement above FirstOpen is Closed or Dropped: the first open judgement is FirstOpen
  pub settles_open : d ≤ 200 → 256 ≤ final → (j : Judged) → Contains judged j → IsOpen n q d (bound_under m final) j.path
      → NoOpenBefore m n q d judged final j
      → IsFirstOpen n q d (bound_under m final) j.path
  settles_open small large j c o first = record { open_path = o; first = others }
    where
      others : (p : Path) → IsOpen n q d (bound_under m final) p → IsNoLater j.path p
      others p op = by (open_is_judged small large p op)
        where
          by : ((k : Judged) × Contains judged k × (k.path ≡ p) × IsLimitFate n q d k.path k.fate) → IsNoLater j.path p
          by (k, ck, same, f) = subst (IsNoLater j.path) same (first k ck f (subst (IsOpen n q d (bound_under m final)) (sym same) op))

  pub settles_none_open : d ≤ 200 → 256 ≤ final
      → ((k : Judged) → Contains judged k → IsLimitFate n q d k.path k.fate → ¬ IsOpen n q d (bound_under m final) k.path)
      → (p : Path) → ¬ IsOpen n q d (bound_under m final) p
  settles_none_open small large none p op = by (open_is_judged small large p op)
    where
      by : ((k : Judged) × Contains judged k × (k.path ≡ p) × IsLimitFate n q d k.path k.fate) → ⊥
      by (k, ck, same, f) = none k ck f (subst (IsOpen n q d (bound_under m final)) (sym same) op)
