-- The final word stands for the final bound, and each vector that attains it is a generator of a judged cone.
use Rattle.std.specs.Prelude.{◌≡◌, ℕ, ◌<◌, ◌≤◌, ◌+◌, ◌-◌, ◌^◌, min, ℤ, pos, ◌≤ℤ◌, nat_abs, ◌⊎◌, List, [], ◌∷◌, ◌++◌, length}
use Rattle.std.proofs.Common.{arith, sym, ◌∙◌, ap, refl, inl, inr, subst, append_assoc}
use Rattle.std.proofs.lemmas.Int.{ints}
use Rattle.std.specs.List.{Contains}
use Rattle.exact_forms.specs.Forms.{IsSymmetric}
use Rattle.unimodular_cone.specs.Paths.{Path, IsAbove}
use Rattle.unimodular_cone.specs.Cones.{Matrix, value, cone_from, cone_at}
use Rattle.unimodular_cone.specs.declared.Mode.TheVariants.{Least}
use Rattle.unimodular_cone.specs.Tree.{IsInTree, IsFinalBound}
use Rattle.unimodular_cone.specs.Answer.{BoundFits}
use Rattle.search_core.specs.Fair.{Judged, least_value, least_diagonal, code, start_word, bound_under, IsSplit, HasPath, IsFair}
use Rattle.search_core.proofs.PathFates.{IsClosedUnder}
use Rattle.search_core.proofs.ShownFates.{judged_fate}
use Rattle.unimodular_cone.proofs.Covers.{generator_lies, closed_at_least}
use Rattle.unimodular_cone.proofs.Generators.{proper}
use Rattle.search_core.proofs.LeastValues.{least_value_le, least_value_attained, least_diagonal_le, least_diagonal_attained, root_value, code_not_low}
use Rattle.search_core.proofs.LeastValues.{start_not_low, bound_at, bound_within, abs_le}
use Rattle.unimodular_cone.proofs.Tree.{lies_above_path, in_tree_root}
use Rattle.unimodular_cone.proofs.Minimum.{not_low_Least}
use Rattle.search_core.proofs.Settle.{split_or_closed}
use Rattle.search_core.proofs.Fairness.{append_nil, judged_in_tree, none_low}

le_trans_ℤ : (x y z : ℤ) → x ≤ℤ y → y ≤ℤ z → x ≤ℤ z
le_trans_ℤ x y z h k = omega (arith, ints)

module _ (n : ℕ) (q : Matrix) (d : ℕ) (judged : List Judged) (final : ℕ) (s : IsSymmetric n q) (fair : IsFair Least n q d judged final)
    (small : d ≤ 200) (large : 256 ≤ final) (some : 0 < n) (narrow : BoundFits Least n q) where
  tree_value : (p : Path) → IsInTree n q d p → (k : ℕ) → k < n → pos 1 ≤ℤ value n q (cone_at n q p) k
  tree_value p t k l = not_low_Least _ (λ h. none_low Least n q d judged final s fair small large p t (k, l, h))

  tree_least : (p : Path) → IsInTree n q d p → pos 1 ≤ℤ least_value n q (cone_at n q p)
  tree_least p t = let r = least_value_attained n q (cone_at n q p) some in subst (λ (z : ℤ). pos 1 ≤ℤ z) r.2 (tree_value p t r.0 r.1)

  diagonal_value : (k : ℕ) → k < n → value n q (cone_at n q []) k ≡ q k k
  unfolding cone_from
  diagonal_value k l = root_value n q k l

  diagonal_positive : pos 1 ≤ℤ least_diagonal n q
  diagonal_positive =
      let r = least_diagonal_attained n q some in
      subst (λ (z : ℤ). pos 1 ≤ℤ z) (diagonal_value r.0 r.1 ∙ r.2) (tree_value [] (in_tree_root n q d) r.0 r.1)

  final_is_small : final ≤ 256 + (2 ^ 63 - 1)
  final_is_small =
      let e : start_word Least n q ≡ 256 + nat_abs (least_diagonal n q) = start_not_low _ diagonal_positive in
      let b : final ≤ start_word Least n q = fair.final_word.below_start in
      let h : least_diagonal n q ≤ℤ q narrow.0 narrow.0 = least_diagonal_le n q narrow.0 narrow.1 in
      let p : pos 1 ≤ℤ least_diagonal n q = diagonal_positive in
      let t : q narrow.0 narrow.0 ≤ℤ pos (2 ^ 63 - 1) = narrow.2 in
      let a : nat_abs (least_diagonal n q) ≤ nat_abs (pos (2 ^ 63 - 1)) =
      abs_le (least_diagonal n q) (pos (2 ^ 63 - 1)) (omega (arith, ints)) (omega (arith, ints)) in
      omega arith

  pub final_over : 256 < final
  final_over = by fair.final_word.attained
    where
      by : ((final ≡ start_word Least n q) ⊎ ((j : Judged) × Contains judged j × (final ≡ code Least n q j.path))) → 256 < final
      by (inl e) =
          let p : pos 1 ≤ℤ least_diagonal n q = diagonal_positive in
          let f : final ≡ 256 + nat_abs (least_diagonal n q) = e ∙ start_not_low _ p in omega (arith, ints)
      by (inr (j, c, e)) =
          let p : pos 1 ≤ℤ least_value n q (cone_at n q j.path) = tree_least j.path (judged_in_tree Least n q d judged final s fair j c) in
          let f : final ≡ min (256 + nat_abs (least_value n q (cone_at n q j.path))) (2 ^ 64 - 1) = e ∙ code_not_low (length j.path) _ p in
          omega (arith, ints)

  attained : (p : Path) × (k : ℕ) × IsInTree n q d p × (k < n) × (value n q (cone_at n q p) k ≡ bound_under Least final)
  attained = by fair.final_word.attained
    where
      by : ((final ≡ start_word Least n q) ⊎ ((j : Judged) × Contains judged j × (final ≡ code Least n q j.path)))
          → (p : Path) × (k : ℕ) × IsInTree n q d p × (k < n) × (value n q (cone_at n q p) k ≡ bound_under Least final)
      by (inl e) =
          let r = least_diagonal_attained n q some in
          ([], r.0, in_tree_root n q d, r.1, diagonal_value r.0 r.1 ∙ r.2 ∙ sym (bound_at final _ diagonal_positive (e ∙ start_not_low _ diagonal_positive)))
      by (inr (j, c, e)) =
          let t : IsInTree n q d j.path = judged_in_tree Least n q d judged final s fair j c in
          let p : pos 1 ≤ℤ least_value n q (cone_at n q j.path) = tree_least j.path t in
          let r = least_value_attained n q (cone_at n q j.path) some in
          let f : final ≡ min (256 + nat_abs (least_value n q (cone_at n q j.path))) (2 ^ 64 - 1) = e ∙ code_not_low (length j.path) _ p in
          let g : final ≤ 256 + (2 ^ 63 - 1) = final_is_small in
          (j.path, r.0, t, r.1, r.2 ∙ sym (bound_at final _ p (omega arith)))

  -- a path of the tree is judged, or a cone above it is closed at the final bound
  judged_or_closed : (p : Path) → IsInTree n q d p → HasPath judged p ⊎ ((a : Path) × IsAbove a p × IsClosedUnder Least n q a final)
  judged_or_closed p t = go p [] refl (fair.due [] (inl refl))
    where
      go : (rest done : Path) → done ++ rest ≡ p → HasPath judged done → HasPath judged p ⊎ ((a : Path) × IsAbove a p × IsClosedUnder Least n q a final)
      go [] done e h = inl (subst (HasPath judged) (sym (append_nil done) ∙ e) h)
      go (side ∷ rest) done e (j, c, same) =
          by (split_or_closed Least n q d final j.path p j.fate small large (judged_fate Least n q d final j (fair.judgements j c))
          (fair.judgements j c).above_final above t) (go rest)
        where
          above : IsAbove j.path p
          above = (side, rest, sym e ∙ ap (λ (w : Path). w ++ side ∷ rest) (sym same))

          by : (IsSplit j.fate ⊎ IsClosedUnder Least n q j.path final)
              → ((done' : Path) → done' ++ rest ≡ p → HasPath judged done' → HasPath judged p ⊎ ((a : Path) × IsAbove a p × IsClosedUnder Least n q a final))
              → HasPath judged p ⊎ ((a : Path) × IsAbove a p × IsClosedUnder Least n q a final)
          by (inr closed) rec = inr (j.path, above, closed)
          by (inl split) rec = rec (done ++ side ∷ []) (append_assoc done (side ∷ []) rest ∙ e)
              (fair.due (done ++ side ∷ []) (inr (j, side, c, split, ap (λ (w : Path). w ++ side ∷ []) (sym same))))

  least : (p : Path) (k : ℕ) → IsInTree n q d p → k < n → bound_under Least final ≤ℤ value n q (cone_at n q p) k
  least p k t l = by (judged_or_closed p t)
    where
      by : (HasPath judged p ⊎ ((a : Path) × IsAbove a p × IsClosedUnder Least n q a final)) → bound_under Least final ≤ℤ value n q (cone_at n q p) k
      by (inl (j, c, same)) =
          let f : final ≤ code Least n q j.path = fair.final_word.below_codes j c in
          let g : final ≤ code Least n q p = subst (λ (w : Path). final ≤ code Least n q w) same f in
          let e : code Least n q p ≡ min (256 + nat_abs (least_value n q (cone_at n q p))) (2 ^ 64 - 1) = code_not_low (length p) _ (tree_least p t) in
          let b : bound_under Least final ≤ℤ least_value n q (cone_at n q p) = bound_within final _ (tree_least p t) (omega arith) in
          let v : least_value n q (cone_at n q p) ≤ℤ value n q (cone_at n q p) k = least_value_le n q (cone_at n q p) k l in
          le_trans_ℤ _ _ _ b v
      by (inr (a, above, closed)) =
          closed_at_least n q (cone_at n q a) (bound_under Least final) (cone_at n q p k) s (omega (arith, ints)) closed
          (lies_above_path n q a p (cone_at n q p k) above (generator_lies n (cone_at n q p) k l)) ((proper n q p).nonzero k l)

  pub final_bound_Least : IsFinalBound Least n q d (bound_under Least final)
  final_bound_Least = record { least = least; attained = attained }
