-- The code and the fate of a cone that is shown are those of its path.
use Rattle.std.specs.Prelude.{◌≡◌, ◌≢◌, ℕ, zero, suc, ◌<◌, ◌≤◌, ◌+◌, ◌-◌, ◌^◌, min, ℤ, pos, ◌≤ℤ◌, nat_abs, cond, eqb, ◌⊎◌, true, false, Option, Some, None}
use Rattle.std.specs.Prelude.{◌++◌, ◌∷◌, [], length, FitsSigned}
use Rattle.std.specs.Int.{w128}
use Rattle.std.proofs.Common.{arith, sym, ◌∙◌, ap, ap₂, refl, inl, inr, subst, to_z, of_z}
use Rattle.std.proofs.lemmas.Int.{to_z-of_z}
use Rattle.commutative_ring.proofs.Expand.{linear}
use Rattle.commutative_ring.proofs.SmallCases.{both_at_most, same_or_not}
use Rattle.exact_forms.specs.Sums.{sum_to}
use Rattle.exact_forms.specs.Slacks.{shortfall, IsClosed}
use Rattle.exact_forms.proofs.Sums.{sum_to_none}
use Rattle.exact_forms.proofs.Slacks.{replaced_here, replaced_other, shortfall_of_nonneg, slack_is_diagonal_less, slack_same}
use Rattle.unimodular_cone.specs.declared.Mode.{Mode}
use Rattle.unimodular_cone.specs.declared.Mode.TheVariants.{Sign, Least}
use Rattle.unimodular_cone.specs.declared.WideAt.{WideAt}
use Rattle.unimodular_cone.specs.Paths.{Path}
use Rattle.unimodular_cone.specs.Cones.{Matrix, Generators, gram, value, child, child_gram, cone_at, pair_of, IsPair, Fits, IsFirstOver, FitsLimits}
use Rattle.unimodular_cone.specs.Tree.{CanSplit, IsLowValue, IsLow, IsFirstLowAt, IsFirstOverBelow}
use Rattle.unimodular_cone.specs.Answer.{IsLeastDiagonal}
use Rattle.unimodular_cone.specs.Shown.{ShownCone, shown_gram, shown_generators, IsConeOf, IsConeAt, NamesPair, FitsOnBothSides, FitsOnSide, IsFirstWideBelow}
use Rattle.unimodular_cone.proofs.Pairs.{pair_is, pair_same, some_pair}
use Rattle.unimodular_cone.proofs.Additions.{gram-child}
use Rattle.unimodular_cone.proofs.ShownLaws.{shown_gram_mirror}
use Rattle.unimodular_cone.proofs.LimitsSame.{SameBelow, same_back, fits_same, first_over_same}
use Rattle.unimodular_cone.proofs.Minimum.{not_low_Sign, not_low_Least}
use Rattle.search_core.specs.Fair.{Fate, Closed, Split, Low, Dropped, AtLimit, Wide, least_upto, code, code_of, bound_under, Judged, word_of, IsFate}
use Rattle.search_core.specs.Fair.{IsJudgement}
use Rattle.search_core.specs.Fates.{least_value}
use Rattle.search_core.proofs.PathFates.{IsUndecided, IsSplitAt, IsPathFate}
use Rattle.search_core.specs.Scans.{SplitsShown}
use Rattle.unimodular_cone.proofs.ShownAt.{pair_at, no_pair_at, child_same, child_gram_same}
use Rattle.search_core.specs.Judging.{shown_least, shown_code, IsLowShown, IsFirstLowShown, IsUndecidedShown, IsShownFate}
use Rattle.search_core.proofs.LeastValues.{least_upto_le, least_upto_attained, code_not_low, bound_within}

-- ---- least values
pub least_of_diagonal : (n : ℕ) (g : Matrix) (z : ℤ) → 1 ≤ n → IsLeastDiagonal n g z → z ≡ least_upto (n - 1) (λ k. g k k)
least_of_diagonal n g z some l =
    let r = least_upto_attained (n - 1) (λ k. g k k) in
    let le : r.0 ≤ n - 1 = r.1 in
    let a : z ≤ℤ g r.0 r.0 = l.least r.0 (omega arith) in
    let t = l.attained in
    let lt : t.0 < n = t.1 in
    let b : least_upto (n - 1) (λ k. g k k) ≤ℤ g t.0 t.0 = least_upto_le (n - 1) (λ k. g k k) t.0 (omega arith) in
    both_at_most z _ (subst (λ (y : ℤ). z ≤ℤ y) r.2 a) (subst (λ (y : ℤ). least_upto (n - 1) (λ k. g k k) ≤ℤ y) t.2 b)

pub shown_least_is : (c : ShownCone) (z : ℤ) → 1 ≤ c.size → IsLeastDiagonal c.size (shown_gram c) z → z ≡ shown_least c
unfolding shown_least
shown_least_is c z some l = least_of_diagonal c.size (shown_gram c) z some l

-- the least value as code reads it
pub least_read : (c : ShownCone) (z : ℤ) → FitsSigned w128 z → IsLeastDiagonal c.size (shown_gram c) z → to_z w128 (of_z w128 z) ≡ shown_least c
least_read c z f l = let inside : l.attained.0 < c.size = l.attained.1 in to_z-of_z w128 z f ∙ shown_least_is c z (omega arith) l

least_upto_same : (n : ℕ) (f g : ℕ → ℤ) → ((k : ℕ) → k ≤ n → f k ≡ g k) → least_upto n f ≡ least_upto n g
least_upto_same zero f g e = e 0 (omega arith)
least_upto_same (suc n) f g e = rw (least_upto_same n f g (λ k l. e k (omega arith)), e (suc n) (omega arith)) refl

pub shown_least_at : (n : ℕ) (q : Matrix) (path : Path) (c : ShownCone) → 1 ≤ n → IsConeAt n q path c → shown_least c ≡ least_value n q (cone_at n q path)
unfolding shown_least least_value
shown_least_at n q path c some h =
    ap (λ (k : ℕ). least_upto (k - 1) (λ i. shown_gram c i i)) h.cone.size
    ∙ least_upto_same (n - 1) (λ k. shown_gram c k k) (value n q (cone_at n q path)) (λ k l. h.cone.gram_is k k (omega arith) (omega arith))

pub shown_code_at : (m : Mode) (n : ℕ) (q : Matrix) (path : Path) (c : ShownCone) → 1 ≤ n → IsConeAt n q path c → shown_code m c ≡ code m n q path
shown_code_at m n q path c some h = ap₂ (code_of m) (ap length h.path_is) (shown_least_at n q path c some h)

-- ---- a cone that is neither low nor closed has a pair
values_above : (m : Mode) (c : ShownCone) (word : ℕ) → 1 ≤ c.size → word ≤ shown_code m c → (¬ IsLowShown m c) → (k : ℕ) → k < c.size
    → bound_under m word ≤ℤ shown_gram c k k
unfolding shown_least
values_above Sign c word some le not_low k l = not_low_Sign _ (λ h. not_low (k, l, h))
values_above Least c word some le not_low k l =
    let r = least_upto_attained (c.size - 1) (λ k. shown_gram c k k) in
    let lr : r.0 ≤ c.size - 1 = r.1 in
    let positive : pos 1 ≤ℤ shown_least c = subst (λ (z : ℤ). pos 1 ≤ℤ z) r.2 (not_low_Least _ (λ h. not_low (r.0, omega arith, h))) in
    let e : shown_code Least c ≡ min (256 + nat_abs (shown_least c)) (2 ^ 64 - 1) = code_not_low (length c.path) _ positive in
    let b : bound_under Least word ≤ℤ shown_least c = bound_within word _ positive (omega arith) in
    let v : shown_least c ≤ℤ shown_gram c k k = least_upto_le (c.size - 1) (λ k. shown_gram c k k) k (omega arith) in
    omega (arith, linear)

closed_without_negative : (n : ℕ) (g : Matrix) (b : ℤ) → ((i j : ℕ) → i < n → j < n → j ≢ i → pos 0 ≤ℤ g i j) → ((k : ℕ) → k < n → b ≤ℤ g k k) → IsClosed n g b
closed_without_negative n g b off least i li =
    let rest : sum_to n (λ j. cond (eqb j i) (pos 0) (shortfall (g i j))) ≡ pos 0 = sum_to_none n _ (λ j lj. by j lj (same_or_not j i)) in
    let d : b ≤ℤ g i i = least i li in
    rw (slack_is_diagonal_less n g i) (omega (arith, linear))
  where
    by : (j : ℕ) → j < n → ((j ≡ i) ⊎ (j ≢ i)) → cond (eqb j i) (pos 0) (shortfall (g i j)) ≡ pos 0
    by j lj (inl e) = replaced_here (λ k. shortfall (g i k)) i (pos 0) j e
    by j lj (inr ne) = replaced_other (λ k. shortfall (g i k)) i (pos 0) j ne ∙ shortfall_of_nonneg _ (off i j li lj ne)

pub undecided_has_pair : (m : Mode) (c : ShownCone) (word : ℕ) → 1 ≤ c.size → word ≤ shown_code m c → IsUndecidedShown m c word → NamesPair c None → ⊥
undecided_has_pair m c word some le u none =
    u.not_closed (closed_without_negative c.size (shown_gram c) (bound_under m word) off (values_above m c word some le u.not_low))
  where
    off : (i j : ℕ) → i < c.size → j < c.size → j ≢ i → pos 0 ≤ℤ shown_gram c i j
    off i j li lj ne = side (order i j ne)
      where
        order : (i j : ℕ) → j ≢ i → (i < j) ⊎ (j < i)
        order i j ne = grind arith

        side : ((i < j) ⊎ (j < i)) → pos 0 ≤ℤ shown_gram c i j
        side (inl lt) = none i j lt lj
        side (inr lt) = rw (shown_gram_mirror c i j) (none j i lt li)

-- ---- children
children_same : (n : ℕ) (q : Matrix) (v w : Generators) (g : Matrix) (i j : ℕ) → SameBelow n v w g (gram n q w) → i < n → j < n
    → SameBelow n (child v i j) (child w i j) (child_gram g i j) (gram n q (child w i j))
children_same n q v w g i j s li lj = record {
  generators = λ k p lk lp. child_same n v w i j k p li lj lk lp s.generators;
  gram_is = λ k l lk ll. child_gram_same n g (gram n q w) i j k l li lj lk ll s.gram_is ∙ sym (gram-child n q w i j k l);
}

-- ---- the fate of a cone at its own path
module _ (q : Matrix) (c : ShownCone) (h : IsConeOf c.size q (cone_at c.size q c.path) c) where
  n : ℕ
  n = c.size

  v : Generators
  v = cone_at c.size q c.path

  same : SameBelow c.size (shown_generators c) (cone_at c.size q c.path) (shown_gram c) (gram c.size q (cone_at c.size q c.path))
  same = record { generators = h.generators; gram_is = h.gram_is }

  low_to : (m : Mode) → IsLow m c.size q (cone_at c.size q c.path) → IsLowShown m c
  low_to m (k, l, low) = (k, l, subst (IsLowValue m) (sym (h.gram_is k k l l)) low)

  first_low_from : (m : Mode) (k : ℕ) → IsFirstLowShown m c k → IsFirstLowAt m c.size q (cone_at c.size q c.path) k
  first_low_from m k f = record {
    range = f.range;
    low = subst (IsLowValue m) (h.gram_is k k f.range f.range) f.low;
    first = λ l lt low. f.first l lt (subst (IsLowValue m) (sym (h.gram_is l l (before l lt f.range) (before l lt f.range))) low);
  }
    where
      before : (l : ℕ) → l < k → k < c.size → l < c.size
      before l lt lk = omega arith

  closed_from : (b : ℤ) → IsClosed c.size (shown_gram c) b → IsClosed c.size (gram c.size q (cone_at c.size q c.path)) b
  closed_from b closed i l =
      subst (λ (z : ℤ). b ≤ℤ z) (slack_same c.size (shown_gram c) (gram c.size q (cone_at c.size q c.path)) i l (λ j lj. h.gram_is i j l lj)) (closed i l)

  closed_to : (b : ℤ) → IsClosed c.size (gram c.size q (cone_at c.size q c.path)) b → IsClosed c.size (shown_gram c) b
  closed_to b closed i l =
      subst (λ (z : ℤ). b ≤ℤ z) (sym (slack_same c.size (shown_gram c) (gram c.size q (cone_at c.size q c.path)) i l (λ j lj. h.gram_is i j l lj))) (closed i l)

  undecided_from : (m : Mode) (word : ℕ) → IsUndecidedShown m c word → IsUndecided m c.size q c.path word
  undecided_from m word u =
      record { not_past = u.not_past; not_low = λ low. u.not_low (low_to m low); not_closed = λ closed. u.not_closed (closed_to _ closed) }

  pair_from : (i j : ℕ) → IsPair c.size (shown_gram c) i j → pair_of c.size (gram c.size q (cone_at c.size q c.path)) ≡ Some (i, j)
  pair_from i j p = sym (pair_same c.size (shown_gram c) (gram c.size q (cone_at c.size q c.path)) (λ k l lt ll. h.gram_is k l (omega arith) ll))
      ∙ pair_is c.size (shown_gram c) i j p

  row_range : (i j : ℕ) → IsPair c.size (shown_gram c) i j → i < c.size
  row_range i j p = let o : i < j = p.order in let r : j < c.size = p.range in omega arith

  first_fits : (i j : ℕ) → IsPair c.size (shown_gram c) i j → FitsOnSide c i j false → Fits c.size q (child (cone_at c.size q c.path) i j)
  first_fits i j p f = fits_same c.size _ _ _ _ (children_same c.size q _ _ _ i j same (row_range i j p) p.range) f

  second_fits : (i j : ℕ) → IsPair c.size (shown_gram c) i j → FitsOnSide c i j true → Fits c.size q (child (cone_at c.size q c.path) j i)
  second_fits i j p f = fits_same c.size _ _ _ _ (children_same c.size q _ _ _ j i same p.range (row_range i j p)) f

  split_from : (i j : ℕ) → NamesPair c (Some (i, j)) → FitsOnBothSides c (i - 1) (j - 1) → IsSplitAt c.size q c.path i j
  split_from i j (some, p) fits = record {
    row = i - 1;
    column = j - 1;
    is_row = omega arith;
    is_column = (let o : i - 1 < j - 1 = p.order in omega arith);
    pair = pair_from (i - 1) (j - 1) p;
    first_fits = first_fits (i - 1) (j - 1) p fits.first;
    second_fits = second_fits (i - 1) (j - 1) p fits.second;
  }

  wide_from : (i j : ℕ) (at : WideAt) → IsPair c.size (shown_gram c) i j → IsFirstWideBelow c i j at → IsFirstOverBelow c.size q c.path at.path at.entry
  wide_from i j at p w = record { i = i; j = j; pair = pair_from i j p; in_child = by w }
    where
      by : IsFirstWideBelow c i j at → ((at.path ≡ c.path ++ false ∷ []) × IsFirstOver c.size q (child (cone_at c.size q c.path) i j) at.entry)
          ⊎ (Fits c.size q (child (cone_at c.size q c.path) i j) × (at.path ≡ c.path ++ true ∷ [])
          × IsFirstOver c.size q (child (cone_at c.size q c.path) j i) at.entry)
      by (inl f) = inl (f.path_is, first_over_same c.size _ _ _ _ at.entry (children_same c.size q _ _ _ i j same (row_range i j p) p.range) f.entry)
      by (inr (fits, f)) =
          inr (
            first_fits i j p fits,
            f.path_is,
            first_over_same c.size _ _ _ _ at.entry (children_same c.size q _ _ _ j i same p.range (row_range i j p)) f.entry,
          )

  fate_here : (m : Mode) (d word : ℕ) (f : Fate) → IsShownFate m c d word f → IsPathFate m c.size q d c.path word f
  fate_here m d word (Closed w) (e, l, not_low, closed) = (e, l, (λ low. not_low (low_to m low)), closed_from _ closed)
  fate_here m d word (Low which) (l, (k, e, f)) = (l, (k, e, first_low_from m k f))
  fate_here m d word (Dropped w) (e, l, inl lt) = (e, l, inl lt)
  fate_here m d word (Dropped w) (e, l, inr (depth, not_low, not_closed)) =
      (e, l, inr (depth, (λ low. not_low (low_to m low)), (λ closed. not_closed (closed_to _ closed))))
  fate_here m d word (AtLimit w) (e, u, l) = (e, undecided_from m word u, l)
  fate_here m d word (Wide w at) (e, u, l, (i, j, (some, p), wide)) = (e, undecided_from m word u, l, wide_from (i - 1) (j - 1) at p wide)
  fate_here m d word (Split i j w) (e, u, l, pair, fits) = (e, undecided_from m word u, l, split_from i j pair fits)

-- a cone that is shown has the fate of its path
pub fate_at : (m : Mode) (n : ℕ) (q : Matrix) (d word : ℕ) (path : Path) (c : ShownCone) (f : Fate) → IsConeAt n q path c → IsShownFate m c d word f
    → IsFate m n q d path word f
fate_at m n q d word path c f h fate = (c, h, fate)

path_fate_at : (m : Mode) (n : ℕ) (q : Matrix) (d word : ℕ) (path : Path) (c : ShownCone) (f : Fate) → IsConeAt n q path c → IsShownFate m c d word f
    → IsPathFate m n q d path word f
path_fate_at m n q d word path c f h fate =
    subst (λ (p : Path). IsPathFate m n q d p word f) h.path_is
    (subst (λ (k : ℕ). IsPathFate m k q d c.path word f) h.cone.size
    (fate_here q c
    (subst (λ (k : ℕ). IsConeOf k q (cone_at k q c.path) c) (sym h.cone.size)
    (subst (λ (p : Path). IsConeOf n q (cone_at n q p) c) (sym h.path_is) h.cone)) m d word f fate))

-- what a fate and a judgement say by the path alone
pub path_fate : (m : Mode) (n : ℕ) (q : Matrix) (d : ℕ) (path : Path) (word : ℕ) (f : Fate) → IsFate m n q d path word f → IsPathFate m n q d path word f
path_fate m n q d path word f (c, at, fate) = path_fate_at m n q d word path c f at fate

pub judged_fate : (m : Mode) (n : ℕ) (q : Matrix) (d final : ℕ) (j : Judged) → IsJudgement m n q d final j
    → IsPathFate m n q d j.path (word_of j.path j.fate) j.fate
judged_fate m n q d final j judged = path_fate m n q d j.path (word_of j.path j.fate) j.fate judged.fate

-- ---- what a shown cone at a path says of the tree's
module _ (n : ℕ) (q : Matrix) (path : Path) (c : ShownCone) (h : IsConeAt n q path c) where
  agrees : SameBelow n (shown_generators c) (cone_at n q path) (shown_gram c) (gram n q (cone_at n q path))
  agrees = record { generators = h.cone.generators; gram_is = h.cone.gram_is }

  on_side : (i j : ℕ) → i < n → j < n → Fits n q (child (cone_at n q path) i j) → FitsLimits n (child (shown_generators c) i j) (child_gram (shown_gram c) i j)
  on_side i j li lj f = fits_same n _ _ _ _ (same_back (children_same n q _ _ _ i j agrees li lj)) f

  pub splits_as_shown : CanSplit n q (cone_at n q path) → SplitsShown c
  splits_as_shown can = record {
    paired = λ none. no_pair (sym (no_pair_at n q path c h none) ∙ can.pair);
    fits = λ i j p. by (i - 1) (j - 1) p.1;
  }
    where
      no_pair : ◌≡◌ {A = Option (ℕ × ℕ)} None (Some (can.i, can.j)) → ⊥
      no_pair e = (cc)

      by : (i j : ℕ) → IsPair c.size (shown_gram c) i j → FitsOnBothSides c i j
      by i j p =
          let u : (can.i ≡ i) × (can.j ≡ j) = some_pair (sym can.pair ∙ pair_at n q path c h i j p) in
          let lj : j < n = rw (← h.cone.size) p.range in
          let o : i < j = p.order in
          let ff : Fits n q (child (cone_at n q path) i j) =
          subst (λ (k : ℕ). Fits n q (child (cone_at n q path) i k)) u.1
          (subst (λ (k : ℕ). Fits n q (child (cone_at n q path) k can.j)) u.0 can.first_fits) in
          let sf : Fits n q (child (cone_at n q path) j i) =
          subst (λ (k : ℕ). Fits n q (child (cone_at n q path) j k)) u.0
          (subst (λ (k : ℕ). Fits n q (child (cone_at n q path) k can.i)) u.1 can.second_fits) in
          record {
            first = subst (λ (k : ℕ). FitsLimits k (child (shown_generators c) i j) (child_gram (shown_gram c) i j)) (sym h.cone.size)
                (on_side i j (omega arith) lj ff);
            second = subst (λ (k : ℕ). FitsLimits k (child (shown_generators c) j i) (child_gram (shown_gram c) j i)) (sym h.cone.size)
                (on_side j i lj (omega arith) sf);
          }
