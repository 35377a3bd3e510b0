-- A cone that shows the cone at a path: its pair, its slacks, its values and its children are those of the path.
use Rattle.std.specs.Prelude.{◌≡◌, ◌≢◌, ◌⊎◌, ℕ, ◌<◌, ℤ, pos, ◌+ℤ◌, ◌-ℤ◌, ◌≤ℤ◌, cond, eqb, Bool, true, false, Some, None, Result, Ok, Err, IfOk, IfErr, [], ◌∷◌}
use Rattle.std.specs.Prelude.{◌++◌, ◌≤◌, ◌-◌}
use Rattle.std.proofs.Common.{arith, sym, ◌∙◌, ap, ap₂, inl, inr, subst}
use Rattle.commutative_ring.proofs.SmallCases.{same_or_not}
use Rattle.exact_forms.specs.Slacks.{slack, shortfall, IsClosed}
use Rattle.exact_forms.proofs.Sums.{sum_to_same}
use Rattle.unimodular_cone.specs.declared.refusal.WideAt.{WideAt}
use Rattle.unimodular_cone.specs.declared.refusal.ConeFail.{ConeFail}
use Rattle.unimodular_cone.specs.declared.refusal.ConeFail.TheVariants.{Wide, OutOfMemory}
use Rattle.unimodular_cone.specs.Paths.{Path}
use Rattle.unimodular_cone.specs.Cones.{Matrix, Generators, gram, value, unit_vectors, cone_from, cone_at, pair_of, IsPair, child, child_on, child_gram}
use Rattle.unimodular_cone.specs.Cones.{child_gram_on, FitsLimits, Fits, IsFirstOver}
use Rattle.unimodular_cone.specs.Tree.{CanSplit, IsClosedAt, IsFirstOverBelow}
use Rattle.unimodular_cone.specs.Shown.{ShownCone, shown_gram, shown_generators, IsWithinLimits, IsConeOf, IsConeAt, IsChild, IsFirstWide, FitsOnSide}
use Rattle.unimodular_cone.specs.Shown.{FitsOnBothSides, IsFirstWideBelow, IsWideWhere, ReachesChild, IsExactChild, ShowsChild, NamesPair}
use Rattle.unimodular_cone.proofs.Pairs.{pair_is, pair_same, none_is, some_pair}
use Rattle.unimodular_cone.proofs.Additions.{gram-child, child_row, child_row_other}
use Rattle.unimodular_cone.proofs.Tree.{cone_at-side}
use Rattle.unimodular_cone.proofs.LimitsSame.{SameBelow, same_back, fits_same, first_over_same}

-- ---- what looks at the entries below n alone
pub slack_same : (n : ℕ) (g h : Matrix) (i : ℕ) → i < n → ((k l : ℕ) → k < n → l < n → g k l ≡ h k l) → slack n g i ≡ slack n h i
unfolding slack
slack_same n g h i li same =
    ap₂ (λ (a : ℤ) (b : ℤ). a -ℤ b) (same i i li li)
    (sum_to_same n _ _ (λ j lj. ap (λ (z : ℤ). cond (eqb j i) (pos 0) (shortfall z)) (same i j li lj)))

pub closed_same : (n : ℕ) (g h : Matrix) (b : ℤ) → ((k l : ℕ) → k < n → l < n → g k l ≡ h k l) → IsClosed n g b → IsClosed n h b
closed_same n g h b same closed i li = subst (λ (z : ℤ). b ≤ℤ z) (slack_same n g h i li same) (closed i li)

pub child_same : (n : ℕ) (v w : Generators) (i j k p : ℕ) → i < n → j < n → k < n → p < n → ((k p : ℕ) → k < n → p < n → v k p ≡ w k p)
    → child v i j k p ≡ child w i j k p
child_same n v w i j k p li lj lk lp same = by (same_or_not k i)
  where
    by : ((k ≡ i) ⊎ (k ≢ i)) → child v i j k p ≡ child w i j k p
    by (inl e) = child_row v i j k p e ∙ ap₂ (λ (a : ℤ) (b : ℤ). a +ℤ b) (same i p li lp) (same j p lj lp) ∙ sym (child_row w i j k p e)
    by (inr ne) = child_row_other v i j k p ne ∙ same k p lk lp ∙ sym (child_row_other w i j k p ne)

pub child_gram_same : (n : ℕ) (g h : Matrix) (i j k l : ℕ) → i < n → j < n → k < n → l < n → ((k l : ℕ) → k < n → l < n → g k l ≡ h k l)
    → child_gram g i j k l ≡ child_gram h i j k l
child_gram_same n g h i j k l li lj lk ll same =
    child_same n (λ b a. child g i j a b) (λ b a. child h i j a b) i j l k li lj ll lk (λ b a lb la. child_same n g h i j a b li lj la lb same)

-- ---- children
module _ (n : ℕ) (q : Matrix) (v : Generators) (c : ShownCone) (h : IsConeOf n q v c) (i j : ℕ) (li : i < n) (lj : j < n) where
  generators_on : (side : Bool) (k p : ℕ) → k < n → p < n → child_on (shown_generators c) i j side k p ≡ child_on v i j side k p
  generators_on false k p lk lp = child_same n (shown_generators c) v i j k p li lj lk lp h.generators
  generators_on true k p lk lp = child_same n (shown_generators c) v j i k p lj li lk lp h.generators

  gram_on : (side : Bool) (k l : ℕ) → k < n → l < n → child_gram_on (shown_gram c) i j side k l ≡ gram n q (child_on v i j side) k l
  gram_on false k l lk ll = child_gram_same n (shown_gram c) (gram n q v) i j k l li lj lk ll h.gram_is ∙ sym (gram-child n q v i j k l)
  gram_on true k l lk ll = child_gram_same n (shown_gram c) (gram n q v) j i k l lj li lk ll h.gram_is ∙ sym (gram-child n q v j i k l)

  pub same_on : (side : Bool)
      → SameBelow n (child_on (shown_generators c) i j side) (child_on v i j side) (child_gram_on (shown_gram c) i j side) (gram n q (child_on v i j side))
  same_on side = record { generators = generators_on side; gram_is = gram_on side }

  pub child_of : (side : Bool) (d : ShownCone) → IsChild c i j side d → IsConeOf n q (child_on v i j side) d
  child_of side d is = record {
    size = is.size ∙ h.size;
    generators = λ k p lk lp. is.generators k p (rw h.size lk) (rw h.size lp) ∙ generators_on side k p lk lp;
    gram_is = λ k l lk ll. is.gram_is k l (rw h.size lk) (rw h.size ll) ∙ gram_on side k l lk ll;
  }

  pub wide_of : (side : Bool) (at : WideAt) → IsFirstWide c i j side at → IsFirstOver n q (child_on v i j side) at.entry
  wide_of side at is =
      first_over_same n (child_on (shown_generators c) i j side) (child_on v i j side) (child_gram_on (shown_gram c) i j side) (gram n q (child_on v i j side))
      at.entry (same_on side) (rw (← h.size) is.entry)

  pub fits_of : (side : Bool) → FitsOnSide c i j side → Fits n q (child_on v i j side)
  fits_of side fits =
      fits_same n (child_on (shown_generators c) i j side) (child_on v i j side) (child_gram_on (shown_gram c) i j side) (gram n q (child_on v i j side))
      (same_on side) (rw (← h.size) fits)

-- ---- at a path
module _ (n : ℕ) (q : Matrix) (path : Path) (c : ShownCone) (h : IsConeAt n q path c) where
  above_diagonal : (k l : ℕ) → k < l → l < n → shown_gram c k l ≡ gram n q (cone_at n q path) k l
  above_diagonal k l lt ll = h.cone.gram_is k l (omega arith) ll

  pub pair_at : (i j : ℕ) → IsPair c.size (shown_gram c) i j → pair_of n (gram n q (cone_at n q path)) ≡ Some (i, j)
  pair_at i j p = sym (pair_same n (shown_gram c) (gram n q (cone_at n q path)) above_diagonal) ∙ pair_is n (shown_gram c) i j (rw (← h.cone.size) p)

  pub no_pair_at : NamesPair c None → pair_of n (gram n q (cone_at n q path)) ≡ None
  no_pair_at none = sym (pair_same n (shown_gram c) (gram n q (cone_at n q path)) above_diagonal) ∙ none_is n (shown_gram c) (rw (← h.cone.size) none)

  pub closed_at : (b : ℤ) → IsClosed c.size (shown_gram c) b → IsClosedAt n q path b
  closed_at b closed = closed_same n (shown_gram c) (gram n q (cone_at n q path)) b h.cone.gram_is (rw (← h.cone.size) closed)

  pub closed_there : (b : ℤ) → IsClosedAt n q path b → IsClosed c.size (shown_gram c) b
  closed_there b closed =
      subst (λ (m : ℕ). IsClosed m (shown_gram c) b) (sym h.cone.size)
      (closed_same n (gram n q (cone_at n q path)) (shown_gram c) b (λ k l lk ll. sym (h.cone.gram_is k l lk ll)) closed)

  pub fits_at : IsWithinLimits c → Fits n q (cone_at n q path)
  fits_at w = fits_same n (shown_generators c) (cone_at n q path) (shown_gram c) (gram n q (cone_at n q path))
      (record { generators = h.cone.generators; gram_is = h.cone.gram_is })
      (subst (λ (m : ℕ). FitsLimits m (shown_generators c) (shown_gram c)) h.cone.size w.fits)

  pub value_at : (k : ℕ) → k < n → shown_gram c k k ≡ value n q (cone_at n q path) k
  value_at k lk = h.cone.gram_is k k lk lk

  -- the pair's bounds
  row_in : (i j : ℕ) → IsPair c.size (shown_gram c) i j → i < n
  row_in i j p = omega (arith, p.order, p.range, h.cone.size)

  column_in : (i j : ℕ) → IsPair c.size (shown_gram c) i j → j < n
  column_in i j p = omega (arith, p.range, h.cone.size)

  next : (i j : ℕ) (side : Bool) → IsPair c.size (shown_gram c) i j → cone_at n q (path ++ side ∷ []) ≡ child_on (cone_at n q path) i j side
  next i j side p = cone_at-side n q path side (Some (i, j)) (pair_at i j p)

  -- the child at the pair is the cone at the child's path
  pub child_at_path : (i j : ℕ) (side : Bool) (d : ShownCone) → IsPair c.size (shown_gram c) i j → IsChild c i j side d → IsConeAt n q (path ++ side ∷ []) d
  child_at_path i j side d p is = record {
    path_is = is.path_is ∙ ap (λ (w : Path). w ++ side ∷ []) h.path_is;
    cone = subst (λ (v : Generators). IsConeOf n q v d) (sym (next i j side p))
        (child_of n q (cone_at n q path) c h.cone i j (row_in i j p) (column_in i j p) side d is);
  }

  pub wide_at_path : (i j : ℕ) (side : Bool) (at : WideAt) → IsPair c.size (shown_gram c) i j → IsFirstWide c i j side at
      → IsFirstOver n q (cone_at n q (path ++ side ∷ [])) at.entry
  wide_at_path i j side at p is =
      subst (λ (v : Generators). IsFirstOver n q v at.entry) (sym (next i j side p))
      (wide_of n q (cone_at n q path) c h.cone i j (row_in i j p) (column_in i j p) side at is)

  pub splits_at : (i j : ℕ) → IsPair c.size (shown_gram c) i j → FitsOnBothSides c i j → CanSplit n q (cone_at n q path)
  splits_at i j p both = record {
    i = i;
    j = j;
    pair = pair_at i j p;
    first_fits = fits_of n q (cone_at n q path) c h.cone i j (row_in i j p) (column_in i j p) false both.first;
    second_fits = fits_of n q (cone_at n q path) c h.cone i j (row_in i j p) (column_in i j p) true both.second;
  }

  -- the other way round
  pub fits_on_both_at : (i j : ℕ) → IsPair c.size (shown_gram c) i j → CanSplit n q (cone_at n q path) → FitsOnBothSides c i j
  fits_on_both_at i j p s =
      let e : (s.i ≡ i) × (s.j ≡ j) = some_pair (sym s.pair ∙ pair_at i j p) in
      record {
        first = shown_fits false (rw (← e.0, ← e.1) s.first_fits);
        second = shown_fits true (rw (← e.0, ← e.1) s.second_fits);
      }
    where
      shown_fits : (side : Bool) → Fits n q (child_on (cone_at n q path) i j side) → FitsOnSide c i j side
      shown_fits side fits =
          subst (λ (m : ℕ). FitsLimits m (child_on (shown_generators c) i j side) (child_gram_on (shown_gram c) i j side)) (sym h.cone.size)
          (fits_same n (child_on (cone_at n q path) i j side) (child_on (shown_generators c) i j side) (gram n q (child_on (cone_at n q path) i j side))
          (child_gram_on (shown_gram c) i j side)
          (same_back (same_on n q (cone_at n q path) c h.cone i j (row_in i j p) (column_in i j p) side)) fits)

  pub wide_below_at : (i j : ℕ) (at : WideAt) → IsPair c.size (shown_gram c) i j → IsFirstWideBelow c i j at → IsFirstOverBelow n q path at.path at.entry
  wide_below_at i j at p w = record { i = i; j = j; pair = pair_at i j p; in_child = by w }
    where
      moved : (side : Bool) → IsFirstWide c i j side at → at.path ≡ path ++ side ∷ []
      moved side f = f.path_is ∙ ap (λ (w : Path). w ++ side ∷ []) h.path_is

      by : IsFirstWideBelow c i j at → ((at.path ≡ path ++ false ∷ []) × IsFirstOver n q (child (cone_at n q path) i j) at.entry)
          ⊎ (Fits n q (child (cone_at n q path) i j) × (at.path ≡ path ++ true ∷ []) × IsFirstOver n q (child (cone_at n q path) j i) at.entry)
      by (inl f) = inl (moved false f, wide_of n q (cone_at n q path) c h.cone i j (row_in i j p) (column_in i j p) false at f)
      by (inr (fits, f)) =
          inr (
            fits_of n q (cone_at n q path) c h.cone i j (row_in i j p) (column_in i j p) false fits,
            moved true f,
            wide_of n q (cone_at n q path) c h.cone i j (row_in i j p) (column_in i j p) true at f,
          )

-- a root that is within its limits
pub root_fits : (n : ℕ) (q : Matrix) (c : ShownCone) → IsConeAt n q [] c → IsWithinLimits c → Fits n q unit_vectors
unfolding cone_from
root_fits n q c at w = fits_at n q [] c at w

-- ---- the child of a cone at its path
pub reaches_child : (c : ShownCone) (i j : ℕ) (side : Bool) (result : Result ShownCone ConeFail)
    → IfOk result (IsChild c i j side) → IfErr result (IsWideWhere (IsFirstWide c i j side)) → ReachesChild c i j side result
reaches_child c i j side (Ok d) made wide q h p = child_at_path c.size q c.path c h i j side d p made
reaches_child c i j side (Err (Wide at)) made wide q h p = record { path_is = wide.path_is; entry = wide_at_path c.size q c.path c h i j side at p wide }
reaches_child c i j side (Err OutOfMemory) made wide q h p = wide

pub shows_child : (c : ShownCone) (i j : ℕ) (side : Bool) (result : Result ShownCone ConeFail) → i < c.size → j < c.size
    → IfOk result (IsChild c i j side) → IfErr result (IsWideWhere (IsFirstWide c i j side)) → ShowsChild c i j side result
shows_child c i j side (Ok d) li lj made wide q v h = child_of c.size q v c h i j li lj side d made
shows_child c i j side (Err (Wide at)) li lj made wide q v h = wide_of c.size q v c h i j li lj side at wide
shows_child c i j side (Err OutOfMemory) li lj made wide q v h = wide

pub exact_child : (c : ShownCone) (i j : ℕ) (side : Bool) (d : ShownCone) → i < j → j < c.size → IsChild c i j side d → IsExactChild c i j side d
exact_child c i j side d lt lj made q v h = child_of c.size q v c h i j (omega arith) lj side d made

-- of generators that are named by the numbers from 1
pub exact_child_of : (c : ShownCone) (i j : ℕ) (side : Bool) (d : ShownCone) → 1 ≤ i → i < j → j ≤ c.size → IsChild c (i - 1) (j - 1) side d
    → IsExactChild c (i - 1) (j - 1) side d
exact_child_of c i j side d first order last = exact_child c (i - 1) (j - 1) side d (omega arith) (omega arith)
