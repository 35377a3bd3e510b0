-- Found implies the minimum, Copositive implies copositive.
use Rattle.std.specs.Prelude.{◌≡◌, ℕ, zero, suc, ◌<◌, ◌≤◌, ℤ, pos, negsuc, ◌≤ℤ◌, nat_abs, ◌⊎◌, Some, None, List, length}
use Rattle.std.proofs.Common.{arith, sym, ◌∙◌, inl, inr, subst}
use Rattle.std.proofs.lemmas.Int.{ints}
use Rattle.std.specs.List.{Contains}
use Rattle.commutative_ring.proofs.SmallCases.{same_or_below}
use Rattle.exact_forms.specs.Forms.{form, IsSymmetric}
use Rattle.exact_forms.specs.Slacks.{AreNonnegative}
use Rattle.exact_forms.proofs.Lists.{nothing_in}
use Rattle.unimodular_cone.specs.Paths.{Path, IsAbove}
use Rattle.unimodular_cone.specs.Cones.{Matrix, gram, value, cone_at, pair_of}
use Rattle.unimodular_cone.specs.Tree.{Mode, Sign, Least, CanSplit, IsInTree, IsLowValue, IsLow, IsClosedAt, IsFinalBound, HasWideChild}
use Rattle.unimodular_cone.specs.Answer.{coordinate, IsNonzero, IsLowVector, Attains, IsMinimum, IsCopositive, Found, Copositive, Low, IsSearchAnswer}
use Rattle.unimodular_cone.specs.Answer.{IsClosedAnswer, IsListOf}
use Rattle.unimodular_cone.proofs.Covers.{value_same, closed_at_least, closed_nonnegative, closed_without_pair, IsNonzeroBelow}
use Rattle.unimodular_cone.proofs.Bounded.{closed_or_not}
use Rattle.unimodular_cone.proofs.Generators.{listed, as_vector, proper}
use Rattle.unimodular_cone.proofs.Tree.{above_child, none_above_root, in_tree_root, in_tree_child, HasChildren, StopsAt, descend_from_root, wide_or_splits}
use Rattle.unimodular_cone.proofs.Pairs.{pair_or_none}

-- a value that is not low
pub not_low_Sign : (z : ℤ) → (¬ IsLowValue Sign z) → pos 0 ≤ℤ z
not_low_Sign (pos n) h = omega (arith, ints)
not_low_Sign (negsuc n) h = absurd (h (omega (arith, ints)))

pub bound_is_below : (m : Mode) (n : ℕ) (q : Matrix) (d : ℕ) (b : ℤ) → IsFinalBound m n q d b → (path : Path) → IsInTree n q d path
    → (¬ IsLow m n q (cone_at n q path)) → (k : ℕ) → k < n → b ≤ℤ value n q (cone_at n q path) k
bound_is_below Sign n q d b f path t clear k l = rw f (not_low_Sign _ (λ h. clear (k, l, h)))
bound_is_below Least n q d b f path t clear k l = f.least path k t l

-- a path of the tree with no closed cone above it
pub record IsWayDown (n : ℕ) (q : Matrix) (d : ℕ) (b : ℤ) (p : Path) : Type 0 where
  pub in_tree : IsInTree n q d p
  pub above : (a : Path) → IsAbove a p → ¬ IsClosedAt n q a b

module _ (m : Mode) (n : ℕ) (q : Matrix) (d : ℕ) (b : ℤ) (s : IsSymmetric n q) (a : IsClosedAnswer m n q d b) where
  step : (p : Path) → IsWayDown n q d b p → IsClosedAt n q p b ⊎ HasChildren n q (IsWayDown n q d b) p
  step p w = by (closed_or_not n (gram n q (cone_at n q p)) b)
    where
      children : (i j : ℕ) → pair_of n (gram n q (cone_at n q p)) ≡ Some (i, j) → (¬ IsClosedAt n q p b) → length p < d → CanSplit n q (cone_at n q p)
          → HasChildren n q (IsWayDown n q d b) p
      children i j e not_closed lt can = record {
        i = i;
        j = j;
        pair = e;
        children = λ side. record { in_tree = in_tree_child n q d p side w.in_tree lt can; above = λ c h. at_above c (above_child c p side h) };
      }
        where
          at_above : (c : Path) → ((c ≡ p) ⊎ IsAbove c p) → ¬ IsClosedAt n q c b
          at_above c (inl e) h = not_closed (subst (λ (r : Path). IsClosedAt n q r b) e h)
          at_above c (inr k) h = w.above c k h

      ends : (¬ IsClosedAt n q p b) → ((length p ≡ d) ⊎ HasWideChild n q p) → ⊥
      ends not_closed e = a.none_open p (record { in_tree = w.in_tree; ends = e; itself = not_closed; above = w.above })

      depth : (length p ≡ d) ⊎ (length p < d)
      depth = let h : length p ≤ d = w.in_tree.short in same_or_below (length p) d h

      split : (¬ IsClosedAt n q p b) → (i j : ℕ) → pair_of n (gram n q (cone_at n q p)) ≡ Some (i, j) → ((length p ≡ d) ⊎ (length p < d))
          → (HasWideChild n q p ⊎ CanSplit n q (cone_at n q p)) → HasChildren n q (IsWayDown n q d b) p
      split not_closed i j e (inl at_end) c = absurd (ends not_closed (inl at_end))
      split not_closed i j e (inr lt) (inl wide) = absurd (ends not_closed (inr wide))
      split not_closed i j e (inr lt) (inr can) = children i j e not_closed lt can

      paired : (¬ IsClosedAt n q p b)
          → ((pair_of n (gram n q (cone_at n q p)) ≡ None) ⊎ ((i : ℕ) × (j : ℕ) × (pair_of n (gram n q (cone_at n q p)) ≡ Some (i, j))))
          → IsClosedAt n q p b ⊎ HasChildren n q (IsWayDown n q d b) p
      paired not_closed (inl none) =
          inl (closed_without_pair n q (cone_at n q p) b s none (bound_is_below m n q d b a.is_bound p w.in_tree (a.clear.none_low p w.in_tree)))
      paired not_closed (inr (i, j, e)) = inr (split not_closed i j e depth (wide_or_splits n q p i j e))

      by : (IsClosedAt n q p b ⊎ (¬ IsClosedAt n q p b)) → IsClosedAt n q p b ⊎ HasChildren n q (IsWayDown n q d b) p
      by (inl closed) = inl closed
      by (inr not_closed) = paired not_closed (pair_or_none n (gram n q (cone_at n q p)))

  -- each nonnegative vector lies in a closed cone of the tree
  pub lies_in_closed : (x : ℕ → ℤ) → AreNonnegative n x → StopsAt n q (IsWayDown n q d b) (λ p. IsClosedAt n q p b) x
  lies_in_closed x nonneg = descend_from_root n q (IsWayDown n q d b) (λ p. IsClosedAt n q p b) d x (λ p w. w.in_tree.short) step
      (record { in_tree = in_tree_root n q d; above = λ c h. absurd (none_above_root c h) }) nonneg

pub nonneg_place : (n : ℕ) (x : List ℕ) → AreNonnegative n (coordinate x)
nonneg_place n x k l = omega (arith, ints)

pub copositive_is : (n : ℕ) (q : Matrix) (d : ℕ) → IsSymmetric n q → IsSearchAnswer Sign n q d Copositive → IsCopositive n q
copositive_is n q d s (_, a) x size =
    let r = lies_in_closed Sign n q d (pos 0) s a (coordinate x) (nonneg_place n x) in
    closed_nonnegative n q (cone_at n q r.path) (coordinate x) s r.stops r.lies

pub nonzero_vector : (n : ℕ) (x : List ℕ) (v : ℕ → ℤ) → IsListOf n x v → IsNonzeroBelow n v → IsNonzero n x
nonzero_vector n x v h (p, lp, ne) = (p, lp, λ e. ne (sym (h.same p lp) ∙ e))

pub not_low_Least : (z : ℤ) → (¬ IsLowValue Least z) → pos 1 ≤ℤ z
not_low_Least (pos zero) h = absurd (h (omega (arith, ints)))
not_low_Least (pos (suc n)) h = omega (arith, ints)
not_low_Least (negsuc n) h = absurd (h (omega (arith, ints)))

-- ---- the bound of a closed answer is the copositive minimum
module _ (n : ℕ) (q : Matrix) (d : ℕ) (b : ℤ) (s : IsSymmetric n q) (a : IsClosedAnswer Least n q d b) where
  pub bound_positive : pos 1 ≤ℤ b
  bound_positive =
      let r = a.is_bound.attained in subst (λ (z : ℤ). pos 1 ≤ℤ z) r.4 (not_low_Least _ (λ h. a.clear.none_low r.0 r.2 (r.1, r.3, h)))

  pub bound_least : (x : List ℕ) → length x ≡ n → IsNonzero n x → b ≤ℤ form n q (coordinate x)
  bound_least x size nonzero =
      let p : pos 1 ≤ℤ b = bound_positive in
      let r = lies_in_closed Least n q d b s a (coordinate x) (nonneg_place n x) in
      closed_at_least n q (cone_at n q r.path) b (coordinate x) s (omega (arith, ints)) r.stops r.lies nonzero

  pub bound_attained : (x : List ℕ) × Attains n q b x
  bound_attained =
      let r = a.is_bound.attained in
      let v : ℕ → ℤ = cone_at n q r.0 r.1 in
      let x : List ℕ = listed n (λ p. nat_abs (v p)) in
      let h : IsListOf n x v = as_vector n v ((proper n q r.0).nonnegative r.1 r.3) in
      let nonzero : IsNonzero n x = nonzero_vector n x v h ((proper n q r.0).nonzero r.1 r.3) in
      (x, record { size = h.size; nonzero = nonzero; value = value_same n q (coordinate x) v h.same ∙ r.4 })

pub minimum_is : (n : ℕ) (q : Matrix) (d : ℕ) (b : ℤ) (vectors : List (List ℕ)) → IsSymmetric n q → IsSearchAnswer Least n q d (Found b vectors)
    → IsMinimum n q b vectors
minimum_is n q d b vectors s (_, a, lists) = record {
  positive = bound_positive n q d b s a;
  least = bound_least n q d b s a;
  some = λ none. let r = bound_attained n q d b s a in nothing_in r.0 (subst (λ (w : List (List ℕ)). Contains w r.0) none (lists.all r.0 r.1));
  lists = lists;
}

pub low_is : (m : Mode) (n : ℕ) (q : Matrix) (d : ℕ) (x : List ℕ) (z : ℤ) (path : Path) → IsSearchAnswer m n q d (Low x z path) → IsLowVector m n q x z
low_is m n q d x z path a = record {
  size = a.vector.size;
  nonzero = nonzero_vector n x (cone_at n q path a.which) a.vector ((proper n q path).nonzero a.which a.is_which.range);
  value = value_same n q (coordinate x) (cone_at n q path a.which) a.vector.same ∙ a.value;
  low = subst (IsLowValue m) a.value a.is_which.low;
}
