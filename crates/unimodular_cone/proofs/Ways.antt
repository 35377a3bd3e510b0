-- The way from the root to a path.
use Rattle.std.specs.Prelude.{◌≡◌, ◌≢◌, ◌⊎◌, ℕ, ◌<◌, ◌≤◌, ◌+◌, Bool, true, false, nat_eq, Option, Some, None, [], ◌∷◌, ◌++◌, length, take}
use Rattle.std.proofs.Common.{arith, sym, ◌∙◌, ap, refl, inl, inr, subst, length-take-le, take_all, append_assoc}
use Rattle.std.proofs.lemmas.List.{take_more}
use Rattle.unimodular_cone.specs.declared.refusal.ConeFail.{ConeFail}
use Rattle.unimodular_cone.specs.declared.refusal.ConeFail.TheVariants.{Wide, OutOfMemory}
use Rattle.unimodular_cone.specs.Paths.{Path, IsAbove, digit_of, digit_at}
use Rattle.unimodular_cone.specs.Cones.{Matrix, gram, cone_at, pair_of, unit_vectors, IsPair, Fits, IsFirstOver}
use Rattle.unimodular_cone.specs.Tree.{IsInTree}
use Rattle.unimodular_cone.specs.Shown.{ShownCone, IsConeAt, IsNext, IsFirstWideNext, IsFirstWideAt, IsReachable, IsWideWhere, IsWithinLimits, shown_gram}
use Rattle.unimodular_cone.specs.Shown.{NamesPair}
use Rattle.unimodular_cone.proofs.Orders.{take_is_above}
use Rattle.unimodular_cone.proofs.ShownAt.{child_at_path, wide_at_path, no_pair_at, pair_at, fits_at}
use Rattle.unimodular_cone.proofs.Tree.{above_child, above_shorter, fits_in_tree}

pub digit_back : (b : Bool) → nat_eq (digit_of b) 1 ≡ b
digit_back false = refl
digit_back true = refl

-- one more step of the way
pub take_digit : (path : Path) (k : ℕ) → k < length path → take k path ++ nat_eq (digit_of (digit_at path k)) 1 ∷ [] ≡ take (k + 1) path
take_digit path k l = ap (λ (b : Bool). take k path ++ b ∷ []) (digit_back (digit_at path k)) ∙ sym (take_more path k false l)

module _ (n : ℕ) (q : Matrix) (path : Path) (reach : IsReachable n q path) where
  -- the root is the path itself, or above it
  pub wide_at_root : (fail : ConeFail) → IsWideWhere (IsFirstWideAt n q []) fail → IsWideWhere (IsFirstWideAt n q path) fail
  wide_at_root (Wide at) w = by path refl
    where
      by : (p : Path) → path ≡ p → IsFirstWideAt n q path at
      by [] e = subst (λ (r : Path). IsFirstWideAt n q r at) (sym e) w
      by (side ∷ rest) e = absurd (reach.fits [] (side, rest, e) at.entry w.entry.over)
  wide_at_root OutOfMemory w = w

  module _ (k : ℕ) (l : k < length path) (c : ShownCone) (h : IsConeAt n q (take k path) c) where
    pub has_pair : ¬ NamesPair c None
    has_pair none = reach.pair (take k path) (take_is_above path k l) (no_pair_at n q (take k path) c h none)

    pub room_below : length path ≤ 200 → length c.path < 200
    room_below short = let s : length (take k path) ≡ k = length-take-le k path (omega arith) in omega (arith, ap length h.path_is)

    pub next_at : (d : ShownCone) → IsNext c (nat_eq (digit_of (digit_at path k)) 1) d → IsConeAt n q (take (k + 1) path) d
    next_at d is =
        subst (λ (p : Path). IsConeAt n q p d) (take_digit path k l)
        (child_at_path n q (take k path) c h is.i is.j (nat_eq (digit_of (digit_at path k)) 1) d is.pair is.child)

    pub wide_next : (fail : ConeFail) → IsWideWhere (IsFirstWideNext c (nat_eq (digit_of (digit_at path k)) 1)) fail → IsWideWhere (IsFirstWideAt n q path) fail
    wide_next OutOfMemory w = w
    wide_next (Wide at) w = by (last_or_not (k + 1) (length path) l)
      where
        last_or_not : (a b : ℕ) → k < b → (k + 1 ≡ b) ⊎ (k + 1 < b)
        last_or_not a b l = grind arith

        over : IsFirstOver n q (cone_at n q (take (k + 1) path)) at.entry
        over = subst (λ (p : Path). IsFirstOver n q (cone_at n q p) at.entry) (take_digit path k l)
            (wide_at_path n q (take k path) c h w.i w.j (nat_eq (digit_of (digit_at path k)) 1) at w.pair w.child)

        there : at.path ≡ take (k + 1) path
        there = w.child.path_is ∙ ap (λ (p : Path). p ++ nat_eq (digit_of (digit_at path k)) 1 ∷ []) h.path_is ∙ take_digit path k l

        by : ((k + 1 ≡ length path) ⊎ (k + 1 < length path)) → IsFirstWideAt n q path at
        by (inl e) = let whole : take (k + 1) path ≡ path = ap (λ (m : ℕ). take m path) e ∙ take_all (length path) path (omega arith) in record {
          path_is = there ∙ whole;
          entry = subst (λ (p : Path). IsFirstOver n q (cone_at n q p) at.entry) whole over;
        }
        by (inr lt) = absurd (reach.fits (take (k + 1) path) (take_is_above path (k + 1) lt) at.entry over.over)

-- ---- a way that is gone step by step
pub not_none : (i j : ℕ) → ◌≢◌ {A = Option (ℕ × ℕ)} (Some (i, j)) None
not_none i j e = (cc)

pub reachable_more : (n : ℕ) (q : Matrix) (path : Path) (c : ShownCone) (i j : ℕ) (side : Bool) → IsReachable n q path → IsConeAt n q path c → IsWithinLimits c
    → IsPair c.size (shown_gram c) i j → IsReachable n q (path ++ side ∷ [])
reachable_more n q path c i j side reach h w p = record {
  pair = λ a above. has a (above_child a path side above);
  fits = λ a above. fit a (above_child a path side above);
}
  where
    has : (a : Path) → ((a ≡ path) ⊎ IsAbove a path) → pair_of n (gram n q (cone_at n q a)) ≢ None
    has a (inl e) = λ none. let some : pair_of n (gram n q (cone_at n q path)) ≡ Some (i, j) = pair_at n q path c h i j p in
        not_none i j (sym some ∙ ap (λ (r : Path). pair_of n (gram n q (cone_at n q r))) (sym e) ∙ none)
    has a (inr above) = reach.pair a above

    fit : (a : Path) → ((a ≡ path) ⊎ IsAbove a path) → Fits n q (cone_at n q a)
    fit a (inl e) = subst (λ (r : Path). Fits n q (cone_at n q r)) (sym e) (fits_at n q path c h w)
    fit a (inr above) = reach.fits a above

-- ---- the way to a path of the tree
above_above : (b a p : Path) → IsAbove b a → IsAbove a p → IsAbove b p
above_above b a p (t, u, f) (s, r, e) = (t, u ++ s ∷ r, e ∙ ap (λ (w : Path). w ++ s ∷ r) f ∙ append_assoc b (t ∷ u) (s ∷ r))

above_in_tree : (n : ℕ) (q : Matrix) (d : ℕ) (a p : Path) → IsAbove a p → IsInTree n q d p → IsInTree n q d a
above_in_tree n q d a p h t = record {
  short = (let l : length a < length p = above_shorter a p h in let s : length p ≤ d = t.short in omega arith);
  above = λ b k. t.above b (above_above b a p k h);
}

pub tree_reachable : (n : ℕ) (q : Matrix) (d : ℕ) (p : Path) → Fits n q unit_vectors → IsInTree n q d p → IsReachable n q p
tree_reachable n q d p root t = record {
  pair = λ a h none. let can = t.above a h in not_none can.i can.j (sym can.pair ∙ none);
  fits = λ a h. fits_in_tree n q d root a (above_in_tree n q d a p h t);
}

pub tree_not_wide : (n : ℕ) (q : Matrix) (d : ℕ) (p : Path) (fail : ConeFail) → Fits n q unit_vectors → IsInTree n q d p
    → IsWideWhere (IsFirstWideAt n q p) fail → ⊥
tree_not_wide n q d p (Wide at) root t w = fits_in_tree n q d root p t at.entry w.entry.over
tree_not_wide n q d p OutOfMemory root t w = w
