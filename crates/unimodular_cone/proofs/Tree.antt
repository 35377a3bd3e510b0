-- The tree of a search: its paths, and the way of a combination down it.
use Rattle.std.specs.Prelude.{◌≡◌, ◌≢◌, ℕ, zero, suc, ◌<◌, ◌≤◌, ◌+◌, ℤ, Bool, true, false, ◌⊎◌, Option, Some, [], ◌∷◌, ◌++◌, length}
use Rattle.std.proofs.Common.{arith, sym, ◌∙◌, ap, refl, inl, inr, subst, length-append}
use Rattle.exact_forms.specs.Slacks.{AreNonnegative}
use Rattle.unimodular_cone.specs.Paths.{Path, IsAbove}
use Rattle.unimodular_cone.specs.Cones.{Matrix, Generators, gram, child, child_at, next_cone, cone_from, cone_at, pair_of, unit_vectors, IsPair, LiesIn, Fits}
use Rattle.unimodular_cone.specs.Cones.{WideEntry, IsFirstOver}
use Rattle.unimodular_cone.specs.Tree.{CanSplit, IsInTree, HasWideChild}
use Rattle.unimodular_cone.proofs.Pairs.{pair_of_some}
use Rattle.unimodular_cone.proofs.Covers.{cone_from-append, lies_above, lies_in_some_child, root_has, row_range, apart}
use Rattle.unimodular_cone.proofs.Bounded.{fits_or_first_over}

-- ---- paths
no_append : (a : Path) (s : Bool) (r : Path) → [] ≢ a ++ s ∷ r
no_append [] s r e = (cc)
no_append (x ∷ a) s r e = (cc)

pub none_above_root : (a : Path) → ¬ IsAbove a []
none_above_root a (s, r, e) = no_append a s r e

pub above_child : (a p : Path) (side : Bool) → IsAbove a (p ++ side ∷ []) → (a ≡ p) ⊎ IsAbove a p
above_child [] [] side h = inl refl
above_child [] (t ∷ p) side h = inr (t, p, refl)
above_child (x ∷ a) [] side (s, r, e) = absurd (no_append a s r (let f : [] ≡ a ++ s ∷ r = cc in f))
above_child (x ∷ a) (t ∷ p) side (s, r, e) = by (above_child a p side (s, r, (cc)))
  where
    by : ((a ≡ p) ⊎ IsAbove a p) → (x ∷ a ≡ t ∷ p) ⊎ IsAbove (x ∷ a) (t ∷ p)
    by (inl same) = inl (cc)
    by (inr (s', r', e')) = inr (s', r', (cc))

pub above_shorter : (a p : Path) → IsAbove a p → length a < length p
above_shorter a p (s, r, e) = omega (arith, ap length e, length-append {A = Bool})

pub length_child : (p : Path) (side : Bool) → length (p ++ side ∷ []) ≡ suc (length p)
length_child p side = omega (arith, length-append {A = Bool})

-- ---- cones at paths
pub cone_at-child : (n : ℕ) (q : Matrix) (p : Path) (side : Bool) → cone_at n q (p ++ side ∷ []) ≡ next_cone n q (cone_at n q p) side
unfolding cone_from
cone_at-child n q p side = cone_from-append n q unit_vectors p (side ∷ [])

pub cone_at-side : (n : ℕ) (q : Matrix) (p : Path) (side : Bool) (o : Option (ℕ × ℕ)) → pair_of n (gram n q (cone_at n q p)) ≡ o
    → cone_at n q (p ++ side ∷ []) ≡ child_at o (cone_at n q p) side
cone_at-side n q p side o e = cone_at-child n q p side ∙ ap (λ (w : Option (ℕ × ℕ)). child_at w (cone_at n q p) side) e

pub lies_above_path : (n : ℕ) (q : Matrix) (a p : Path) (x : ℕ → ℤ) → IsAbove a p → LiesIn n (cone_at n q p) x → LiesIn n (cone_at n q a) x
lies_above_path n q a p x (s, r, e) l =
    lies_above n q (cone_at n q a) (s ∷ r) x
    (subst (λ (v : Generators). LiesIn n v x) (ap (cone_at n q) e ∙ cone_from-append n q unit_vectors a (s ∷ r)) l)

-- ---- the tree
pub in_tree_root : (n : ℕ) (q : Matrix) (d : ℕ) → IsInTree n q d []
in_tree_root n q d = record { short = omega arith; above = λ a h. absurd (none_above_root a h) }

pub in_tree_child : (n : ℕ) (q : Matrix) (d : ℕ) (p : Path) (side : Bool) → IsInTree n q d p → length p < d → CanSplit n q (cone_at n q p)
    → IsInTree n q d (p ++ side ∷ [])
in_tree_child n q d p side t lt can = record {
  short = rw (length_child p side) lt;
  above = λ a h. by a (above_child a p side h);
}
  where
    by : (a : Path) → ((a ≡ p) ⊎ IsAbove a p) → CanSplit n q (cone_at n q a)
    by a (inl e) = subst (λ (w : Path). CanSplit n q (cone_at n q w)) (sym e) can
    by a (inr h) = t.above a h

-- ---- the way of a combination down the tree
pub record HasChildren (n : ℕ) (q : Matrix) (P : Path → Type 0) (p : Path) : Type 0 where
  pub i : ℕ
  pub j : ℕ
  pub pair : pair_of n (gram n q (cone_at n q p)) ≡ Some (i, j)
  pub children : (side : Bool) → P (p ++ side ∷ [])

pub record StopsAt (n : ℕ) (q : Matrix) (P Stop : Path → Type 0) (x : ℕ → ℤ) : Type 0 where
  pub path : Path
  pub reached : P path
  pub stops : Stop path
  pub lies : LiesIn n (cone_at n q path) x

pub descend : (n : ℕ) (q : Matrix) (P Stop : Path → Type 0) (d : ℕ) (x : ℕ → ℤ)
    → ((p : Path) → P p → length p ≤ d) → ((p : Path) → P p → Stop p ⊎ HasChildren n q P p)
    → (fuel : ℕ) (p : Path) → d < fuel + length p → P p → LiesIn n (cone_at n q p) x → StopsAt n q P Stop x
descend n q P Stop d x short step zero p enough r l = absurd (let s : length p ≤ d = short p r in omega arith)
descend n q P Stop d x short step (suc fuel) p enough r l = by (step p r) (descend n q P Stop d x short step fuel)
  where
    go : ((p' : Path) → d < fuel + length p' → P p' → LiesIn n (cone_at n q p') x → StopsAt n q P Stop x)
        → (c : HasChildren n q P p) → (LiesIn n (child (cone_at n q p) c.i c.j) x ⊎ LiesIn n (child (cone_at n q p) c.j c.i) x) → StopsAt n q P Stop x
    go rec c (inl f) =
        rec (p ++ false ∷ []) (omega (arith, length_child p false)) (c.children false)
        (subst (λ (v : Generators). LiesIn n v x) (sym (cone_at-side n q p false (Some (c.i, c.j)) c.pair)) f)
    go rec c (inr f) =
        rec (p ++ true ∷ []) (omega (arith, length_child p true)) (c.children true)
        (subst (λ (v : Generators). LiesIn n v x) (sym (cone_at-side n q p true (Some (c.i, c.j)) c.pair)) f)

    by : (Stop p ⊎ HasChildren n q P p) → ((p' : Path) → d < fuel + length p' → P p' → LiesIn n (cone_at n q p') x → StopsAt n q P Stop x)
        → StopsAt n q P Stop x
    by (inl s) rec = record { path = p; reached = r; stops = s; lies = l }
    by (inr c) rec = let r : IsPair n (gram n q (cone_at n q p)) c.i c.j = pair_of_some n (gram n q (cone_at n q p)) c.i c.j c.pair in
        go rec c (lies_in_some_child n (cone_at n q p) x c.i c.j (row_range r) r.range (apart r) l)

pub descend_from_root : (n : ℕ) (q : Matrix) (P Stop : Path → Type 0) (d : ℕ) (x : ℕ → ℤ)
    → ((p : Path) → P p → length p ≤ d) → ((p : Path) → P p → Stop p ⊎ HasChildren n q P p) → P [] → AreNonnegative n x → StopsAt n q P Stop x
unfolding cone_from
descend_from_root n q P Stop d x short step root nonneg = descend n q P Stop d x short step (suc d) [] (omega arith) root (root_has n x nonneg)

-- ---- a cone of the tree goes on, or it ends
pub wide_or_splits : (n : ℕ) (q : Matrix) (p : Path) (i j : ℕ) → pair_of n (gram n q (cone_at n q p)) ≡ Some (i, j)
    → HasWideChild n q p ⊎ CanSplit n q (cone_at n q p)
wide_or_splits n q p i j e = by (fits_or_first_over n q (child (cone_at n q p) i j)) (fits_or_first_over n q (child (cone_at n q p) j i))
  where
    by : (Fits n q (child (cone_at n q p) i j) ⊎ ((entry : WideEntry) × IsFirstOver n q (child (cone_at n q p) i j) entry))
        → (Fits n q (child (cone_at n q p) j i) ⊎ ((entry : WideEntry) × IsFirstOver n q (child (cone_at n q p) j i) entry))
        → HasWideChild n q p ⊎ CanSplit n q (cone_at n q p)
    by (inr (entry, over)) s = inl (p ++ false ∷ [], entry, record { i = i; j = j; pair = e; in_child = inl (refl, over) })
    by (inl f) (inr (entry, over)) = inl (p ++ true ∷ [], entry, record { i = i; j = j; pair = e; in_child = inr (f, refl, over) })
    by (inl f) (inl s) = inr (record { i = i; j = j; pair = e; first_fits = f; second_fits = s })

-- a path is empty, or one more step
pub root_or_child : (p : Path) → (p ≡ []) ⊎ ((a : Path) × (side : Bool) × (p ≡ a ++ side ∷ []))
root_or_child [] = inl refl
root_or_child (s ∷ p) = last (root_or_child p)
  where
    last : ((p ≡ []) ⊎ ((a : Path) × (side : Bool) × (p ≡ a ++ side ∷ []))) → (s ∷ p ≡ []) ⊎ ((a : Path) × (side : Bool) × (s ∷ p ≡ a ++ side ∷ []))
    last (inl e) = inr ([], s, ap (λ (w : Path). s ∷ w) e)
    last (inr (a, side, e)) = inr (s ∷ a, side, ap (λ (w : Path). s ∷ w) e)

-- each cone of the tree fits where the root does
pub fits_in_tree : (n : ℕ) (q : Matrix) (d : ℕ) → Fits n q unit_vectors → (path : Path) → IsInTree n q d path → Fits n q (cone_at n q path)
unfolding cone_from
fits_in_tree n q d root path t = by (root_or_child path)
  where
    child_fits : (a : Path) (side : Bool) (can : CanSplit n q (cone_at n q a)) → Fits n q (cone_at n q (a ++ side ∷ []))
    child_fits a false can = subst (λ (v : Generators). Fits n q v) (sym (cone_at-side n q a false (Some (can.i, can.j)) can.pair)) can.first_fits
    child_fits a true can = subst (λ (v : Generators). Fits n q v) (sym (cone_at-side n q a true (Some (can.i, can.j)) can.pair)) can.second_fits

    by : ((path ≡ []) ⊎ ((a : Path) × (side : Bool) × (path ≡ a ++ side ∷ []))) → Fits n q (cone_at n q path)
    by (inl e) = subst (λ (p : Path). Fits n q (cone_at n q p)) (sym e) root
    by (inr (a, side, e)) = subst (λ (p : Path). Fits n q (cone_at n q p)) (sym e) (child_fits a side (t.above a (side, [], e)))
