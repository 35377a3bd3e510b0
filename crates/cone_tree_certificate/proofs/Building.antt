-- The way of building the tree of a copositive matrix.
use Rattle.std.specs.Prelude.{◌≡◌, ℕ, suc, ◌-◌, ◌<◌, ◌≤◌, ◌⊎◌, pos, Bool, true, false, [], ◌∷◌, ◌++◌, length, Some, None}
use Rattle.std.proofs.Common.{arith, sym, ◌∙◌, ap, refl, inl, inr, subst, append_assoc}
use Rattle.std.proofs.lemmas.List.{append-nil}
use Rattle.commutative_ring.proofs.SmallCases.{same_or_below}
use Rattle.exact_forms.specs.Forms.{IsSymmetric}
use Rattle.exact_forms.specs.Slacks.{IsClosed}
use Rattle.unimodular_cone.specs.Paths.{Path, IsAbove}
use Rattle.unimodular_cone.specs.Cones.{Matrix, Generators, gram, child, cone_at, pair_of, unit_vectors}
use Rattle.unimodular_cone.specs.declared.Mode.TheVariants.{Sign}
use Rattle.unimodular_cone.specs.Tree.{CanSplit, IsClosedAt, HasWideChild}
use Rattle.unimodular_cone.specs.Cones.{IsPair, cone_from}
use Rattle.unimodular_cone.specs.Shown.{ShownCone, shown_gram, IsConeAt, IsChild, IsFirstWideBelow}
use Rattle.unimodular_cone.specs.declared.refusal.WideAt.{WideAt}
use Rattle.unimodular_cone.proofs.ShownAt.{closed_there, child_at_path, wide_below_at}
use Rattle.unimodular_cone.specs.Answer.{IsClosedAnswer}
use Rattle.unimodular_cone.proofs.Covers.{closed_without_pair}
use Rattle.unimodular_cone.proofs.Minimum.{bound_is_below}
use Rattle.unimodular_cone.proofs.Tree.{above_child, none_above_root, in_tree_root, in_tree_child, length_child, cone_at-side, wide_or_splits}
use Rattle.cone_tree_certificate.specs.declared.tree.TreeLine.TheVariants.{Leaf, Split}
use Rattle.cone_tree_certificate.specs.Trees.{Lines, IsSplitLine}
use Rattle.cone_tree_certificate.specs.PairTrees.{ReadsPairTree, IsPairTree}
use Rattle.cone_tree_certificate.specs.WayDown.{IsOnWayDown, AddsTree}

pub root_way : (n : ℕ) (w : Matrix) (d : ℕ) → IsOnWayDown n w d []
root_way n w d = record { in_tree = in_tree_root n w d; above = λ c h. absurd (none_above_root c h) }

module _ (n : ℕ) (w : Matrix) (d : ℕ) (s : IsSymmetric n w) (a : IsClosedAnswer Sign n w d (pos 0)) (p : Path) (way : IsOnWayDown n w d p) where
  pub closed_if_no_pair : pair_of n (gram n w (cone_at n w p)) ≡ None → IsClosedAt n w p (pos 0)
  closed_if_no_pair none =
      closed_without_pair n w (cone_at n w p) (pos 0) s none (bound_is_below Sign n w d (pos 0) a.is_bound p way.in_tree (a.clear.none_low p way.in_tree))

  ends : (¬ IsClosedAt n w p (pos 0)) → ((length p ≡ d) ⊎ HasWideChild n w p) → ⊥
  ends not_closed e = a.none_open p (record { in_tree = way.in_tree; ends = e; itself = not_closed; above = way.above })

  pub short_of : (¬ IsClosedAt n w p (pos 0)) → length p < d
  short_of not_closed = by (same_or_below (length p) d way.in_tree.short)
    where
      by : (length p ≡ d) ⊎ (length p < d) → length p < d
      by (inl e) = absurd (ends not_closed (inl e))
      by (inr l) = l

  pub can_split : (¬ IsClosedAt n w p (pos 0)) → (i j : ℕ) → pair_of n (gram n w (cone_at n w p)) ≡ Some (i, j) → CanSplit n w (cone_at n w p)
  can_split not_closed i j e = by (wide_or_splits n w p i j e)
    where
      by : (HasWideChild n w p ⊎ CanSplit n w (cone_at n w p)) → CanSplit n w (cone_at n w p)
      by (inl wide) = absurd (ends not_closed (inr wide))
      by (inr can) = can

  pub not_wide_below : (¬ IsClosedAt n w p (pos 0)) → ¬ HasWideChild n w p
  not_wide_below not_closed wide = ends not_closed (inr wide)

  pub child_way : (¬ IsClosedAt n w p (pos 0)) → (i j : ℕ) → pair_of n (gram n w (cone_at n w p)) ≡ Some (i, j) → (side : Bool)
      → IsOnWayDown n w d (p ++ side ∷ [])
  child_way not_closed i j e side = record {
    in_tree = in_tree_child n w d p side way.in_tree (short_of not_closed) (can_split not_closed i j e);
    above = λ c h. at_above c (above_child c p side h);
  }
    where
      at_above : (c : Path) → ((c ≡ p) ⊎ IsAbove c p) → ¬ IsClosedAt n w c (pos 0)
      at_above c (inl e) h = not_closed (subst (λ (r : Path). IsClosedAt n w r (pos 0)) e h)
      at_above c (inr k) h = way.above c k h

pub leaf_added : (n : ℕ) (w : Matrix) (d : ℕ) (v : Generators) (old new : Lines) → IsClosed n (gram n w v) (pos 0) → new ≡ old ++ Leaf ∷ []
    → AddsTree n w d v old new
leaf_added n w d v old new closed e = record { lines = Leaf ∷ []; added = e; reads = λ rest. (closed, refl) }

pub split_added : (n : ℕ) (w : Matrix) (limit i j : ℕ) (p : Path) (old first second new : Lines) → length p < limit
    → (¬ IsClosed n (gram n w (cone_at n w p)) (pos 0)) → IsSplitLine n i j → pair_of n (gram n w (cone_at n w p)) ≡ Some (i - 1, j - 1)
    → first ≡ old ++ Split i j ∷ []
    → AddsTree n w (limit - length (p ++ false ∷ [])) (cone_at n w (p ++ false ∷ [])) first second
    → AddsTree n w (limit - length (p ++ true ∷ [])) (cone_at n w (p ++ true ∷ [])) second new
    → AddsTree n w (limit - length p) (cone_at n w p) old new
split_added n w limit i j p old first second new short not_closed split e f zero one = record {
  lines = Split i j ∷ (zero.lines ++ one.lines);
  added = one.added ∙ ap (λ (xs : Lines). xs ++ one.lines) (zero.added ∙ ap (λ (xs : Lines). xs ++ zero.lines) f)
      ∙ ap (λ (xs : Lines). xs ++ one.lines) (append_assoc old (Split i j ∷ []) zero.lines) ∙ append_assoc old (Split i j ∷ zero.lines) one.lines;
  reads = λ rest. reads rest;
}
  where
    level : (side : Bool) → limit - length p ≡ suc (limit - length (p ++ side ∷ []))
    level side = let l = length_child p side in omega (arith, l, short)

    below : (side : Bool) (v : Generators) (xs rest : Lines) → cone_at n w (p ++ side ∷ []) ≡ v
        → ReadsPairTree n w (limit - length (p ++ side ∷ [])) (cone_at n w (p ++ side ∷ [])) xs rest
        → ReadsPairTree n w (limit - length (p ++ false ∷ [])) v xs rest
    below side v xs rest e h =
        let same : limit - length (p ++ side ∷ []) ≡ limit - length (p ++ false ∷ []) =
        (let k = length_child p side in let l = length_child p false in omega (arith, k, l)) in
        subst (λ (u : Generators). ReadsPairTree n w (limit - length (p ++ false ∷ [])) u xs rest) e
        (subst (λ (m : ℕ). ReadsPairTree n w m (cone_at n w (p ++ side ∷ [])) xs rest) same h)

    whole : (rest : Lines) → ReadsPairTree n w (suc (limit - length (p ++ false ∷ []))) (cone_at n w p) (Split i j ∷ (zero.lines ++ (one.lines ++ rest))) rest
    whole rest = (
      not_closed,
      (
        split,
        (
          e,
          (
            one.lines ++ rest,
            below false (child (cone_at n w p) (i - 1) (j - 1)) (zero.lines ++ (one.lines ++ rest)) (one.lines
                ++ rest) (cone_at-side n w p false (Some (i - 1, j - 1)) e) (zero.reads (one.lines ++ rest)),
            below true (child (cone_at n w p) (j - 1) (i - 1)) (one.lines ++ rest) rest (cone_at-side n w p true (Some (i - 1, j - 1)) e) (one.reads rest),
          ),
        ),
      ),
    )

    reads : (rest : Lines) → ReadsPairTree n w (limit - length p) (cone_at n w p) ((Split i j ∷ (zero.lines ++ one.lines)) ++ rest) rest
    reads rest =
        subst (λ (m : ℕ). ReadsPairTree n w m (cone_at n w p) ((Split i j ∷ (zero.lines ++ one.lines)) ++ rest) rest) (sym (level false))
        (subst (λ (xs : Lines). ReadsPairTree n w (suc (limit - length (p ++ false ∷ []))) (cone_at n w p) (Split i j ∷ xs) rest)
        (sym (append_assoc zero.lines one.lines rest)) (whole rest))

-- ---- a cone as it is shown
pub child_reached : (n : ℕ) (w : Matrix) (c d : ShownCone) (i j : ℕ) (side : Bool) → IsConeAt n w c.path c → IsPair c.size (shown_gram c) i j
    → IsChild c i j side d → IsConeAt n w d.path d
child_reached n w c d i j side h p is = subst (λ (r : Path). IsConeAt n w r d) (sym is.path_is) (child_at_path n w c.path c h i j side d p is)

pub open_at : (n : ℕ) (w : Matrix) (c : ShownCone) → IsConeAt n w c.path c → (IsClosed c.size (shown_gram c) (pos 0) → ⊥) → ¬ IsClosedAt n w c.path (pos 0)
open_at n w c h open_cone closed = open_cone (closed_there n w c.path c h (pos 0) closed)

pub wide_child : (n : ℕ) (w : Matrix) (c : ShownCone) (i j : ℕ) (at : WideAt) → IsConeAt n w c.path c → IsPair c.size (shown_gram c) i j
    → IsFirstWideBelow c i j at → HasWideChild n w c.path
wide_child n w c i j at h p wide = (at.path, at.entry, wide_below_at n w c.path c h i j at p wide)

pub split_is : (n : ℕ) (w : Matrix) (c : ShownCone) (i j : ℕ) → IsConeAt n w c.path c → 1 ≤ i → IsPair c.size (shown_gram c) (i - 1) (j - 1) → IsSplitLine n i j
split_is n w c i j h first p = let o = p.order in let r = p.range in let s = h.cone.size in
    record { first = first; order = omega (arith, o, first); last = omega (arith, r, s, o) }

-- the tree is added to nothing
pub from_nothing : (n : ℕ) (w : Matrix) (d : ℕ) (v : Generators) (new : Lines) → AddsTree n w d v [] new → ReadsPairTree n w d v new []
from_nothing n w d v new a = subst (λ (xs : Lines). ReadsPairTree n w d v xs []) (append-nil a.lines ∙ sym a.added) (a.reads [])

-- what was added from a path that is named in two ways
pub same_way : (n : ℕ) (w : Matrix) (limit : ℕ) (p r : Path) (old new : Lines) → p ≡ r → AddsTree n w (limit - length p) (cone_at n w p) old new
    → AddsTree n w (limit - length r) (cone_at n w r) old new
same_way n w limit p r old new e h = subst (λ (q : Path). AddsTree n w (limit - length q) (cone_at n w q) old new) e h

-- ---- the root
pub pair_tree_made : (n : ℕ) (w : Matrix) (limit : ℕ) (p : Path) (old new : Lines) → p ≡ [] → old ≡ [] → AddsTree n w (limit - length p) (cone_at n w p) old new
    → IsPairTree n w limit new
unfolding IsPairTree cone_from
pair_tree_made n w limit p old new e f h =
    let a = same_way n w limit p [] old new e h in
    let less : limit - 0 ≡ limit = omega arith in
    subst (λ (m : ℕ). ReadsPairTree n w m unit_vectors new []) less
    (from_nothing n w (limit - 0) unit_vectors new (subst (λ (xs : Lines). AddsTree n w (limit - 0) unit_vectors xs new) f a))
