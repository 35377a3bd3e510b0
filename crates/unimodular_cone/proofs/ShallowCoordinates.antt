-- A coordinate of a narrow cone, and of a tree's cone, is at most two to the depth: of the root it is at most 1, and a mediant's is
-- a sum of two.
use Rattle.std.specs.Prelude.{◌≡◌, ◌≢◌, ◌⊎◌, ℕ, zero, suc, ◌<◌, ◌≤◌, ◌+◌, ◌*◌, ◌^◌, ℤ, pos, ◌+ℤ◌, ◌≤ℤ◌, ◌<ℤ◌, List, [], ◌∷◌, Bool, true, false, cond, eqb, length}
use Rattle.std.specs.Prelude.{Option, Some, None}
use Rattle.std.proofs.Common.{arith, ◌∙◌, ap, inl, inr, subst, sym}
use Rattle.std.proofs.Math.Nat.{pow-suc, pow-le-pow_right}
use Rattle.std.proofs.lemmas.Int.{ints}
use Rattle.commutative_ring.proofs.SmallCases.{same_or_not}
use Rattle.exact_forms.proofs.Slacks.{replaced_here, replaced_other}
use Rattle.symmetric_matrix.specs.Symmetric.{Symmetric, IsSymmetricMatrix}
use Rattle.unimodular_cone.specs.Paths.{Path}
use Rattle.unimodular_cone.specs.Cones.{Matrix, Generators, child, child_at, next_cone, cone_from, cone_at, pair_of, gram, unit_vectors, Coordinate, Gram}
use Rattle.unimodular_cone.specs.ConeFields.{shown_of}
use Rattle.unimodular_cone.specs.Mediant.{FitsWith}
use Rattle.unimodular_cone.specs.Narrow.{HasNarrowGram, HasShallowCoordinates}
use Rattle.unimodular_cone.specs.Replacement.{IsChildWith}
use Rattle.unimodular_cone.specs.RootNumbers.{IsLowerOf, AreUnitRows}
use Rattle.unimodular_cone.specs.Shown.{ShownCone, shown_generators, IsConeAt}
use Rattle.unimodular_cone.proofs.NarrowChildren.{child_within}
use Rattle.unimodular_cone.proofs.Roots.{start, coordinate_is}

pub root_is_shallow : (q : Symmetric) (lower : List ℤ) (rows : List (List ℕ)) (m : IsSymmetricMatrix q) (h : IsLowerOf q q.size lower) (u : AreUnitRows 8 rows)
    → HasShallowCoordinates (shown_of (start q lower rows m h u))
root_is_shallow q lower rows m h u k p lk lp = rw (coordinate_is q lower rows m h u k p lk lp) (by (eqb k p))
  where
    by : (t : Bool) → cond t (pos 1) (pos 0) ≤ℤ pos 1
    by true = omega (arith, ints)
    by false = omega (arith, ints)

sum_of_two : (x y : ℤ) (a b : ℕ) → x ≤ℤ pos a → y ≤ℤ pos a → b ≡ a * 2 → (x +ℤ y) ≤ℤ pos b
sum_of_two x y a b h k e = omega (arith, ints)

below_double : (x : ℤ) (a b : ℕ) → x ≤ℤ pos a → b ≡ a * 2 → x ≤ℤ pos b
below_double x a b h e = omega (arith, ints)

module _ (c : ShownCone) (r s : ℕ) (lr : r < c.size) (ls : s < c.size) (shallow : HasShallowCoordinates c) where
  abbrev most : ℕ
  most = 2 ^ suc (length c.path)

  doubled : most ≡ 2 ^ length c.path * 2
  doubled = pow-suc 2 (length c.path)

  child_coordinate : (k p : ℕ) → k < c.size → p < c.size → child (shown_generators c) r s k p ≤ℤ pos most
  child_coordinate k p lk lp = by (same_or_not k r)
    where
      by : ((k ≡ r) ⊎ (k ≢ r)) → child (shown_generators c) r s k p ≤ℤ pos most
      by (inl e) = rw (ap (λ (f : ℕ → ℤ). f p) (replaced_here (shown_generators c) r (λ p. shown_generators c r p +ℤ shown_generators c s p) k e))
          (sum_of_two _ _ _ _ (shallow r p lr lp) (shallow s p ls lp) doubled)
      by (inr ne) = rw (ap (λ (f : ℕ → ℤ). f p) (replaced_other (shown_generators c) r (λ p. shown_generators c r p +ℤ shown_generators c s p) k ne))
          (below_double _ _ _ (shallow k p lk lp) doubled)

  pub shallow_child : (path : Path) (d : ShownCone) → length path ≡ length c.path + 1 → IsChildWith c r s path d → HasShallowCoordinates d
  shallow_child path d longer is k p lk lp =
      let depth : length d.path ≡ suc (length c.path) = ap length is.path_is ∙ longer ∙ omega arith in
      let lk' : k < c.size = omega (arith, lk, is.size) in
      let lp' : p < c.size = omega (arith, lp, is.size) in
      rw (depth, is.generators k p lk' lp') (child_coordinate k p lk' lp')

  -- above depth 62 no coordinate of a child is over its limit, and of a narrow cone no Gram entry
  pub shallow_fits : HasNarrowGram c → length c.path < 62 → FitsWith c r s
  shallow_fits narrow short (Coordinate zero p) over = over
  shallow_fits narrow short (Coordinate (suc k) zero) over = over
  shallow_fits narrow short (Coordinate (suc k) (suc p)) (lk, lp, over) =
      not_both _ most (child_coordinate k p lk lp) (deep (length c.path) short) over
    where
      deep : (l : ℕ) → l < 62 → 2 ^ suc l ≤ 2 ^ 62
      deep l short = pow-le-pow_right {n = 2} (omega arith) {i = suc l} {j = 62} (omega (arith, short))

      not_both : (z : ℤ) (a : ℕ) → z ≤ℤ pos a → a ≤ 2 ^ 62 → pos (2 ^ 62) <ℤ z → ⊥
      not_both z a h k over = omega (arith, ints)
  shallow_fits narrow short (Gram zero j) over = over
  shallow_fits narrow short (Gram (suc i) zero) over = over
  shallow_fits narrow short (Gram (suc i) (suc j)) (li, le, over) = not_over _ (child_within c r s lr ls narrow i j li (omega (arith, li, le))) over
    where
      not_over : (a : ℕ) → a ≤ 2 ^ 100 → 2 ^ 100 < a → ⊥
      not_over a h over = omega arith

-- ---- the cones of a tree
module _ (n : ℕ) (q : Matrix) where
  child_shallow : (v : Generators) (i j a : ℕ) → ((k p : ℕ) → v k p ≤ℤ pos (2 ^ a)) → (k p : ℕ) → child v i j k p ≤ℤ pos (2 ^ suc a)
  child_shallow v i j a h k p = by (same_or_not k i)
    where
      by : ((k ≡ i) ⊎ (k ≢ i)) → child v i j k p ≤ℤ pos (2 ^ suc a)
      by (inl e) = rw (ap (λ (f : ℕ → ℤ). f p) (replaced_here v i (λ p. v i p +ℤ v j p) k e)) (sum_of_two _ _ _ _ (h i p) (h j p) (pow-suc 2 a))
      by (inr ne) = rw (ap (λ (f : ℕ → ℤ). f p) (replaced_other v i (λ p. v i p +ℤ v j p) k ne)) (below_double _ _ _ (h k p) (pow-suc 2 a))

  next_shallow : (o : Option (ℕ × ℕ)) (v : Generators) (side : Bool) (a : ℕ) → ((k p : ℕ) → v k p ≤ℤ pos (2 ^ a)) → (k p : ℕ)
      → child_at o v side k p ≤ℤ pos (2 ^ suc a)
  next_shallow None v side a h k p = below_double _ _ _ (h k p) (pow-suc 2 a)
  next_shallow (Some (i, j)) v false a h k p = child_shallow v i j a h k p
  next_shallow (Some (i, j)) v true a h k p = child_shallow v j i a h k p

  from_shallow : (path : Path) (v : Generators) (a : ℕ) → ((k p : ℕ) → v k p ≤ℤ pos (2 ^ a)) → (k p : ℕ)
      → cone_from n q v path k p ≤ℤ pos (2 ^ (a + length path))
  unfolding cone_from
  from_shallow [] v a h k p = subst (λ (l : ℕ). v k p ≤ℤ pos (2 ^ l)) (omega arith) (h k p)
  from_shallow (side ∷ path) v a h k p =
      subst (λ (l : ℕ). cone_from n q (next_cone n q v side) path k p ≤ℤ pos (2 ^ l)) (omega arith)
      (from_shallow path (next_cone n q v side) (suc a) (next_shallow (pair_of n (gram n q v)) v side a h) k p)

  unit_shallow : (k p : ℕ) → unit_vectors k p ≤ℤ pos (2 ^ 0)
  unit_shallow k p = by (eqb k p)
    where
      by : (t : Bool) → cond t (pos 1) (pos 0) ≤ℤ pos (2 ^ 0)
      by true = omega (arith, ints)
      by false = omega (arith, ints)

  pub shown_shallow : (path : Path) (c : ShownCone) → IsConeAt n q path c → HasShallowCoordinates c
  shown_shallow path c at k p lk lp =
      let lk' : k < n = omega (arith, lk, at.cone.size) in
      let lp' : p < n = omega (arith, lp, at.cone.size) in
      subst (λ (z : ℤ). z ≤ℤ pos (2 ^ length c.path)) (sym (at.cone.generators k p lk' lp'))
      (subst (λ (w : Path). cone_at n q path k p ≤ℤ pos (2 ^ length w)) (sym at.path_is)
      (subst (λ (l : ℕ). cone_at n q path k p ≤ℤ pos (2 ^ l)) (omega arith) (from_shallow path unit_vectors 0 unit_shallow k p)))
