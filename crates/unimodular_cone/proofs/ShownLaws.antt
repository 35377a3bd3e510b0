-- What the limits say of a shown cone, and its symmetry.
use Rattle.std.specs.Prelude.{◌≡◌, ℕ, suc, ◌<◌, ◌≤◌, ◌^◌, nat_abs, ◌⊎◌}
use Rattle.std.proofs.Common.{arith, refl, inl, inr}
use Rattle.commutative_ring.proofs.SmallCases.{test_of_at_least, test_of_below, three_ways, pos_less}
use Rattle.exact_forms.specs.Triangles.{entry_in}
use Rattle.unimodular_cone.specs.Cones.{Coordinate, Gram}
use Rattle.unimodular_cone.specs.Shown.{ShownCone, shown_gram, shown_coordinate, IsWithinLimits}

pub shown_gram_mirror : (c : ShownCone) (i j : ℕ) → shown_gram c i j ≡ shown_gram c j i
unfolding shown_gram entry_in
shown_gram_mirror c i j = by (three_ways i j)
  where
    by : ((i < j) ⊎ ((i ≡ j) ⊎ (j < i))) → shown_gram c i j ≡ shown_gram c j i
    by (inl h) = rw (test_of_below i j h, test_of_at_least j i (omega arith)) refl
    by (inr (inl e)) = rw e refl
    by (inr (inr h)) = rw (test_of_below j i h, test_of_at_least i j (omega arith)) refl

pub at_most : (a b : ℕ) → ¬ (b < a) → a ≤ b
at_most a b h = grind arith

pub gram_within : (c : ShownCone) (i j : ℕ) → IsWithinLimits c → i < c.size → j < c.size → nat_abs (shown_gram c i j) ≤ 2 ^ 100
gram_within c i j w li lj = by (three_ways i j)
  where
    below : (i j : ℕ) → i < c.size → j ≤ i → nat_abs (shown_gram c i j) ≤ 2 ^ 100
    below i j li le = at_most _ _ (λ over. w.fits (Gram (suc i) (suc j)) (li, le, over))

    by : ((i < j) ⊎ ((i ≡ j) ⊎ (j < i))) → nat_abs (shown_gram c i j) ≤ 2 ^ 100
    by (inl h) = rw (shown_gram_mirror c i j) (below j i lj (omega arith))
    by (inr (inl e)) = below i j li (omega arith)
    by (inr (inr h)) = below i j li (omega arith)

pub coordinate_within : (c : ShownCone) (k p : ℕ) → IsWithinLimits c → k < c.size → p < c.size → shown_coordinate c k p ≤ 2 ^ 62
coordinate_within c k p w lk lp = at_most _ _ (λ over. w.fits (Coordinate (suc k) (suc p)) (lk, lp, pos_less (2 ^ 62) _ over))
