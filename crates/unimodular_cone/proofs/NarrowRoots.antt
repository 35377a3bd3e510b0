-- The root's cone of a narrow matrix is narrow, and within its limits; so is a cone whose entries are narrow.
use Rattle.std.specs.Prelude.{◌⊎◌, ℕ, zero, suc, ◌<◌, ◌≤◌, ◌+◌, ◌^◌, take, slice_index_or, ℤ, pos, ◌<ℤ◌, nat_abs, List, Bool, true, false, cond, eqb}
use Rattle.std.proofs.Common.{arith, inl, inr}
use Rattle.std.proofs.lemmas.Int.{ints}
use Rattle.std.proofs.lemmas.List.{get_or-take}
use Rattle.commutative_ring.proofs.SmallCases.{at_least_or_below}
use Rattle.exact_forms.specs.Triangles.{triangle, entry_in}
use Rattle.exact_forms.proofs.Triangles.{entry_before, entry_in_below, entry_in_above}
use Rattle.symmetric_matrix.specs.Symmetric.{Symmetric, entry, IsSymmetricMatrix}
use Rattle.symmetric_matrix.proofs.Places.{entry_flip}
use Rattle.unimodular_cone.specs.Cones.{unit_vectors, FitsLimits, Coordinate, Gram}
use Rattle.unimodular_cone.specs.declared.cone.Cone.TheInside.{Inside}
use Rattle.unimodular_cone.specs.ConeFields.{shown_of}
use Rattle.unimodular_cone.specs.Shown.{shown_gram}
use Rattle.unimodular_cone.specs.Narrow.{HasNarrowGram, IsNarrowMatrix}
use Rattle.unimodular_cone.specs.RootNumbers.{IsLowerOf, AreUnitRows}
use Rattle.unimodular_cone.proofs.Roots.{start, entry_is}

unit_small : (k p : ℕ) → ¬ (pos (2 ^ 62) <ℤ unit_vectors k p)
unit_small k p over = by (eqb k p) over
  where
    by : (t : Bool) → pos (2 ^ 62) <ℤ cond t (pos 1) (pos 0) → ⊥
    by true h = omega (arith, ints)
    by false h = omega (arith, ints)

pub narrow_fits : (q : Symmetric) → IsNarrowMatrix q → FitsLimits q.size unit_vectors (entry q)
narrow_fits q narrow (Coordinate zero p) over = over
narrow_fits q narrow (Coordinate (suc k) zero) over = over
narrow_fits q narrow (Coordinate (suc k) (suc p)) (lk, lp, over) = unit_small k p over
narrow_fits q narrow (Gram zero j) over = over
narrow_fits q narrow (Gram (suc i) zero) over = over
narrow_fits q narrow (Gram (suc i) (suc j)) (li, le, over) = not_both (nat_abs (entry q i j)) (narrow i j le li) over
  where
    not_both : (a : ℕ) → a ≤ 2 ^ 59 → 2 ^ 100 < a → ⊥
    not_both a h k = omega arith

pub root_is_narrow : (q : Symmetric) (lower : List ℤ) (rows : List (List ℕ)) (m : IsSymmetricMatrix q) (h : IsLowerOf q q.size lower) (u : AreUnitRows 8 rows)
    → IsNarrowMatrix q → HasNarrowGram (shown_of (start q lower rows m h u))
root_is_narrow q lower rows m h u narrow i j li lj = rw (entry_is q lower rows m h u i j li lj) (by (at_least_or_below i j))
  where
    by : ((j ≤ i) ⊎ (i < j)) → nat_abs (entry q i j) ≤ 2 ^ 59
    by (inl le) = narrow i j le li
    by (inr lt) = rw (entry_flip q i j) (narrow j i (omega arith) lj)

pub entries_narrow : (c : Inside) → ((k : ℕ) → k < triangle c.n → nat_abs (slice_index_or c.gram k (pos 0)) ≤ 2 ^ 59) → HasNarrowGram (shown_of c)
unfolding shown_gram
entries_narrow c small i j li lj = by (at_least_or_below i j)
  where
    by : ((j ≤ i) ⊎ (i < j)) → nat_abs (entry_in (pos 0) (take (triangle c.n) c.gram) i j) ≤ 2 ^ 59
    by (inl le) =
        let before : triangle i + j < triangle c.n = entry_before i j c.n le li in
        rw (entry_in_below (pos 0) (take (triangle c.n) c.gram) i j le, get_or-take (triangle c.n) c.gram (triangle i + j) (pos 0) before)
        (small (triangle i + j) before)
    by (inr lt) =
        let before : triangle j + i < triangle c.n = entry_before j i c.n (omega arith) lj in
        rw (entry_in_above (pos 0) (take (triangle c.n) c.gram) i j (omega arith), get_or-take (triangle c.n) c.gram (triangle j + i) (pos 0) before)
        (small (triangle j + i) before)
