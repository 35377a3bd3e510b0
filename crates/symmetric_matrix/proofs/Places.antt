-- Where an entry stands in a lower triangle.
use Rattle.std.specs.Prelude.{◌≡◌, ℕ, zero, suc, ◌+◌, ◌-◌, ◌*◌, ◌/◌, ◌<◌, ◌≤◌, ◌⊎◌, ℤ, pos, length, slice_index_or, min, max}
use Rattle.std.proofs.Common.{arith, sym, ◌∙◌, ap, inl, inr}
use Rattle.std.proofs.lemmas.List.{get_or_default}
use Rattle.commutative_ring.proofs.SmallCases.{at_least_or_at_most}
use Rattle.exact_forms.specs.Triangles.{triangle}
use Rattle.exact_forms.proofs.Triangles.{twice_triangle, entry_before, entry_in_below, entry_in_symmetric}
use Rattle.symmetric_matrix.specs.Symmetric.{Symmetric, FitsInt, IsSymmetricMatrix, entry}

pub half_is_triangle : (r : ℕ) → r * (r - 1) / 2 ≡ triangle (r - 1)
half_is_triangle zero = let e = twice_triangle 0 in omega arith
half_is_triangle (suc n) = let before : suc n - 1 ≡ n = omega arith in let e = twice_triangle n in rw before (omega arith)

pub entry_lower : (q : Symmetric) (i j : ℕ) → j ≤ i → entry q i j ≡ slice_index_or q.lower (triangle i + j) (pos 0)
unfolding entry
entry_lower q i j h = entry_in_below (pos 0) q.lower i j h

pub entry_flip : (q : Symmetric) (i j : ℕ) → entry q i j ≡ entry q j i
unfolding entry
entry_flip q i j = entry_in_symmetric (pos 0) q.lower i j

-- the entry by the larger and the smaller of its places
pub entry_sorted : (q : Symmetric) (i j : ℕ) → entry q i j ≡ slice_index_or q.lower (triangle (max i j) + min i j) (pos 0)
entry_sorted q i j = by (at_least_or_at_most i j)
  where
    by : ((j ≤ i) ⊎ (i ≤ j)) → entry q i j ≡ slice_index_or q.lower (triangle (max i j) + min i j) (pos 0)
    by (inl h) = let a : max i j ≡ i = omega arith in let b : min i j ≡ j = omega arith in rw (a, b) (entry_lower q i j h)
    by (inr h) = let a : max i j ≡ j = omega arith in let b : min i j ≡ i = omega arith in rw (a, b) (entry_flip q i j ∙ entry_lower q j i h)

pub entry_narrow : (q : Symmetric) → IsSymmetricMatrix q → (i j : ℕ) → i < q.size → j < q.size → FitsInt (entry q i j)
entry_narrow q m i j hi hj =
    let inside : triangle (max i j) + min i j < triangle q.size = entry_before (max i j) (min i j) q.size (omega arith) (omega arith) in
    rw (entry_sorted q i j) (m.triangle.fits (triangle (max i j) + min i j) (omega (arith, m.triangle.entries)))

-- where row r, column c, counted from 1, stand in the triangle
pub place_in_range : (q : Symmetric) → IsSymmetricMatrix q → (r c k : ℕ) → 1 ≤ r → r ≤ q.size → 1 ≤ c → c ≤ q.size
    → k ≡ triangle (max r c - 1) + (min r c - 1) → k < length q.lower
place_in_range q m r c k hr lr hc lc e = omega (arith, m.triangle.entries, entry_before (max r c - 1) (min r c - 1) q.size (omega arith) (omega arith))

-- and what is read there
pub read_is_entry : (s q : Symmetric) → s ≡ q → IsSymmetricMatrix s → (r c k : ℕ) (z : ℤ) → 1 ≤ r → r ≤ q.size → 1 ≤ c → c ≤ q.size
    → k ≡ triangle (max r c - 1) + (min r c - 1) → z ≡ slice_index_or s.lower k z → z ≡ entry q (r - 1) (c - 1)
read_is_entry s q same m r c k z hr lr hc lc e h =
    let size : s.size ≡ q.size = ap (λ (q : Symmetric). q.size) same in
    let inside : k < length s.lower = place_in_range s m r c k hr (omega arith) hc (omega arith) e in
    let a : max (r - 1) (c - 1) ≡ max r c - 1 = omega arith in
    let b : min (r - 1) (c - 1) ≡ min r c - 1 = omega arith in
    h ∙ get_or_default s.lower k z (pos 0) inside
    ∙ ap (λ (k : ℕ). slice_index_or s.lower k (pos 0)) e
    ∙ ap (λ (q : Symmetric). slice_index_or q.lower (triangle (max r c - 1) + (min r c - 1)) (pos 0)) same
    ∙ sym (rw (a, b) at (entry_sorted q (r - 1) (c - 1)))
