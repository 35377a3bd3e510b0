-- A cone has a child on each side of two generators, whether or not it is made.
use Rattle.std.specs.Prelude.{◌≡◌, ◌≢◌, ◌⊎◌, ℕ, ◌+◌, ◌<◌, ◌≤◌, ℤ, pos, ◌+ℤ◌, Bool, true, false, List, [], ◌∷◌, ◌++◌, map, slice_index_or}
use Rattle.std.specs.List.{range_with_len}
use Rattle.std.proofs.Common.{arith, refl, sym, ◌∙◌, ap, ap₂, inl, inr}
use Rattle.std.proofs.lemmas.List.FromFn.{get_or-map-range_with_len}
use Rattle.commutative_ring.proofs.SmallCases.{below_or_not, at_least_or_below, same_or_not}
use Rattle.exact_forms.specs.Slacks.{replaced}
use Rattle.exact_forms.specs.Triangles.{triangle, entry_in}
use Rattle.exact_forms.proofs.Slacks.{replaced_here, replaced_other}
use Rattle.exact_forms.proofs.Triangles.{entry_before, place_decides, entry_in_below, place_of}
use Rattle.unimodular_cone.specs.Paths.{Path}
use Rattle.unimodular_cone.specs.Cones.{Matrix, child, child_gram}
use Rattle.unimodular_cone.specs.Shown.{ShownCone, shown_gram, shown_coordinate, shown_generators, IsChild}
use Rattle.unimodular_cone.proofs.Additions.{child_gram_mirror}
use Rattle.unimodular_cone.proofs.ShownLaws.{shown_gram_mirror}

-- ---- the lower triangle of a matrix
entry_of : Matrix → (n k : ℕ) → ((k < triangle n) ⊎ (triangle n ≤ k)) → ℤ
entry_of g n k (inl l) = let r = place_of n k l in g r.0 r.1
entry_of g n k (inr l) = pos 0

entry_is : (g : Matrix) (n i j : ℕ) → j ≤ i → i < n → (k : ℕ) → k ≡ triangle i + j → (w : (k < triangle n) ⊎ (triangle n ≤ k)) → entry_of g n k w ≡ g i j
unfolding entry_of
entry_is g n i j le lt k is (inl l) = let r = place_of n k l in let e = place_decides r.0 r.1 i j r.3 le (sym r.4 ∙ is) in ap₂ g e.0 e.1
entry_is g n i j le lt k is (inr l) = absurd (let b : triangle i + j < triangle n = entry_before i j n le lt in omega arith)

abbrev entry_at : Matrix → ℕ → ℕ → ℤ
entry_at g n k = entry_of g n k (below_or_not k (triangle n))

abbrev lower_of : Matrix → ℕ → List ℤ
lower_of g n = map (entry_at g n) (range_with_len 0 (triangle n))

lower_at : (g : Matrix) (n i j : ℕ) → j ≤ i → i < n → entry_in (pos 0) (lower_of g n) i j ≡ g i j
lower_at g n i j le lt =
    entry_in_below (pos 0) (lower_of g n) i j le
    ∙ get_or-map-range_with_len (entry_at g n) 0 (triangle n) (triangle i + j) (triangle i + j) (pos 0) (entry_before i j n le lt) (omega arith)
    ∙ entry_is g n i j le lt (triangle i + j) refl (below_or_not (triangle i + j) (triangle n))

-- ---- the child in which the mediant of i and j takes the place of i
module _ (c : ShownCone) (i j : ℕ) (path : Path) where
  abbrev coordinate_of : ℕ → ℕ → ℕ
  coordinate_of = replaced (shown_coordinate c) i (λ p. shown_coordinate c i p + shown_coordinate c j p)

  abbrev rows : List (List ℕ)
  rows = map (λ k. map (coordinate_of k) (range_with_len 0 c.size)) (range_with_len 0 c.size)

  abbrev made : ShownCone
  made = record { size = c.size; path = path; lower = lower_of (child_gram (shown_gram c) i j) c.size; generators = rows }

  row_at : (k : ℕ) → k < c.size → slice_index_or rows k [] ≡ map (coordinate_of k) (range_with_len 0 c.size)
  row_at k lk = get_or-map-range_with_len (λ k. map (coordinate_of k) (range_with_len 0 c.size)) 0 c.size k k [] lk (omega arith)

  coordinate_made : (k p : ℕ) → k < c.size → p < c.size → slice_index_or (slice_index_or rows k []) p 0 ≡ coordinate_of k p
  coordinate_made k p lk lp =
      ap (λ (row : List ℕ). slice_index_or row p 0) (row_at k lk) ∙ get_or-map-range_with_len (coordinate_of k) 0 c.size p p 0 lp (omega arith)

  coordinate_is : (k p : ℕ) → pos (coordinate_of k p) ≡ child (λ a b. pos (shown_coordinate c a b)) i j k p
  coordinate_is k p = by (same_or_not k i)
    where
      whole : ℕ → ℕ → ℤ
      whole a b = pos (shown_coordinate c a b)

      by : ((k ≡ i) ⊎ (k ≢ i)) → pos (coordinate_of k p) ≡ child whole i j k p
      by (inl e) = ap (λ (row : ℕ → ℕ). pos (row p)) (replaced_here (shown_coordinate c) i (λ p. shown_coordinate c i p + shown_coordinate c j p) k e)
          ∙ ap (λ (row : ℕ → ℤ). row p) (sym (replaced_here whole i (λ p. whole i p +ℤ whole j p) k e))
      by (inr ne) = ap (λ (row : ℕ → ℕ). pos (row p)) (replaced_other (shown_coordinate c) i (λ p. shown_coordinate c i p + shown_coordinate c j p) k ne)
          ∙ ap (λ (row : ℕ → ℤ). row p) (sym (replaced_other whole i (λ p. whole i p +ℤ whole j p) k ne))

  generators_made : (k p : ℕ) → k < c.size → p < c.size → shown_generators made k p ≡ child (shown_generators c) i j k p
  unfolding shown_coordinate
  generators_made k p lk lp = ap pos (coordinate_made k p lk lp) ∙ coordinate_is k p

  below_made : (k l : ℕ) → l ≤ k → k < c.size → shown_gram made k l ≡ child_gram (shown_gram c) i j k l
  unfolding shown_gram
  below_made k l le lk = lower_at (child_gram (shown_gram c) i j) c.size k l le lk

  gram_made : (k l : ℕ) → k < c.size → l < c.size → shown_gram made k l ≡ child_gram (shown_gram c) i j k l
  gram_made k l lk ll = by (at_least_or_below k l)
    where
      by : ((l ≤ k) ⊎ (k < l)) → shown_gram made k l ≡ child_gram (shown_gram c) i j k l
      by (inl le) = below_made k l le lk
      by (inr lt) = shown_gram_mirror made k l ∙ below_made l k (omega arith) ll ∙ child_gram_mirror (shown_gram c) i j l k (shown_gram_mirror c)

pub any_child : (c : ShownCone) (i j : ℕ) (side : Bool) → (d : ShownCone) × IsChild c i j side d
any_child c i j false = (
  made c i j (c.path ++ false ∷ []),
  record {
    size = refl;
    path_is = refl;
    generators = generators_made c i j (c.path ++ false ∷ []);
    gram_is = gram_made c i j (c.path ++ false ∷ []);
  },
)
any_child c i j true = (
  made c j i (c.path ++ true ∷ []),
  record {
    size = refl;
    path_is = refl;
    generators = generators_made c j i (c.path ++ true ∷ []);
    gram_is = gram_made c j i (c.path ++ true ∷ []);
  },
)
