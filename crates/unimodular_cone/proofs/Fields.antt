-- What a cone's fields show.
use Rattle.std.specs.Prelude.{◌≡◌, ◌⊎◌, ℕ, zero, suc, ◌<◌, ◌≤◌, ◌+◌, max, min, pos, List, [], ◌∷◌, take, map, slice_index_or}
use Rattle.std.proofs.Common.{arith, sym, ◌∙◌, ap, ap₂, refl, inl, inr}
use Rattle.commutative_ring.proofs.SmallCases.{at_least_or_below}
use Rattle.exact_forms.specs.Triangles.{triangle}
use Rattle.exact_forms.proofs.Triangles.{entry_in_below, entry_before}
use Rattle.unimodular_cone.specs.declared.cone.Cone.TheInside.{Inside}
use Rattle.unimodular_cone.specs.ConeFields.{shown_of}
use Rattle.unimodular_cone.specs.Shown.{ShownCone, shown_gram, shown_coordinate}
use Rattle.unimodular_cone.proofs.ShownLaws.{shown_gram_mirror}

at-take : {A : Type 0} (xs : List A) (n k : ℕ) (none : A) → k < n → slice_index_or (take n xs) k none ≡ slice_index_or xs k none
at-take [] zero k none l = absurd (omega arith)
at-take [] (suc n) k none l = refl
at-take (x ∷ xs) zero k none l = absurd (omega arith)
at-take (x ∷ xs) (suc n) zero none l = refl
at-take (x ∷ xs) (suc n) (suc k) none l = at-take xs n k none (omega arith)

take-none : (n : ℕ) → take {A = ℕ} n [] ≡ []
take-none zero = refl
take-none (suc n) = refl

at-map-take : (xs : List (List ℕ)) (n k : ℕ) → slice_index_or (map (take n) xs) k [] ≡ take n (slice_index_or xs k [])
at-map-take [] n k = sym (take-none n)
at-map-take (x ∷ xs) n zero = refl
at-map-take (x ∷ xs) n (suc k) = at-map-take xs n k

pub coordinate_shown : (c : Inside) (k p : ℕ) → k < c.n → p < c.n → shown_coordinate (shown_of c) k p ≡ slice_index_or (slice_index_or c.generators k []) p 0
unfolding shown_coordinate
coordinate_shown c k p lk lp =
    ap (λ (row : List ℕ). slice_index_or row p 0) (at-map-take (take c.n c.generators) c.n k)
    ∙ at-take (slice_index_or (take c.n c.generators) k []) c.n p 0 lp
    ∙ ap (λ (row : List ℕ). slice_index_or row p 0) (at-take c.generators c.n k [] lk)

pub gram_shown : (c : Inside) (i j : ℕ) → j ≤ i → i < c.n → shown_gram (shown_of c) i j ≡ slice_index_or c.gram (triangle i + j) (pos 0)
unfolding shown_gram
gram_shown c i j le li = entry_in_below (pos 0) (take (triangle c.n) c.gram) i j le
    ∙ at-take c.gram (triangle c.n) (triangle i + j) (pos 0) (entry_before i j c.n le li)

-- at a row and a column in either at_least_or_below
pub gram_placed : (c : Inside) (i j : ℕ) → i < c.n → j < c.n → slice_index_or c.gram (triangle (max i j) + min i j) (pos 0) ≡ shown_gram (shown_of c) i j
gram_placed c i j li lj = by (at_least_or_below i j)
  where
    by : ((j ≤ i) ⊎ (i < j)) → slice_index_or c.gram (triangle (max i j) + min i j) (pos 0) ≡ shown_gram (shown_of c) i j
    by (inl le) =
        let a : max i j ≡ i = omega arith in
        let b : min i j ≡ j = omega arith in
        rw (a, b) (sym (gram_shown c i j le li))
    by (inr lt) =
        let a : max i j ≡ j = omega arith in
        let b : min i j ≡ i = omega arith in
        rw (a, b) (sym (gram_shown c j i (omega arith) lj) ∙ shown_gram_mirror (shown_of c) j i)

-- what a cone that is shown reads of the fields
pub gram_read : (a : Inside) (c : ShownCone) (at i j : ℕ) → shown_of a ≡ c → at ≡ triangle (max i j) + min i j → i < c.size → j < c.size
    → slice_index_or a.gram at (pos 0) ≡ shown_gram c i j
gram_read a c at i j seen place li lj =
    let size : a.n ≡ c.size = ap (λ (s : ShownCone). s.size) seen in
    ap (λ (w : ℕ). slice_index_or a.gram w (pos 0)) place ∙ gram_placed a i j (omega arith) (omega arith) ∙ ap (λ (s : ShownCone). shown_gram s i j) seen

pub coordinate_read : (a : Inside) (c : ShownCone) (at at' k p : ℕ) → shown_of a ≡ c → at ≡ k → at' ≡ p → k < c.size → p < c.size
    → slice_index_or (slice_index_or a.generators at []) at' 0 ≡ shown_coordinate c k p
coordinate_read a c at at' k p seen here there lk lp =
    let size : a.n ≡ c.size = ap (λ (s : ShownCone). s.size) seen in
    sym (coordinate_shown a at at' (omega arith) (omega arith)) ∙ ap (λ (s : ShownCone). shown_coordinate s at at') seen
    ∙ ap₂ (λ (x : ℕ) (y : ℕ). shown_coordinate c x y) here there

pub triangle_8 : triangle 8 ≡ 36
unfolding triangle
triangle_8 = refl

pub place_below : (i j : ℕ) → j ≤ i → i < 8 → triangle i + j < 36
place_below i j le l = let b : triangle i + j < triangle 8 = entry_before i j 8 le l in let t = triangle_8 in omega arith
