-- Vectors of numbers, each at least 0, as lists.
--
--     coordinate x p      the number at place p, from 0; 0 past the end
--     IsNonzero n x       some number below place n is not 0
--     ComesBefore x y     strictly before in lexicographic order, for vectors of one length
--     IsIncreasing list   each vector of the list comes before the next
use Rattle.std.specs.Prelude.{ℕ, ℤ, pos, ◌<◌, ◌≡◌, ◌≢◌, ◌⊎◌, List, [], ◌∷◌, slice_index_or}

abbrev pub coordinate : List ℕ → ℕ → ℤ
coordinate x p = pos (slice_index_or x p 0)

abbrev pub IsNonzero : ℕ → List ℕ → Type 0
IsNonzero n x = (p : ℕ) × (p < n) × (coordinate x p ≢ pos 0)

abbrev pub ComesBefore : List ℕ → List ℕ → Type 0
ComesBefore [] y = ⊥
ComesBefore (a ∷ x) [] = ⊥
ComesBefore (a ∷ x) (b ∷ y) = (a < b) ⊎ ((a ≡ b) × ComesBefore x y)

abbrev pub IsIncreasing : List (List ℕ) → Type 0
IsIncreasing [] = Unit {0}
IsIncreasing (x ∷ []) = Unit {0}
IsIncreasing (x ∷ y ∷ rest) = ComesBefore x y × IsIncreasing (y ∷ rest)
