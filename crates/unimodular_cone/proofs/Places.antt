-- The table of the places in a lower triangle.
use Rattle.std.specs.Prelude.{◌≡◌, ℕ, zero, suc, ◌<◌, ◌+◌, max, min, List, [], ◌∷◌, slice_index_or}
use Rattle.std.proofs.Common.{arith, refl}
use Rattle.exact_forms.specs.Triangles.{triangle}

-- what holds of each number below 8
below_8 : (P : ℕ → Type 0) → P 0 → P 1 → P 2 → P 3 → P 4 → P 5 → P 6 → P 7 → (k : ℕ) → k < 8 → P k
below_8 P a b c d e f g h zero l = a
below_8 P a b c d e f g h (suc zero) l = b
below_8 P a b c d e f g h (suc (suc zero)) l = c
below_8 P a b c d e f g h (suc (suc (suc zero))) l = d
below_8 P a b c d e f g h (suc (suc (suc (suc zero)))) l = e
below_8 P a b c d e f g h (suc (suc (suc (suc (suc zero))))) l = f
below_8 P a b c d e f g h (suc (suc (suc (suc (suc (suc zero)))))) l = g
below_8 P a b c d e f g h (suc (suc (suc (suc (suc (suc (suc zero))))))) l = h
below_8 P a b c d e f g h (suc (suc (suc (suc (suc (suc (suc (suc k)))))))) l = absurd (omega arith)

abbrev pub places : List (List ℕ)
places = (0 ∷ 1 ∷ 3 ∷ 6 ∷ 10 ∷ 15 ∷ 21 ∷ 28 ∷ []) ∷ (1 ∷ 2 ∷ 4 ∷ 7 ∷ 11 ∷ 16 ∷ 22 ∷ 29 ∷ []) ∷ (3 ∷ 4 ∷ 5 ∷ 8 ∷ 12 ∷ 17 ∷ 23 ∷ 30 ∷ [])
    ∷ (6 ∷ 7 ∷ 8 ∷ 9 ∷ 13 ∷ 18 ∷ 24 ∷ 31 ∷ []) ∷ (10 ∷ 11 ∷ 12 ∷ 13 ∷ 14 ∷ 19 ∷ 25 ∷ 32 ∷ []) ∷ (15 ∷ 16 ∷ 17 ∷ 18 ∷ 19 ∷ 20 ∷ 26 ∷ 33 ∷ [])
    ∷ (21 ∷ 22 ∷ 23 ∷ 24 ∷ 25 ∷ 26 ∷ 27 ∷ 34 ∷ []) ∷ (28 ∷ 29 ∷ 30 ∷ 31 ∷ 32 ∷ 33 ∷ 34 ∷ 35 ∷ []) ∷ []

abbrev IsPlaceAt : ℕ → ℕ → Type 0
IsPlaceAt row column = slice_index_or (slice_index_or places row []) column 0 ≡ triangle (max row column) + min row column

in_row : (row : ℕ) → IsPlaceAt row 0 → IsPlaceAt row 1 → IsPlaceAt row 2 → IsPlaceAt row 3 → IsPlaceAt row 4 → IsPlaceAt row 5 → IsPlaceAt row 6
    → IsPlaceAt row 7 → (column : ℕ) → column < 8 → IsPlaceAt row column
in_row row = below_8 (IsPlaceAt row)

pub place_read : (row column : ℕ) → row < 8 → column < 8 → IsPlaceAt row column
unfolding triangle
place_read row column lr lc = below_8 (λ (k : ℕ). (l : ℕ) → l < 8 → IsPlaceAt k l)
    (in_row 0 refl refl refl refl refl refl refl refl)
    (in_row 1 refl refl refl refl refl refl refl refl)
    (in_row 2 refl refl refl refl refl refl refl refl)
    (in_row 3 refl refl refl refl refl refl refl refl)
    (in_row 4 refl refl refl refl refl refl refl refl)
    (in_row 5 refl refl refl refl refl refl refl refl)
    (in_row 6 refl refl refl refl refl refl refl refl)
    (in_row 7 refl refl refl refl refl refl refl refl)
    row lr column lc
