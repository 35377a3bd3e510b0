-- Rows of eight numbers each, as the program keeps matrices and generators.
--
--     numbers xs          the number at a place
--     at rows             the number at a row and a place
--     flipped rows        the number at a place and a row
--     AreFirst n xs f     the first n numbers are those of f
--     AgreeBelow n v w    the two have the same numbers in the first n places of the first n rows
--     from_half f         f on the diagonal and before it, mirrored
use Rattle.std.specs.Prelude.{◌≡◌, ℕ, ◌<◌, nat_le, if◌then◌else◌, ℤ, pos, List, [], slice_index_or}

abbrev pub numbers : List ℤ → ℕ → ℤ
numbers xs p = slice_index_or xs p (pos 0)

abbrev pub at : List (List ℤ) → ℕ → ℕ → ℤ
at rows k = numbers (slice_index_or rows k [])

abbrev pub flipped : List (List ℤ) → ℕ → ℕ → ℤ
flipped rows a b = at rows b a

abbrev pub AreFirst : ℕ → List ℤ → (ℕ → ℤ) → Type 0
AreFirst n xs f = (p : ℕ) → p < n → numbers xs p ≡ f p

abbrev pub AgreeBelow : ℕ → (ℕ → ℕ → ℤ) → (ℕ → ℕ → ℤ) → Type 0
AgreeBelow n v w = (k p : ℕ) → k < n → p < n → v k p ≡ w k p

abbrev pub from_half : (ℕ → ℕ → ℤ) → ℕ → ℕ → ℤ
from_half f a c = if nat_le c a then f a c else f c a
