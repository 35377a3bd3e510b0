-- What holds of all answers of the way along a ray.
--
--     AtMostOneNeighbour   of two answers that fit a line, a depth, a first vector and a budget, one is OutOfMemory or
--                          they are the same. So each kind of answer comes exactly where it fits, want of memory aside
use Rattle.std.specs.Prelude.{◌≡◌, ◌⊎◌, ℕ, List}
use Rattle.contiguous.specs.declared.neighbour.Neighbour.{Neighbour}
use Rattle.contiguous.specs.declared.neighbour.Neighbour.TheVariants as neighbour
use Rattle.contiguous.specs.Tightenings.{Line, IsNeighbourAnswer}

abbrev pub AtMostOneNeighbour : Type 0
AtMostOneNeighbour =
    (l : Line) (D : ℕ) (w : List ℕ) (budget : ℕ) (a b : Neighbour)
    → IsNeighbourAnswer l D w budget a → IsNeighbourAnswer l D w budget b
    → (a ≡ b) ⊎ ((a ≡ neighbour.OutOfMemory) ⊎ (b ≡ neighbour.OutOfMemory))
