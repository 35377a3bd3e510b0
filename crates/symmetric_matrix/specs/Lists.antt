-- Vectors of nonnegative whole numbers, and lists of them, as contracts see them.
--
--     IsVector x           1 to 8 coordinates, each at most 2^62
--     IsVectorList list    vectors of one length, in increasing lexicographic order
--     CanFollow list x     x is as long as each vector of the list, and greater than the last
use Rattle.std.specs.Prelude.{◌≡◌, ℕ, ◌+◌, ◌<◌, ◌≤◌, ◌^◌, List, [], length, slice_index, slice_index_or}
use Rattle.exact_forms.specs.Vectors.{ComesBefore, IsIncreasing}

pub record IsVector (x : List ℕ) : Type 0 where
  pub nonempty : 1 ≤ length x
  pub short : length x ≤ 8
  pub small : (p : ℕ) → p < length x → slice_index x p ≤ 2 ^ 62

pub record IsVectorList (list : List (List ℕ)) : Type 0 where
  pub one_length : (k l : ℕ) → k < length list → l < length list
      → length (slice_index_or list k []) ≡ length (slice_index_or list l [])
  pub increasing : IsIncreasing list

pub record CanFollow (list : List (List ℕ)) (x : List ℕ) : Type 0 where
  pub one_length : (k : ℕ) → k < length list → length (slice_index_or list k []) ≡ length x
  pub greater : (k : ℕ) → k + 1 ≡ length list → ComesBefore (slice_index_or list k []) x
