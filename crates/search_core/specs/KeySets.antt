-- A set of keys, and the table beside it.
--
--     ShownKeys           the keys, in increasing order
--     shown_keys s        those of a set's fields
--     IsBlank x           the first number of x is over the limit of coordinates, so x is no generator's key
--     IsBlankTable rows   each of 64 rows is blank
--     IsKeySet s          each row of the table is in the set, or blank
use Rattle.std.specs.Prelude.{ℕ, ◌<◌, ◌^◌, ◌≡◌, ◌⊎◌, List, [], length, slice_index_or}
use Rattle.std.specs.List.{Contains}
use Rattle.search_core.specs.declared.key_set.KeySet.TheInside.{Inside}

pub record ShownKeys : Type 0 where
  pub keys : List (List ℕ)

abbrev pub shown_keys : Inside → ShownKeys
shown_keys s = record { keys = s.set.keys }

abbrev pub IsBlank : List ℕ → Type 0
IsBlank x = 2 ^ 62 < slice_index_or x 0 0

pub record IsBlankTable (rows : List (List ℕ)) : Type 0 where
  pub count : length rows ≡ 64
  pub blank : (k : ℕ) → k < 64 → IsBlank (slice_index_or rows k [])

pub record IsKeySet (s : Inside) : Type 0 where
  pub rows : length s.table ≡ 64
  pub there : (k : ℕ) → k < 64
      → Contains s.set.keys (slice_index_or s.table k []) ⊎ IsBlank (slice_index_or s.table k [])
