-- What the places end as, once a `&mut` into them has ended.
--
--     with_slots c cs        c with the places cs
--     spliced cs from len ws    cs with the values ws in the places from there on, len of them
--     lends_run R c from len r  the places follow what the borrow of len of them from there on ends as
use Rattle.std.specs.Prelude.{ℕ, ◌+◌, List, ◌++◌, map, take, drop, Option, Some}
use Rattle.std.specs.Borrow.{Fml, RattleType, MutBor, Array, Lends}
use Rattle.std.specs.List.{refill}
use Rattle.circular_buffer.specs.Places.{somes}
use Rattle.cone_arena.specs.declared.cells.Cells.{Cells}
use Rattle.cone_arena.specs.contracts.cells.Cells.{the_row}

module _ {X : Type 0} where
  abbrev pub with_slots : Cells X → List (Option X) → Cells X
  with_slots c cs = record { mark = c.mark; at = c.at; slots = cs }

  abbrev pub spliced : List (Option X) → ℕ → ℕ → List X → List (Option X)
  spliced cs from len ws = take from cs ++ (map Some ws ++ drop (from + len) cs)

abbrev pub lends_run : (R : RattleType) → MutBor (Cells R.Denot) → ℕ → ℕ → MutBor (List R.Denot) → Fml
lends_run R c from len r =
    Lends (the_row R) (Array R 0) c r
    (λ ws. with_slots c.now
    (spliced c.now.slots from len (refill len (somes (take len (drop from c.now.slots))) ws)))
