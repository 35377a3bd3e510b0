-- The fields of the rows of a block, and what they show.
--
--     IsLaid slots written   the places hold cones up to there and are empty from there on; somes slots are those cones
--     shown_rows f           the cones in its places, and how many places there are
--     AreRows f              its places are laid so, they are the block that its pointer names, and the right to free it is at hand
use Rattle.std.specs.Prelude.{ℕ, ◌≡◌, ◌≤◌, ◌-◌, List, ◌++◌, length, map, replicate, Option, Some, None}
use Rattle.circular_buffer.specs.Places.{somes}
use Rattle.unimodular_cone.specs.Shown.{ShownCone}
use Rattle.cone_arena.specs.declared.rows.Rows.TheInside.{Inside}
use Rattle.cone_arena.specs.ShownRows.{ShownRows}

pub record IsLaid (slots : List (Option ShownCone)) (written : ℕ) : Type 0 where
  pub laid : slots ≡ map Some (somes slots) ++ replicate (length slots - written) None
  pub count : length (somes slots) ≡ written
  pub within : written ≤ length slots

abbrev pub shown_rows : Inside → ShownRows
shown_rows f = record { items = somes f.cells.slots; room = f.room }

pub record AreRows (f : Inside) : Type 0 where
  pub laid : IsLaid f.cells.slots f.written
  pub places : length f.cells.slots ≡ f.room
  pub at : f.cells.at ≡ f.base.ptr
  pub deed_at : f.deed.at ≡ f.base.ptr
  pub deed_len : f.deed.len ≡ f.room
  pub deed_alloc : f.deed.alloc ≡ f.alloc
