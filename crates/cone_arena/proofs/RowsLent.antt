-- The rows of a block once a borrow of all of them has ended.
use Rattle.std.specs.Prelude.{◌≡◌, List, length, map, take, Some}
use Rattle.std.specs.List.{refill}
use Rattle.std.proofs.Common.{◌∙◌}
use Rattle.circular_buffer.specs.Places.{somes}
use Rattle.unimodular_cone.specs.Shown.{ShownCone}
use Rattle.cone_arena.specs.Lends.{with_slots, spliced}
use Rattle.cone_arena.specs.RowFields.{AreRows}
use Rattle.cone_arena.specs.declared.rows.Rows.TheInside.{Inside}
use Rattle.cone_arena.proofs.Laid.{rows_lent}

module _ (f : Inside) (xs ws : List ShownCone) where
  abbrev after : Inside
  after = record {
    written = f.written;
    room = f.room;
    base = f.base;
    cells = with_slots f.cells (spliced f.cells.slots 0 f.written (refill f.written (somes (take f.written f.cells.slots)) ws));
    deed = f.deed;
    alloc = f.alloc;
  }

  pub rows_kept : AreRows f → take f.written f.cells.slots ≡ map Some xs → length ws ≡ length xs → AreRows after × (somes after.cells.slots ≡ ws)
  rows_kept h seen same =
      let lent = rows_lent f.cells.slots f.written xs ws h.laid seen same in (
        record {
          laid = lent.0;
          places = lent.2 ∙ h.places;
          at = h.at;
          deed_at = h.deed_at;
          deed_len = h.deed_len;
          deed_alloc = h.deed_alloc;
        },
        lent.1,
      )
