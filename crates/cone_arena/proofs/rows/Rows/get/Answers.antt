use Rattle.std.specs.Prelude.{◌≡◌, length}
use Rattle.std.proofs.Common.{arith, ap, sym}
use Rattle.circular_buffer.specs.Places.{somes}
use Rattle.cone_arena.specs.ShownRows.{ShownRows}
use Rattle.cone_arena.proofs.Laid.{row_there}
use Rattle.cone_arena.proofs.rows.Rows.get.Goals as goal

pub get-requires : goal.get-requires
get-requires c =
    let same : length (somes c.self.inside.cells.slots) ≡ length c.args.self.now.items = ap (λ (r : ShownRows). length r.items) c.self.view_is in
    (sym c.self.invariant.at, row_there c.self.inside.cells.slots c.self.inside.written c.args.k c.self.invariant.laid (omega (arith, c.requires, same)))
