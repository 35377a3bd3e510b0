use Rattle.std.proofs.Common.{arith}
use Rattle.unimodular_cone.proofs.RootCopies.{placed_below, entry_from_one, row_copied_more}
use Rattle.unimodular_cone.proofs.root_numbers.copy_row.Goals as goal

pub loop-column-preserved : goal.loop-column-preserved
loop-column-preserved c =
    row_copied_more c.args.q.now c.args.row c.loop-column.column c.place_of.result c.args.lower.now c.loop-column.lower c.get.result c.loop-column.invariant
    c.told-lower (omega arith) (omega (arith, c.n-n.ensures.matrix.small))
    (placed_below c.args.row c.loop-column.column c.place_of.result (omega arith) c.place_of.ensures.place)
    (entry_from_one c.args.q.now c.args.row c.loop-column.column c.get.result c.get.ensures.value) c.get.ensures.fits
