use Rattle.std.specs.Prelude.{◌≤◌, ◌^◌, nat_abs}
use Rattle.std.proofs.Common.{arith}
use Rattle.symmetric_matrix.specs.Symmetric.{entry}
use Rattle.unimodular_cone.proofs.NarrowSums.{read_from_128}
use Rattle.unimodular_cone.proofs.RootCopies.{placed_below, entry_from_one, row_placed_more}
use Rattle.unimodular_cone.proofs.narrow_numbers.copy_row.Goals as goal

pub loop-column-preserved : goal.loop-column-preserved
loop-column-preserved c =
    let le : c.loop-column.column ≤ c.args.row = omega arith in
    let small : nat_abs (entry c.args.q.now c.args.row c.loop-column.column) ≤ 2 ^ 59 = c.requires.narrow c.args.row c.loop-column.column le c.requires.row in
    let is = entry_from_one c.args.q.now c.args.row c.loop-column.column c.get.result c.get.ensures.value in
    row_placed_more c.args.q.now c.args.row c.loop-column.column c.place_of.result c.args.lower.now c.loop-column.lower _ c.loop-column.invariant c.told-lower
    le (omega (arith, c.n-n.ensures.matrix.small)) (placed_below c.args.row c.loop-column.column c.place_of.result le c.place_of.ensures.place)
    (read_from_128 _ _ is small)
