use Rattle.std.proofs.Common.{◌<◌, ◌∙◌, ◌+◌, length, slice_set, arith, sym, refl, length-set}
use Rattle.symmetric_matrix.specs.Symmetric.{entry}
use Rattle.symmetric_matrix.proofs.Places.{entry_flip}
use Rattle.certificate_checker.proofs.RowSets.{AgreeInRows, row_more}
use Rattle.certificate_checker.proofs.rows.rows_of.Goals as goal

pub loop-i-init : goal.loop-i-init
loop-i-init c = record { room = refl; rows = λ i p l m. absurd (omega arith) }

pub loop-i-preserved : goal.loop-i-preserved
loop-i-preserved c =
    let few : c.loop-i.i < 8 = omega (arith, c.n-n.ensures.matrix.small) in
    let room : c.loop-i.i < length c.loop-i.rows = omega (arith, c.loop-i.invariant.room) in
    let written : AgreeInRows c.args.w.now.size (c.loop-i.i + 1) (slice_set c.loop-i.rows c.loop-i.i c.row_of.result) (entry c.args.w.now) =
    row_more c.args.w.now.size c.loop-i.i c.loop-i.rows c.row_of.result (entry c.args.w.now) c.loop-i.invariant.rows room c.row_of.ensures in
    record {
      room = length-set c.loop-i.rows c.from.result _ ∙ c.loop-i.invariant.room;
      rows = rw c.from.ensures written;
    }

pub returns-clause-symmetric : goal.returns-clause-symmetric
returns-clause-symmetric c = λ i j li lj. c.loop-i.invariant.rows i j (omega arith) lj ∙ entry_flip c.args.w.now i j
    ∙ sym (c.loop-i.invariant.rows j i (omega arith) li)
