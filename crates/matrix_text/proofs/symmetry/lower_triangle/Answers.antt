use Rattle.std.proofs.Common.{arith}
use Rattle.matrix_text.specs.Rows.{table_entries}
use Rattle.text_lines.proofs.Mirrors.{lower_none, lower_step, lower_end}
use Rattle.matrix_text.proofs.Symmetries.{length-entries}
use Rattle.matrix_text.proofs.symmetry.lower_triangle.Goals as goal

pub loop-row-init : goal.loop-row-init
loop-row-init c = lower_none c.new-lower.result.items c.new-lower.ensures.items

pub loop-row-preserved : goal.loop-row-preserved
loop-row-preserved c =
    let len = length-entries c.args.table.now in
    lower_step (table_entries c.args.table.now) c.loop-row.row c.loop-row.lower.items c.push_front.new.lower.items (omega (arith, len)) c.loop-row.invariant
    c.in_ok-push_front.ensures

pub returns : goal.returns
returns c =
    let len = length-entries c.args.table.now in
    lower_end (table_entries c.args.table.now) c.loop-row.row c.loop-row.lower.items (omega (arith, len)) c.loop-row.invariant
