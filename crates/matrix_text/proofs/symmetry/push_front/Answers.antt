use Rattle.std.proofs.Common.{arith}
use Rattle.matrix_text.specs.Matrix.{none}
use Rattle.matrix_text.specs.Rows.{table_entries}
use Rattle.text_lines.proofs.Mirrors.{front_more}
use Rattle.matrix_text.proofs.Symmetries.{length-row}
use Rattle.matrix_text.proofs.symmetry.push_front.Goals as goal

pub loop-column-preserved : goal.loop-column-preserved
loop-column-preserved c =
    front_more none (table_entries c.args.table.now) c.args.row c.loop-column.column _ c.args.lower.now.items c.loop-column.lower.items c.push.new.self.items
    (let len = length-row c.args.table.now c.args.row c.requires in omega (arith, len)) c.entry.ensures c.loop-column.invariant c.in_ok-push.ensures.items
