use Rattle.std.proofs.Common.{sym}
use Rattle.text_lines.specs.Square.{first_unlike}
use Rattle.matrix_text.specs.Matrix.{none, same_number}
use Rattle.matrix_text.specs.Rows.{table_entries}
use Rattle.text_lines.proofs.Squares.{length-lower}
use Rattle.matrix_text.proofs.Symmetries.{square-entries}
use Rattle.matrix_text.proofs.Readings.{symmetric-table}
use Rattle.matrix_text.proofs.reading.matrix_in.Goals as goal

pub of_triangle-requires-clause-triangle : goal.of_triangle-requires-clause-triangle
of_triangle-requires-clause-triangle c =
    rw c.in_ok-lower.ensures (length-lower c.args.table.now.size (table_entries c.args.table.now) (square-entries c.args.table.now))

pub returns-clause-ok : goal.returns-clause-ok
returns-clause-ok c =
    rw (
      c.of_triangle.ensures,
      c.in_ok-lower.ensures,
    )
    (symmetric-table c.args.table.now (first_unlike same_number none (table_entries c.args.table.now)) (sym c.in_default.ensures.first))
