use Rattle.std.proofs.Common.{◌∙◌}
use Rattle.matrix_text.proofs.Symmetries.{entry_at-entries}
use Rattle.matrix_text.proofs.symmetry.entry.Goals as goal

pub returns : goal.returns
returns c = c.index-entries-column.is
    ∙ entry_at-entries c.args.table.now c.args.row c.args.column c.index-table-row.result c.index-entries-column.result c.requires.row c.requires.column
