use Rattle.std.proofs.Common.{arith, pos}
use Rattle.std.proofs.lemmas.Int.{to_z-of_z}
use Rattle.cone_tree_certificate.proofs.Symmetries.{entry_at-entries}
use Rattle.cone_tree_certificate.proofs.symmetry.entry.Goals as goal

pub returns : goal.returns
returns c = grind (
  arith,
  to_z-of_z,
  entry_at-entries c.args.table.now c.args.row c.args.column c.index-table-row.result (pos 0) c.requires.row c.requires.column,
)
