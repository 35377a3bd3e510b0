use Rattle.std.proofs.Common.{◌≡◌, ◌++◌}
use Rattle.cone_tree_certificate.proofs.WrittenLines.{entry_word}
use Rattle.cpfactor_lines.proofs.Comments.{cells}
use Rattle.cpfactor_lines.proofs.trace.push_row.Given as goal

abbrev pub invariant-loop-column : goal.invariant-loop-column
invariant-loop-column l = l.into.items ≡ l.initial.into.items ++ cells (entry_word l.matrix l.row) l.column
