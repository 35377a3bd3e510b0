use Rattle.text_lines.proofs.Written.{IsWriting, columns}
use Rattle.cone_tree_certificate.proofs.WrittenLines.{entry_word}
use Rattle.cone_tree_certificate.proofs.writing.push_row.Given as goal

abbrev pub invariant-loop-column : goal.invariant-loop-column
invariant-loop-column l = IsWriting l.fn.into.items l.into.items (columns (entry_word l.w l.row) l.column)
