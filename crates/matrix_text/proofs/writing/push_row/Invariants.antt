use Rattle.matrix_text.specs.RationalMatrix.{rational_entry}
use Rattle.text_lines.proofs.Written.{IsWriting, columns}
use Rattle.matrix_text.proofs.Written.{row_word}
use Rattle.matrix_text.proofs.writing.push_row.Given as goal

abbrev pub invariant-loop-column : goal.invariant-loop-column
invariant-loop-column l = IsWriting l.fn.into.items l.into.items (columns (row_word (λ j. rational_entry l.a l.row j)) l.column)
