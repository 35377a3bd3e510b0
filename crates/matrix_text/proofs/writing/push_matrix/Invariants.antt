use Rattle.text_lines.proofs.Written.{IsWriting}
use Rattle.matrix_text.proofs.Written.{begun}
use Rattle.matrix_text.proofs.writing.push_matrix.Given as goal

abbrev pub invariant-loop-row : goal.invariant-loop-row
invariant-loop-row l = IsWriting l.fn.into.items l.into.items (begun l.a l.row)
