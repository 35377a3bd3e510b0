use Rattle.std.proofs.Common.{◌≡◌, ◌-◌, take, length}
use Rattle.text_lines.specs.Lines.{words}
use Rattle.matrix_text.specs.Matrix.{row_of_words}
use Rattle.text_lines.proofs.Fronts.{after_front}
use Rattle.matrix_text.proofs.rows.row_in.Given as goal

abbrev pub invariant-loop-column : goal.invariant-loop-column
invariant-loop-column l = record {
  so_far : after_front (take l.column l.row) (row_of_words (l.size - l.column) l.words) ≡ row_of_words l.size (words l.line);
  room : length l.row ≡ 6;
}
