use Rattle.std.proofs.Common.{◌≡◌, ◌-◌, take, length}
use Rattle.text_lines.specs.Lines.{words}
use Rattle.text_lines.proofs.Fronts.{after_front}
use Rattle.cone_tree_certificate.specs.Words.{signed_row}
use Rattle.cone_tree_certificate.proofs.line.row.Given as goal

abbrev pub invariant-loop-column : goal.invariant-loop-column
invariant-loop-column l = record {
  so_far : after_front (take l.column l.row) (signed_row (l.n - l.column) l.words) ≡ signed_row l.n (words l.line);
  room : length l.row ≡ 6;
}
