use Rattle.std.proofs.Common.{◌≡◌, take, length}
use Rattle.text_lines.proofs.Counted.{IsReading}
use Rattle.cone_tree_certificate.specs.ProofText.{missing_line, numbered_row}
use Rattle.cone_tree_certificate.specs.Rows.{seen_rows}
use Rattle.cone_tree_certificate.proofs.lines.rows_in.Given as goal

abbrev pub invariant-loop-index : goal.invariant-loop-index
invariant-loop-index l = record {
  reading :
      IsReading (numbered_row l.n) (missing_line l.fn.lines.end) l.n l.index (seen_rows l.n (take l.index l.rows)) l.fn.lines.lines l.lines.lines
      l.fn.lines.end l.lines.end;
  room : length l.rows ≡ 6;
}
