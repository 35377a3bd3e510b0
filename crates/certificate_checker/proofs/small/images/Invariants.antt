use Rattle.std.proofs.Common.{◌≡◌, length}
use Rattle.certificate_checker.specs.Rows.{at}
use Rattle.certificate_checker.specs.Dots.{image_rows}
use Rattle.certificate_checker.proofs.RowSets.{AgreeInRows}
use Rattle.certificate_checker.proofs.small.images.Given as goal

abbrev pub invariant-loop-k : goal.invariant-loop-k
invariant-loop-k l = record {
  room : length l.images ≡ 8;
  same : AgreeInRows l.n l.k l.images (image_rows l.n (at l.w) (at l.v));
}
