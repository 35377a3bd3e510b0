use Rattle.std.proofs.Common.{◌≡◌, length}
use Rattle.certificate_checker.specs.Rows.{at}
use Rattle.certificate_checker.proofs.RowSets.{AgreeInRows}
use Rattle.certificate_checker.proofs.small.widened.Given as goal

abbrev pub invariant-loop-k : goal.invariant-loop-k
invariant-loop-k l = record {
  room : length l.wide ≡ 8;
  same : AgreeInRows 8 l.k l.wide (at l.rows);
}
