use Rattle.std.proofs.Common.{◌≡◌, ◌^◌, length}
use Rattle.certificate_checker.specs.Rows.{at}
use Rattle.certificate_checker.specs.Small.{AreSmallRows}
use Rattle.certificate_checker.proofs.RowSets.{AgreeInRows}
use Rattle.certificate_checker.proofs.small.narrowed.Given as goal

abbrev pub invariant-loop-i : goal.invariant-loop-i
invariant-loop-i l = record {
  room : length l.narrow ≡ 8;
  same : AgreeInRows l.n l.i l.narrow (at l.rows);
  small : AreSmallRows l.n l.i (2 ^ 40) (at l.rows);
}
