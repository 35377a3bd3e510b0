use Rattle.std.proofs.Common.{◌≡◌, length}
use Rattle.certificate_checker.specs.Rows.{numbers, AreFirst}
use Rattle.certificate_checker.proofs.small.widened_row.Given as goal

abbrev pub invariant-loop-k : goal.invariant-loop-k
invariant-loop-k l = record {
  room : length l.wide ≡ 8;
  same : AreFirst l.k l.wide (numbers l.row);
}
