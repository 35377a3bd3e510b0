use Rattle.std.proofs.Common.{◌≡◌, length}
use Rattle.certificate_checker.specs.Rows.{numbers, at, AreFirst}
use Rattle.certificate_checker.specs.Dots.{rows_times}
use Rattle.certificate_checker.proofs.slacks.write_row.Given as goal

abbrev pub invariant-loop-a : goal.invariant-loop-a
invariant-loop-a l = record {
  room : length l.row ≡ 8;
  row : AreFirst l.a l.row (rows_times l.n (at l.v) (numbers l.image));
}
