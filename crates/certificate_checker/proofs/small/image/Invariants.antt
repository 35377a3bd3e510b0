use Rattle.std.proofs.Common.{◌≡◌, length}
use Rattle.certificate_checker.specs.Rows.{numbers, at, AreFirst}
use Rattle.certificate_checker.specs.Dots.{rows_times}
use Rattle.certificate_checker.proofs.small.image.Given as goal

abbrev pub invariant-loop-i : goal.invariant-loop-i
invariant-loop-i l = record {
  room : length l.sums ≡ 8;
  sums : AreFirst l.i l.sums (rows_times l.n (at l.w) (numbers l.x));
}
