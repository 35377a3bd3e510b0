use Rattle.std.proofs.Common.{◌≡◌, None, length}
use Rattle.symmetric_matrix.specs.Owed.{first_owed}
use Rattle.symmetric_matrix.specs.Operations.{is_owed}
use Rattle.certificate_checker.specs.Loops.{steps}
use Rattle.certificate_checker.specs.Rows.{numbers, at, AreFirst}
use Rattle.certificate_checker.specs.Dots.{rows_times}
use Rattle.certificate_checker.proofs.DotSums.{times_step}
use Rattle.certificate_checker.proofs.dots.times.Given as goal

abbrev pub invariant-loop-i : goal.invariant-loop-i
invariant-loop-i l = record {
  room : length l.sums ≡ 8;
  fits : first_owed is_owed (steps (times_step l.n (at l.rows) (numbers l.x)) l.i) ≡ None;
  sums : AreFirst l.i l.sums (rows_times l.n (at l.rows) (numbers l.x));
}
