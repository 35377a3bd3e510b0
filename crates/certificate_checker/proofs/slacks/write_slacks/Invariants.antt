use Rattle.std.proofs.Common.{◌≡◌, length}
use Rattle.certificate_checker.specs.Rows.{at, AreFirst, from_half}
use Rattle.certificate_checker.specs.Dots.{products_with}
use Rattle.certificate_checker.specs.Leaves.{lessened}
use Rattle.certificate_checker.proofs.slacks.write_slacks.Given as goal

abbrev pub invariant-loop-b : goal.invariant-loop-b
invariant-loop-b l = record {
  row_room : length l.row ≡ 8;
  room : length l.slacks ≡ 8;
  slacks : AreFirst l.b l.slacks (λ a. lessened (from_half (products_with l.n (at l.v) (at l.images))) a l.b);
}
