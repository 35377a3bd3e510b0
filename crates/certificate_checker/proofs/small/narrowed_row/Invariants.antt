use Rattle.std.proofs.Common.{◌≡◌, ◌^◌, length}
use Rattle.certificate_checker.specs.Rows.{numbers, AreFirst}
use Rattle.certificate_checker.specs.Small.{AreSmall}
use Rattle.certificate_checker.proofs.small.narrowed_row.Given as goal

abbrev pub invariant-loop-k : goal.invariant-loop-k
invariant-loop-k l = record {
  room : length l.narrow ≡ 8;
  same : AreFirst l.k l.narrow (numbers l.row);
  small : AreSmall l.k (2 ^ 40) (numbers l.row);
}
