use Rattle.std.proofs.Common.{◌≡◌, ◌+ℤ◌, length}
use Rattle.certificate_checker.specs.Rows.{numbers, AreFirst}
use Rattle.certificate_checker.proofs.small.sums_of.Given as goal

abbrev pub invariant-loop-p : goal.invariant-loop-p
invariant-loop-p l = record {
  room : length l.sums ≡ 8;
  sums : AreFirst l.p l.sums (λ p. numbers l.x p +ℤ numbers l.y p);
}
