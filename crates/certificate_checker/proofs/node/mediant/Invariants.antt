use Rattle.std.proofs.Common.{◌≡◌, ◌+ℤ◌, None, length}
use Rattle.symmetric_matrix.specs.Owed.{first_owed}
use Rattle.symmetric_matrix.specs.Operations.{is_owed}
use Rattle.certificate_checker.specs.Loops.{steps}
use Rattle.certificate_checker.specs.Rows.{at, AreFirst}
use Rattle.certificate_checker.proofs.TreeWalks.{mediant_step}
use Rattle.certificate_checker.proofs.node.mediant.Given as goal

abbrev pub invariant-loop-p : goal.invariant-loop-p
invariant-loop-p l = record {
  room : length l.sums ≡ 8;
  fits : first_owed is_owed (steps (mediant_step (at l.v) l.i l.j) l.p) ≡ None;
  sums : AreFirst l.p l.sums (λ p. at l.v l.i p +ℤ at l.v l.j p);
}
