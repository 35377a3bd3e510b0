use Rattle.std.proofs.Common.{◌≡◌}
use Rattle.certificate_checker.specs.Rows.{numbers}
use Rattle.certificate_checker.specs.Dots.{dot}
use Rattle.certificate_checker.proofs.slacks.dot.Given as goal

abbrev pub invariant-loop-k : goal.invariant-loop-k
invariant-loop-k l = record { sum : l.sum ≡ dot l.k (numbers l.x) (numbers l.y) }
