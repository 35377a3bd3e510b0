use Rattle.std.proofs.Common.{◌^◌}
use Rattle.certificate_checker.specs.Rows.{numbers}
use Rattle.certificate_checker.specs.Small.{AreSmall}
use Rattle.certificate_checker.proofs.small.is_small.Given as goal

abbrev pub invariant-loop-k : goal.invariant-loop-k
invariant-loop-k l = record { small : AreSmall l.k (2 ^ 19) (numbers l.row) }
