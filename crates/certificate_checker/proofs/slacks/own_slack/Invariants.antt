use Rattle.std.proofs.Common.{◌≡◌, ◌-ℤ◌}
use Rattle.exact_forms.specs.Sums.{sum_to}
use Rattle.exact_forms.specs.Slacks.{shortfall}
use Rattle.certificate_checker.specs.Rows.{numbers}
use Rattle.certificate_checker.proofs.slacks.own_slack.Given as goal

abbrev pub invariant-loop-a : goal.invariant-loop-a
invariant-loop-a l = record { left : l.left ≡ numbers l.row l.last -ℤ sum_to l.a (λ c. shortfall (numbers l.row c)) }
