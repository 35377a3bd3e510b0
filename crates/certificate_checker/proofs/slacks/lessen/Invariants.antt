use Rattle.std.proofs.Common.{◌≡◌, ◌≤◌, ◌-ℤ◌, ℕ, length}
use Rattle.exact_forms.specs.Slacks.{shortfall}
use Rattle.certificate_checker.specs.Rows.{numbers, AreFirst}
use Rattle.certificate_checker.proofs.slacks.lessen.Given as goal

abbrev pub invariant-loop-a : goal.invariant-loop-a
invariant-loop-a l = record {
  room : length l.slacks ≡ 8;
  before : AreFirst l.a l.slacks (λ c. numbers l.initial.slacks c -ℤ shortfall (numbers l.row c));
  after : (c : ℕ) → l.a ≤ c → numbers l.slacks c ≡ numbers l.initial.slacks c;
}
