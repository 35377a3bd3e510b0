use Rattle.std.specs.Prelude.{int_le}
use Rattle.std.specs.List.{list_all, range_with_len}
use Rattle.std.proofs.Common.{◌≡◌, true, pos}
use Rattle.exact_forms.specs.Slacks.{slack}
use Rattle.certificate_checker.specs.Rows.{at, from_half}
use Rattle.certificate_checker.specs.Dots.{products_with}
use Rattle.certificate_checker.proofs.slacks.is_closed.Given as goal

abbrev pub invariant-loop-a : goal.invariant-loop-a
invariant-loop-a l =
    record { closed : list_all (λ a. int_le (pos 0) (slack l.n (from_half (products_with l.n (at l.v) (at l.images))) a)) (range_with_len 0 l.a) ≡ true }
