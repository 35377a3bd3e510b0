use Rattle.std.proofs.Common.{◌≡◌}
use Rattle.exact_linear.proofs.SquareLists.{squares_until}
use Rattle.exact_lp.proofs.squares.columns.Given as goal

abbrev pub invariant-loop-k : goal.invariant-loop-k
invariant-loop-k l = l.columns.items ≡ squares_until l.vectors l.k
