use Rattle.std.proofs.Common.{◌≡◌}
use Rattle.exact_linear.specs.Squares.{square_rows}
use Rattle.exact_linear.proofs.squares.square.Given as goal

abbrev pub invariant-loop-row : goal.invariant-loop-row
invariant-loop-row l = l.lower.items ≡ square_rows l.x l.row
