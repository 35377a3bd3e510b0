use Rattle.std.proofs.Common.{◌≡◌}
use Rattle.exact_linear.specs.Squares.{named}
use Rattle.exact_linear.proofs.SquareLists.{squares_until}
use Rattle.extreme_ray.proofs.start.columns.Given as goal

abbrev pub invariant-loop-i : goal.invariant-loop-i
invariant-loop-i l = l.columns.items ≡ squares_until (named l.vectors l.names) l.i
