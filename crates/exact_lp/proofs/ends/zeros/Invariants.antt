use Rattle.std.proofs.Common.{◌+◌}
use Rattle.exact_linear.proofs.Seeking.{IsGathered}
use Rattle.exact_lp.specs.Placement.{zeros_of, is_basic_vector}
use Rattle.exact_lp.proofs.ends.zeros.Given as goal

abbrev pub invariant-loop-vector : goal.invariant-loop-vector
invariant-loop-vector l = IsGathered (zeros_of l.tableau l.vectors) l.zeros (is_basic_vector l.tableau) l.vector (0 + l.vectors)
