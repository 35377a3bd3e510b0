use Rattle.contiguous.specs.Tightenings.{line_along}
use Rattle.contiguous.proofs.Ways.{IsOnWay}
use Rattle.contiguous.proofs.walking.next_perfect.Given as goal

abbrev pub invariant-loop : goal.invariant-loop
invariant-loop g l = IsOnWay (line_along l.p_matrix l.mu l.r_matrix) l.limit l.below l.counter l.steps l.vector
