use Rattle.symmetric_matrix.proofs.Combinations.{IsCombinedTo}
use Rattle.symmetric_matrix.proofs.combining.combine_lower.Given as goal

abbrev pub invariant-loop-k : goal.invariant-loop-k
invariant-loop-k l = IsCombinedTo l.q (record { size = l.n; lower = l.lower }) l.p (record { size = l.n; lower = l.other }) l.k l.sums.items
