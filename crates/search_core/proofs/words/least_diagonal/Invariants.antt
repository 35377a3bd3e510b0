use Rattle.symmetric_matrix.specs.Symmetric.{entry}
use Rattle.unimodular_cone.specs.Answer.{IsLeastDiagonal}
use Rattle.search_core.proofs.words.least_diagonal.Given as goal

abbrev pub invariant-loop-k : goal.invariant-loop-k
invariant-loop-k l = IsLeastDiagonal l.k (entry l.q) l.least
