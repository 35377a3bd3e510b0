use Rattle.unimodular_cone.specs.Shown.{shown_gram}
use Rattle.unimodular_cone.specs.Answer.{IsLeastDiagonal}
use Rattle.unimodular_cone.proofs.narrow_bound.least_of.Given as goal

abbrev pub invariant-loop-k : goal.invariant-loop-k
invariant-loop-k l = IsLeastDiagonal l.k (shown_gram l.c) l.least
