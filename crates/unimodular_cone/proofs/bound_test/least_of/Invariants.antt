use Rattle.unimodular_cone.specs.Shown.{shown_gram}
use Rattle.unimodular_cone.specs.Answer.{IsLeastDiagonal}
use Rattle.unimodular_cone.proofs.bound_test.least_of.Given as goal

abbrev pub invariant-loop-k : goal.invariant-loop-k
invariant-loop-k g l = IsLeastDiagonal l.k (shown_gram (g.C.ConeRead.cone l.c)) l.least
