use Rattle.unimodular_cone.specs.Cones.{best_in_rows}
use Rattle.unimodular_cone.specs.Shown.{shown_gram}
use Rattle.unimodular_cone.proofs.BestPairs.{IsBestSoFar}
use Rattle.unimodular_cone.proofs.pair_rule.pair_of.Given as goal

abbrev pub invariant-loop-row : goal.invariant-loop-row
invariant-loop-row g l = IsBestSoFar (shown_gram (g.C.ConeRead.cone l.c)) l.best (best_in_rows (shown_gram (g.C.ConeRead.cone l.c)) l.n l.row)
