use Rattle.unimodular_cone.specs.Cones.{best_in_rows}
use Rattle.unimodular_cone.specs.Narrow.{as_best}
use Rattle.unimodular_cone.specs.Shown.{shown_gram}
use Rattle.unimodular_cone.proofs.BestPairs.{IsBestSoFar}
use Rattle.unimodular_cone.proofs.narrow_pair.pair_of.Given as goal

abbrev pub invariant-loop-row : goal.invariant-loop-row
invariant-loop-row l = IsBestSoFar (shown_gram l.c) (as_best l.best) (best_in_rows (shown_gram l.c) l.n l.row)
