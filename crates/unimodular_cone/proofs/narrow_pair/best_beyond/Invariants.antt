use Rattle.unimodular_cone.specs.BestPair.{best_pair}
use Rattle.unimodular_cone.specs.Cones.{best_in_row}
use Rattle.unimodular_cone.specs.Narrow.{as_best}
use Rattle.unimodular_cone.specs.Shown.{shown_gram}
use Rattle.unimodular_cone.proofs.BestPairs.{IsBestSoFar}
use Rattle.unimodular_cone.proofs.narrow_pair.best_beyond.Given as goal

abbrev pub invariant-loop-column : goal.invariant-loop-column
invariant-loop-column l = IsBestSoFar (shown_gram l.c) (as_best l.best) (best_in_row (shown_gram l.c) l.row l.column (best_pair (as_best l.fn.before)))
