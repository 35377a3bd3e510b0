use Rattle.unimodular_cone.specs.BestPair.{best_pair}
use Rattle.unimodular_cone.specs.Cones.{best_in_row}
use Rattle.unimodular_cone.specs.Shown.{shown_gram}
use Rattle.unimodular_cone.proofs.BestPairs.{IsBestSoFar}
use Rattle.unimodular_cone.proofs.pair_rule.best_beyond.Given as goal

abbrev pub invariant-loop-column : goal.invariant-loop-column
invariant-loop-column g l =
    IsBestSoFar (shown_gram (g.C.ConeRead.cone l.c)) l.best (best_in_row (shown_gram (g.C.ConeRead.cone l.c)) l.row l.column (best_pair l.fn.before))
