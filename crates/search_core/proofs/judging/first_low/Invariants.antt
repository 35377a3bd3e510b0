use Rattle.std.proofs.Common.{ℕ, ◌<◌}
use Rattle.unimodular_cone.specs.Tree.{IsLowValue}
use Rattle.unimodular_cone.specs.Shown.{shown_gram}
use Rattle.search_core.proofs.judging.first_low.Given as goal

abbrev pub invariant-loop-k : goal.invariant-loop-k
invariant-loop-k g l = (i : ℕ) → i < l.k → ¬ IsLowValue l.mode (shown_gram (g.C.ConeRead.cone l.c) i i)
