use Rattle.unimodular_cone.specs.Shown.{shown_gram}
use Rattle.unimodular_cone.specs.Narrow.{IsNarrowPart}
use Rattle.unimodular_cone.proofs.narrow_bound.left_after.Given as goal

abbrev pub invariant-loop-j : goal.invariant-loop-j
invariant-loop-j l = IsNarrowPart (shown_gram l.c) l.i l.j l.left
