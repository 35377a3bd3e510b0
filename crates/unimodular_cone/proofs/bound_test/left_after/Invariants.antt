use Rattle.unimodular_cone.specs.Shown.{shown_gram}
use Rattle.unimodular_cone.specs.PartSlack.{IsPartSlack}
use Rattle.unimodular_cone.proofs.bound_test.left_after.Given as goal

abbrev pub invariant-loop-j : goal.invariant-loop-j
invariant-loop-j g l = IsPartSlack (shown_gram (g.C.ConeRead.cone l.c)) l.i l.j l.left
