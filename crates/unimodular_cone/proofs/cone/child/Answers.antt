use Rattle.std.proofs.Common.{arith}
use Rattle.unimodular_cone.proofs.ShownAt.{reaches_child, shows_child}
use Rattle.unimodular_cone.proofs.cone.child.Goals as goal

pub returns-clause-reached : goal.returns-clause-reached
returns-clause-reached c = reaches_child _ _ _ _ _ c.child_on.ensures.made c.child_on.ensures.wide

pub returns-clause-exact : goal.returns-clause-exact
returns-clause-exact c =
    shows_child _ _ _ _ _ (omega (arith, c.requires.first, c.requires.order, c.requires.last))
    (omega (arith, c.requires.first, c.requires.order, c.requires.last)) c.child_on.ensures.made c.child_on.ensures.wide
