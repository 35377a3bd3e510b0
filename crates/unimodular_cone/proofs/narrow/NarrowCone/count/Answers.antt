use Rattle.std.proofs.Common.{subst}
use Rattle.unimodular_cone.specs.Narrow.{HasNarrowGram}
use Rattle.unimodular_cone.proofs.narrow.NarrowCone.count.Goals as goal

pub returns-clause-narrow : goal.returns-clause-narrow
returns-clause-narrow c = subst HasNarrowGram c.self.view_is c.self.invariant.narrow
