use Rattle.unimodular_cone.proofs.Minimum.{copositive_is}
use Rattle.unimodular_cone.proofs.law.copositive_holds.Goals as goal

pub returns : goal.returns
returns c = copositive_is
