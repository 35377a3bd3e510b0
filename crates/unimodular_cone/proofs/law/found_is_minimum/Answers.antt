use Rattle.unimodular_cone.proofs.Minimum.{minimum_is}
use Rattle.unimodular_cone.proofs.law.found_is_minimum.Goals as goal

pub returns : goal.returns
returns c = minimum_is
