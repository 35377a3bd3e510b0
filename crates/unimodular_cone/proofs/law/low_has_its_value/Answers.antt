use Rattle.unimodular_cone.proofs.Minimum.{low_is}
use Rattle.unimodular_cone.proofs.law.low_has_its_value.Goals as goal

pub returns : goal.returns
returns c = low_is
