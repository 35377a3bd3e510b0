use Rattle.unimodular_cone.proofs.Pairs.{pair_of_some, pair_of_none, pair_is, none_is}
use Rattle.unimodular_cone.proofs.law.pair_is_first_least.Goals as goal

pub returns : goal.returns
returns c = record { some = pair_of_some; is_some = pair_is; none = pair_of_none; is_none = none_is }
