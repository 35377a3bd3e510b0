use Rattle.walk_verdict.proofs.FirstCone.{first_cone_is_factored}
use Rattle.walk_verdict.proofs.law.first_cone_is_factored.Goals as goal

pub returns : goal.returns
returns c = first_cone_is_factored
