use Rattle.walk_verdict.proofs.Verdicts.{verdict_is_right}
use Rattle.walk_verdict.proofs.law.verdict_is_right.Goals as goal

pub returns : goal.returns
returns c = verdict_is_right
