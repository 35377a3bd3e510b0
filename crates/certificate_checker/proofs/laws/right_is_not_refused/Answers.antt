use Rattle.certificate_checker.proofs.NotRefused.{right_not_refused}
use Rattle.certificate_checker.proofs.laws.right_is_not_refused.Goals as goal

pub returns : goal.returns
returns c = right_not_refused
