use Rattle.exact_forms.proofs.Factors.{separated_not_factored}
use Rattle.exact_forms.proofs.law.separated_is_not_factored.Goals as goal

pub returns : goal.returns
returns c = separated_not_factored
