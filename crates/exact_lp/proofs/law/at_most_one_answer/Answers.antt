use Rattle.exact_lp.proofs.OneAnswer.{one_answer}
use Rattle.exact_lp.proofs.law.at_most_one_answer.Goals as goal

pub returns : goal.returns
returns c = one_answer
