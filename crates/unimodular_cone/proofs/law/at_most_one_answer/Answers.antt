use Rattle.unimodular_cone.proofs.AnswerUnique.{answer_unique}
use Rattle.unimodular_cone.proofs.law.at_most_one_answer.Goals as goal

pub returns : goal.returns
returns c = answer_unique
