use Rattle.unimodular_cone.proofs.AnswerUnique.{first_low_unique}
use Rattle.unimodular_cone.proofs.law.at_most_one_first_low.Goals as goal

pub returns : goal.returns
returns c = first_low_unique
