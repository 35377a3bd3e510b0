use Rattle.unimodular_cone.proofs.AnswerUnique.{first_open_unique}
use Rattle.unimodular_cone.proofs.law.at_most_one_first_open.Goals as goal

pub returns : goal.returns
returns c = first_open_unique
