use Rattle.unimodular_cone.proofs.AnswerUnique.{final_bound_unique}
use Rattle.unimodular_cone.proofs.law.at_most_one_final_bound.Goals as goal

pub returns : goal.returns
returns c = final_bound_unique
