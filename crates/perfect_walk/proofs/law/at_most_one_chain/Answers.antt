use Rattle.perfect_walk.proofs.OneChain.{at_most_one_next, at_most_one_chain}
use Rattle.perfect_walk.proofs.law.at_most_one_chain.Goals as goal

pub returns : goal.returns
returns c = record { next = at_most_one_next; chain = at_most_one_chain }
