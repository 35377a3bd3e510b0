use Rattle.contiguous.proofs.OneNeighbour.{one_neighbour}
use Rattle.contiguous.proofs.law.at_most_one_neighbour.Goals as goal

pub returns : goal.returns
returns c = one_neighbour
