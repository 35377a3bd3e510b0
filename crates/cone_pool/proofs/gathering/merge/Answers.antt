use Rattle.cone_pool.proofs.Merging.{merged}
use Rattle.cone_pool.proofs.gathering.merge.Goals as goal

pub returns : goal.returns
returns c = merged _ _ c.drain.new.to _ _ _ c.in_ok-drain.ensures c.in_ok-unkeep.ensures c.in_ok-append.ensures c.join.ensures.seat c.requires.tokens
