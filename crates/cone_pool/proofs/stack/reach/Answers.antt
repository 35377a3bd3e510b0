use Rattle.std.proofs.Common.{arith}
use Rattle.cone_pool.proofs.Putting.{more_cones}
use Rattle.cone_pool.proofs.stack.reach.Goals as goal

pub returns-then-find-clause-cones : goal.returns-then-find-clause-cones
returns-then-find-clause-cones c k there = c.requires k (c.find.ensures.fewer k there)

pub returns-in_default-clause-cones : goal.returns-in_default-clause-cones
returns-in_default-clause-cones c k there = c.requires k (c.find.ensures.fewer k there)

pub returns-in-Ok-clause-cones : goal.returns-in-Ok-clause-cones
returns-in-Ok-clause-cones c = rw c.in-Ok.ensures
    (more_cones _ _ _ _ _ _ (λ k there. c.requires k (c.find.ensures.fewer k there)) c.in-Some.ensures (omega arith))

pub returns-in-Err-clause-cones : goal.returns-in-Err-clause-cones
returns-in-Err-clause-cones c = rw c.in-Err.ensures (λ k there. c.requires k (c.find.ensures.fewer k there))
