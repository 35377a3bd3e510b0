use Rattle.cone_pool.proofs.Putting.{more_cones}
use Rattle.cone_pool.proofs.stack.ready.Goals as goal

pub returns-then-find-clause-cones : goal.returns-then-find-clause-cones
returns-then-find-clause-cones c k there = c.requires.cones k (c.find.ensures.fewer k there)

pub returns-clause-cones : goal.returns-clause-cones
returns-clause-cones c = rw c.in_ok-push.ensures
    (more_cones _ _ _ _ _ _ (λ k there. c.requires.cones k (c.find.ensures.fewer k there)) c.cone_in_tree-cone.ensures c.requires.tree.short)
