use Rattle.std.proofs.Common.{[], ◌∷◌}
use Rattle.cone_pool.proofs.Carrying.{restacked, kept_it}
use Rattle.cone_pool.proofs.member.Member.handle.Goals as goal

pub reach-requires : goal.reach-requires
reach-requires c = c.requires.part.cones

pub returns-then-not-reach-clause-part : goal.returns-then-not-reach-clause-part
returns-then-not-reach-clause-part c =
    kept_it _ _ _ _ c.args.path _ c.add.new.self c.uncount.new.seat c.add.ensures c.uncount.ensures
    (restacked _ _ _ _ (c.args.path ∷ []) c.args.self.now c.reach.new.stack c.reach.ensures.cones c.requires.part)

pub treat-requires-clause-part : goal.treat-requires-clause-part
treat-requires-clause-part c = restacked _ _ _ _ (c.args.path ∷ []) c.args.self.now c.reach.new.stack c.reach.ensures.cones c.requires.part
