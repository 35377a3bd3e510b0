use Rattle.std.proofs.Common.{Some}
use Rattle.cone_pool.proofs.Taking.{took_nothing, then_take, stolen, names, in_range}
use Rattle.cone_pool.proofs.member.Member.steal.Goals as goal

pub loop-k-init : goal.loop-k-init
loop-k-init c = (took_nothing _, c.requires)

pub steal-requires-clause-same : goal.steal-requires-clause-same
steal-requires-clause-same c = names _ _ _ _ c.loop-k.invariant.1 c.loop-k-test.true c.index-thieves-k.is

pub returns-in-Some : goal.returns-in-Some
returns-in-Some c = then_take _ _ _ _ c.loop-k.invariant.0
    (stolen c.loop-k.self c.loop-k.k (Some c.in-Some.path) c.steal.new.self (in_range _ _ _ c.loop-k.invariant.1 c.loop-k-test.true) c.in-Some.ensures)
