use Rattle.std.proofs.Common.{[], ◌≡◌, map}
use Rattle.cone_pool.specs.Lots.{deque_of}
use Rattle.cone_pool.specs.Parts.{TakesOnly, deques_of}
use Rattle.cone_pool.proofs.member.Member.steal.Given as goal

abbrev pub invariant-loop-k : goal.invariant-loop-k
invariant-loop-k l = TakesOnly [] l.initial.self l.self × (map deque_of l.self.lot.tokens ≡ deques_of l.thieves)
