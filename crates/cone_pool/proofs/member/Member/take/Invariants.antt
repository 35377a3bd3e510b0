use Rattle.std.proofs.Common.{[]}
use Rattle.cone_pool.specs.Parts.{TakesOnly}
use Rattle.cone_pool.proofs.member.Member.take.Given as goal

abbrev pub invariant-loop : goal.invariant-loop
invariant-loop l = TakesOnly [] l.fn.self l.self
