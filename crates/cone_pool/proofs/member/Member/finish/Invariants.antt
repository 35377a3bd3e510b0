use Rattle.symmetric_matrix.specs.Symmetric.{entry}
use Rattle.cone_pool.proofs.Turning.{IsBetweenTurns}
use Rattle.cone_pool.proofs.member.Member.finish.Given as goal

abbrev pub invariant-loop : goal.invariant-loop
invariant-loop l = IsBetweenTurns l.mode l.q.size (entry l.q) l.limit l.fn.self l.self
