use Rattle.std.proofs.Common.{[]}
use Rattle.symmetric_matrix.specs.Symmetric.{entry}
use Rattle.cone_pool.proofs.Carrying.{reseated}
use Rattle.cone_pool.proofs.member.Member.work.Goals as goal

pub returns-clause-part : goal.returns-clause-part
returns-clause-part g c = reseated c.args.mode c.args.q.now.size
    (entry c.args.q.now) c.args.limit [] c.turns.new.self c.settle.new.self c.settle.ensures c.turns.ensures.part
