use Rattle.std.proofs.Common.{[]}
use Rattle.symmetric_matrix.specs.Symmetric.{entry}
use Rattle.cone_pool.proofs.Carrying.{reseated}
use Rattle.cone_pool.proofs.member.Member.treat.Goals as goal

pub open-requires-clause-part : goal.open-requires-clause-part
open-requires-clause-part c = reseated c.args.mode c.args.q.now.size
    (entry c.args.q.now) c.args.limit _ c.judge-fate.new.self c.count.new.seat c.count.ensures c.judge-fate.ensures.part

pub returns-clause-part : goal.returns-clause-part
returns-clause-part c = reseated c.args.mode c.args.q.now.size
    (entry c.args.q.now) c.args.limit [] c.open.new.self c.uncount.new.seat c.uncount.ensures c.open.ensures.part
