use Rattle.symmetric_matrix.specs.Symmetric.{entry}
use Rattle.cone_pool.proofs.Turning.{children_put}
use Rattle.cone_pool.proofs.member.Member.open.Goals as goal

pub returns-in-Split-clause-part : goal.returns-in-Split-clause-part
returns-in-Split-clause-part c = children_put c.args.mode c.args.q.now.size
    (entry c.args.q.now) c.args.limit _ c.args.self.now c.put_children.new.lot c.put_children.new.kept c.turned.new.stack
    (rw c.in-Split.is at c.requires.part) c.put_children.ensures c.turned.ensures
