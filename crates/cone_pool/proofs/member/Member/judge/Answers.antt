use Rattle.symmetric_matrix.specs.Symmetric.{entry}
use Rattle.cone_pool.proofs.Judgings.{judges, at_top}
use Rattle.cone_pool.proofs.member.Member.judge.Goals as goal

pub returns-clause-part : goal.returns-clause-part
returns-clause-part c =
    let n = c.args.q.now.size in
    let q = entry c.args.q.now in
    let at = at_top n q c.args.limit c.args.path.now c.args.self.now.cones c.top-cone.result.now c.requires.part.cones c.requires.top c.top-cone.ensures in
    rw c.offer-word.ensures.seat
    (judges c.args.mode n q c.args.limit c.args.path.now c.args.self.now c.top-cone.result.now c.code.result c.offer-word.result c.judgement-j.result
    c.note.new.self c.n-n.ensures.matrix.positive
    c.requires.part c.requires.none at c.code.ensures c.offer-word.ensures.below_code c.offer-word.ensures.below_told c.judgement-j.ensures c.note.ensures)
