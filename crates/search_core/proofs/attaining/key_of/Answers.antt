use Rattle.std.proofs.Common.{arith}
use Rattle.search_core.proofs.Keys.{key_padded}
use Rattle.search_core.proofs.attaining.key_of.Goals as goal

pub returns-clause-key : goal.returns-clause-key
returns-clause-key g c =
    key_padded (g.C.ConeRead.cone c.args.c.now) _ c.n-n.result c.loop-p.p c.loop-p.key c.n-n.ensures.fits c.n-n.ensures.size (omega arith) (omega arith)
    c.loop-p.invariant.size c.loop-p.invariant.same c.loop-p.invariant.rest
