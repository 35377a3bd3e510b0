use Rattle.std.proofs.Common.{◌-◌, arith}
use Rattle.symmetric_matrix.specs.Symmetric.{entry}
use Rattle.cone_pool.proofs.Making.{one_digit_down}
use Rattle.cone_pool.proofs.stack.made.Goals as goal

pub loop-k-preserved : goal.loop-k-preserved
loop-k-preserved c = one_digit_down c.args.q.now.size (entry c.args.q.now) c.args.path.now c.loop-k.k c.loop-k.cone c.in-Ok-child.next (c.in_ok-i.i - 1)
    (c.in_ok-i.j - 1) c.digit.result
    (omega arith) c.loop-k.invariant c.in_ok-i.ensures.1 c.digit.ensures c.in-Ok-child.ensures.made
