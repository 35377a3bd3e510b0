use Rattle.std.proofs.Common.{arith}
use Rattle.certificate_checker.specs.Rows.{at}
use Rattle.certificate_checker.proofs.TreeWalks.{leaf_passes, leaf_is_open, leaf_is_wide}
use Rattle.certificate_checker.proofs.node.check_leaf.Goals as goal

pub returns-in-Ok-true-clause-passes : goal.returns-in-Ok-true-clause-passes
returns-in-Ok-true-clause-passes c = leaf_passes c.args.n (at c.args.w.now) (at c.args.v.now) c.args.index c.in-Ok-true.ensures.fits (grind arith)

pub returns-in-Ok-false-clause-refused : goal.returns-in-Ok-false-clause-refused
returns-in-Ok-false-clause-refused c = leaf_is_open c.args.n (at c.args.w.now) (at c.args.v.now) c.args.index c.in-Ok-false.ensures.fits (grind arith)

pub returns-in-Err-clause-refused : goal.returns-in-Err-clause-refused
returns-in-Err-clause-refused c = leaf_is_wide c.args.n (at c.args.w.now) (at c.args.v.now) c.args.index _ c.in-Err.ensures.wide
