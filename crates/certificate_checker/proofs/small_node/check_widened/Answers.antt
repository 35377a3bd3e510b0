use Rattle.certificate_checker.specs.Rows.{at}
use Rattle.certificate_checker.proofs.TreeWalks.{follows_as, fewer}
use Rattle.certificate_checker.proofs.small_node.check_widened.Goals as goal

pub returns-clause-follows : goal.returns-clause-follows
returns-clause-follows c =
    follows_as c.args.n (at c.args.w.now) (at c.widened.result) c.args.tree.now c.args.k c.args.levels (at c.args.v.now) (at c.widened-2.result)
    c.check_node.result
    (fewer c.args.n _ _ c.requires.few c.widened.ensures) (fewer c.args.n _ _ c.requires.few c.widened-2.ensures) c.check_node.ensures.follows
