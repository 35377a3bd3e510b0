use Rattle.std.proofs.Common.{◌∙◌, refl}
use Rattle.unimodular_cone.specs.Cones.{unit_vectors}
use Rattle.certificate_checker.specs.Rows.{at}
use Rattle.certificate_checker.proofs.TreeWalks.{follows_as, fewer}
use Rattle.certificate_checker.proofs.tree.check_root.Goals as goal

pub returns-in-Some : goal.returns-in-Some
returns-in-Some c =
    follows_as c.args.n (at c.args.w.now) (at c.in-Some.narrow) c.args.tree.now 0 200 unit_vectors (at c.unit_rows-v.result) c.check_small_node.result
    c.in-Some.ensures.same (fewer c.args.n _ _ c.requires.few c.unit_rows-v.ensures) c.check_small_node.ensures.follows

pub returns-in-None : goal.returns-in-None
returns-in-None c =
    follows_as c.args.n (at c.args.w.now) (at c.args.w.now) c.args.tree.now 0 200 unit_vectors (at c.widened.result) c.check_node.result
    (λ k p lk lp. refl) (fewer c.args.n _ _ c.requires.few (λ k p lk lp. c.widened.ensures k p lk lp ∙ c.unit_rows-v.ensures k p lk lp))
    c.check_node.ensures.follows
