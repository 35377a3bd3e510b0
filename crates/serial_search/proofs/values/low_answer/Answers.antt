use Rattle.std.specs.Prelude.{FitsSigned}
use Rattle.std.specs.Int.{w128}
use Rattle.std.proofs.Common.{arith, ◌∙◌}
use Rattle.std.proofs.lemmas.Int.{ints, to_z-of_z}
use Rattle.symmetric_matrix.specs.Symmetric.{entry}
use Rattle.unimodular_cone.proofs.Ways.{tree_reachable, tree_not_wide}
use Rattle.serial_search.proofs.Reached.{within, low_is_due}
use Rattle.serial_search.proofs.values.low_answer.Goals as goal

pub at_path-requires : goal.at_path-requires
at_path-requires c = tree_reachable c.args.q.now.size (entry c.args.q.now) c.args.limit c.args.first.path c.requires.fits c.requires.first.path.in_tree

pub unreachable-requires : goal.unreachable-requires
unreachable-requires c =
    tree_not_wide c.args.q.now.size (entry c.args.q.now) c.args.limit c.args.first.path _ c.requires.fits c.requires.first.path.in_tree
    c.in_default.ensures.wide

pub generator-requires-clause-last : goal.generator-requires-clause-last
generator-requires-clause-last c =
    within c.args.q.now.size (entry c.args.q.now) c.args.limit c.args.first c.in-Ok.cone c.requires.first c.in-Ok.ensures.made

pub returns : goal.returns
returns c =
    let fits : FitsSigned w128 c.gram.result = omega (arith, ints) in
    low_is_due c.args.q.now.size (entry c.args.q.now) c.args.limit c.args.first c.in-Ok.cone c.requires.first c.in-Ok.ensures.made
    c.generator.result _ c.requires.bound_fits c.requires.fits c.generator.ensures (to_z-of_z w128 c.gram.result fits ∙ c.gram.ensures)
