use Rattle.symmetric_matrix.specs.Symmetric.{entry}
use Rattle.cone_pool.proofs.Reaching.{tree_reachable, tree_not_wide}
use Rattle.cone_pool.proofs.stack.cone_in_tree.Goals as goal

pub at_path-requires : goal.at_path-requires
at_path-requires c = tree_reachable c.args.q.now.size (entry c.args.q.now) c.args.limit c.args.path.now c.requires.root c.requires.tree

pub unreachable-requires : goal.unreachable-requires
unreachable-requires c = tree_not_wide c.args.q.now.size
    (entry c.args.q.now) c.args.limit c.args.path.now c.in-Err.field-0 c.requires.root c.requires.tree c.in-Err.ensures.wide
