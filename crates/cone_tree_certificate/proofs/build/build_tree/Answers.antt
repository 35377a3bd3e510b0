use Rattle.std.proofs.Common.{sym, subst}
use Rattle.symmetric_matrix.specs.Symmetric.{entry}
use Rattle.unimodular_cone.specs.Paths.{Path}
use Rattle.unimodular_cone.specs.Shown.{IsConeAt}
use Rattle.unimodular_cone.proofs.Roots.{root_not_wide}
use Rattle.cone_tree_certificate.specs.WayDown.{IsOnWayDown}
use Rattle.cone_tree_certificate.proofs.Building.{root_way, pair_tree_made}
use Rattle.cone_tree_certificate.proofs.PairTrees.{pair_trees_prove}
use Rattle.cone_tree_certificate.proofs.build.build_tree.Goals as goal

pub unreachable-requires : goal.unreachable-requires
unreachable-requires c =
    root_not_wide c.args.w.now.size (entry c.args.w.now) c.in_default.field-0 c.requires.copositive.1.clear.root_fits c.in_default.ensures.wide

pub push_node-requires-clause-reached : goal.push_node-requires-clause-reached
push_node-requires-clause-reached c =
    subst (λ (p : Path). IsConeAt c.args.w.now.size (entry c.args.w.now) p c.in-Ok.cone) (sym c.in-Ok.ensures.made.path_is) c.in-Ok.ensures.made

pub push_node-requires-clause-way : goal.push_node-requires-clause-way
push_node-requires-clause-way c =
    subst (λ (p : Path). IsOnWayDown c.args.w.now.size (entry c.args.w.now) c.args.limit p) (sym c.in-Ok.ensures.made.path_is)
    (root_way c.args.w.now.size (entry c.args.w.now) c.args.limit)

pub returns-clause-pairs : goal.returns-clause-pairs
returns-clause-pairs c =
    pair_tree_made c.args.w.now.size (entry c.args.w.now) c.args.limit c.in-Ok.cone.path c.new-tree.result c.push_node.new.tree c.in-Ok.ensures.made.path_is
    c.new-tree.ensures c.in_ok-push_node.ensures

pub returns-clause-proves : goal.returns-clause-proves
returns-clause-proves c = pair_trees_prove c.args.w.now.size (entry c.args.w.now) c.args.limit c.push_node.new.tree c.requires.limited (returns-clause-pairs c)
