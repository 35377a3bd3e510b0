-- The checks of a tree's lines.
--
--     Node                                  a node that is due: its generators, and how many more levels of splits it may have
--     mediant_ops n v i j                   v_i + v_j, one addition for each coordinate
--     children node i j                     the two children of a split, child 0 first
--     node_checks n w count index due xs    the checks of the lines xs, the first of which has this index, where these nodes
--                                           are due; count is the number of all lines
--     tree_checks n w lines                 those of all lines, from the unit vectors and 200 levels
--
-- TreeShape is refused at a split of a node without a level, at a line after the whole tree, and at the last line where a
-- node is due after it.
use Rattle.std.specs.Prelude.{ℕ, ◌+◌, ◌-◌, false, nat_eq, if◌then◌else◌, List, [], ◌∷◌, ◌++◌, length, map}
use Rattle.unimodular_cone.specs.Cones.{Matrix, Generators, unit_vectors, child}
use Rattle.symmetric_matrix.specs.declared.operation.IntOp.{IntOp}
use Rattle.symmetric_matrix.specs.Operations.{add_op}
use Rattle.cone_tree_certificate.specs.declared.tree.TreeLine.TheVariants.{Leaf, Split}
use Rattle.cone_tree_certificate.specs.Trees.{Lines}
use Rattle.certificate_checker.specs.declared.checked.Checked.TheVariants.{TreeShape}
use Rattle.certificate_checker.specs.Checks.{Check, made_check, test}
use Rattle.certificate_checker.specs.Loops.{steps}
use Rattle.certificate_checker.specs.Leaves.{leaf_checks}

pub record Node : Type 0 where
  pub generators : Generators
  pub levels : ℕ

unfoldable pub mediant_ops : ℕ → Generators → ℕ → ℕ → List IntOp
mediant_ops n v i j = steps (λ p. add_op (v i p) (v j p) ∷ []) n

abbrev pub children : Node → ℕ → ℕ → List Node
children node i j =
    record { generators = child node.generators i j; levels = node.levels - 1 }
    ∷ record { generators = child node.generators j i; levels = node.levels - 1 } ∷ []

unfoldable pub node_checks : ℕ → Matrix → ℕ → ℕ → List Node → Lines → List Check
node_checks n w count index [] [] = []
node_checks n w count index [] (line ∷ more) = test (TreeShape index) false ∷ []
node_checks n w count index (node ∷ due) [] = test (TreeShape count) false ∷ []
node_checks n w count index (node ∷ due) (Leaf ∷ more) =
    leaf_checks n w node.generators index ++ node_checks n w count (index + 1) due more
node_checks n w count index (node ∷ due) (Split i j ∷ more) =
    if nat_eq node.levels 0 then test (TreeShape index) false ∷ []
    else (map made_check (mediant_ops n node.generators (i - 1) (j - 1))
    ++ node_checks n w count (index + 1) (children node (i - 1) (j - 1) ++ due) more)

unfoldable pub tree_checks : ℕ → Matrix → Lines → List Check
tree_checks n w lines = node_checks n w (length lines) 1 (record { generators = unit_vectors; levels = 200 } ∷ []) lines
