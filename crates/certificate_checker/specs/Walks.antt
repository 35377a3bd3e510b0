-- What the walk over a tree's lines answers at a node.
--
--     GoesOn n w lines k node due result   from the line with index k, from 0: the first refusal with this node and the nodes
--                                          due after it is that of what follows the node's lines; or it is the one answered
--     FollowsAll ..                        for each matrix and generators that have these numbers, and whatever is due
use Rattle.std.specs.Prelude.{◌≡◌, ℕ, ◌+◌, List, ◌∷◌, length, drop, Some, Result, Ok, Err}
use Rattle.unimodular_cone.specs.Cones.{Matrix, Generators}
use Rattle.cone_tree_certificate.specs.Trees.{Lines}
use Rattle.certificate_checker.specs.declared.checked.Checked.{Checked}
use Rattle.certificate_checker.specs.Checks.{first_refusal}
use Rattle.certificate_checker.specs.Rows.{AgreeBelow}
use Rattle.certificate_checker.specs.Tree.{Node, node_checks}

abbrev pub GoesOn : ℕ → Matrix → Lines → ℕ → Node → List Node → Result ℕ Checked → Type 0
GoesOn n w lines k node due (Ok next) =
    first_refusal (node_checks n w (length lines) (k + 1) (node ∷ due) (drop k lines))
    ≡ first_refusal (node_checks n w (length lines) (next + 1) due (drop next lines))
GoesOn n w lines k node due (Err refusal) =
    first_refusal (node_checks n w (length lines) (k + 1) (node ∷ due) (drop k lines)) ≡ Some refusal

abbrev pub FollowsAll : ℕ → Matrix → Lines → ℕ → ℕ → Generators → Result ℕ Checked → Type 0
FollowsAll n w lines k levels v result =
    (q : Matrix) (g : Generators) (due : List Node) → AgreeBelow n w q → AgreeBelow n v g
    → GoesOn n q lines k (record { generators = g; levels = levels }) due result
