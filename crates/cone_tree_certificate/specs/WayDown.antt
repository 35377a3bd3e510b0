-- The way of building a tree: from the root down, at cones none of which is closed at 0.
--
--     IsOnWayDown n w d p     the path is in the search's tree, and no cone above it is closed at 0
--     AddsTree n w d v old new   the new lines are the old ones and then those of the pair tree from v, of at most d levels
use Rattle.std.specs.Prelude.{◌≡◌, ℕ, pos, ◌++◌}
use Rattle.unimodular_cone.specs.Paths.{Path, IsAbove}
use Rattle.unimodular_cone.specs.Cones.{Matrix, Generators}
use Rattle.unimodular_cone.specs.Tree.{IsInTree, IsClosedAt}
use Rattle.cone_tree_certificate.specs.Trees.{Lines}
use Rattle.cone_tree_certificate.specs.PairTrees.{ReadsPairTree}

pub record IsOnWayDown (n : ℕ) (w : Matrix) (d : ℕ) (p : Path) : Type 0 where
  pub in_tree : IsInTree n w d p
  pub above : (a : Path) → IsAbove a p → ¬ IsClosedAt n w a (pos 0)

pub record AddsTree (n : ℕ) (w : Matrix) (d : ℕ) (v : Generators) (old new : Lines) : Type 0 where
  pub lines : Lines
  pub added : new ≡ old ++ lines
  pub reads : (rest : Lines) → ReadsPairTree n w d v (lines ++ rest) rest
