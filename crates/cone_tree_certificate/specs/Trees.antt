-- Trees of cones by their lines, and which of them prove a matrix copositive.
--
--     Lines                       the lines of a tree: a node, the lines of its child 0, the lines of its child 1
--     IsSplitLine n i j           i and j are two generators' numbers, from 1, in order
--     ReadsTree n w d v xs rest   from the generators v, the lines xs begin with those of one whole tree of at most d
--                                 levels of splits, each leaf of which is closed at 0, and the lines after it are rest
--     TreeProves n w lines        from the unit vectors, the lines are those of one such tree of at most 200 levels
--
-- At a split of i and j, child 0 has v_i + v_j in the place of v_i, and child 1 has it in the place of v_j. Nothing is
-- said of how the pair was found.
use Rattle.std.specs.Prelude.{◌≡◌, ℕ, zero, suc, ◌-◌, ◌<◌, ◌≤◌, pos, List, [], ◌∷◌}
use Rattle.exact_forms.specs.Slacks.{IsClosed}
use Rattle.unimodular_cone.specs.Cones.{Matrix, Generators, unit_vectors, gram, child}
use Rattle.cone_tree_certificate.specs.declared.tree.TreeLine.{TreeLine}
use Rattle.cone_tree_certificate.specs.declared.tree.TreeLine.TheVariants.{Leaf, Split}

abbrev pub Lines : Type 0
Lines = List TreeLine

pub record IsSplitLine (n i j : ℕ) : Type 0 where
  pub first : 1 ≤ i
  pub order : i < j
  pub last : j ≤ n

abbrev pub ReadsTree : ℕ → Matrix → ℕ → Generators → Lines → Lines → Type 0
ReadsTree n w d v [] rest = ⊥
ReadsTree n w d v (Leaf ∷ more) rest = IsClosed n (gram n w v) (pos 0) × (more ≡ rest)
ReadsTree n w zero v (Split i j ∷ more) rest = ⊥
ReadsTree n w (suc d) v (Split i j ∷ more) rest =
    IsSplitLine n i j
    × ((between : Lines) × ReadsTree n w d (child v (i - 1) (j - 1)) more between
    × ReadsTree n w d (child v (j - 1) (i - 1)) between rest)

unfoldable pub TreeProves : ℕ → Matrix → Lines → Type 0
TreeProves n w lines = ReadsTree n w 200 unit_vectors lines []
