-- The one tree that is written for W: each node is split at the pair of its cone, and is a leaf exactly where the cone is
-- closed at 0.
--
--     ReadsPairTree n w d v xs rest   from v, the lines xs begin with those of that tree, of at most d levels; rest follows them
--     IsPairTree n w d lines          the lines are those of that tree from the unit vectors
use Rattle.std.specs.Prelude.{◌≡◌, ℕ, zero, suc, ◌-◌, pos, [], ◌∷◌, Some}
use Rattle.exact_forms.specs.Slacks.{IsClosed}
use Rattle.unimodular_cone.specs.Cones.{Matrix, Generators, unit_vectors, gram, child, pair_of}
use Rattle.cone_tree_certificate.specs.declared.tree.TreeLine.TheVariants.{Leaf, Split}
use Rattle.cone_tree_certificate.specs.Trees.{Lines, IsSplitLine}

abbrev pub ReadsPairTree : ℕ → Matrix → ℕ → Generators → Lines → Lines → Type 0
ReadsPairTree n w d v [] rest = ⊥
ReadsPairTree n w d v (Leaf ∷ more) rest = IsClosed n (gram n w v) (pos 0) × (more ≡ rest)
ReadsPairTree n w zero v (Split i j ∷ more) rest = ⊥
ReadsPairTree n w (suc d) v (Split i j ∷ more) rest =
    (¬ IsClosed n (gram n w v) (pos 0)) × (IsSplitLine n i j × ((pair_of n (gram n w v) ≡ Some (i - 1, j - 1))
    × ((between : Lines) × ReadsPairTree n w d (child v (i - 1) (j - 1)) more between
    × ReadsPairTree n w d (child v (j - 1) (i - 1)) between rest)))

unfoldable pub IsPairTree : ℕ → Matrix → ℕ → Lines → Type 0
IsPairTree n w d lines = ReadsPairTree n w d unit_vectors lines []
