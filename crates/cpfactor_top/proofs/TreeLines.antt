-- The lines of a tree that proves: each split is of two generators in order.
use Rattle.std.specs.Prelude.{ℕ, zero, suc, ◌-◌, [], ◌∷◌}
use Rattle.std.specs.List.{All, AllByRecursion}
use Rattle.std.proofs.Common.{sym, subst}
use Rattle.std.proofs.lemmas.List.Elements.{All-from_recursion}
use Rattle.exact_forms.specs.Copositive.{Matrix}
use Rattle.unimodular_cone.specs.Cones.{Generators, child, unit_vectors}
use Rattle.cone_tree_certificate.specs.declared.tree.TreeLine.TheVariants.{Leaf, Split}
use Rattle.cone_tree_certificate.specs.Trees.{Lines, ReadsTree, TreeProves}
use Rattle.cone_tree_certificate.specs.VerdictText.{HasSplit}

reads_splits : (n : ℕ) (w : Matrix) (d : ℕ) (v : Generators) (xs rest : Lines) → ReadsTree n w d v xs rest → AllByRecursion (HasSplit n) rest
    → AllByRecursion (HasSplit n) xs
reads_splits n w d v [] rest h all = absurd h
reads_splits n w d v (Leaf ∷ more) rest h all = (tt, subst (AllByRecursion (HasSplit n)) (sym h.1) all)
reads_splits n w zero v (Split i j ∷ more) rest h all = absurd h
reads_splits n w (suc d) v (Split i j ∷ more) rest (split, (between, one, two)) all =
    (split, reads_splits n w d (child v (i - 1) (j - 1)) more between one (reads_splits n w d (child v (j - 1) (i - 1)) between rest two all))

pub proving_splits : (n : ℕ) (w : Matrix) (lines : Lines) → TreeProves n w lines → All (HasSplit n) lines
unfolding TreeProves
proving_splits n w lines h = All-from_recursion (HasSplit n) lines (reads_splits n w 200 unit_vectors lines [] h tt)
