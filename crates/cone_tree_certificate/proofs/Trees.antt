-- What the lines of a tree prove.
use Rattle.std.specs.Prelude.{◌≢◌, ℕ, zero, suc, ◌-◌, ◌<◌, ◌⊎◌, ℤ, pos, ◌≤ℤ◌, [], ◌∷◌}
use Rattle.std.proofs.Common.{arith, inl, inr}
use Rattle.exact_forms.specs.Forms.{form, IsSymmetric}
use Rattle.exact_forms.specs.Copositive.{Matrix, IsCopositive}
use Rattle.exact_forms.specs.Vectors.{coordinate}
use Rattle.unimodular_cone.specs.Cones.{Generators, child, unit_vectors, LiesIn}
use Rattle.unimodular_cone.proofs.Covers.{lies_in_some_child, closed_nonnegative, root_has}
use Rattle.unimodular_cone.proofs.Minimum.{nonneg_place}
use Rattle.cone_tree_certificate.specs.declared.tree.TreeLine.TheVariants.{Leaf, Split}
use Rattle.cone_tree_certificate.specs.Trees.{Lines, IsSplitLine, ReadsTree, TreeProves}

pub split_first : (n i j : ℕ) → IsSplitLine n i j → i - 1 < n
split_first n i j split = let a = split.first in let b = split.order in let c = split.last in omega (arith, a, b, c)

pub split_second : (n i j : ℕ) → IsSplitLine n i j → j - 1 < n
split_second n i j split = let a = split.first in let b = split.order in let c = split.last in omega (arith, a, b, c)

pub split_apart : (n i j : ℕ) → IsSplitLine n i j → (i - 1) ≢ (j - 1)
split_apart n i j split e = let a = split.first in let b = split.order in absurd (omega (arith, a, b, e))

-- each vector of the cone of v has a value of at least 0
pub tree_nonnegative : (n : ℕ) (w : Matrix) (x : ℕ → ℤ) → IsSymmetric n w
    → (d : ℕ) (v : Generators) (lines rest : Lines) → ReadsTree n w d v lines rest → LiesIn n v x → pos 0 ≤ℤ form n w x
tree_nonnegative n w x s d v [] rest h l = absurd h
tree_nonnegative n w x s d v (Leaf ∷ more) rest h l = closed_nonnegative n w v x s h.0 l
tree_nonnegative n w x s zero v (Split i j ∷ more) rest h l = absurd h
tree_nonnegative n w x s (suc d) v (Split i j ∷ more) rest h l =
    by (lies_in_some_child n v x (i - 1) (j - 1) (split_first n i j h.0) (split_second n i j h.0) (split_apart n i j h.0) l)
    (tree_nonnegative n w x s d (child v (i - 1) (j - 1)) more h.1.0 h.1.1)
    (tree_nonnegative n w x s d (child v (j - 1) (i - 1)) h.1.0 rest h.1.2)
  where
    by : (LiesIn n (child v (i - 1) (j - 1)) x ⊎ LiesIn n (child v (j - 1) (i - 1)) x)
        → (LiesIn n (child v (i - 1) (j - 1)) x → pos 0 ≤ℤ form n w x) → (LiesIn n (child v (j - 1) (i - 1)) x → pos 0 ≤ℤ form n w x) → pos 0 ≤ℤ form n w x
    by (inl one) first second = first one
    by (inr two) first second = second two

pub trees_prove : (n : ℕ) (w : Matrix) (lines : Lines) → IsSymmetric n w → TreeProves n w lines → IsCopositive n w
unfolding TreeProves
trees_prove n w lines s h x size = tree_nonnegative n w (coordinate x) s 200 unit_vectors lines [] h (root_has n (coordinate x) (nonneg_place n x))
