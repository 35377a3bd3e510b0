-- The answer at the cone of the first low path; a root that fits is not refused.
use Rattle.std.specs.Prelude.{◌≡◌, ℕ, ◌<◌, ◌≤◌, ◌-◌, ℤ, List, []}
use Rattle.std.proofs.Common.{arith, sym, ◌∙◌}
use Rattle.unimodular_cone.specs.declared.Mode.TheVariants.{Least}
use Rattle.unimodular_cone.specs.declared.WideAt.{WideAt}
use Rattle.unimodular_cone.specs.Cones.{Matrix, cone_from, unit_vectors, Fits}
use Rattle.unimodular_cone.specs.Answer.{SearchAnswer, IsSearchAnswer, BoundFits, IsListOf}
use Rattle.unimodular_cone.specs.Shown.{ShownCone, shown_gram, shown_generators, IsConeAt, IsFirstWideAt}
use Rattle.serial_search.specs.declared.values.LowCone.{LowCone}
use Rattle.serial_search.specs.Walks.{IsFirstLowCone}

pub no_wide_root : (n : ℕ) (q : Matrix) (at : WideAt) → Fits n q unit_vectors → IsFirstWideAt n q [] at → ⊥
unfolding cone_from
no_wide_root n q at root w = root at.entry w.entry.over

module _ (n : ℕ) (q : Matrix) (d : ℕ) (low : LowCone) (c : ShownCone) (first : IsFirstLowCone n q d low) (at : IsConeAt n q low.path c) where
  pub within : low.which ≤ c.size
  within = let l : low.which - 1 < n = first.which.range in omega (arith, at.cone.size)

  pub low_is_due : (x : List ℕ) (z : ℤ) → BoundFits Least n q → Fits n q unit_vectors → IsListOf c.size x (shown_generators c (low.which - 1))
      → z ≡ shown_gram c (low.which - 1) (low.which - 1) → IsSearchAnswer Least n q d (SearchAnswer.Low x z low.path)
  low_is_due x z narrow root vector val =
      let lk : low.which - 1 < n = first.which.range in
      record {
        bound_fits = narrow;
        root_fits = root;
        first_low = first.path;
        which = low.which - 1;
        is_which = first.which;
        vector = record {
          size = vector.size ∙ at.cone.size;
          same = λ p lp. vector.same p (rw at.cone.size lp) ∙ at.cone.generators (low.which - 1) p lk lp;
        };
        value = sym (val ∙ at.cone.gram_is (low.which - 1) (low.which - 1) lk lk);
      }
