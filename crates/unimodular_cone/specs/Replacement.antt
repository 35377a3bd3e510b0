-- A child made from its parent's numbers: the mediant of r and s takes the place of r.
--
--     IsChildWith c r s path d       d shows that child, and the path
--     IsFirstWideWith c r s path at  the first entry of that child over its limit, and the path
--     IsPartRowSet k r old row new   the same as far as the first k numbers of the row
--     IsRowSet n r old row new       the lower triangle new is old with row and column r taken from row
use Rattle.std.specs.Prelude.{ℕ, ℤ, pos, ◌+◌, ◌<◌, ◌≤◌, ◌≡◌, ◌≢◌, List, length, slice_index_or}
use Rattle.exact_forms.specs.Triangles.{triangle}
use Rattle.unimodular_cone.specs.declared.refusal.WideAt.{WideAt}
use Rattle.unimodular_cone.specs.Paths.{Path}
use Rattle.unimodular_cone.specs.Cones.{child, child_gram}
use Rattle.unimodular_cone.specs.Shown.{ShownCone, shown_gram, shown_generators}
use Rattle.unimodular_cone.specs.Mediant.{IsFirstOverWith}

pub record IsChildWith (c : ShownCone) (r s : ℕ) (path : Path) (d : ShownCone) : Type 0 where
  pub size : d.size ≡ c.size
  pub path_is : d.path ≡ path
  pub generators : (k p : ℕ) → k < c.size → p < c.size → shown_generators d k p ≡ child (shown_generators c) r s k p
  pub gram_is : (k l : ℕ) → k < c.size → l < c.size → shown_gram d k l ≡ child_gram (shown_gram c) r s k l

pub record IsFirstWideWith (c : ShownCone) (r s : ℕ) (path : Path) (at : WideAt) : Type 0 where
  pub path_is : at.path ≡ path
  pub entry : IsFirstOverWith c r s at.entry

-- the first k numbers of the row are set
pub record IsPartRowSet (k r : ℕ) (old row new : List ℤ) : Type 0 where
  pub room : length new ≡ length old
  pub in_row : (b : ℕ) → b ≤ r → b < k → slice_index_or new (triangle r + b) (pos 0) ≡ slice_index_or row b (pos 0)
  pub in_column : (a : ℕ) → r ≤ a → a < k → slice_index_or new (triangle a + r) (pos 0) ≡ slice_index_or row a (pos 0)
  pub elsewhere : (a b : ℕ) → b ≤ a → a ≢ r → b ≢ r
      → slice_index_or new (triangle a + b) (pos 0) ≡ slice_index_or old (triangle a + b) (pos 0)

abbrev pub IsRowSet : ℕ → ℕ → List ℤ → List ℤ → List ℤ → Type 0
IsRowSet n r old row new = IsPartRowSet n r old row new
