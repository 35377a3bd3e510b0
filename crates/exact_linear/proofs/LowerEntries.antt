-- Entries of a lower triangle by their index.
use Rattle.std.specs.Prelude.{◌≡◌, ℕ, ◌+◌, ◌-◌, ◌≤◌, pos, slice_index_or}
use Rattle.std.proofs.Common.{ap, ◌∙◌, arith}
use Rattle.exact_forms.specs.Triangles.{triangle}
use Rattle.exact_forms.proofs.Triangles.{entry_in_below}
use Rattle.symmetric_matrix.specs.Symmetric.{Symmetric, entry}

pub lower_at : (q : Symmetric) (i j first k : ℕ) → first ≡ triangle i → first ≤ k → j ≡ k - first → j ≤ i → entry q i j ≡ slice_index_or q.lower k (pos 0)
unfolding entry
lower_at q i j first k is within at below =
    let place : triangle i + j ≡ k = omega (arith, is, at) in
    entry_in_below (pos 0) q.lower i j below ∙ ap (λ (m : ℕ). slice_index_or q.lower m (pos 0)) place
