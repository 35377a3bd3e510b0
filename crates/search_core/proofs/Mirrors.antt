-- A matrix by its lower triangle equals its mirror image.
use Rattle.std.specs.Prelude.{ℕ, pos}
use Rattle.exact_forms.specs.Forms.{IsSymmetric}
use Rattle.exact_forms.proofs.Triangles.{entry_in_symmetric}
use Rattle.symmetric_matrix.specs.Symmetric.{Symmetric, entry}

pub entry_symmetric : (n : ℕ) (q : Symmetric) → IsSymmetric n (entry q)
unfolding entry
entry_symmetric n q i j li lj = entry_in_symmetric (pos 0) q.lower i j
