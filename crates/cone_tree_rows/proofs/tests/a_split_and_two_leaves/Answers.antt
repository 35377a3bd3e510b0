use Rattle.std.specs.Prelude.{ℕ, zero, suc, ◌<◌, ℤ, pos, negsuc, [], ◌∷◌, length, slice_index_or}
use Rattle.std.proofs.Common.{arith, refl}
use Rattle.exact_forms.specs.Triangles.{triangle}
use Rattle.symmetric_matrix.specs.Symmetric.{IsLower, FitsInt}
use Rattle.cone_tree_rows.proofs.tests.a_split_and_two_leaves.Goals as goal

lower : IsLower 2 (pos 6 ∷ negsuc 2 ∷ pos 2 ∷ [])
unfolding triangle
lower = record { entries = refl; fits = each }
  where
    each : (k : ℕ) → k < length (pos 6 ∷ negsuc 2 ∷ pos 2 ∷ []) → FitsInt (slice_index_or (pos 6 ∷ negsuc 2 ∷ pos 2 ∷ []) k (pos 0))
    each zero l = omega arith
    each (suc zero) l = omega arith
    each (suc (suc zero)) l = omega arith
    each (suc (suc (suc k))) l = absurd (omega arith)

pub from_lower-requires-clause-lower : goal.from_lower-requires-clause-lower
from_lower-requires-clause-lower c d = lower
