use Rattle.std.specs.Prelude.{ℕ, zero, suc, ◌<◌, ◌≤◌, ◌^◌, ◌-◌, ℤ, pos, negsuc, nat_abs, List, [], ◌∷◌, length, slice_index_or}
use Rattle.std.proofs.Common.{arith, refl}
use Rattle.exact_forms.specs.Triangles.{triangle}
use Rattle.symmetric_matrix.specs.Symmetric.{IsLower, FitsInt}
use Rattle.search_core.proofs.tests.fate_of_a_root.Goals as goal

abbrev lower : List ℤ
lower = pos 2 ∷ negsuc 2 ∷ pos 6 ∷ []

is_lower : IsLower 2 lower
unfolding triangle
is_lower = record { entries = refl; fits = each }
  where
    each : (k : ℕ) → k < length lower → FitsInt (slice_index_or lower k (pos 0))
    each zero l = omega arith
    each (suc zero) l = omega arith
    each (suc (suc zero)) l = omega arith
    each (suc (suc (suc k))) l = absurd (omega arith)

pub from_lower-requires-clause-lower : goal.from_lower-requires-clause-lower
from_lower-requires-clause-lower g c = is_lower
