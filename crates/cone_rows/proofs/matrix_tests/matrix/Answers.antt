use Rattle.std.proofs.Common.{arith, ap, ℕ, ◌*◌, ◌+◌}
use Rattle.exact_forms.proofs.Triangles.{twice_triangle}
use Rattle.cone_rows.proofs.matrix_tests.matrix.Goals as goal

pub from_lower-requires-clause-lower : goal.from_lower-requires-clause-lower
from_lower-requires-clause-lower g c =
    let half = ap (λ (r : ℕ). r * (r + 1)) c.from-rows.ensures in
    record { entries = omega (arith, twice_triangle c.args.n); fits = λ k l. c.loop-entry.invariant k (omega arith) }
