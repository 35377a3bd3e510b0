use Rattle.std.proofs.Common.{arith}
use Rattle.symmetric_matrix.proofs.Places.{half_is_triangle}
use Rattle.matrix_text.proofs.matrix.place_of.Goals as goal

pub returns : goal.returns
returns c = let half = half_is_triangle c.args.row in rw c.from-row.ensures (omega arith)
