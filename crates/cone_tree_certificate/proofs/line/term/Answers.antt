use Rattle.std.proofs.Common.{refl}
use Rattle.cone_tree_certificate.proofs.Writable.{coordinates-vector}
use Rattle.cone_tree_certificate.proofs.line.term.Goals as goal

pub from_slice-vector-requires : goal.from_slice-vector-requires
from_slice-vector-requires c = coordinates-vector c.args.n c.args.n _ _ c.requires refl c.in_ok-vector.ensures
