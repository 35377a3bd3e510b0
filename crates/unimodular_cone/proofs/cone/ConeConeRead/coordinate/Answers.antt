use Rattle.std.proofs.Common.{arith}
use Rattle.unimodular_cone.proofs.Fields.{coordinate_read}
use Rattle.unimodular_cone.proofs.cone.ConeConeRead.coordinate.Goals as goal

pub returns : goal.returns
returns c = coordinate_read c.self.inside _ _ _ _ _ c.self.view_is c.from.ensures c.from-2.ensures (omega arith) (omega arith)
