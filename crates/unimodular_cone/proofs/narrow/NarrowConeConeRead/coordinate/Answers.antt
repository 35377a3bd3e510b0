use Rattle.std.proofs.Common.{arith}
use Rattle.unimodular_cone.specs.NarrowFields.{as_wide}
use Rattle.unimodular_cone.proofs.Fields.{coordinate_read}
use Rattle.unimodular_cone.proofs.narrow.NarrowConeConeRead.coordinate.Goals as goal

pub returns : goal.returns
returns c = coordinate_read (as_wide c.self.inside) _ _ _ _ _ c.self.view_is c.from.ensures c.from-2.ensures (omega arith) (omega arith)
