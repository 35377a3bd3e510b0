use Rattle.matrix_sample.proofs.Draws.{coordinate_from_is}
use Rattle.matrix_sample.proofs.drawing.coordinate_of.Goals as goal

pub returns-clause-value : goal.returns-clause-value
returns-clause-value c = coordinate_from_is c.args.x
