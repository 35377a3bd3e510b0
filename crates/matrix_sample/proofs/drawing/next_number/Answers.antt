use Rattle.matrix_sample.proofs.Draws.{number_after_is}
use Rattle.matrix_sample.proofs.drawing.next_number.Goals as goal

pub returns : goal.returns
returns c = number_after_is c.args.x
