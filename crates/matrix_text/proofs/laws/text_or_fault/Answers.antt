use Rattle.matrix_text.proofs.Readings.{one-reading}
use Rattle.matrix_text.proofs.laws.text_or_fault.Goals as goal

pub returns : goal.returns
returns c = one-reading
