use Rattle.matrix_text.proofs.MatrixTexts.{written-read}
use Rattle.matrix_text.proofs.laws.written_is_read.Goals as goal

pub returns : goal.returns
returns c = written-read
