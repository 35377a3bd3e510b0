use Rattle.matrix_sample.proofs.SampleSums.{one_sample}
use Rattle.matrix_sample.proofs.sample.one_sample_of_a_number.Goals as goal

pub returns : goal.returns
returns c = one_sample
