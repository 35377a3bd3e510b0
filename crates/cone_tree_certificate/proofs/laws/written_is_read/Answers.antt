use Rattle.cone_tree_certificate.proofs.RoundTrip.{read-behind}
use Rattle.cone_tree_certificate.proofs.laws.written_is_read.Goals as goal

pub returns : goal.returns
returns c = read-behind
