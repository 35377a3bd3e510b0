use Rattle.cone_tree_certificate.proofs.ProofReadings.{one-verdict}
use Rattle.cone_tree_certificate.proofs.laws.text_or_fault.Goals as goal

pub returns : goal.returns
returns c = one-verdict
